use Rattle.std.proofs.Common.{rules, ◌≡◌, ℕ, ◌+◌, ◌<◌, List, Bor, [], length, get_or, map, drop, subst, ◌∙◌}
use Rattle.lf_io.specs.Bytes.{appended, AddsPart}
use Rattle.lf_app.proofs.Rows.{Prints, prints_next, prints_cut, texts_from}
use Rattle.lf_app.proofs.print.print_row.Goals as goal

-- what is read past the end of the texts
abbrev no_text : Bor (List ℕ)
no_text = record { ref_ptr = (0, 0); now = [] }

pub loop-text-preserved : goal.loop-text-preserved
loop-text-preserved g c =
    let texts = c.args.texts.now in
    let i = c.loop-text.text-index in
    let item = get_or texts i no_text in
    let before = g.K.Sink.held c.args.output.now in
    let now = g.K.Sink.held c.loop-text.output in
    let within : i < length texts = search rules in
    let written : g.K.Sink.held c.write_all.new.sink ≡ appended now item.now = search rules in
    let all = map (λ t. t.now) texts in
    let prints = subst (λ (ts : List (List ℕ)). Prints before now all ts) (texts_from texts i no_text within) c.loop-text.invariant.0 in (
      prints_next before now (g.K.Sink.held c.write_all.new.sink) all item.now (map (λ t. t.now) (drop (i + 1) texts)) prints written,
      c.in-Ok.ensures.cause ∙ c.loop-text.invariant.1,
    )

pub returns-in-Err-clause-cut : goal.returns-in-Err-clause-cut
returns-in-Err-clause-cut g c =
    let texts = c.args.texts.now in
    let i = c.loop-text.text-index in
    let item = get_or texts i no_text in
    let before = g.K.Sink.held c.args.output.now in
    let now = g.K.Sink.held c.loop-text.output in
    let within : i < length texts = search rules in
    let part : AddsPart now (g.K.Sink.held c.write_all.new.sink) item.now = search rules in
    let all = map (λ t. t.now) texts in
    let prints = subst (λ (ts : List (List ℕ)). Prints before now all ts) (texts_from texts i no_text within) c.loop-text.invariant.0 in
    prints_cut before now (g.K.Sink.held c.write_all.new.sink) all item.now (map (λ t. t.now) (drop (i + 1) texts)) prints part
