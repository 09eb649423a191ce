use Rattle.std.proofs.Common.{rules, ◌≡◌, ◌∷◌, ℕ, ◌+◌, List, Option, map, drop, subst, ◌∙◌, string_bytes}
use Rattle.lf_io.specs.Files.{Files}
use Rattle.lf_app.specs.Holding.{IsCommitted}
use Rattle.lf_app.specs.Answers.{RefusesFile}
use Rattle.lf_app.specs.Counting.{answer_said}
use Rattle.lf_app.proofs.Leading.{Leads, leads_next, leads_refused, words_from}
use Rattle.lf_app.proofs.data_files.commit_files.Goals as goal

pub loop-file-preserved : goal.loop-file-preserved
loop-file-preserved g c =
    let words = c.args.files.now in
    let i = c.loop-file.file-index in
    let file = c.file-item.result in
    let files = g.F.Shelf.files c.args.shelf.now in
    let names = map string_bytes words in
    let rest = map string_bytes (drop (i + 1) words) in
    let front : map string_bytes (drop i words) ≡ string_bytes file ∷ rest = words_from words i file c.loop-file-test.true c.file-item.is in
    let leads = subst (λ (ns : List (List ℕ)). Leads files names ns c.args.state.now.history c.loop-file.state.history) front c.loop-file.invariant.0 in
    let committed : IsCommitted (g.F.Shelf.files c.loop-file.shelf) (string_bytes file) c.loop-file.state.history c.commit_file.new.state.history = search rules in
    let is = subst (λ (f : Option Files). IsCommitted f (string_bytes file) c.loop-file.state.history c.commit_file.new.state.history) c.loop-file.invariant.1 committed in (
      leads_next files names (string_bytes file) rest c.args.state.now.history c.loop-file.state.history c.commit_file.new.state.history leads is,
      c.in-Ok.ensures.files ∙ c.loop-file.invariant.1,
      c.in-Ok.ensures.faults ∙ c.loop-file.invariant.2,
      c.in-Ok.ensures.refusals ∙ c.loop-file.invariant.3,
    )

pub returns-in-Err-clause-refused : goal.returns-in-Err-clause-refused
returns-in-Err-clause-refused g c =
    let words = c.args.files.now in
    let i = c.loop-file.file-index in
    let file = c.file-item.result in
    let files = g.F.Shelf.files c.args.shelf.now in
    let names = map string_bytes words in
    let rest = map string_bytes (drop (i + 1) words) in
    let answer = answer_said c.in-Err.said in
    let front : map string_bytes (drop i words) ≡ string_bytes file ∷ rest = words_from words i file c.loop-file-test.true c.file-item.is in
    let leads = subst (λ (ns : List (List ℕ)). Leads files names ns c.args.state.now.history c.loop-file.state.history) front c.loop-file.invariant.0 in
    let refused : RefusesFile (g.F.Shelf.files c.loop-file.shelf) (string_bytes file) c.loop-file.state.history answer = search rules in
    let is = subst (λ (f : Option Files). RefusesFile f (string_bytes file) c.loop-file.state.history answer) c.loop-file.invariant.1 refused in
    leads_refused files names (string_bytes file) rest c.args.state.now.history c.loop-file.state.history answer leads is
