use Rattle.std.proofs.Common.{rules, ◌≡◌, ◌+◌, false, ◌||◌, map, drop, sym, ap, ◌∙◌, string_bytes}
use Rattle.std.specs.List.{list_any}
use Rattle.lf_app.specs.Words.{begins_with_dash}
use Rattle.lf_app.proofs.Leading.{words_from}
use Rattle.lf_app.proofs.words.has_dash.Goals as goal

pub loop-word-preserved : goal.loop-word-preserved
loop-word-preserved c =
    let words = c.args.words.now in
    let i = c.loop-word.word-index in
    let rest = list_any begins_with_dash (map string_bytes (drop (i + 1) words)) in
    let front = ap (list_any begins_with_dash) (words_from words i c.word-item.result c.loop-word-test.true c.word-item.is) in
    let plain : begins_with_dash (string_bytes c.word-item.result) ≡ false = search rules in
    sym (ap (λ b. b || rest) plain) ∙ sym front ∙ c.loop-word.invariant
