use Rattle.std.proofs.Common.{◌≡◌, Some, cond, subst, nat_cmp, is_eq, arith}
use Rattle.std.specs.Cmp.Lexicographic.{slice_cmp}
use Rattle.std.specs.BTreeMap.{get}
use Rattle.lf_tidy.proofs.Counted.{label-added}
use Rattle.lf_tidy.proofs.counts.Counts.add.Goals as goal

pub returns-in_ok-insert-in-Some : goal.returns-in_ok-insert-in-Some
returns-in_ok-insert-in-Some c =
    λ other.
    label-added c.args.self.now.numbers c.insert.new.self c.args.label.now other c.in-Some.number
    (subst
    (λ w. get (slice_cmp nat_cmp) c.insert.new.self other
    ≡ cond (is_eq (slice_cmp nat_cmp w other)) (Some c.in-Some.number) (get (slice_cmp nat_cmp) c.args.self.now.numbers other))
    c.in_ok-copy-in-Some.ensures (c.in_ok-insert-in-Some.ensures.updates.0 other))
    (grind (arith, c.in-Some.ensures, c.get.ensures))
