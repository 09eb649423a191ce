use Rattle.std.proofs.Common.{◌≡◌, Some, None, ◌+◌, ◌∙◌, ap, drop, map, subst, sym}
use Rattle.lf_model.specs.declared.document.Limit.TheVariants.{DocumentItems}
use Rattle.lf_model.specs.TreeBridge.{tree_data}
use Rattle.def_framing.specs.Outcome.{matched, past}
use Rattle.def_framing.specs.OutcomeBridge.{outcome_data}
use Rattle.def_documents.specs.Document.{gathered}
use Rattle.lf_doc.specs.Gathering.{gathered_by, trees_of}
use Rattle.lf_doc.proofs.Gathered.{at-end, at-place, excess, limit-decides}
use Rattle.lf_doc.proofs.limits.first_limit.Goals as goal

pub returns-in-Over : goal.returns-in-Over
returns-in-Over c =
    let xs = c.as_slice-outcome-items.result.now in
    let i = c.loop-outcome.outcome-index in
    let rest = map outcome_data (drop (i + 1) xs) in
    subst (λ ys. gathered 0 (map outcome_data ys) ≡ gathered_by (Some c.in-Over.limit) (trees_of (map outcome_data ys))) c.as_slice-outcome-items.ensures
    (limit-decides (map outcome_data xs) rest c.in-Over.limit c.loop-outcome.room
    (at-place xs i c.outcome-item.result (map outcome_data xs) (past c.in-Over.limit) c.loop-outcome.room c.loop-outcome-test.true c.outcome-item.is (ap outcome_data c.in-Over.is) c.loop-outcome.invariant))

pub returns-in-None : goal.returns-in-None
returns-in-None c =
    let xs = c.as_slice-outcome-items.result.now in
    let i = c.loop-outcome.outcome-index in
    let rest = map outcome_data (drop (i + 1) xs) in
    subst (λ ys. gathered 0 (map outcome_data ys) ≡ gathered_by (Some DocumentItems) (trees_of (map outcome_data ys))) c.as_slice-outcome-items.ensures
    (excess (map outcome_data xs) rest (tree_data c.in-Matched.tree) c.loop-outcome.room
    (at-place xs i c.outcome-item.result (map outcome_data xs) (matched (tree_data c.in-Matched.tree)) c.loop-outcome.room c.loop-outcome-test.true c.outcome-item.is (ap outcome_data c.in-Matched.is) c.loop-outcome.invariant)
    (sym c.tree_room.ensures ∙ c.in-None.is))

pub returns : goal.returns
returns c =
    let xs = c.as_slice-outcome-items.result.now in
    subst (λ ys. gathered 0 (map outcome_data ys) ≡ gathered_by None (trees_of (map outcome_data ys))) c.as_slice-outcome-items.ensures
    (at-end xs c.loop-outcome.outcome-index (map outcome_data xs) c.loop-outcome.room c.loop-outcome-test.false c.loop-outcome.invariant)
