use Rattle.std.proofs.Common.{◌∙◌, ◌&&◌, length, sym}
use Rattle.std.specs.Prelude.{nat_eq}
use Rattle.lf_compact.proofs.Sole.{only_id}
use Rattle.lf_compact.proofs.trees.has_only_id.Goals as goal

pub returns : goal.returns
returns c =
    c.all_four.ensures
    ∙ (λ i. nat_eq (length (c.as_slice.ensures i)) 0 && nat_eq (length (c.as_slice-2.ensures i)) 0
    && nat_eq (length (c.as_slice-3.ensures i)) 0 && nat_eq (length (c.as_slice-4.ensures i)) 0)
    ∙ sym (only_id c.args.tree.now)
