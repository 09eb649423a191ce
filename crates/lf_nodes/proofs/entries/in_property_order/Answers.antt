use Rattle.std.proofs.Common.{◌∙◌, sym, ap}
use Rattle.std.specs.List.{list_any}
use Rattle.lf_order.proofs.SetLemmas.{ascends_sorted}
use Rattle.lf_nodes.specs.Properties.{entry_cmp}
use Rattle.lf_nodes.proofs.entries.in_property_order.Goals as goal

pub returns : goal.returns
returns c =
    record {
      in_order = ascends_sorted entry_cmp _ c.in_ok-sorted.ensures.ascends;
      members = λ test alike. c.in_ok-sorted.ensures.members test alike ∙ ap (list_any test) c.in_ok-entries.ensures;
      within = λ test found. sym (ap (list_any test) c.in_ok-entries.ensures) ∙ c.in_ok-sorted.ensures.within test found;
    }
