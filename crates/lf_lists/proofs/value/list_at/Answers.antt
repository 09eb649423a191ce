use Rattle.std.proofs.Common.{sym, ◌∙◌}
use Rattle.lf_lists.proofs.ReadStates.{nil_found, cell_now, list_found, none_found}
use Rattle.lf_lists.proofs.value.list_at.Goals as goal

pub returns-then-is_nil-clause-list : goal.returns-then-is_nil-clause-list
returns-then-is_nil-clause-list g c = nil_found c.args.graph.now (sym c.is_nil.ensures ∙ c.if-is_nil.true) c.new.ensures

pub read_list-requires : goal.read_list-requires
read_list-requires g c =
    record { graph = c.requires.graph; cell = cell_now c.args.graph.now c.in_ok-listed.ensures.cell c.if-listed.true c.in_ok-listed.ensures.quads_stay }

pub returns-then-listed-clause-list : goal.returns-then-listed-clause-list
returns-then-listed-clause-list g c =
    list_found c.args.graph.now c.in_ok-listed.ensures.cell c.in_ok-items.items c.if-listed.true c.in_ok-listed.ensures.quads_stay c.in_ok-items.ensures.reads

pub returns-clause-list : goal.returns-clause-list
returns-clause-list g c = none_found c.args.graph.now c.in_ok-listed.ensures.cell (sym c.is_nil.ensures ∙ c.if-is_nil.false) c.if-listed.false
