use Rattle.std.proofs.Common.{ap, sym, ◌∙◌, nat_eq, ℕ, true, false}
use Rattle.lf_lists.proofs.Shapes.{nothing_else, one_else}
use Rattle.lf_lists.proofs.shape.tells_nothing_else.Goals as goal

pub returns-in-None : goal.returns-in-None
returns-in-None c = nothing_else c.args.quads.now c.in-None.ensures

pub returns-then-tells_list : goal.returns-then-tells_list
returns-then-tells_list c =
    ap (λ (n : ℕ). nat_eq n 1) c.count_others.ensures
    ∙ one_else c.args.quads.now c.in-Some.other.now true c.in-Some.ensures (sym c.if-tells_list.true ∙ c.tells_list.ensures)

pub returns-else-tells_list : goal.returns-else-tells_list
returns-else-tells_list c =
    c.if-tells_list.false ∙ one_else c.args.quads.now c.in-Some.other.now false c.in-Some.ensures (sym c.if-tells_list.false ∙ c.tells_list.ensures)
