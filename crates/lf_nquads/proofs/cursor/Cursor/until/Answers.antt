use Rattle.std.proofs.Common.{◌++◌, List, ℕ, sym, ap, ◌∙◌}
use Rattle.lf_nquads.proofs.Places.{seam_before, seam_boundary, seam_text}
use Rattle.lf_nquads.proofs.cursor.Cursor.until.Goals as goal

pub overflow_sub-text : goal.overflow_sub-text
overflow_sub-text c =
    seam_before c.self.inside.rest.now c.end.inside.rest.now c.requires.0 c.self.invariant c.end.invariant
    (c.self.view_is ∙ c.requires.1 ∙ ap (λ (t : List ℕ). c.requires.0 ++ t) (sym c.end.view_is))

pub split_at-requires : goal.split_at-requires
split_at-requires c =
    seam_boundary c.self.inside.rest.now c.end.inside.rest.now c.requires.0 c.self.invariant c.end.invariant
    (c.self.view_is ∙ c.requires.1 ∙ ap (λ (t : List ℕ). c.requires.0 ++ t) (sym c.end.view_is))

pub returns : goal.returns
returns c = λ between h.
    c.split_at.ensures.front
    ∙ seam_text c.self.inside.rest.now c.end.inside.rest.now between c.self.invariant c.end.invariant
    (c.self.view_is ∙ h ∙ ap (λ (t : List ℕ). between ++ t) (sym c.end.view_is))
