-- Which references a sub-frame takes, and which types it gives.
use Rattle.std.proofs.Common.{◌≡◌, ℕ, false, List, slice_get, Some, None, refl, sym, ap, subst, ◌∙◌}
use Rattle.lf_rdf.specs.declared.term.Term.{Term}
use Rattle.lf_rdf.specs.declared.question.GraphRef.{GraphRef}
use Rattle.lf_model.specs.declared.frame.FrameNode.{FrameNode}
use Rattle.lf_model.specs.declared.frame.FrameKind.{FrameKind}
use Rattle.lf_model.specs.declared.frame.FrameKind.TheVariants as frame_kind
use Rattle.lf_model.specs.ValueData.{reference}
use Rattle.def_nested.specs.Nested.{frame_map}
use Rattle.def_nested.specs.Unfolding.{above, build_kind, build_props, build_reverses, build_within, nested, row_flags}
use Rattle.def_framing.specs.Matching.{accepts, kind_accepts, matches, prop_tests}
use Rattle.def_framing.specs.Views.{Views}
use Rattle.lf_embed.specs.declared.choices.ReferenceRule.{ReferenceRule}
use Rattle.lf_embed.specs.declared.choices.ReferenceRule.TheVariants as rule
use Rattle.lf_embed.specs.declared.form.Form.{Form}
use Rattle.lf_embed.specs.declared.form.Form.TheVariants as form
use Rattle.lf_embed.specs.Choices.{taken_by}
use Rattle.lf_embed.specs.Forms.{form_of}
use Rattle.lf_embed.proofs.FormProofs.{form_no_row, form_row}

-- a map takes references by its kind
abbrev pub kind_rule : FrameKind → ReferenceRule
kind_rule frame_kind.Wild = rule.Always
kind_rule frame_kind.Node = rule.Matching
kind_rule (frame_kind.Value pattern) = rule.Never
kind_rule (frame_kind.List item) = rule.Never

pub no_row_takes :
    (views : Views) (g : GraphRef) (rows : List FrameNode) (f : Form) (at : ℕ) (id : Term) → f ≡ form.Row at → None ≡ slice_get rows at →
    accepts views g (form_of rows f) (reference id) ≡ false
unfolding accepts kind_accepts prop_tests
no_row_takes views g rows f at id is missing = ap (λ h. accepts views g h (reference id)) (form_no_row rows f at is missing)

pub row_takes :
    (views : Views) (g : GraphRef) (rows : List FrameNode) (f : Form) (at : ℕ) (row : FrameNode) (id : Term) (kind : FrameKind) →
    f ≡ form.Row at → Some row ≡ slice_get rows at → row.kind ≡ kind →
    accepts views g (form_of rows f) (reference id) ≡ taken_by (kind_rule kind) (matches views g (form_of rows f) id)
unfolding accepts kind_accepts prop_tests
row_takes views g rows f at row id kind is found same =
    subst (λ h. accepts views g h (reference id) ≡ taken_by (kind_rule kind) (matches views g h id))
    (sym
    (form_row rows f at row is found
    ∙ ap
    (λ k.
    frame_map (row_flags row) (build_props (above at (nested rows)) row.props) (build_reverses (above at (nested rows)) row.reverse) (build_within (above at (nested rows)) row.graph) (build_kind (above at (nested rows)) k)) same))
    (go kind)
  where
    go : (k : FrameKind) →
        accepts views g
        (frame_map (row_flags row) (build_props (above at (nested rows)) row.props) (build_reverses (above at (nested rows)) row.reverse) (build_within (above at (nested rows)) row.graph) (build_kind (above at (nested rows)) k)) (reference id)
        ≡ taken_by (kind_rule k)
        (matches views g
        (frame_map (row_flags row) (build_props (above at (nested rows)) row.props) (build_reverses (above at (nested rows)) row.reverse) (build_within (above at (nested rows)) row.graph) (build_kind (above at (nested rows)) k)) id)
    go frame_kind.Wild = refl
    go frame_kind.Node = refl
    go (frame_kind.Value pattern) = refl
    go (frame_kind.List None) = refl
    go (frame_kind.List (Some number)) = refl
