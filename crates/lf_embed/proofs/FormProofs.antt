-- Sub-frames that are rows of the table, and the sub-frame that a map states for a property.
use Rattle.std.proofs.Common.{◌≡◌, ℕ, ◌+◌, ◌<◌, Bool, true, false, cond, List, ◌∷◌, length, get_or, drop, slice_get, Option, Some, None, refl, sym, ap, subst, ◌∙◌, add-one, drop-cons}
use Rattle.lf_model.specs.declared.frame.FrameNode.{FrameNode}
use Rattle.lf_model.specs.declared.frame.FrameProp.{FrameProp}
use Rattle.lf_model.specs.declared.frame.FrameKind.TheVariants as frame_kind
use Rattle.lf_rdf.specs.Equality.{text_eq}
use Rattle.lf_embed.specs.declared.form.Form.{Form}
use Rattle.lf_embed.specs.declared.form.Form.TheVariants as form
use Rattle.lf_embed.specs.Forms.{form_of, list_item}
use Rattle.lf_match.proofs.RowProofs.{no_row, with_row}
use Rattle.def_nested.specs.Nested.{match_none, frame_map, props_list}
use Rattle.def_nested.specs.Unfolding.{Numbered, above, build, build_kind, build_props, build_reverses, build_within, nested, row_flags, sub_frame}
use Rattle.def_framing.specs.Steps.{item_frame, sub_at}

-- a sub-frame that is a row, and one without a row
pub form_row :
    (rows : List FrameNode) (f : Form) (at : ℕ) (row : FrameNode) → f ≡ form.Row at → Some row ≡ slice_get rows at →
    form_of rows f ≡ build (above at (nested rows)) row
form_row rows f at row is found = ap (form_of rows) is ∙ with_row rows at row found

pub form_no_row :
    (rows : List FrameNode) (f : Form) (at : ℕ) → f ≡ form.Row at → None ≡ slice_get rows at → form_of rows f ≡ match_none
form_no_row rows f at is missing = ap (form_of rows) is ∙ no_row rows at missing

-- the items of a list under a list pattern
pub item_list :
    (rows : List FrameNode) (f : Form) (at : ℕ) (row : FrameNode) (item : Option ℕ) → f ≡ form.Row at → Some row ≡ slice_get rows at →
    row.kind ≡ frame_kind.List item → list_item rows at item ≡ item_frame (form_of rows f)
item_list rows f at row item is found kind =
    go item
    ∙ sym
    (ap item_frame (form_row rows f at row is found)
    ∙ ap
    (λ k.
    item_frame
    (frame_map (row_flags row) (build_props (above at (nested rows)) row.props) (build_reverses (above at (nested rows)) row.reverse) (build_within (above at (nested rows)) row.graph) (build_kind (above at (nested rows)) k))) kind)
  where
    go : (i : Option ℕ) →
        list_item rows at i
        ≡ item_frame
        (frame_map (row_flags row) (build_props (above at (nested rows)) row.props) (build_reverses (above at (nested rows)) row.reverse) (build_within (above at (nested rows)) row.graph) (build_kind (above at (nested rows)) (frame_kind.List i)))
    go None = refl
    go (Some number) = refl

-- the sub-frame of the first of some properties, or of those behind it
first_stated :
    (sub : Numbered) (property : List ℕ) (p : FrameProp) (rest : List FrameProp) (same : Bool) → text_eq p.property property ≡ same →
    sub_at property (props_list (build_props sub (p ∷ rest)))
    ≡ cond same (Some (sub_frame sub p.frame)) (sub_at property (props_list (build_props sub rest)))
first_stated sub property p rest same e =
    ap (λ b. cond b (Some (sub_frame sub p.frame)) (sub_at property (props_list (build_props sub rest)))) e

from_here :
    (sub : Numbered) (property : List ℕ) (props : List FrameProp) (i : ℕ) (p : FrameProp) (same : Bool) → i < length props →
    p ≡ get_or props i p → text_eq p.property property ≡ same →
    sub_at property (props_list (build_props sub (drop i props)))
    ≡ cond same (Some (sub_frame sub p.frame)) (sub_at property (props_list (build_props sub (drop (i + 1) props))))
from_here sub property props i p same inside at e =
    ap (λ xs. sub_at property (props_list (build_props sub xs))) split ∙ first_stated sub property p (drop (i + 1) props) same e
  where
    split : drop i props ≡ p ∷ drop (i + 1) props
    split = subst (λ q. drop i props ≡ q ∷ drop (i + 1) props) (sym at) (rw add-one (drop-cons props i p inside))

-- the property at a place is the one that is asked for
pub stated_here :
    (sub : Numbered) (property : List ℕ) (props : List FrameProp) (i : ℕ) (p : FrameProp) → i < length props → p ≡ get_or props i p →
    text_eq p.property property ≡ true → sub_at property (props_list (build_props sub (drop i props))) ≡ Some (sub_frame sub p.frame)
stated_here sub property props i p inside at e = from_here sub property props i p true inside at e

-- it is another
pub stated_later :
    (sub : Numbered) (property : List ℕ) (props : List FrameProp) (i : ℕ) (p : FrameProp) → i < length props → p ≡ get_or props i p →
    text_eq p.property property ≡ false →
    sub_at property (props_list (build_props sub (drop i props))) ≡ sub_at property (props_list (build_props sub (drop (i + 1) props)))
stated_later sub property props i p inside at e = from_here sub property props i p false inside at e
