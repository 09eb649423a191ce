-- The defaults of a node, property by property.
use Rattle.std.proofs.Common.{◌≡◌, ℕ, ◌+◌, ◌<◌, Bool, true, false, ◌||◌, List, [], ◌∷◌, filter, map, length, get_or, drop, Option, Some, Ok, Err, IfSome, OnOk, Result as Returned, ◌≤◌, arith, slice_get, refl, sym, ap, subst, ◌∙◌, add-one, drop-cons}
use Rattle.std.specs.List.{list_any}
use Rattle.lf_model.specs.declared.frame.FrameProp.{FrameProp}
use Rattle.lf_model.specs.declared.frame.FrameNode.{FrameNode}
use Rattle.lf_embed.specs.declared.form.Form.{Form}
use Rattle.lf_embed.specs.declared.form.Form.TheVariants as form
use Rattle.lf_embed.specs.Forms.{form_of}
use Rattle.lf_match.proofs.RowProofs.{with_row}
use Rattle.lf_model.specs.TreeData.{TreeEntries}
use Rattle.lf_embed.specs.declared.walk.Stop.{Stop}
use Rattle.lf_embed.specs.declared.walk.Stop.TheVariants as stop
use Rattle.lf_embed.specs.Runs.{default_step, run_of}
use Rattle.def_nested.specs.Nested.{Nested, props_list, props_of}
use Rattle.def_nested.specs.Unfolding.{Numbered, above, build_props, nested, sub_frame}
use Rattle.def_framing.specs.Parts.{default_next, default_part, takes_default}
use Rattle.def_framing.proofs.Sizes.{properties_size}
use Rattle.def_framing.proofs.Counted.{default_part_adds}
use Rattle.def_framing.proofs.Counting.{Adds}
use Rattle.def_framing.specs.Results.{Result, State, choose, gives, then, through}

pub any_mapped : {A B : Type 0} (p : B → Bool) (f : A → B) (xs : List A) → list_any (λ x. p (f x)) xs ≡ list_any p (map f xs)
any_mapped p f [] = refl
any_mapped p f (x ∷ xs) = ap (λ b. p (f x) || b) (any_mapped p f xs)

abbrev Outputs : Type 0
Outputs = List (List ℕ × TreeEntries)

abbrev rest_of : Nested → Outputs → Numbered → List FrameProp → Outputs → State → Result Outputs
rest_of frame outputs sub props done state =
    through default_next done (filter (takes_default frame outputs) (props_list (build_props sub props))) state

-- one property and those behind it
one_and_rest :
    (frame : Nested) (outputs : Outputs) (sub : Numbered) (p : FrameProp) (rest : List FrameProp) (done : Outputs) (state : State) →
    rest_of frame outputs sub (p ∷ rest) done state
    ≡ then (default_step frame outputs sub done p state) (λ more later. rest_of frame outputs sub rest more later)
one_and_rest frame outputs sub p rest done state = go (takes_default frame outputs (p.property, sub_frame sub p.frame)) refl
  where
    go : (b : Bool) → takes_default frame outputs (p.property, sub_frame sub p.frame) ≡ b →
        rest_of frame outputs sub (p ∷ rest) done state
        ≡ then (default_step frame outputs sub done p state) (λ more later. rest_of frame outputs sub rest more later)
    go true e = rw e refl
    go false e = rw e refl

from_here :
    (frame : Nested) (outputs : Outputs) (sub : Numbered) (props : List FrameProp) (i : ℕ) (p : FrameProp) (done : Outputs) (state : State) →
    i < length props → p ≡ get_or props i p →
    rest_of frame outputs sub (drop i props) done state
    ≡ then (default_step frame outputs sub done p state) (λ more later. rest_of frame outputs sub (drop (i + 1) props) more later)
from_here frame outputs sub props i p done state inside at =
    ap (λ ps. rest_of frame outputs sub ps done state) split ∙ one_and_rest frame outputs sub p (drop (i + 1) props) done state
  where
    split : drop i props ≡ p ∷ drop (i + 1) props
    split = subst (λ q. drop i props ≡ q ∷ drop (i + 1) props) (sym at) (rw add-one (drop-cons props i p inside))

-- a property that is done is followed by the rest
pub default_more :
    (frame : Nested) (outputs : Outputs) (sub : Numbered) (props : List FrameProp) (i : ℕ) (p : FrameProp) (done more : Outputs) (state later : State) →
    i < length props → p ≡ get_or props i p → gives more later ≡ default_step frame outputs sub done p state →
    rest_of frame outputs sub (drop (i + 1) props) more later ≡ rest_of frame outputs sub (drop i props) done state
default_more frame outputs sub props i p done more state later inside at e =
    sym (from_here frame outputs sub props i p done state inside at ∙ ap (λ r. then r (λ m l. rest_of frame outputs sub (drop (i + 1) props) m l)) (sym e))

-- a property that meets a limit ends them
pub default_over :
    {T U : Type 0} (f : T → Outputs) (h : U → Outputs) (frame : Nested) (outputs : Outputs) (sub : Numbered) (props : List FrameProp) (i : ℕ) (p : FrameProp)
    (done : Outputs) (state after final : State) (whole : Result Outputs) (e : Stop) → i < length props → p ≡ get_or props i p →
    rest_of frame outputs sub (drop i props) done state ≡ whole →
    IfSome (run_of f (Err e) after) (λ r. r ≡ default_step frame outputs sub done p state) →
    IfSome (run_of h (Err e) final) (λ r. r ≡ whole)
default_over f h frame outputs sub props i p done state after final whole stop.Memory inside at so_far run = tt
default_over f h frame outputs sub props i p done state after final whole (stop.Over limit) inside at so_far run =
    ap (λ r. then r (λ m l. rest_of frame outputs sub (drop (i + 1) props) m l)) run
    ∙ sym (from_here frame outputs sub props i p done state inside at) ∙ so_far

-- a result that is known by another name
pub run_same : {A : Type 0} (o : Option A) (one two : A) → one ≡ two → IfSome o (λ r. r ≡ one) → IfSome o (λ r. r ≡ two)
run_same o one two same run = subst (λ w. IfSome o (λ r. r ≡ w)) same run

-- a property that takes its default, and one that is passed over
pub step_taken :
    (frame : Nested) (outputs : Outputs) (sub : Numbered) (done : Outputs) (p : FrameProp) (state : State) (taken : Bool) (f : Nested) →
    f ≡ sub_frame sub p.frame → taken ≡ takes_default frame outputs (p.property, f) → taken ≡ true →
    default_next done (p.property, f) state ≡ default_step frame outputs sub done p state
step_taken frame outputs sub done p state taken f same told takes =
    ap (λ g. default_next done (p.property, g) state) same
    ∙ ap (λ b. choose b (default_next done (p.property, sub_frame sub p.frame)) (gives done) state)
    (sym takes ∙ told ∙ ap (λ g. takes_default frame outputs (p.property, g)) same)

pub step_left :
    (frame : Nested) (outputs : Outputs) (sub : Numbered) (done : Outputs) (p : FrameProp) (state : State) (taken : Bool) (f : Nested) →
    f ≡ sub_frame sub p.frame → taken ≡ takes_default frame outputs (p.property, f) → taken ≡ false →
    gives done state ≡ default_step frame outputs sub done p state
step_left frame outputs sub done p state taken f same told takes =
    ap (λ b. choose b (default_next done (p.property, sub_frame sub p.frame)) (gives done) state)
    (sym takes ∙ told ∙ ap (λ g. takes_default frame outputs (p.property, g)) same)

-- the defaults of a frame that is a row
pub row_defaults :
    (rows : List FrameNode) (f : Form) (at : ℕ) (row : FrameNode) (outputs : Outputs) (state : State) → f ≡ form.Row at → Some row ≡ slice_get rows at →
    rest_of (nested rows at) outputs (above at (nested rows)) row.props [] state ≡ default_part (form_of rows f) outputs state
row_defaults rows f at row outputs state is found =
    ap (λ ps. through default_next [] (filter (takes_default (nested rows at) outputs) (props_list ps)) state)
    (sym (ap props_of (with_row rows at row found)))
    ∙ ap (λ g. default_part g outputs state) (sym (ap (form_of rows) is))

-- the count never falls
pub defaults_grow :
    {T : Type 0} (f : T → Outputs) (frame : Nested) (outputs : Outputs) (state after : State) (r : Returned T Stop) →
    IfSome (run_of f r after) (λ q. q ≡ default_part frame outputs state) → OnOk r (state.count ≤ after.count)
defaults_grow f frame outputs state after (Err e) run = tt
defaults_grow f frame outputs state after (Ok made) run =
    let adds : Adds properties_size state (gives (f made) after) =
    subst (λ q. Adds properties_size state q) (sym run) (default_part_adds frame outputs state)
    in
    omega (arith, adds.count)
