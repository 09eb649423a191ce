-- What fits a sub-frame that is match-none, a wildcard or a row.
use Rattle.std.proofs.Common.{◌≡◌, ℕ, Bool, true, false, List, Option, Result, IfOk, sym, ap, subst}
use Rattle.lf_base.specs.declared.memory.Memory.{Memory}
use Rattle.lf_rdf.specs.declared.term.Term.{Term}
use Rattle.lf_rdf.specs.declared.quad.Quad.{Quad}
use Rattle.lf_rdf.specs.declared.question.GraphRef.{GraphRef}
use Rattle.lf_rdf.specs.declared.question.Question.{Question}
use Rattle.lf_model.specs.declared.frame.FrameNode.{FrameNode}
use Rattle.lf_model.specs.ValueData.{ListValue}
use Rattle.lf_oracle.specs.Asking.{Learns}
use Rattle.lf_match.specs.NearNodes.{IsNearOneFor, IsOfValue, IsOfView}
use Rattle.lf_match.specs.Viewed.{matches_viewed}
use Rattle.def_nested.specs.Unfolding.{nested}
use Rattle.def_datasets.specs.Views.{View}
use Rattle.def_framing.proofs.Bools.{either_way}
use Rattle.def_framing.specs.Matching.{accepts, kind_accepts, prop_tests}
use Rattle.def_framing.specs.Views.{Views, of_dataset}
use Rattle.lf_embed.specs.declared.form.Form.{Form}
use Rattle.lf_embed.specs.declared.form.Form.TheVariants as form
use Rattle.lf_embed.specs.declared.form.WildFlags.{WildFlags}
use Rattle.lf_embed.specs.Forms.{form_of}

pub none_matched : (views : Views) (g : GraphRef) (rows : List FrameNode) (f : Form) (id : Term) (view : View) → f ≡ form.Absent → false ≡ matches_viewed views g (form_of rows f) id view
unfolding accepts kind_accepts prop_tests
none_matched views g rows f id view is = sym (ap (λ h. matches_viewed views g (form_of rows h) id view) is)

pub wild_matched : (views : Views) (g : GraphRef) (rows : List FrameNode) (f : Form) (flags : WildFlags) (id : Term) (view : View) → f ≡ form.Wild flags → true ≡ matches_viewed views g (form_of rows f) id view
unfolding accepts kind_accepts prop_tests
wild_matched views g rows f flags id view is = sym (subst (λ h. matches_viewed views g (form_of rows h) id view ≡ true) (sym is) (either_way flags.require_all))

pub none_accepted : (views : Views) (g : GraphRef) (rows : List FrameNode) (f : Form) (held : ListValue) → f ≡ form.Absent → false ≡ accepts views g (form_of rows f) held
unfolding accepts kind_accepts prop_tests
none_accepted views g rows f held is = sym (ap (λ h. accepts views g (form_of rows h) held) is)

pub wild_accepted : (views : Views) (g : GraphRef) (rows : List FrameNode) (f : Form) (flags : WildFlags) (held : ListValue) → f ≡ form.Wild flags → true ≡ accepts views g (form_of rows f) held
unfolding accepts kind_accepts prop_tests
wild_accepted views g rows f flags held is = sym (ap (λ h. accepts views g (form_of rows h) held) is)

-- a row's match is that of the sub-frame
pub row_matched :
    (dataset : List Quad) (before after : Option (List Question)) (first last : ℕ) (g : GraphRef) (rows : List FrameNode) (f : Form) (at : ℕ)
    (id : Term) (view : View) → f ≡ form.Row at → (r : Result Bool Memory) →
    IfOk r (λ b. Learns (IsNearOneFor dataset (nested rows at) (IsOfView g view)) dataset before after first last (λ d. matches_viewed (of_dataset d) g (nested rows at) id view) b) →
    IfOk r (λ b. Learns (IsNearOneFor dataset (form_of rows f) (IsOfView g view)) dataset before after first last (λ d. matches_viewed (of_dataset d) g (form_of rows f) id view) b)
row_matched dataset before after first last g rows f at id view is r then =
    subst (λ h. IfOk r (λ b. Learns (IsNearOneFor dataset (form_of rows h) (IsOfView g view)) dataset before after first last (λ d. matches_viewed (of_dataset d) g (form_of rows h) id view) b)) (sym is) then

pub row_accepted :
    (dataset : List Quad) (before after : Option (List Question)) (first last : ℕ) (g : GraphRef) (rows : List FrameNode) (f : Form) (at : ℕ)
    (held : ListValue) → f ≡ form.Row at → (r : Result Bool Memory) →
    IfOk r (λ b. Learns (IsNearOneFor dataset (nested rows at) (IsOfValue g held)) dataset before after first last (λ d. accepts (of_dataset d) g (nested rows at) held) b) →
    IfOk r (λ b. Learns (IsNearOneFor dataset (form_of rows f) (IsOfValue g held)) dataset before after first last (λ d. accepts (of_dataset d) g (form_of rows f) held) b)
row_accepted dataset before after first last g rows f at held is r then =
    subst (λ h. IfOk r (λ b. Learns (IsNearOneFor dataset (form_of rows h) (IsOfValue g held)) dataset before after first last (λ d. accepts (of_dataset d) g (form_of rows h) held) b)) (sym is) then
