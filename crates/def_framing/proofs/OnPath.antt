-- What is on the path is never embedded again.
use Rattle.std.proofs.Common.{◌≡◌, ℕ, zero, suc, Bool, true, false, not, List, [], ◌∷◌, ◌&&◌, ◌||◌, refl, ap}
use Rattle.std.specs.List.{list_any}
use Rattle.lf_rdf.specs.declared.term.Term.{Term}
use Rattle.lf_rdf.specs.declared.question.GraphRef.{GraphRef}
use Rattle.lf_rdf.specs.declared.question.GraphRef.TheVariants.{Named}
use Rattle.lf_model.specs.declared.frame.Embed.{Embed}
use Rattle.lf_model.specs.declared.frame.Embed.TheVariants.{Once, Always, Never}
use Rattle.def_nested.specs.Nested.{Nested, flags_of, within_of}
use Rattle.def_framing.specs.Views.{Views, Place, graph_eq}
use Rattle.def_framing.specs.Results.{State, choose, is_in}
use Rattle.def_framing.specs.Steps.{as_reference, is_outside, has_graph, is_merged}
use Rattle.def_framing.specs.Embedding.{embed, refer, no_room, inside}
use Rattle.def_framing.specs.Laws.{PathIsLeftAlone, OnceIsOnce, NeverIsNever, EnteredGraphIsNew}
use Rattle.def_framing.proofs.Bools.{and_first, and_second, not_true, or_first, or_second}

-- whatever its flag says, a node on the path is a reference
pub on_path :
    (flag : Embed) (here : Place) (path : List Place) (state : State) → is_in path here ≡ true →
    as_reference flag here path state ≡ true
on_path Never here path state there = refl
on_path Always here path state there = there
on_path Once here path state there = rw there refl

-- whether it may be embedded or not, what is output as a reference is
referred :
    (views : Views) (room : ℕ) (graph : GraphRef) (id : Term) (form : Nested) (path : List Place) (state : State) →
    as_reference (flags_of form).embed (record { graph = graph; id = id }) path state ≡ true →
    embed views room graph id form false path state ≡ refer id state
unfolding embed
referred views zero graph id form path state refers =
    ap (λ test. choose test (refer id) (no_room graph id form path) state) refers
referred views (suc room) graph id form path state refers =
    ap (λ test. choose test (refer id) (inside views (embed views room) graph id form path) state) refers

pub path_left_alone : PathIsLeftAlone
path_left_alone views room graph id form path state there =
    referred views room graph id form path state
    (on_path (flags_of form).embed (record { graph = graph; id = id }) path state there)

-- a node that was embedded is a reference by `@once`
once_referred :
    (flag : Embed) (here : Place) (path : List Place) (state : State) → flag ≡ Once → is_in state.embedded here ≡ true →
    as_reference flag here path state ≡ true
once_referred flag here path state once there = rw once (either (is_in path here))
  where
    either : (b : Bool) → (b || is_in state.embedded here) ≡ true
    either true = refl
    either false = there

pub once_once : OnceIsOnce
once_once views room graph id form path state once there =
    referred views room graph id form path state
    (once_referred (flags_of form).embed (record { graph = graph; id = id }) path state once there)

pub never_never : NeverIsNever
never_never views room graph id form path state never =
    referred views room graph id form path state (rw never refl)

-- where no step lies in a graph, no node of it is on the path
pub none_within :
    (name id : Term) (path : List Place) → list_any (λ step. graph_eq (Named name) step.graph) path ≡ false →
    is_in path (record { graph = Named name; id = id }) ≡ false
none_within name id [] outside = refl
none_within name id (step ∷ rest) outside =
    rw (or_first (graph_eq (Named name) step.graph) _ outside)
    (none_within name id rest (or_second (graph_eq (Named name) step.graph) _ outside))

pub entered_is_new : EnteredGraphIsNew
entered_is_new views graph name form path id enters =
    none_within name id path
    (not_true _ (and_second (views.names_graph name) (is_outside path name)
    (and_first (views.names_graph name && is_outside path name) asked enters)))
  where
    asked : Bool
    asked = has_graph (within_of form) || not (is_merged graph)
