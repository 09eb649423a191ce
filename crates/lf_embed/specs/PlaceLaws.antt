-- Places are equal where their graphs and ids are, so a set may hold them.
use Rattle.std.specs.Prelude.{◌≡◌, true}
use Rattle.std.specs.Bool.{Decides}
use Rattle.std.specs.Cmp.{IsEquivalence}
use Rattle.std.proofs.Common.{refl, ap, subst}
use Rattle.std.proofs.lemmas.Bool.{and_from, and_parts, false≢true}
use Rattle.lf_rdf.specs.declared.question.GraphRef.{GraphRef}
use Rattle.lf_rdf.specs.declared.question.GraphRef.TheVariants as graph
use Rattle.lf_rdf.specs.Equality.{term_eq}
use Rattle.def_datasets.proofs.Bools.{same_truth}
use Rattle.def_datasets.proofs.OrderLaws.{term_decides}
use Rattle.def_framing.specs.Views.{graph_eq}
use Rattle.lf_embed.specs.declared.place.Place.{Place}
use Rattle.lf_embed.specs.Places.{same_place}

graph_told : (one two : GraphRef) → graph_eq one two ≡ true → one ≡ two
graph_told graph.Default graph.Default e = refl
graph_told (graph.Named x) (graph.Named y) e = ap graph.Named ((term_decides x y).0 e)
graph_told graph.Merged graph.Merged e = refl
graph_told graph.Default (graph.Named y) e = absurd (false≢true e)
graph_told graph.Default graph.Merged e = absurd (false≢true e)
graph_told (graph.Named x) graph.Default e = absurd (false≢true e)
graph_told (graph.Named x) graph.Merged e = absurd (false≢true e)
graph_told graph.Merged graph.Default e = absurd (false≢true e)
graph_told graph.Merged (graph.Named y) e = absurd (false≢true e)

graph_itself : (g : GraphRef) → graph_eq g g ≡ true
graph_itself graph.Default = refl
graph_itself (graph.Named x) = (term_decides x x).1 refl
graph_itself graph.Merged = refl

place_told : (one two : Place) → same_place one two ≡ true → one ≡ two
place_told one two e =
    λ i. record {
      graph = graph_told one.graph two.graph
          (and_parts (graph_eq one.graph two.graph) (term_eq one.id two.id) e).0 i;
      id = (term_decides one.id two.id).0
          (and_parts (graph_eq one.graph two.graph) (term_eq one.id two.id) e).1 i;
    }

place_itself : (one : Place) → same_place one one ≡ true
place_itself one =
    and_from (graph_eq one.graph one.graph) (term_eq one.id one.id) (graph_itself one.graph)
    ((term_decides one.id one.id).1 refl)

pub places_decide : (one two : Place) → Decides (same_place one two) (one ≡ two)
places_decide one two =
    (place_told one two, λ e. subst (λ p. same_place one p ≡ true) e (place_itself one))

pub places_equal : IsEquivalence same_place
places_equal =
    record {
      refl = place_itself;
      symm = λ one two.
          same_truth (same_place one two) (same_place two one)
          (λ e. subst (λ p. same_place p one ≡ true) (place_told one two e) (place_itself one))
          (λ e. subst (λ p. same_place p two ≡ true) (place_told two one e) (place_itself two));
      congr = λ one two three e. ap (λ p. same_place p three) (place_told one two e);
    }
