-- The test of a list node by its parts.
use Rattle.std.proofs.Common.{◌≡◌, refl, sym, ◌∙◌, ap, cond, ℕ, List, [], ◌∷◌, length, filter, Bool, true, false, not, ◌&&◌, nat_eq, Option, Some, None, arith}
use Rattle.std.specs.List.{find}
use Rattle.std.proofs.lemmas.Bool.{true≢false, false≢true}
use Rattle.lf_rdf.specs.declared.term.Term.{Term}
use Rattle.lf_rdf.specs.declared.quad.Quad.{Quad}
use Rattle.lf_rdf.specs.declared.question.GraphRef.{GraphRef}
use Rattle.lf_rdf.specs.Vocabulary.{rdf_rest, rdf_list}
use Rattle.def_datasets.specs.Terms.{is_blank, is_iri, tells_type, uses}
use Rattle.def_datasets.specs.Questions.{named, out}
use Rattle.def_datasets.specs.Cells.{with_predicate, other_quads, is_one, at_most_list_type, is_one_in, has_list_form, object_of}
use Rattle.lf_lists.specs.Walking.{is_other, rest_if, shaped_rest}

-- ---- the first of a filter, and how many there are

pub first_of : List Quad → Option Quad
first_of [] = None
first_of (q ∷ rest) = Some q

first_case : (test : Quad → Bool) (q : Quad) (rest : List Quad) (b : Bool) → find test rest ≡ first_of (filter test rest)
    → cond b (Some q) (find test rest) ≡ first_of (cond b (q ∷ filter test rest) (filter test rest))
unfolding first_of
first_case test q rest true ih = refl
first_case test q rest false ih = ih

pub find_first : (test : Quad → Bool) (quads : List Quad) → find test quads ≡ first_of (filter test quads)
unfolding first_of
find_first test [] = refl
find_first test (q ∷ rest) = first_case test q rest (test q) (find_first test rest)

pub one_by_count : (quads : List Quad) → nat_eq (length quads) 1 ≡ is_one quads
one_by_count [] = refl
one_by_count (q ∷ []) = refl
one_by_count (q ∷ r ∷ rest) = grind arith

-- ---- the object of the first quad

object_first : (q : Quad) (quads : List Quad) → Some q ≡ first_of quads → Some q.object ≡ object_of quads
unfolding first_of
object_first q [] e = absurd (cc)
object_first q (r ∷ rest) e = ap object_in e
  where
    object_in : Option Quad → Option Term
    object_in None = None
    object_in (Some x) = Some x.object

object_none : (quads : List Quad) → None ≡ first_of quads → None ≡ object_of quads
unfolding first_of
object_none [] e = refl
object_none (q ∷ rest) e = absurd (cc)

pub object_found : (iri : List ℕ) (quads : List Quad) (q : Quad) (object : Term) → object ≡ q.object → Some q ≡ find (λ w. is_iri iri w.predicate) quads
    → Some object ≡ object_of (with_predicate iri quads)
object_found iri quads q object same e =
    ap Some same ∙ object_first q (with_predicate iri quads) (e ∙ find_first (λ w. is_iri iri w.predicate) quads)

pub object_lacks : (iri : List ℕ) (quads : List Quad) → None ≡ find (λ w. is_iri iri w.predicate) quads → None ≡ object_of (with_predicate iri quads)
object_lacks iri quads e = object_none (with_predicate iri quads) (e ∙ find_first (λ w. is_iri iri w.predicate) quads)

-- ---- nothing else, or the type `rdf:List` alone

same_others : (quads : List Quad) → filter is_other quads ≡ other_quads quads
unfolding is_other
same_others quads = refl

nothing_first : (quads : List Quad) → None ≡ first_of quads → true ≡ at_most_list_type quads
unfolding first_of
nothing_first [] e = refl
nothing_first (q ∷ rest) e = absurd (cc)

alone_case : (q : Quad) (a : Bool) → a ≡ (tells_type q && is_iri rdf_list q.object) → (a && true) ≡ (tells_type q && is_iri rdf_list q.object)
alone_case q true e = e
alone_case q false e = e

many_case : (a : Bool) → (a && false) ≡ false
many_case true = refl
many_case false = refl

type_of : Option Quad → Bool
type_of None = false
type_of (Some q) = tells_type q && is_iri rdf_list q.object

one_first : (q : Quad) (a : Bool) (quads : List Quad) → Some q ≡ first_of quads → a ≡ (tells_type q && is_iri rdf_list q.object)
    → (a && nat_eq (length quads) 1) ≡ at_most_list_type quads
unfolding first_of type_of
one_first q a [] e told = absurd (cc)
one_first q a (r ∷ []) e told = alone_case r a (told ∙ ap type_of e)
one_first q a (r ∷ s ∷ rest) e told = ap (λ (w : Bool). a && w) (one_by_count (r ∷ s ∷ rest)) ∙ many_case a

pub nothing_else : (quads : List Quad) → None ≡ find is_other quads → true ≡ at_most_list_type (other_quads quads)
nothing_else quads e = nothing_first (filter is_other quads) (e ∙ find_first is_other quads) ∙ ap at_most_list_type (same_others quads)

pub one_else : (quads : List Quad) (q : Quad) (a : Bool) → Some q ≡ find is_other quads → a ≡ (tells_type q && is_iri rdf_list q.object)
    → (a && nat_eq (length (filter is_other quads)) 1) ≡ at_most_list_type (other_quads quads)
one_else quads q a e told =
    one_first q a (filter is_other quads) (e ∙ find_first is_other quads) told ∙ ap at_most_list_type (same_others quads)

-- ---- the rest of a node that has the form of a list node

named_none : (b n f u : Bool) (r : Option Term) → true ≡ n → None ≡ rest_if (b && not n && f && u) r
named_none true true f u r e = refl
named_none false true f u r e = refl
named_none b false f u r e = absurd (true≢false e)

used_none : (b n f u : Bool) (r : Option Term) → false ≡ u → None ≡ rest_if (b && not n && f && u) r
used_none true true f false r e = refl
used_none true false true false r e = refl
used_none true false false false r e = refl
used_none false n f false r e = refl
used_none b n f true r e = absurd (false≢true e)

formless_none : (b n f u : Bool) (r : Option Term) → false ≡ f → None ≡ rest_if (b && not n && f && u) r
formless_none true true false u r e = refl
formless_none true false false u r e = refl
formless_none false n false u r e = refl
formless_none b n true u r e = absurd (false≢true e)

all_some : (b n f u : Bool) (r : Option Term) → true ≡ b → false ≡ n → true ≡ f → true ≡ u → r ≡ rest_if (b && not n && f && u) r
all_some true false true true r b n f u = refl
all_some false n f u r e x y z = absurd (true≢false e)
all_some true true f u r e x y z = absurd (false≢true x)
all_some true false false u r e x y z = absurd (true≢false y)
all_some true false true false r e x y z = absurd (true≢false z)

pub flipped : {x : Bool} → true ≡ not x → x ≡ false
flipped {x = true} e = absurd (true≢false e)
flipped {x = false} e = refl

pub flipped_back : {x : Bool} → false ≡ not x → x ≡ true
flipped_back {x = true} e = refl
flipped_back {x = false} e = absurd (false≢true e)

module _ (other : List Quad) (g : GraphRef) (b : Term) where
  abbrev rest : Option Term
  rest = object_of (with_predicate rdf_rest (out other g b))

  pub rest_of_named : true ≡ named other b → None ≡ shaped_rest other g b
  rest_of_named e = named_none (is_blank b) (named other b) (has_list_form (out other g b)) (is_one_in g (uses other b)) rest e

  pub rest_of_used : (quads : List Quad) → quads ≡ uses other b → is_one_in g quads ≡ false → None ≡ shaped_rest other g b
  rest_of_used quads e none =
      used_none (is_blank b) (named other b) (has_list_form (out other g b)) (is_one_in g (uses other b)) rest (sym none ∙ ap (is_one_in g) e)

  pub rest_of_formless : (quads : List Quad) → quads ≡ out other g b → has_list_form quads ≡ false → None ≡ shaped_rest other g b
  rest_of_formless quads e none =
      formless_none (is_blank b) (named other b) (has_list_form (out other g b)) (is_one_in g (uses other b)) rest (sym none ∙ ap has_list_form e)

  pub rest_of_shaped : (used told : List Quad) → is_blank b ≡ true → false ≡ named other b → used ≡ uses other b → is_one_in g used ≡ true
      → told ≡ out other g b → has_list_form told ≡ true → object_of (with_predicate rdf_rest told) ≡ shaped_rest other g b
  rest_of_shaped used told blank unnamed e one f form =
      ap (λ (qs : List Quad). object_of (with_predicate rdf_rest qs)) f
      ∙ all_some (is_blank b) (named other b) (has_list_form (out other g b)) (is_one_in g (uses other b)) rest (sym blank) unnamed
      (sym form ∙ ap has_list_form f) (sym one ∙ ap (is_one_in g) e)
