-- The first compact IRI of a group that may be used, in order of the prefixes' names, is the least.
use Rattle.std.proofs.Common.{◌≡◌, ℕ, ◌+◌, ◌<◌, Bool, true, false, cond, List, [], ◌∷◌, ◌++◌, Option, Some, None, refl, ap, sym, ◌∙◌, subst, arith, length, nat_cmp, is_lt, is_gt, is_some, Less, Equal, Greater, Ordering, ◌⊎◌, inl, inr}
use Rattle.std.specs.Prelude.{filter, filter_map, slice_get}
use Rattle.std.specs.BTreeMap.{get, IsOrdered}
use Rattle.std.specs.List.{All, AllByRecursion, Contains, cons_option}
use Rattle.std.specs.List.Sorted.{IsStrictlySortedBy}
use Rattle.std.specs.Map.{keys_of}
use Rattle.std.specs.Option.{option_and_then, option_map, option_or}
use Rattle.std.specs.Ordering.{MatchOrdering, ordering_reverse, ordering_then}
use Rattle.std.specs.Cmp.{nat_cmp_is}
use Rattle.std.specs.Cmp.Lexicographic.{slice_cmp}
use Rattle.std.proofs.lemmas.Cmp.{nat_list_cmp_total, tied_itself, upto}
use Rattle.std.proofs.lemmas.Cmp as order
use Rattle.std.proofs.lemmas.List.{length-append}
use Rattle.std.proofs.lemmas.List.Elements.{All-contains}
use Rattle.std.proofs.lemmas.Map.Keys.{sorted_head, sorted_tail}
use Rattle.std.proofs.lemmas.Option.{cond_some}
use Rattle.lf_model.specs.declared.table.TermTable.{TermTable}
use Rattle.lf_model.specs.declared.table.TermDef.{TermDef}
use Rattle.def_selection.specs.Chosen.{least, lesser, ranks_less}
use Rattle.def_selection.specs.Iris.{compact_iri, is_free, rest_after, term_named}
use Rattle.def_selection.proofs.Members.{first_in, rest_in, in_cases, none_in}
use Rattle.def_selection.proofs.Least.{least_in}
use Rattle.lf_select.specs.Prefixes.{rank_cmp, ranked, IsPrefixAt, Ranks}
use Rattle.lf_select.specs.Shelves.{first_some}
use Rattle.lf_select.specs.Shortest.{best_of, candidate, candidate_of, if_free, text_rank}
use Rattle.lf_select.specs.declared.prefixes.Ranked.{Ranked}

-- ---- ranks

pub not-less-itself : (a : List ℕ) → ranks_less a a ≡ false
not-less-itself a = ap is_lt (tied_itself nat_list_cmp_total a)

turned : (o p : Ordering) → o ≡ ordering_reverse p → is_lt o ≡ is_gt p
turned o Less e = ap is_lt e
turned o Equal e = ap is_lt e
turned o Greater e = ap is_lt e

less-is-greater : (a b : List ℕ) → ranks_less a b ≡ is_gt (slice_cmp nat_cmp b a)
less-is-greater a b = turned _ _ (nat_list_cmp_total.antisymm a b)

pub not-less-through : (a b c : List ℕ) → ranks_less b a ≡ false → ranks_less c b ≡ false → ranks_less c a ≡ false
not-less-through a b c first second =
    less-is-greater c a
    ∙ upto nat_list_cmp_total a b c (sym (less-is-greater b a) ∙ first) (sym (less-is-greater c b) ∙ second)

-- ---- the order of names is that of the compact IRIs that they make

-- texts whose fronts are equally long stand in the order of these
same-front : (a b c : List ℕ) → length a ≡ length b → slice_cmp nat_cmp a b ≡ Less → slice_cmp nat_cmp (a ++ c) (b ++ c) ≡ Less
same-front [] [] c e less = cc
same-front [] (y ∷ b) c e less = absurd (omega (arith, e))
same-front (x ∷ a) [] c e less = absurd (omega (arith, e))
same-front (x ∷ a) (y ∷ b) c e less = go (nat_cmp x y) less (same-front a b c (omega (arith, e)))
  where
    go : (o : Ordering) → ordering_then o (slice_cmp nat_cmp a b) ≡ Less → (slice_cmp nat_cmp a b ≡ Less → slice_cmp nat_cmp (a ++ c) (b ++ c) ≡ Less)
        → ordering_then o (slice_cmp nat_cmp (a ++ c) (b ++ c)) ≡ Less
    go Less e' ih = refl
    go Equal e' ih = ih e'
    go Greater e' ih = cc

-- a name that comes before another makes the compact IRI that comes before
before-joined : (a b c : List ℕ) → rank_cmp (ranked a) (ranked b) ≡ Less → ranks_less (text_rank (b ++ c)) (text_rank (a ++ c)) ≡ false
before-joined a b c less = go (nat_cmp (length a) (length b)) (order.ranked (length a) (length b) (nat_cmp (length a) (length b)) refl) less
  where
    sum-a : length (a ++ c) ≡ length a + length c
    sum-a = length-append a c

    sum-b : length (b ++ c) ≡ length b + length c
    sum-b = length-append b c

    go : (o : Ordering) → MatchOrdering o (length a < length b) (length a ≡ length b) (length b < length a)
        → ordering_then o (slice_cmp nat_cmp a b) ≡ Less → ranks_less (text_rank (b ++ c)) (text_rank (a ++ c)) ≡ false
    go Less at e =
        let far : length (a ++ c) < length (b ++ c) = omega (arith, at, sum-a, sum-b) in
        let way : Greater ≡ nat_cmp (length (b ++ c)) (length (a ++ c)) = nat_cmp_is (length (b ++ c)) (length (a ++ c)) Greater far in
        λ i. is_lt (ordering_then (sym way i) (slice_cmp nat_cmp (b ++ c) (a ++ c)))
    go Equal at e =
        let level : length (b ++ c) ≡ length (a ++ c) = omega (arith, at, sum-a, sum-b) in
        let way : Equal ≡ nat_cmp (length (b ++ c)) (length (a ++ c)) = nat_cmp_is (length (b ++ c)) (length (a ++ c)) Equal level in
        let back : slice_cmp nat_cmp (b ++ c) (a ++ c) ≡ Greater =
        nat_list_cmp_total.antisymm (b ++ c) (a ++ c) ∙ ap ordering_reverse (same-front a b c at e) in
        λ i. is_lt (ordering_then (sym way i) (back i))
    go Greater at e = cc

-- ---- lists

pub mapped-in : {X Y : Type 0} (f : X → Option Y) (xs : List X) (y : Y) → Contains (filter_map f xs) y → (x : X) × Contains xs x × (f x ≡ Some y)
mapped-in {X} {Y} f [] y held = absurd (none_in y held)
mapped-in {X} {Y} f (x ∷ xs) y held = go (f x) refl held (mapped-in f xs y)
  where
    later : (z : X) × Contains xs z × (f z ≡ Some y) → (z : X) × Contains (x ∷ xs) z × (f z ≡ Some y)
    later found = (found.0, rest_in x xs found.0 found.1, found.2)

    go : (o : Option Y) → f x ≡ o → Contains (cons_option o (filter_map f xs)) y → (Contains (filter_map f xs) y → (z : X) × Contains xs z × (f z ≡ Some y))
        → (z : X) × Contains (x ∷ xs) z × (f z ≡ Some y)
    go None e held' ih = later (ih held')
    go (Some w) e held' ih = elim (in_cases w (filter_map f xs) y held') [
      | inl same ↦ (x, first_in x xs, e ∙ ap Some same)
      | inr more ↦ later (ih more)
    ]

pub in-mapped : {X Y : Type 0} (f : X → Option Y) (xs : List X) (x : X) (y : Y) → Contains xs x → f x ≡ Some y → Contains (filter_map f xs) y
in-mapped {X} {Y} f [] x y held e = absurd (none_in x held)
in-mapped {X} {Y} f (z ∷ xs) x y held e = go (f z) refl (in_cases z xs x held) (λ more. in-mapped f xs x y more e)
  where
    go : (o : Option Y) → f z ≡ o → (z ≡ x) ⊎ Contains xs x → (Contains xs x → Contains (filter_map f xs) y) → Contains (cons_option o (filter_map f xs)) y
    go None at (inl same) ih = cc (ap f same, e, at)
    go None at (inr more) ih = ih more
    go (Some w) at (inl same) ih = let one : w ≡ y = cc (ap f same, e, at) in subst (λ v. Contains (w ∷ filter_map f xs) v) one (first_in w (filter_map f xs))
    go (Some w) at (inr more) ih = rest_in w (filter_map f xs) y (ih more)

key-later : {K X : Type 0} (P : K → Type 0) (es : List (K × X)) (f : K × X) → AllByRecursion P (keys_of es) → Contains es f → P f.0
key-later {K} {X} P [] f all held = absurd (none_in f held)
key-later {K} {X} P (e ∷ es) f all held = elim (in_cases e es f held) [
  | inl same ↦ subst (λ g. P g.0) same all.0
  | inr more ↦ key-later P es f all.1 more
]

-- ---- candidates

module _ (table : TermTable) (iri : List ℕ) (has_value : Bool) where
  -- a candidate is a compact IRI that is free
  pub candidate-parts : (o : Option (List ℕ)) (x : List ℕ) → if_free table iri has_value o ≡ Some x → (o ≡ Some x) × (is_free iri has_value (term_named table x) ≡ true)
  candidate-parts None x e = cc
  candidate-parts (Some c) x e =
      let parts = cond_some (is_free iri has_value (term_named table c)) c x e in
      (ap Some parts.1, subst (λ w. is_free iri has_value (term_named table w) ≡ true) parts.1 parts.0)

  -- what a term of a start makes is its name and what follows the start
  pub prefix-makes : (start : List ℕ) (term : TermDef) → term.prefix ≡ true → term.iri ≡ Some start
      → compact_iri iri term ≡ option_map (λ rest. term.name ++ 58 ∷ rest) (rest_after iri (Some start))
  prefix-makes start term may stands = λ i. cond (may i) (option_map (λ rest. term.name ++ 58 ∷ rest) (rest_after iri (stands i))) None

  record Joined (start name made : List ℕ) : Type 0 where
    rest : List ℕ
    follows : rest_after iri (Some start) ≡ Some rest
    joined : made ≡ name ++ 58 ∷ rest

  joined-by : (start name made : List ℕ) → option_map (λ rest. name ++ 58 ∷ rest) (rest_after iri (Some start)) ≡ Some made → Joined start name made
  joined-by start name made e = go (rest_after iri (Some start)) refl e
    where
      go : (o : Option (List ℕ)) → rest_after iri (Some start) ≡ o → option_map (λ rest. name ++ 58 ∷ rest) o ≡ Some made → Joined start name made
      go None at e' = cc
      go (Some rest) at e' = record { rest = rest; follows = at; joined = cc }

  entry-makes : (start : List ℕ) (e : Ranked × ℕ) (made : List ℕ) (h : IsPrefixAt table start e.0 e.1) → candidate_of table iri has_value e ≡ Some made
      → Joined start h.term.name made
  entry-makes start e made h at =
      let free : candidate table iri has_value h.term ≡ Some made = sym (ap (option_and_then (candidate table iri has_value)) h.here) ∙ at in
      let parts = candidate-parts (compact_iri iri h.term) made free in
      joined-by start h.term.name made (sym (prefix-makes start h.term h.may h.stands) ∙ parts.0)

  -- of two terms of one start the one whose name comes first makes the compact IRI that comes first
  in-order : (start : List ℕ) (e f : Ranked × ℕ) (x y : List ℕ) → IsPrefixAt table start e.0 e.1 → IsPrefixAt table start f.0 f.1
      → rank_cmp e.0 f.0 ≡ Less → candidate_of table iri has_value e ≡ Some x → candidate_of table iri has_value f ≡ Some y
      → ranks_less (text_rank y) (text_rank x) ≡ false
  in-order start e f x y he hf less ex fy =
      let je = entry-makes start e x he ex in
      let jf = entry-makes start f y hf fy in
      let rests : Some jf.rest ≡ Some je.rest = sym jf.follows ∙ je.follows in
      let rest : jf.rest ≡ je.rest = cc in
      let less-names : rank_cmp (ranked he.term.name) (ranked hf.term.name) ≡ Less = (λ i. rank_cmp (sym he.named i) (sym hf.named i)) ∙ less in
      (λ i. ranks_less (text_rank (jf.joined i)) (text_rank (je.joined i)))
      ∙ (λ i. ranks_less (text_rank (hf.term.name ++ 58 ∷ rest i)) (text_rank (he.term.name ++ 58 ∷ je.rest)))
      ∙ before-joined he.term.name hf.term.name (58 ∷ je.rest) less-names

  pub first-is-least : (start : List ℕ) (es : List (Ranked × ℕ)) → IsStrictlySortedBy rank_cmp (keys_of es)
      → ((e : Ranked × ℕ) → Contains es e → IsPrefixAt table start e.0 e.1)
      → first_some (candidate_of table iri has_value) es ≡ best_of table iri has_value es
  first-is-least start [] sorted prefixes = refl
  first-is-least start (e ∷ es) sorted prefixes =
      go (candidate_of table iri has_value e) refl
      (first-is-least start es (sorted_tail rank_cmp e.0 (keys_of es) sorted) (λ f held. prefixes f (rest_in e es f held)))
    where
      later : List (List ℕ)
      later = filter_map (candidate_of table iri has_value) es

      stays : (x : List ℕ) → candidate_of table iri has_value e ≡ Some x → (o : Option (List ℕ)) → least text_rank later ≡ o → Some x ≡ lesser text_rank x o
      stays x at None is = refl
      stays x at (Some y) is =
          let found = mapped-in (candidate_of table iri has_value) es y (least_in text_rank later y is) in
          let less : rank_cmp e.0 found.0.0 ≡ Less = key-later (λ k. rank_cmp e.0 k ≡ Less) es found.0 (sorted_head rank_cmp e.0 (keys_of es) sorted) found.1 in
          sym
          (ap (λ b. cond b (Some y) (Some x))
          (in-order start e found.0 x y (prefixes e (first_in e es)) (prefixes found.0 (rest_in e es found.0 found.1)) less at found.2))

      go : (o : Option (List ℕ)) → candidate_of table iri has_value e ≡ o → first_some (candidate_of table iri has_value) es ≡ least text_rank later
          → first_some (candidate_of table iri has_value) (e ∷ es) ≡ least text_rank (filter_map (candidate_of table iri has_value) (e ∷ es))
      go None at ih =
          ap (λ o. option_or o (first_some (candidate_of table iri has_value) es)) at ∙ ih ∙ ap (λ o. least text_rank (cons_option o later)) (sym at)
      go (Some x) at ih =
          ap (λ o. option_or o (first_some (candidate_of table iri has_value) es)) at
          ∙ stays x at (least text_rank later) refl
          ∙ ap (λ o. least text_rank (cons_option o later)) (sym at)

  -- the one that was found first
  pub first-here : (all es rest : List (Ranked × ℕ)) (e : Ranked × ℕ) (o : Option (List ℕ))
      → first_some (candidate_of table iri has_value) all ≡ first_some (candidate_of table iri has_value) es
      → es ≡ e ∷ rest → o ≡ candidate_of table iri has_value e → is_some o ≡ true → o ≡ first_some (candidate_of table iri has_value) all
  first-here all es rest e None before now is some = cc
  first-here all es rest e (Some x) before now is some =
      sym
      (before
      ∙ ap (first_some (candidate_of table iri has_value)) now
      ∙ ap (λ o. option_or o (first_some (candidate_of table iri has_value) rest)) (sym is))

  -- and none
  pub none-here : (all es : List (Ranked × ℕ)) → first_some (candidate_of table iri has_value) all ≡ first_some (candidate_of table iri has_value) es
      → es ≡ [] → None ≡ first_some (candidate_of table iri has_value) all
  none-here all es before now = sym (before ∙ ap (first_some (candidate_of table iri has_value)) now)

  -- where a map holds prefixes of one start, the first is the best
  pub best-in-order : (start : List ℕ) (ranks : Ranks) → IsOrdered rank_cmp ranks
      → ((key : Ranked) (place : ℕ) → get rank_cmp ranks key ≡ Some place → IsPrefixAt table start key place)
      → All (λ e. get rank_cmp ranks e.0 ≡ Some e.1) ranks.entries
      → first_some (candidate_of table iri has_value) ranks.entries ≡ best_of table iri has_value ranks.entries
  best-in-order start ranks ordered prefixes found =
      first-is-least start ranks.entries ordered
      (λ e held. prefixes e.0 e.1 (All-contains (λ f. get rank_cmp ranks f.0 ≡ Some f.1) ranks.entries e found held))
