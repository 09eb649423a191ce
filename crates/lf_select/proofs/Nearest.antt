-- The best compact IRI over the fronts of an IRI is the best over all terms.
use Rattle.std.proofs.Common.{◌≡◌, ℕ, Bool, true, false, cond, List, [], ◌∷◌, ◌++◌, Option, Some, None, refl, ap, sym, ◌∙◌, subst, arith, length, take, drop, nat_cmp, is_eq, is_lt, is_some, Less, Equal, Greater, Ordering, ◌⊎◌, inl, inr}
use Rattle.std.specs.Prelude.{nat_eq, nat_lt, filter, filter_map, slice_get}
use Rattle.std.specs.List.{list_any, starts_with, Contains, cons_option}
use Rattle.std.specs.Map.{lookup}
use Rattle.std.specs.Option.{option_and_then, option_map, option_map_or}
use Rattle.std.specs.Ordering.{ordering_reverse}
use Rattle.std.specs.Cmp.Lexicographic.{slice_cmp}
use Rattle.std.specs.BTreeMap.{get}
use Rattle.std.proofs.lemmas.Bool.{and_parts}
use Rattle.std.proofs.lemmas.Bool.Decides.{Decides-eqb}
use Rattle.std.proofs.lemmas.Cmp.{nat_list_cmp_total}
use Rattle.std.proofs.lemmas.Map.Lookups.{exact_bytes}
use Rattle.std.proofs.lemmas.Option.{slice_get-get_or, slice_get_cases, option_and_then_some, cond_some}
use Rattle.std.proofs.lemmas.Slice.Eq.{bytes_eq-Decides}
use Rattle.lf_model.specs.declared.table.TermTable.{TermTable}
use Rattle.lf_model.specs.declared.table.TermDef.{TermDef}
use Rattle.def_selection.specs.Chosen.{least, ranks_less}
use Rattle.def_selection.specs.Iris.{by_prefix, compact_iri, is_free, rest_after, term_named}
use Rattle.def_selection.proofs.Members.{first_in, rest_in, in_cases, none_in, filter_in, in_filter, some_passes}
use Rattle.def_selection.proofs.Least.{least_in, least_none, none_less}
use Rattle.lf_select.specs.Prefixes.{prefix_at, rank_cmp, ranked, ranks_at, AreGrouped, Groups, Ranks}
use Rattle.lf_select.specs.Shortest.{best_of, candidate, candidate_of, entries_at, group, if_free, nearer, shortest, text_rank}
use Rattle.lf_select.specs.declared.prefixes.Ranked.{Ranked}
use Rattle.lf_select.proofs.FirstFree.{candidate-parts, in-mapped, mapped-in, not-less-through, prefix-makes}

-- ---- a list and one that holds the least of it have one least text

tied : (x y : List ℕ) → ranks_less x y ≡ false → ranks_less y x ≡ false → x ≡ y
tied x y one two = go (slice_cmp nat_cmp x y) refl
  where
    go : (o : Ordering) → slice_cmp nat_cmp x y ≡ o → x ≡ y
    go Less e = cc (ap is_lt e, one)
    go Equal e = exact_bytes x y e
    go Greater e = cc (ap is_lt (nat_list_cmp_total.antisymm y x ∙ ap ordering_reverse e), two)

-- a text of the list isn't above another
abbrev HasBelow : List (List ℕ) → List ℕ → Type 0
HasBelow xs y = (x : List ℕ) × Contains xs x × (ranks_less (text_rank y) (text_rank x) ≡ false)

dominated-least : (xs ys : List (List ℕ)) → ((x : List ℕ) → Contains xs x → Contains ys x) → ((y : List ℕ) → Contains ys y → HasBelow xs y)
    → least text_rank xs ≡ least text_rank ys
dominated-least xs ys there back = go (least text_rank xs) (least text_rank ys) refl refl
  where
    go : (a b : Option (List ℕ)) → least text_rank xs ≡ a → least text_rank ys ≡ b → a ≡ b
    go None None e f = refl
    go None (Some y) e f =
        let found = back y (least_in text_rank ys y f) in
        absurd (none_in found.0 (subst (λ l. Contains l found.0) (least_none text_rank xs e) found.1))
    go (Some x) None e f = absurd (none_in x (subst (λ l. Contains l x) (least_none text_rank ys f) (there x (least_in text_rank xs x e))))
    go (Some x) (Some y) e f =
        let found = back y (least_in text_rank ys y f) in
        let below : ranks_less (text_rank y) (text_rank x) ≡ false =
        not-less-through (text_rank x) (text_rank found.0) (text_rank y) (none_less text_rank xs x found.0 e found.1) found.2 in
        let same : text_rank x ≡ text_rank y =
        tied (text_rank x) (text_rank y) (none_less text_rank ys y x f (there x (least_in text_rank xs x e))) below in
        let rests : x ≡ y = cc in ap Some rests

-- ---- what is at a key of a map

looked-up : {K X : Type 0} (test : K → Bool) (es : List (K × X)) (v : X) → lookup test es ≡ Some v → (e : K × X) × Contains es e × (e.1 ≡ v)
looked-up {K} {X} test [] v at = cc
looked-up {K} {X} test (e ∷ es) v at = go (test e.0) at (looked-up test es v)
  where
    go : (b : Bool) → cond b (Some e.1) (lookup test es) ≡ Some v → (lookup test es ≡ Some v → (f : K × X) × Contains es f × (f.1 ≡ v))
        → (f : K × X) × Contains (e ∷ es) f × (f.1 ≡ v)
    go true here ih = (e, first_in e es, cc)
    go false later ih = let found = ih later in (found.0, rest_in e es found.0 found.1, found.2)

some-there : {X : Type 0} (o : Option X) → is_some o ≡ true → (x : X) × (o ≡ Some x)
some-there {X} None e = cc
some-there {X} (Some x) e = (x, refl)

-- ---- what the loop finds is the least of a list

module _ (table : TermTable) (groups : Groups) (iri : List ℕ) (has_value : Bool) where
  abbrev best : ℕ → Option (List ℕ)
  best front = best_of table iri has_value (entries_at groups iri front)

  -- the best of each front
  unfoldable firsts : List ℕ → List (List ℕ)
  firsts [] = []
  firsts (front ∷ fronts) = cons_option (best front) (firsts fronts)

  nearer-least : (o : Option (List ℕ)) (xs : List (List ℕ)) → nearer o (least text_rank xs) ≡ least text_rank (cons_option o xs)
  nearer-least None xs = refl
  nearer-least (Some x) xs = refl

  shortest-least : (fronts : List ℕ) → shortest table groups iri has_value fronts ≡ least text_rank (firsts fronts)
  unfolding firsts
  shortest-least [] = refl
  shortest-least (front ∷ fronts) =
      ap (nearer (best front)) (shortest-least fronts) ∙ nearer-least (best front) (firsts fronts)

  -- ---- its elements are candidates of the table

  at-place : (terms : List TermDef) (place : ℕ) (term : TermDef) → slice_get terms place ≡ Some term → Contains terms term
  at-place terms place term e = elim (slice_get_cases terms place).1 [
    | inl found ↦ let same : found.0 ≡ term = cc (found.2, e) in subst (Contains terms) same (place, found.1, found.3)
    | inr past ↦ cc (past.1, e)
  ]

  abbrev wanted : List (List ℕ)
  wanted = filter (λ compact. is_free iri has_value (term_named table compact)) (filter_map (compact_iri iri) table.terms)

  best-wanted : (es : List (Ranked × ℕ)) (x : List ℕ) → best_of table iri has_value es ≡ Some x → Contains wanted x
  best-wanted es x is =
      let found = mapped-in (candidate_of table iri has_value) es x (least_in text_rank (filter_map (candidate_of table iri has_value) es) x is) in
      option_and_then_some (candidate table iri has_value) (slice_get table.terms found.0.1) x found.2
      (λ term here made.
      let parts = candidate-parts table iri has_value (compact_iri iri term) x made in
      in_filter _ (filter_map (compact_iri iri) table.terms) x
      (in-mapped (compact_iri iri) table.terms term x (at-place table.terms found.0.1 term here) parts.0) parts.1)

  firsts-wanted : (fronts : List ℕ) (x : List ℕ) → Contains (firsts fronts) x → Contains wanted x
  unfolding firsts
  firsts-wanted [] x held = absurd (none_in x held)
  firsts-wanted (front ∷ fronts) x held = go (best front) refl held (firsts-wanted fronts x)
    where
      go : (o : Option (List ℕ)) → best front ≡ o → Contains (cons_option o (firsts fronts)) x → (Contains (firsts fronts) x → Contains wanted x) → Contains wanted x
      go None is held' ih = ih held'
      go (Some w) is held' ih = elim (in_cases w (firsts fronts) x held') [
        | inl same ↦ subst (Contains wanted) same (best-wanted (entries_at groups iri front) w is)
        | inr more ↦ ih more
      ]

  -- ---- and none of the table's is below them

  more-below : (o : Option (List ℕ)) (xs : List (List ℕ)) (y : List ℕ) → HasBelow xs y → HasBelow (cons_option o xs) y
  more-below None xs y h = h
  more-below (Some w) xs y h = (h.0, rest_in w xs h.0 h.1, h.2)

  -- a candidate of an entry isn't below the best of the entries
  best-below : (es : List (Ranked × ℕ)) (rest : List (List ℕ)) (e : Ranked × ℕ) (y : List ℕ) → Contains es e → candidate_of table iri has_value e ≡ Some y
      → HasBelow (cons_option (best_of table iri has_value es) rest) y
  best-below es rest e y held made = go (best_of table iri has_value es) refl
    where
      among : Contains (filter_map (candidate_of table iri has_value) es) y
      among = in-mapped (candidate_of table iri has_value) es e y held made

      go : (o : Option (List ℕ)) → best_of table iri has_value es ≡ o → HasBelow (cons_option o rest) y
      go None is = absurd (none_in y (subst (λ l. Contains l y) (least_none text_rank (filter_map (candidate_of table iri has_value) es) is) among))
      go (Some x) is = (x, first_in x rest, none_less text_rank (filter_map (candidate_of table iri has_value) es) x y is among)

  front-below : (front : ℕ) (fronts : List ℕ) (e : Ranked × ℕ) (y : List ℕ) → Contains fronts front → Contains (entries_at groups iri front) e
      → candidate_of table iri has_value e ≡ Some y → HasBelow (firsts fronts) y
  unfolding firsts
  front-below front [] e y held in_group made = absurd (none_in front held)
  front-below front (other ∷ fronts) e y held in_group made = elim (in_cases other fronts front held) [
    | inl same ↦ best-below (entries_at groups iri other) (firsts fronts) e y (subst (λ f. Contains (entries_at groups iri f) e) (sym same) in_group) made
    | inr more ↦ more-below (best other) (firsts fronts) y (front-below front fronts e y more in_group made)
  ]

  -- what a compact IRI says of its term
  record Starts (term : TermDef) : Type 0 where
    may : term.prefix ≡ true
    start : List ℕ
    has_iri : term.iri ≡ Some start
    front : take (length start) iri ≡ start
    shorter : nat_lt (length start) (length iri) ≡ true

  rest-starts : (term : TermDef) → term.prefix ≡ true → (o : Option (List ℕ)) → term.iri ≡ o → (rest : List ℕ) → rest_after iri o ≡ Some rest → Starts term
  rest-starts term may None e rest f = cc
  rest-starts term may (Some start) e rest f =
      let tests = and_parts (starts_with nat_eq iri start) (nat_lt (length start) (length iri)) (cond_some _ (drop (length start) iri) rest f).0 in
      record { may = may; start = start; has_iri = e; front = sym ((bytes_eq-Decides start (take (length start) iri)).0 tests.0); shorter = tests.1 }

  starts : (term : TermDef) (x : List ℕ) → compact_iri iri term ≡ Some x → Starts term
  starts term x e = go term.prefix refl e
    where
      mapped : (o : Option (List ℕ)) → rest_after iri term.iri ≡ o → option_map (λ rest. term.name ++ 58 ∷ rest) o ≡ Some x → term.prefix ≡ true → Starts term
      mapped None at e' may = cc
      mapped (Some rest) at e' may = rest-starts term may term.iri refl rest at

      go : (b : Bool) → term.prefix ≡ b → cond b (option_map (λ rest. term.name ++ 58 ∷ rest) (rest_after iri term.iri)) None ≡ Some x → Starts term
      go true may e' = mapped (rest_after iri term.iri) refl e' may
      go false may e' = cc

  numbered : (p : ℕ) (ns : List ℕ) → list_any (λ m. nat_eq m p) ns ≡ true → Contains ns p
  numbered p ns e =
      let found = some_passes (λ m. nat_eq m p) ns e in
      subst (Contains ns) ((Decides-eqb found.0 p).0 found.2) found.1

  candidate-from : (o : Option (List ℕ)) (x : List ℕ) → o ≡ Some x → is_free iri has_value (term_named table x) ≡ true → if_free table iri has_value o ≡ Some x
  candidate-from o x e free = ap (if_free table iri has_value) e ∙ ap (λ b. cond b (Some x) None) free

  -- the entry of a prefix
  entry-of : (start : List ℕ) (key : Ranked) (place : ℕ) → take (length start) iri ≡ start → nat_lt (length start) (length iri) ≡ true
      → prefix_at groups start key ≡ Some place → (e : Ranked × ℕ) × Contains (entries_at groups iri (length start)) e × (e.1 ≡ place)
  entry-of start key place front shorter at =
      option_and_then_some (λ (ranks : Ranks). get rank_cmp ranks key) (ranks_at groups start) place at
      (λ ranks here there.
      let found = looked-up (λ k. is_eq (rank_cmp key k)) ranks.entries place there in
      let in_group : group groups iri (length start) ≡ Some ranks =
      ap (λ b. cond b (ranks_at groups (take (length start) iri)) None) shorter ∙ ap (ranks_at groups) front ∙ here in
      (found.0, subst (λ es. Contains es found.0) (sym (ap (λ o. option_map_or (λ (r : Ranks). r.entries) o []) in_group)) found.1, found.2))

  wanted-below : (lengths : List ℕ) → AreGrouped table groups lengths → (y : List ℕ) → Contains wanted y → HasBelow (firsts lengths) y
  wanted-below lengths grouped y held =
      let kept = filter_in (λ compact. is_free iri has_value (term_named table compact)) (filter_map (compact_iri iri) table.terms) y held in
      let made = mapped-in (compact_iri iri) table.terms y kept.0 in
      let term = made.0 in
      let place = made.1.0 in
      let here : slice_get table.terms place ≡ Some term = slice_get-get_or table.terms place term made.1.1 ∙ ap Some made.1.2 in
      let s = starts term y made.2 in
      let found = grouped.found place term s.start (omega arith) here s.may s.has_iri in
      let stored = some-there (prefix_at groups s.start (ranked term.name)) found.0 in
      let other = grouped.prefixes s.start (ranked term.name) stored.0 stored.1 in
      let entry = entry-of s.start (ranked term.name) stored.0 s.front s.shorter stored.1 in
      let names : term.name ≡ other.term.name = ap (λ k. k.name) other.named in
      let same : compact_iri iri other.term ≡ Some y =
      prefix-makes table iri has_value s.start other.term other.may other.stands
      ∙ (λ i. option_map (λ rest. sym names i ++ 58 ∷ rest) (rest_after iri (Some s.start)))
      ∙ sym (prefix-makes table iri has_value s.start term s.may s.has_iri)
      ∙ made.2 in
      let at-entry : candidate_of table iri has_value entry.0 ≡ Some y =
      ap (λ p. option_and_then (candidate table iri has_value) (slice_get table.terms p)) entry.2
      ∙ ap (option_and_then (candidate table iri has_value)) other.here
      ∙ candidate-from (compact_iri iri other.term) y same kept.1 in
      front-below (length s.start) lengths entry.0 y (numbered (length s.start) lengths found.1) entry.1 at-entry

  pub shortest-prefix : (lengths : List ℕ) → AreGrouped table groups lengths → shortest table groups iri has_value lengths ≡ by_prefix table iri has_value
  shortest-prefix lengths grouped =
      shortest-least lengths ∙ dominated-least (firsts lengths) wanted (firsts-wanted lengths) (wanted-below lengths grouped)
