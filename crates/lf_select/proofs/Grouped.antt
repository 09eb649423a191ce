-- What one prefix more changes among the groups.
use Rattle.std.proofs.Common.{◌≡◌, ℕ, ◌+◌, ◌≤◌, Bool, true, false, ◌&&◌, ◌||◌, cond, List, ◌∷◌, Option, Some, None, refl, ap, sym, ◌∙◌, subst, arith, length, nat_cmp, is_eq, is_some}
use Rattle.std.specs.Prelude.{nat_eq, slice_get, Vec}
use Rattle.std.specs.List.{list_any}
use Rattle.std.specs.Map.{KeepsOthers}
use Rattle.std.specs.Option.{option_and_then}
use Rattle.std.specs.Cmp.{tied_then, unsigned_ties}
use Rattle.std.specs.Cmp.Lexicographic.{slice_cmp}
use Rattle.std.specs.BTreeMap.{get, UpdatesBy}
use Rattle.std.specs.declared.alloc.Global.{Global}
use Rattle.std.proofs.lemmas.Bool.{and_parts}
use Rattle.std.proofs.lemmas.Bool.Decides.{Decides-eqb}
use Rattle.std.proofs.lemmas.Cmp.{nat_list_cmp_total, eq_by_cmp_equiv}
use Rattle.std.proofs.lemmas.Map.Text.{is_eq-slice_cmp}
use Rattle.std.proofs.lemmas.Slice.Eq.{bytes_eq-Decides}
use Rattle.lf_rdf.specs.Equality.{text_eq}
use Rattle.lf_model.specs.declared.table.TermTable.{TermTable}
use Rattle.lf_model.specs.declared.table.TermDef.{TermDef}
use Rattle.lf_select.specs.Prefixes.{prefix_at, rank_cmp, rank_eq, ranked, ranks_at, AreGroupedFrom, Groups, IsGrouped, IsPrefixAt, Ranks}
use Rattle.lf_select.specs.declared.prefixes.Ranked.{Ranked}

-- ---- names

rank-tie : (a b : Ranked) → is_eq (rank_cmp a b) ≡ rank_eq a b
rank-tie a b =
    sym (tied_then (nat_cmp a.length b.length) (slice_cmp nat_cmp a.name b.name))
    ∙ (λ i. sym (unsigned_ties a.length b.length) i && is_eq-slice_cmp a.name b.name i)

pub same-rank : (a b : Ranked) → rank_eq a b ≡ true → a ≡ b
same-rank a b e =
    let both = and_parts (nat_eq a.length b.length) (text_eq a.name b.name) e in
    let lengths = (Decides-eqb a.length b.length).0 both.0 in
    let names = (bytes_eq-Decides a.name b.name).0 both.1 in
    λ i. record { length = lengths i; name = names i }

rank-itself : (a : Ranked) → rank_eq a a ≡ true
rank-itself a = λ i. (Decides-eqb a.length a.length).1 refl i && (bytes_eq-Decides a.name a.name).1 refl i

-- ---- a group in the place of another

same-bytes : (a b : List ℕ) → is_eq (slice_cmp nat_cmp a b) ≡ true → a ≡ b
same-bytes a b e = (bytes_eq-Decides a b).0 (sym (is_eq-slice_cmp a b) ∙ e)

-- bytes that differ find nothing in common
no-both : (a b c : List ℕ) → text_eq a b ≡ false → is_eq (slice_cmp nat_cmp a c) ≡ true → is_eq (slice_cmp nat_cmp b c) ≡ false
no-both a b c apart found = go (is_eq (slice_cmp nat_cmp b c)) refl
  where
    go : (r : Bool) → is_eq (slice_cmp nat_cmp b c) ≡ r → r ≡ false
    go false e = refl
    go true e =
        let same : a ≡ b = same-bytes a c found ∙ sym (same-bytes b c e) in
        cc ((bytes_eq-Decides a b).1 same, apart)

module _ (before after : Groups) (iri : List ℕ) (ranks : Ranks) where
  pub changed-at : UpdatesBy (λ a b. slice_cmp nat_cmp a.items b.items) (λ k. slice_cmp nat_cmp iri k.items) before after (Some ranks)
      → (q : List ℕ) → ranks_at after q ≡ cond (text_eq iri q) (Some ranks) (ranks_at before q)
  unfolding KeepsOthers
  changed-at h q = go (text_eq iri q) refl
    where
      go : (b : Bool) → text_eq iri q ≡ b → ranks_at after q ≡ cond b (Some ranks) (ranks_at before q)
      go true e = subst (λ w. ranks_at after w ≡ Some ranks) ((bytes_eq-Decides iri q).0 e) h.1
      go false e =
          h.3 (λ k. is_eq (slice_cmp nat_cmp q k.items))
          (λ x y. (eq_by_cmp_equiv nat_list_cmp_total).congr q x.items y.items)
          (λ k. no-both iri q k.items e)

  pub put-place : (key : Ranked) (place : ℕ)
      → ((q : List ℕ) → ranks_at after q ≡ cond (text_eq iri q) (Some ranks) (ranks_at before q))
      → ((k : Ranked) → get rank_cmp ranks k ≡ cond (is_eq (rank_cmp key k)) (Some place) (prefix_at before iri k))
      → (q : List ℕ) (k : Ranked) → prefix_at after q k ≡ cond (text_eq iri q && rank_eq key k) (Some place) (prefix_at before q k)
  put-place key place outer inner q k = ap (option_and_then (λ s. get rank_cmp s k)) (outer q) ∙ go (text_eq iri q) refl
    where
      go : (b : Bool) → text_eq iri q ≡ b →
          option_and_then (λ s. get rank_cmp s k) (cond b (Some ranks) (ranks_at before q)) ≡ cond (b && rank_eq key k) (Some place) (prefix_at before q k)
      go true e =
          inner k
          ∙ ap (λ b. cond b (Some place) (prefix_at before iri k)) (rank-tie key k)
          ∙ ap (λ w. cond (rank_eq key k) (Some place) (prefix_at before w k)) ((bytes_eq-Decides iri q).0 e)
      go false e = refl

  pub put-new : (bytes : Vec ℕ Global) (key : Ranked) (place : ℕ) → bytes.items ≡ iri
      → UpdatesBy (λ a b. slice_cmp nat_cmp a.items b.items) (λ k. slice_cmp nat_cmp bytes.items k.items) before after (Some ranks)
      → ranks_at before iri ≡ None
      → ((k : Ranked) → get rank_cmp ranks k ≡ cond (is_eq (rank_cmp key k)) (Some place) None)
      → (q : List ℕ) (k : Ranked) → prefix_at after q k ≡ cond (text_eq iri q && rank_eq key k) (Some place) (prefix_at before q k)
  put-new bytes key place same h none inner =
      put-place key place
      (changed-at (subst (λ w. UpdatesBy (λ a b. slice_cmp nat_cmp a.items b.items) (λ k. slice_cmp nat_cmp w k.items) before after (Some ranks)) same h))
      (λ k. inner k ∙ ap (λ o. cond (is_eq (rank_cmp key k)) (Some place) (option_and_then (λ s. get rank_cmp s k) o)) (sym none))

-- ---- one term more

or-true : (b : Bool) → (b || true) ≡ true
or-true true = refl
or-true false = refl

still-some : (b : Bool) (place : ℕ) (o : Option ℕ) → is_some o ≡ true → is_some (cond b (Some place) o) ≡ true
still-some true place o e = refl
still-some false place o e = e

module _ (table : TermTable) (place : ℕ) (term : TermDef) (here : slice_get table.terms place ≡ Some term) where
  pub prefix-grouped : (iri : List ℕ) (before after : Groups) (old new : List ℕ) → term.prefix ≡ true → term.iri ≡ Some iri
      → ((q : List ℕ) (k : Ranked) → prefix_at after q k ≡ cond (text_eq iri q && rank_eq (ranked term.name) k) (Some place) (prefix_at before q k))
      → ((n : ℕ) → list_any (λ m. nat_eq m n) new ≡ (nat_eq (length iri) n || list_any (λ m. nat_eq m n) old))
      → AreGroupedFrom table before old (place + 1) → AreGroupedFrom table after new place
  prefix-grouped iri before after old new may has_iri put longer rest = record { prefixes = are-prefixes; found = are-found }
    where
      at-key : (q : List ℕ) (k : Ranked) (p : ℕ) (b : Bool) → (text_eq iri q && rank_eq (ranked term.name) k) ≡ b
          → cond b (Some place) (prefix_at before q k) ≡ Some p → IsPrefixAt table q k p
      at-key q k p true e at =
          let both = and_parts (text_eq iri q) (rank_eq (ranked term.name) k) e in
          let same : place ≡ p = cc in
          let irises : iri ≡ q = (bytes_eq-Decides iri q).0 both.0 in
          let named : ranked term.name ≡ k = same-rank (ranked term.name) k both.1 in
          record {
            term = term;
            here = ap (slice_get table.terms) (sym same) ∙ here;
            may = may;
            stands = has_iri ∙ ap Some irises;
            named = sym named;
          }
      at-key q k p false e at = rest.prefixes q k p at

      are-prefixes : (q : List ℕ) (k : Ranked) (p : ℕ) → prefix_at after q k ≡ Some p → IsPrefixAt table q k p
      are-prefixes q k p at = at-key q k p (text_eq iri q && rank_eq (ranked term.name) k) refl (sym (put q k) ∙ at)

      are-found : (p : ℕ) (other : TermDef) (q : List ℕ) → place ≤ p → slice_get table.terms p ≡ Some other → other.prefix ≡ true → other.iri ≡ Some q
          → IsGrouped after new q other.name
      are-found p other q from at may' its = go (nat_eq place p) refl
        where
          go : (b : Bool) → nat_eq place p ≡ b → IsGrouped after new q other.name
          go true e =
              let same : place ≡ p = (Decides-eqb place p).0 e in
              let terms : Some term ≡ Some other = sym here ∙ ap (slice_get table.terms) same ∙ at in
              let one : term ≡ other = cc in
              let iris : Some iri ≡ Some q = sym has_iri ∙ ap (λ t. t.iri) one ∙ its in
              let irises : iri ≡ q = cc in
              let names : ranked term.name ≡ ranked other.name = ap (λ t. ranked t.name) one in (
                ap is_some
                    (put q (ranked other.name)
                    ∙ (λ i. cond ((bytes_eq-Decides iri q).1 irises i && (ap (λ k. rank_eq (ranked term.name) k) (sym names) ∙ rank-itself (ranked term.name)) i) (Some place) (prefix_at before q (ranked other.name)))),
                longer (length q)
                    ∙ ap (λ b. b || list_any (λ m. nat_eq m (length q)) old) ((Decides-eqb (length iri) (length q)).1 (ap length irises)),
              )
          go false e =
              let apart : place ≡ p → ⊥ = λ same. cc ((Decides-eqb place p).1 same, e) in
              let was = rest.found p other q (omega arith) at may' its in (
                ap is_some (put q (ranked other.name))
                    ∙ still-some (text_eq iri q && rank_eq (ranked term.name) (ranked other.name)) place (prefix_at before q (ranked other.name)) was.0,
                longer (length q) ∙ ap (λ b. nat_eq (length iri) (length q) || b) was.1 ∙ or-true (nat_eq (length iri) (length q)),
              )

  -- a term that is no prefix, or stands for nothing, needs no place
  pub none-grouped : (groups : Groups) (lengths : List ℕ) → ((iri : List ℕ) → term.prefix ≡ true → term.iri ≡ Some iri → ⊥)
      → AreGroupedFrom table groups lengths (place + 1) → AreGroupedFrom table groups lengths place
  none-grouped groups lengths never rest = record { prefixes = rest.prefixes; found = are-found }
    where
      are-found : (p : ℕ) (other : TermDef) (q : List ℕ) → place ≤ p → slice_get table.terms p ≡ Some other → other.prefix ≡ true → other.iri ≡ Some q
          → IsGrouped groups lengths q other.name
      are-found p other q from at may its = go (nat_eq place p) refl
        where
          go : (b : Bool) → nat_eq place p ≡ b → IsGrouped groups lengths q other.name
          go true e =
              let terms : Some term ≡ Some other = sym here ∙ ap (slice_get table.terms) ((Decides-eqb place p).0 e) ∙ at in
              let one : term ≡ other = cc in
              absurd (never q (ap (λ t. t.prefix) one ∙ may) (ap (λ t. t.iri) one ∙ its))
          go false e =
              let apart : place ≡ p → ⊥ = λ same. cc ((Decides-eqb place p).1 same, e) in
              rest.found p other q (omega arith) at may its
