-- Which keys were put into maps of keys, and what a put does to properties.
use Rattle.std.proofs.Common.{◌≡◌, ℕ, ◌<◌, ◌≤◌, Bool, true, false, ◌||◌, true≢false, List, [], ◌∷◌, Option, Some, None, is_some, refl, sym, ap, subst, ◌∙◌, arith}
use Rattle.std.specs.Cmp.Lexicographic.{bytes_decides}
use Rattle.std.specs.declared.cmp.Ordering.{Ordering}
use Rattle.std.specs.declared.cmp.Ordering.TheVariants.{Less, Equal, Greater}
use Rattle.std.specs.Ordering.{match_ordering}
use Rattle.lf_sorted.specs.declared.map.Entry.{Entry}
use Rattle.lf_sorted.specs.Entries.{text_cmp, entry, put_entry}
use Rattle.lf_sorted.proofs.EntriesLemmas.{value_put, value_of_others}
use Rattle.lf_rdf.specs.Equality.{text_eq}
use Rattle.def_nested.specs.Nested.{prop, reverse_prop}
use Rattle.def_nested.specs.Unfolding.{Numbered, sub_frame}
use Rattle.def_contexts.specs.Readings.{put_prop, put_reverse}
use Rattle.lf_expand.specs.RowData.{seen_props, seen_reverses, IsBelow, PropsWithin, ReversesWithin}
use Rattle.lf_expand.specs.ReadingData.{has_key}

module _ {T : Type 0} where
  -- a key is there after a put where it is the key or was there before
  pub has_put : (key : List ℕ) (v : T) (es : List (Entry T)) (name : List ℕ) → has_key name (put_entry key v es) ≡ (text_eq name key || has_key name es)
  has_put key v es name = go (text_eq name key) refl
    where
      go : (b : Bool) → text_eq name key ≡ b → has_key name (put_entry key v es) ≡ (b || has_key name es)
      go true e = subst (λ k. has_key k (put_entry key v es) ≡ true) (sym ((bytes_decides name key).0 e)) (ap is_some (value_put key v es))
      go false e = ap is_some (value_of_others name key v es (λ same. true≢false (sym ((bytes_decides name key).1 same) ∙ e)))

pub seen_put : (sub : Numbered) (key : List ℕ) (v : Option ℕ) (es : List (Entry (Option ℕ))) → seen_props sub (put_entry key v es) ≡ put_prop key (sub_frame sub v) (seen_props sub es)
seen_put sub key v [] = refl
seen_put sub key v (e ∷ es) = go (text_cmp key e.key) (seen_put sub key v es)
  where
    go : (r : Ordering) → seen_props sub (put_entry key v es) ≡ put_prop key (sub_frame sub v) (seen_props sub es) →
        seen_props sub (match_ordering r (entry key v ∷ e ∷ es) (entry key v ∷ es) (e ∷ put_entry key v es))
        ≡ match_ordering r (prop key (sub_frame sub v) (prop e.key (sub_frame sub e.value) (seen_props sub es))) (prop key (sub_frame sub v) (seen_props sub es)) (prop e.key (sub_frame sub e.value) (put_prop key (sub_frame sub v) (seen_props sub es)))
    go Less h = refl
    go Equal h = refl
    go Greater h = ap (prop e.key (sub_frame sub e.value)) h

pub seen_reverse_put : (sub : Numbered) (key : List ℕ) (v : ℕ) (es : List (Entry ℕ)) → seen_reverses sub (put_entry key v es) ≡ put_reverse key (sub v) (seen_reverses sub es)
seen_reverse_put sub key v [] = refl
seen_reverse_put sub key v (e ∷ es) = go (text_cmp key e.key) (seen_reverse_put sub key v es)
  where
    go : (r : Ordering) → seen_reverses sub (put_entry key v es) ≡ put_reverse key (sub v) (seen_reverses sub es) →
        seen_reverses sub (match_ordering r (entry key v ∷ e ∷ es) (entry key v ∷ es) (e ∷ put_entry key v es))
        ≡ match_ordering r (reverse_prop key (sub v) (reverse_prop e.key (sub e.value) (seen_reverses sub es))) (reverse_prop key (sub v) (seen_reverses sub es)) (reverse_prop e.key (sub e.value) (put_reverse key (sub v) (seen_reverses sub es)))
    go Less h = refl
    go Equal h = refl
    go Greater h = ap (reverse_prop e.key (sub e.value)) h

pub props_put : (bound : ℕ) (key : List ℕ) (v : Option ℕ) (es : List (Entry (Option ℕ))) → IsBelow v bound → PropsWithin bound es → PropsWithin bound (put_entry key v es)
props_put bound key v [] here all = (here, tt)
props_put bound key v (e ∷ es) here all = go (text_cmp key e.key) (props_put bound key v es here all.1)
  where
    go : (r : Ordering) → PropsWithin bound (put_entry key v es) → PropsWithin bound (match_ordering r (entry key v ∷ e ∷ es) (entry key v ∷ es) (e ∷ put_entry key v es))
    go Less h = (here, all)
    go Equal h = (here, all.1)
    go Greater h = (all.0, h)

pub reverses_put : (bound : ℕ) (key : List ℕ) (v : ℕ) (es : List (Entry ℕ)) → v < bound → ReversesWithin bound es → ReversesWithin bound (put_entry key v es)
reverses_put bound key v [] here all = (here, tt)
reverses_put bound key v (e ∷ es) here all = go (text_cmp key e.key) (reverses_put bound key v es here all.1)
  where
    go : (r : Ordering) → ReversesWithin bound (put_entry key v es) → ReversesWithin bound (match_ordering r (entry key v ∷ e ∷ es) (entry key v ∷ es) (e ∷ put_entry key v es))
    go Less h = (here, all)
    go Equal h = (here, all.1)
    go Greater h = (all.0, h)

pub below_more : (v : Option ℕ) (bound more : ℕ) → bound ≤ more → IsBelow v bound → IsBelow v more
below_more (Some n) bound more le h = omega arith
below_more None bound more le h = tt

pub props_more : (bound more : ℕ) (es : List (Entry (Option ℕ))) → bound ≤ more → PropsWithin bound es → PropsWithin more es
props_more bound more [] le h = tt
props_more bound more (e ∷ es) le h = (below_more e.value bound more le h.0, props_more bound more es le h.1)

pub reverses_more : (bound more : ℕ) (es : List (Entry ℕ)) → bound ≤ more → ReversesWithin bound es → ReversesWithin more es
reverses_more bound more [] le h = tt
reverses_more bound more (e ∷ es) le h = (omega (arith, h.0), reverses_more bound more es le h.1)
