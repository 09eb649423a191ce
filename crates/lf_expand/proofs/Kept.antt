-- The keys that are kept, gathered one by one, say what the definition says of them all.
use Rattle.std.proofs.Common.{◌≡◌, Bool, true, false, not, ◌&&◌, ◌||◌, cond, List, [], ◌∷◌, codes, refl, sym, ap, ◌∙◌}
use Rattle.lf_expand.specs.declared.class.KeptKeys.{KeptKeys}
use Rattle.def_contexts.specs.FrameKeys.{Meaning, dropped, keyword, property, reverse_property, is_the_keyword, keep, is_set_only, has_keyword, class_of_kept, value_map, list_map, set_map, node_map}
use Rattle.lf_expand.specs.KeptKeys.{is_kept, nothing_kept, with_key, kept_keys, is_alone, class_by}

pub kept_more : (keys : KeptKeys) (m : Meaning) (b : Bool) (rest : List Meaning) → is_kept m b ≡ true → kept_keys keys (keep m b rest) ≡ kept_keys (with_key keys m) rest
kept_more keys dropped b rest e = absurd (cc)
kept_more keys (keyword name) b rest e = refl
kept_more keys (property iri term) true rest e = absurd (cc)
kept_more keys (property iri term) false rest e = refl
kept_more keys (reverse_property iri) b rest e = refl

pub kept_past : (keys : KeptKeys) (m : Meaning) (b : Bool) (rest : List Meaning) → is_kept m b ≡ false → kept_keys keys (keep m b rest) ≡ kept_keys keys rest
kept_past keys dropped b rest e = refl
kept_past keys (keyword name) b rest e = absurd (cc)
kept_past keys (property iri term) true rest e = refl
kept_past keys (property iri term) false rest e = absurd (cc)
kept_past keys (reverse_property iri) b rest e = absurd (cc)

and_false : (a b : Bool) → ((a && not true) && b) ≡ false
and_false true b = refl
and_false false b = refl

or_true : (a : Bool) → (a || true) ≡ true
or_true true = refl
or_true false = refl

-- two keys are kept
several : (keys : KeptKeys) (ms : List Meaning) → keys.more ≡ true → is_alone (kept_keys keys ms) ≡ false
several keys [] e = rw e (and_false keys.any keys.set_first)
several keys (m ∷ ms) e = several (with_key keys m) ms (ap (λ b. b || keys.any) e)

pub alone_is : (ms : List Meaning) → is_set_only ms ≡ is_alone (kept_keys nothing_kept ms)
alone_is [] = refl
alone_is (m ∷ []) = refl
alone_is (m ∷ n ∷ ms) = sym (several (with_key (with_key nothing_kept m) n) ms refl)

or_step : (v a b x y : Bool) → (((v || a) || b) || (x || y)) ≡ (v || ((a || x) || (b || y)))
or_step true a b x y = refl
or_step false true b x y = or_first b (x || y)
  where
    or_first : (b c : Bool) → ((true || b) || c) ≡ true
    or_first b c = refl
or_step false false true x y = sym (or_true x)
or_step false false false x y = refl

of_values : (keys : KeptKeys) (ms : List Meaning) → (kept_keys keys ms).of_value ≡ (keys.of_value || (has_keyword (codes "@value") ms || has_keyword (codes "@language") ms))
of_values keys [] = sym (or_false keys.of_value)
  where
    or_false : (a : Bool) → (a || (false || false)) ≡ a
    or_false true = refl
    or_false false = refl
of_values keys (m ∷ ms) =
    of_values (with_key keys m) ms
    ∙ or_step keys.of_value (is_the_keyword (codes "@value") m) (is_the_keyword (codes "@language") m) (has_keyword (codes "@value") ms) (has_keyword (codes "@language") ms)

or_assoc : (a b c : Bool) → ((a || b) || c) ≡ (a || (b || c))
or_assoc true b c = refl
or_assoc false b c = refl

of_lists : (keys : KeptKeys) (ms : List Meaning) → (kept_keys keys ms).of_list ≡ (keys.of_list || has_keyword (codes "@list") ms)
of_lists keys [] = sym (or_false keys.of_list)
  where
    or_false : (a : Bool) → (a || false) ≡ a
    or_false true = refl
    or_false false = refl
of_lists keys (m ∷ ms) =
    of_lists (with_key keys m) ms ∙ or_assoc keys.of_list (is_the_keyword (codes "@list") m) (has_keyword (codes "@list") ms)

pub class_is : (ms : List Meaning) → class_of_kept ms ≡ class_by (kept_keys nothing_kept ms)
class_is ms =
    ap (λ b. cond b value_map (cond (has_keyword (codes "@list") ms) list_map (cond (is_set_only ms) set_map node_map))) (sym (of_values nothing_kept ms))
    ∙ ap (λ b. cond (kept_keys nothing_kept ms).of_value value_map (cond b list_map (cond (is_set_only ms) set_map node_map))) (sym (of_lists nothing_kept ms))
    ∙ ap (λ b. cond (kept_keys nothing_kept ms).of_value value_map (cond (kept_keys nothing_kept ms).of_list list_map (cond b set_map node_map))) (alone_is ms)

pub both_ways : (a b : Bool) → b ≡ true → (a && b) ≡ a
both_ways true b e = e
both_ways false b e = refl

pub not_both : (a b : Bool) → b ≡ false → (a && b) ≡ false
not_both true b e = e
not_both false b e = refl
