-- Middle pages.
use Rattle.std.proofs.Common.{◌≡◌, ℕ, zero, suc, ◌<◌, List, [], ◌∷◌, ◌++◌, map, length, get_or, set, Result, Ok, Err, IfOk, refl, sym, ap, subst, ◌∙◌, append_assoc, arith, nat_eq, false, true≢false}
use Rattle.std.specs.List.{insert, AllByRecursion}
use Rattle.std.specs.Arc.{arc_value}
use Rattle.std.specs.declared.alloc.Global.{Global}
use Rattle.std.specs.declared.sync.Arc.{Arc}
use Rattle.std.proofs.lemmas.List.{map-append, map-set, append-nil}
use Rattle.std.specs.declared.cmp.Ordering.{Ordering}
use Rattle.std.proofs.Math.ListN.{get_or-map}
use Rattle.lf_ptree.specs.declared.page.Page.{Page}
use Rattle.lf_ptree.specs.declared.root.Middle.{Middle}
use Rattle.lf_ptree.specs.Pages.{join, flat, groups, HasPair, page_pairs}
use Rattle.lf_ptree.specs.Roots.{mid_pairs, mid_groups, all_pairs, HasFullPages, AllFull, IsGathering, IsRoot}
use Rattle.lf_ptree.proofs.PairsLemmas.{map-insert}
use Rattle.lf_ptree.proofs.PagesLemmas.{all_front, all_back, all_both, no_group}

pub mids_alike : {K V : Type 0} (ms : List (Arc (Middle K V) Global)) → map (λ m. mid_pairs (arc_value m)) ms ≡ mid_groups ms
mids_alike [] = refl
mids_alike (m ∷ ms) = ap (λ gs. mid_pairs (arc_value m) ∷ gs) (mids_alike ms)

pub mid_group : {K V : Type 0} (ms : List (Arc (Middle K V) Global)) (n : ℕ) (p : Arc (Middle K V) Global) (middle : Middle K V) (pages : List (Arc (Page K V) Global)) → pages ≡ middle.pages.items → middle ≡ arc_value p → p ≡ get_or ms n p
    → flat pages ≡ get_or (mid_groups ms) n (mid_pairs (arc_value p))
mid_group ms n p middle pages of_middle of_handle here =
    ap flat of_middle ∙ ap mid_pairs (of_handle ∙ ap arc_value here ∙ sym (get_or-map arc_value ms n p)) ∙ sym (get_or-map mid_pairs (map arc_value ms) n (arc_value p))

pub mids_set : {K V : Type 0} (ms made : List (Arc (Middle K V) Global)) (n : ℕ) (m : Middle K V) → map arc_value made ≡ set (map arc_value ms) n m → mid_groups made ≡ set (mid_groups ms) n (mid_pairs m)
mids_set ms made n m e = ap (map mid_pairs) e ∙ map-set mid_pairs (map arc_value ms) n m

pub mids_insert : {K V : Type 0} (ms made : List (Arc (Middle K V) Global)) (n : ℕ) (m : Middle K V) → map arc_value made ≡ insert (map arc_value ms) n m → mid_groups made ≡ insert (mid_groups ms) n (mid_pairs m)
mids_insert ms made n m e = ap (map mid_pairs) e ∙ map-insert mid_pairs (map arc_value ms) n m

full_at_place : {K V : Type 0} (ms : List (Arc (Middle K V) Global)) (n : ℕ) (d : Arc (Middle K V) Global) → AllFull ms → n < length ms → HasFullPages (arc_value (get_or ms n d)).pages.items
full_at_place [] n d full within = absurd (omega arith)
full_at_place (m ∷ ms) zero d full within = full.0
full_at_place (m ∷ ms) (suc n) d full within = full_at_place ms n d full.1 (omega arith)

pub full_at : {K V : Type 0} (ms : List (Arc (Middle K V) Global)) (n : ℕ) (p : Arc (Middle K V) Global) (middle : Middle K V) (pages : List (Arc (Page K V) Global)) → AllFull ms → n < length ms → pages ≡ middle.pages.items → middle ≡ arc_value p → p ≡ get_or ms n p
    → HasFullPages pages
full_at ms n p middle pages full within of_middle of_handle here =
    subst HasFullPages (sym (of_middle ∙ ap (λ m. m.pages.items) (of_handle ∙ ap arc_value here))) (full_at_place ms n p full within)

all_set : {P : Type 0} (Q : P → Type 0) (xs : List P) (n : ℕ) (x : P) → AllByRecursion Q xs → Q x → AllByRecursion Q (set xs n x)
all_set Q [] n x all q = tt
all_set Q (y ∷ ys) zero x all q = (q, all.1)
all_set Q (y ∷ ys) (suc n) x all q = (all.0, all_set Q ys n x all.1 q)

all_insert : {P : Type 0} (Q : P → Type 0) (xs : List P) (n : ℕ) (x : P) → AllByRecursion Q xs → Q x → AllByRecursion Q (insert xs n x)
all_insert Q xs zero x all q = (q, all)
all_insert Q [] (suc n) x all q = (q, tt)
all_insert Q (y ∷ ys) (suc n) x all q = (all.0, all_insert Q ys n x all.1 q)

groups-append : {K V : Type 0} (xs ys : List (Arc (Page K V) Global)) → groups (xs ++ ys) ≡ groups xs ++ groups ys
groups-append xs ys = ap (map page_pairs) (map-append arc_value xs ys) ∙ map-append page_pairs (map arc_value xs) (map arc_value ys)

pub full_front : {K V : Type 0} (xs ys all : List (Arc (Page K V) Global)) → all ≡ xs ++ ys → HasFullPages all → HasFullPages xs
full_front xs ys all e full = all_front HasPair (groups xs) (groups ys) (subst (AllByRecursion HasPair) (ap groups e ∙ groups-append xs ys) full)

pub full_back : {K V : Type 0} (xs ys all : List (Arc (Page K V) Global)) → all ≡ xs ++ ys → HasFullPages all → HasFullPages ys
full_back xs ys all e full = all_back HasPair (groups xs) (groups ys) (subst (AllByRecursion HasPair) (ap groups e ∙ groups-append xs ys) full)

join-append : {P : Type 0} (xs ys : List (List P)) → join (xs ++ ys) ≡ join xs ++ join ys
join-append [] ys = refl
join-append (x ∷ xs) ys = ap (λ l. x ++ l) (join-append xs ys) ∙ sym (append_assoc x (join xs) (join ys))

pub flat-append : {K V : Type 0} (xs ys : List (Arc (Page K V) Global)) → flat (xs ++ ys) ≡ flat xs ++ flat ys
flat-append xs ys = ap join (groups-append xs ys) ∙ join-append (groups xs) (groups ys)

front_pair : {P : Type 0} (g rest : List P) → HasPair g → HasPair (g ++ rest)
front_pair [] rest h = absurd h
front_pair (x ∷ xs) rest h = tt

pub full_has_pair : {K V : Type 0} (pages : List (Arc (Page K V) Global)) → 0 < length pages → HasFullPages pages → HasPair (flat pages)
full_has_pair [] some full = absurd (omega arith)
full_has_pair (p ∷ ps) some full = front_pair (page_pairs (arc_value p)) (flat ps) full.0

pub full_set : {K V : Type 0} (ms made : List (Arc (Middle K V) Global)) (n : ℕ) (m : Middle K V) → map arc_value made ≡ set (map arc_value ms) n m → HasFullPages m.pages.items → AllFull ms → AllFull made
full_set ms made n m e here full = subst (AllByRecursion (λ x. HasFullPages x.pages.items)) (sym e) (all_set (λ x. HasFullPages x.pages.items) (map arc_value ms) n m full here)

pub full_insert : {K V : Type 0} (ms made : List (Arc (Middle K V) Global)) (n : ℕ) (m : Middle K V) → map arc_value made ≡ insert (map arc_value ms) n m → HasFullPages m.pages.items → AllFull ms → AllFull made
full_insert ms made n m e here full = subst (AllByRecursion (λ x. HasFullPages x.pages.items)) (sym e) (all_insert (λ x. HasFullPages x.pages.items) (map arc_value ms) n m full here)

pub both_ok : {T E : Type 0} (r : Result T E) (P Q : T → Type 0) → IfOk r P → IfOk r Q → IfOk r (λ x. P x × Q x)
both_ok (Ok x) P Q p q = (p, q)
both_ok (Err e) P Q p q = tt

-- ---- middle pages that are built

all_more : {P : Type 0} (Q : P → Type 0) (xs : List P) (x : P) → AllByRecursion Q xs → Q x → AllByRecursion Q (xs ++ x ∷ [])
all_more Q xs x all q = all_both Q xs (x ∷ []) all (q, tt)

join-more : {P : Type 0} (gs : List (List P)) (g : List P) → join (gs ++ g ∷ []) ≡ join gs ++ g
join-more gs g = join-append gs (g ∷ []) ∙ ap (λ l. join gs ++ l) (append-nil g)

pub not_zero : (n : ℕ) → nat_eq n 0 ≡ false → 0 < n
not_zero zero e = absurd (true≢false e)
not_zero (suc n) e = omega arith

module _ {K V : Type 0} where
  pub gathering_more : (closed : List (Arc (Middle K V) Global)) (gathered left later more all : List (Arc (Page K V) Global)) (x : Arc (Page K V) Global)
      → IsGathering closed gathered left all → left ≡ x ∷ later → more ≡ gathered ++ x ∷ [] → IsGathering closed more later all
  gathering_more closed gathered left later more all x h front grown =
      let both = subst HasFullPages front h.left_full in
      record {
        full = h.full;
        no_empty = h.no_empty;
        gathered_full = subst HasFullPages (sym grown) (subst (AllByRecursion HasPair) (sym (groups-append gathered (x ∷ []))) (all_more HasPair (groups gathered) (page_pairs (arc_value x)) h.gathered_full both.0));
        left_full = both.1;
        whole =
            ap (λ l. all_pairs closed ++ (flat l ++ flat later)) grown
            ∙ ap (λ l. all_pairs closed ++ l) (sym (flat-append (gathered ++ x ∷ []) later) ∙ ap flat (append_assoc gathered (x ∷ []) later ∙ ap (λ l. gathered ++ l) (sym front)) ∙ flat-append gathered left)
            ∙ h.whole;
      }

  pub gathering_closed : (closed new : List (Arc (Middle K V) Global)) (gathered left all none : List (Arc (Page K V) Global)) (m : Middle K V)
      → IsGathering closed gathered left all → 0 < length gathered → m.pages.items ≡ gathered → map arc_value new ≡ map arc_value closed ++ m ∷ [] → none ≡ [] → IsGathering new none left all
  gathering_closed closed new gathered left all none m h some is grown empty =
      let gs : mid_groups new ≡ mid_groups closed ++ mid_pairs m ∷ [] = ap (map mid_pairs) grown ∙ map-append mid_pairs (map arc_value closed) (m ∷ []) in
      let here : mid_pairs m ≡ flat gathered = ap flat is in
      record {
        full = subst (AllByRecursion (λ x. HasFullPages x.pages.items)) (sym grown) (all_more (λ x. HasFullPages x.pages.items) (map arc_value closed) m h.full (subst HasFullPages (sym is) h.gathered_full));
        no_empty = subst (AllByRecursion HasPair) (sym gs) (all_more HasPair (mid_groups closed) (mid_pairs m) h.no_empty (subst HasPair (sym here) (full_has_pair gathered some h.gathered_full)));
        gathered_full = subst HasFullPages (sym empty) tt;
        left_full = h.left_full;
        whole =
            ap (λ l. all_pairs new ++ (flat l ++ flat left)) empty
            ∙ ap (λ l. join l ++ flat left) gs
            ∙ ap (λ l. l ++ flat left) (join-more (mid_groups closed) (mid_pairs m) ∙ ap (λ l. all_pairs closed ++ l) here)
            ∙ append_assoc (all_pairs closed) (flat gathered) (flat left)
            ∙ h.whole;
      }

  pub gathered_all : (closed : List (Arc (Middle K V) Global)) (all : List (Arc (Page K V) Global)) → IsGathering closed [] [] all → all_pairs closed ≡ flat all
  gathered_all closed all h = sym (append-nil (all_pairs closed)) ∙ h.whole

  pub gathering_starts : (closed : List (Arc (Middle K V) Global)) (gathered left all : List (Arc (Page K V) Global)) → closed ≡ [] → gathered ≡ [] → left ≡ all → HasFullPages all → IsGathering closed gathered left all
  gathering_starts closed gathered left all none empty same full =
      record {
        full = subst AllFull (sym none) tt;
        no_empty = subst (λ c. AllByRecursion HasPair (mid_groups c)) (sym none) tt;
        gathered_full = subst HasFullPages (sym empty) tt;
        left_full = subst HasFullPages (sym same) full;
        whole = ap (λ c. all_pairs c ++ (flat gathered ++ flat left)) none ∙ ap (λ l. flat l ++ flat left) empty ∙ ap flat same;
      }

  pub no_gathered : (closed : List (Arc (Middle K V) Global)) (gathered none all : List (Arc (Page K V) Global)) → gathered ≡ [] → none ≡ [] → IsGathering closed gathered none all → IsGathering closed [] [] all
  no_gathered closed gathered none all e f h = subst (λ l. IsGathering closed [] l all) f (subst (λ l. IsGathering closed l none all) e h)

pub no_root : {K V : Type 0} (cmp : K → K → Ordering) → IsRoot {K = K} {V = V} cmp []
no_root cmp = record { full = tt; grouped = no_group cmp }
