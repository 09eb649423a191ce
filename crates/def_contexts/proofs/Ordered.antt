-- Tables stay in byte order as terms are put in and taken out.
use Rattle.std.proofs.Common.{◌≡◌, Bool, true, false, ◌&&◌, List, [], ◌∷◌, filter, cond, refl, sym, ap, ◌∙◌, true≢false, Ordering, Less, Equal, Greater, is_lt, nat_cmp}
use Rattle.std.specs.List.{list_all}
use Rattle.std.specs.Ordering.{match_ordering, ordering_reverse}
use Rattle.std.specs.Cmp.Lexicographic.{slice_cmp, nat_list_cmp_total}
use Rattle.lf_model.specs.declared.table.TermDef.{TermDef}
use Rattle.def_contexts.specs.Drafts.{put_term}
use Rattle.def_contexts.specs.TableLaws.{is_before, ascends}
use Rattle.def_contexts.proofs.Expanding.{first_true, second_true}

pub both_true : (a b : Bool) → a ≡ true → b ≡ true → (a && b) ≡ true
both_true a b h k = rw (h, k) refl

abbrev compared : TermDef → TermDef → Ordering
compared d e = slice_cmp nat_cmp d.name e.name

less-before : (d e : TermDef) → compared d e ≡ Less → is_before d e ≡ true
less-before d e h = ap is_lt h

before-less : (d e : TermDef) → is_before d e ≡ true → compared d e ≡ Less
before-less d e h = by (compared d e) h
  where
    by : (o : Ordering) → is_lt o ≡ true → o ≡ Less
    by Less h = refl
    by Equal h = absurd (true≢false (sym h))
    by Greater h = absurd (true≢false (sym h))

greater-before : (d e : TermDef) → compared d e ≡ Greater → is_before e d ≡ true
greater-before d e h = less-before e d (nat_list_cmp_total.antisymm e.name d.name ∙ ap ordering_reverse h)

-- what holds of each term holds of each after one more is put in
pub all-put : (test : TermDef → Bool) (d : TermDef) (terms : List TermDef) → test d ≡ true → list_all test terms ≡ true → list_all test (put_term d terms) ≡ true
all-put test d [] here there = both_true (test d) true here refl
all-put test d (e ∷ rest) here there =
    by (compared d e) (all-put test d rest here (second_true (test e) (list_all test rest) there))
  where
    by : (o : Ordering) → list_all test (put_term d rest) ≡ true → list_all test (match_ordering o (d ∷ e ∷ rest) (d ∷ rest) (e ∷ put_term d rest)) ≡ true
    by Less later = both_true (test d) (test e && list_all test rest) here there
    by Equal later = both_true (test d) (list_all test rest) here (second_true (test e) (list_all test rest) there)
    by Greater later = both_true (test e) (list_all test (put_term d rest)) (first_true (test e) (list_all test rest) there) later

-- what stands before a term stands before all that the term stands before
before-all : (d e : TermDef) (terms : List TermDef) → is_before d e ≡ true → list_all (is_before e) terms ≡ true → list_all (is_before d) terms ≡ true
before-all d e [] h k = refl
before-all d e (f ∷ rest) h k =
    both_true (is_before d f) (list_all (is_before d) rest)
    (less-before d f (nat_list_cmp_total.trans d.name e.name f.name (before-less d e h) (before-less e f (first_true (is_before e f) (list_all (is_before e) rest) k))))
    (before-all d e rest h (second_true (is_before e f) (list_all (is_before e) rest) k))

-- terms of one name stand before the same terms
equal-all : (d e : TermDef) (terms : List TermDef) → compared d e ≡ Equal → list_all (is_before e) terms ≡ true → list_all (is_before d) terms ≡ true
equal-all d e [] h k = refl
equal-all d e (f ∷ rest) h k =
    both_true (is_before d f) (list_all (is_before d) rest)
    (ap is_lt (nat_list_cmp_total.congr d.name e.name f.name h) ∙ first_true (is_before e f) (list_all (is_before e) rest) k)
    (equal-all d e rest h (second_true (is_before e f) (list_all (is_before e) rest) k))

pub ascends-put : (d : TermDef) (terms : List TermDef) → ascends terms ≡ true → ascends (put_term d terms) ≡ true
ascends-put d [] h = refl
ascends-put d (e ∷ rest) h = by (compared d e) refl (ascends-put d rest (second_true (list_all (is_before e) rest) (ascends rest) h))
  where
    above : list_all (is_before e) rest ≡ true
    above = first_true (list_all (is_before e) rest) (ascends rest) h

    later : ascends rest ≡ true
    later = second_true (list_all (is_before e) rest) (ascends rest) h

    by : (o : Ordering) → compared d e ≡ o → ascends (put_term d rest) ≡ true → ascends (match_ordering o (d ∷ e ∷ rest) (d ∷ rest) (e ∷ put_term d rest)) ≡ true
    by Less c more =
        both_true (is_before d e && list_all (is_before d) rest) (ascends (e ∷ rest))
        (both_true (is_before d e) (list_all (is_before d) rest) (less-before d e c) (before-all d e rest (less-before d e c) above))
        h
    by Equal c more = both_true (list_all (is_before d) rest) (ascends rest) (equal-all d e rest c above) later
    by Greater c more =
        both_true (list_all (is_before e) (put_term d rest)) (ascends (put_term d rest))
        (all-put (is_before e) d rest (greater-before d e c) above) more

-- what holds of each term holds of those that a filter leaves
pub all-filter : (test keep : TermDef → Bool) (terms : List TermDef) → list_all test terms ≡ true → list_all test (filter keep terms) ≡ true
all-filter test keep [] h = refl
all-filter test keep (d ∷ rest) h = by (keep d) (all-filter test keep rest (second_true (test d) (list_all test rest) h))
  where
    by : (kept : Bool) → list_all test (filter keep rest) ≡ true → list_all test (cond kept (d ∷ filter keep rest) (filter keep rest)) ≡ true
    by true more = both_true (test d) (list_all test (filter keep rest)) (first_true (test d) (list_all test rest) h) more
    by false more = more

pub ascends-filter : (keep : TermDef → Bool) (terms : List TermDef) → ascends terms ≡ true → ascends (filter keep terms) ≡ true
ascends-filter keep [] h = refl
ascends-filter keep (d ∷ rest) h = by (keep d) (ascends-filter keep rest (second_true (list_all (is_before d) rest) (ascends rest) h))
  where
    by : (kept : Bool) → ascends (filter keep rest) ≡ true → ascends (cond kept (d ∷ filter keep rest) (filter keep rest)) ≡ true
    by true more =
        both_true (list_all (is_before d) (filter keep rest)) (ascends (filter keep rest))
        (all-filter (is_before d) keep rest (first_true (list_all (is_before d) rest) (ascends rest) h)) more
    by false more = more
