-- A quad more and a quad less, in each order and among the names.
use Rattle.std.proofs.Common.{◌≡◌, refl, sym, ◌∙◌, ap, subst, ℕ, suc, ◌+◌, ◌-◌, List, [], ◌∷◌, length, Bool, true, false, not, ◌&&◌, ◌||◌, cond, Option, Some, None, Ordering, Less, Equal, Greater, is_some, arith}
use Rattle.std.specs.List.{AllByRecursion}
use Rattle.std.specs.List.Sorted.{IsStrictlySortedBy}
use Rattle.std.specs.Ordering.{is_eq, match_ordering, ordering_reverse}
use Rattle.std.specs.Option.{option_copied}
use denote.Ref.{Bor}
use Rattle.std.proofs.lemmas.Bool.{true≢false, false≢true}
use Rattle.lf_rdf.specs.declared.term.Term.{Term}
use Rattle.lf_rdf.specs.declared.quad.Quad.{Quad}
use Rattle.lf_rdf.specs.declared.question.GraphRef.TheVariants as graph
use Rattle.lf_rdf.specs.Equality.{term_eq, quad_eq, option_eq}
use Rattle.def_datasets.specs.Sorted.{has, without, placed}
use Rattle.def_datasets.specs.Order.{quad_cmp}
use Rattle.def_datasets.specs.Dataset.{is_dataset, holds, with_quad}
use Rattle.def_datasets.specs.Terms.{lies_in}
use Rattle.def_datasets.specs.Questions.{named}
use Rattle.def_datasets.proofs.Bools.{or_absorb, or_swap}
use Rattle.def_datasets.proofs.SortedLaws.{IsStrict, same_members, ascends-set_of, ascends-put, ascends-filter, has-put, has-without}
use Rattle.def_datasets.proofs.OrderLaws.{quad_strict, quad_decides, term_decides}
use Rattle.lf_ptree.specs.Pairs.{Ascends, keys, put_pair, without_key, value_at}
use Rattle.lf_index.specs.Orders.{term_order, subject_order, object_order, graph_order}
use Rattle.lf_index.specs.Indexed.{SetOf, quads_of, IsIndexed, with_label, without_label}
use Rattle.lf_index.proofs.OrderLemmas.{term_strictly, subject_strictly, object_strictly, graph_strictly}
use Rattle.lf_order.proofs.SetLemmas.{has-set_of, same_ties, any_alike, or_false}

-- ---- a key more and a key less

pull : (a b c : Bool) → (a ≡ true → c ≡ false) → (a || (b && not c)) ≡ ((a || b) && not c)
pull true b true g = absurd (true≢false (g refl))
pull true b false g = refl
pull false b c g = refl

drop_one : (a b : Bool) → (b && not a) ≡ ((a || b) && not a)
drop_one true true = refl
drop_one true false = refl
drop_one false b = refl

module _ {K : Type 0} {same : K → K → Bool} {cmp : K → K → Ordering} (o : IsStrict same cmp) where
  less_apart : (f k z : K) → cmp f k ≡ Less → same z f ≡ true → same z k ≡ false
  less_apart f k z e s = go (same z k) refl
    where
      go : (b : Bool) → same z k ≡ b → b ≡ false
      go true t =
          let zf : z ≡ f = (o.decides z f).0 s in
          let zk : z ≡ k = (o.decides z k).0 t in
          let fk : same f k ≡ true = (o.decides f k).1 (sym zf ∙ zk) in
          absurd (true≢false (sym fk ∙ (same_ties o f k ∙ ap is_eq e)))
      go false t = refl

module _ {K V : Type 0} {same : K → K → Bool} {cmp : K → K → Ordering} (o : IsStrict same cmp) where
  put_case : (k : K) (v : V) (f : K × V) (rest : List (K × V)) (z : K) (r : Ordering) → cmp f.0 k ≡ r
      → has same (keys (put_pair cmp k v rest)) z ≡ (same z k || has same (keys rest) z)
      → has same (keys (match_ordering r (f ∷ put_pair cmp k v rest) ((k, v) ∷ rest) ((k, v) ∷ f ∷ rest))) z ≡ (same z k || (same z f.0 || has same (keys rest) z))
  put_case k v f rest z Less e ih = ap (λ (w : Bool). same z f.0 || w) ih ∙ or_swap (same z f.0) (same z k) (has same (keys rest) z)
  put_case k v f rest z Equal e ih =
      subst (λ (w : K). (same z k || has same (keys rest) z) ≡ (same z k || (same z w || has same (keys rest) z))) (sym (o.tells f.0 k e)) (or_absorb (same z k) (has same (keys rest) z))
  put_case k v f rest z Greater e ih = refl

  pub has-put_pair : (k : K) (v : V) (es : List (K × V)) (z : K) → has same (keys (put_pair cmp k v es)) z ≡ (same z k || has same (keys es) z)
  has-put_pair k v [] z = refl
  has-put_pair k v (f ∷ rest) z = put_case k v f rest z (cmp f.0 k) refl (has-put_pair k v rest z)

  absent_from : (k z : K) (es : List (K × V)) → has same (keys es) k ≡ false → has same (keys es) z ≡ (has same (keys es) z && not (same z k))
  absent_from k z es out = go (same z k) refl
    where
      and_one : (a : Bool) → a ≡ (a && true)
      and_one true = refl
      and_one false = refl

      and_none : (a : Bool) → a ≡ false → a ≡ (a && false)
      and_none true e = e
      and_none false e = refl

      go : (b : Bool) → same z k ≡ b → has same (keys es) z ≡ (has same (keys es) z && not b)
      go true t = and_none (has same (keys es) z) (ap (has same (keys es)) ((o.decides z k).0 t) ∙ out)
      go false t = and_one (has same (keys es) z)

  none_at : (k : K) (es : List (K × V)) → AllByRecursion (λ y. cmp k y ≡ Less) (keys es) → has same (keys es) k ≡ false
  none_at k [] all = refl
  none_at k (e ∷ es) all = (λ i. first i || none_at k es all.1 i)
    where
      first : same k e.0 ≡ false
      first = same_ties o k e.0 ∙ ap is_eq all.0

  further : (k f : K) (es : List (K × V)) → cmp k f ≡ Less → AllByRecursion (λ y. cmp f y ≡ Less) (keys es) → AllByRecursion (λ y. cmp k y ≡ Less) (keys es)
  further k f [] less all = tt
  further k f (e ∷ es) less all = (o.total.trans k f e.0 less all.0, further k f es less all.1)

  pub has-without_key : (k : K) (es : List (K × V)) (z : K) → Ascends cmp es → has same (keys (without_key cmp k es)) z ≡ (has same (keys es) z && not (same z k))
  unfolding IsStrictlySortedBy
  has-without_key k [] z asc = refl
  has-without_key k (f ∷ rest) z asc = go (cmp f.0 k) refl (has-without_key k rest z asc.1)
    where
      go : (r : Ordering) → cmp f.0 k ≡ r → has same (keys (without_key cmp k rest)) z ≡ (has same (keys rest) z && not (same z k))
          → has same (keys (match_ordering r (f ∷ without_key cmp k rest) rest (f ∷ rest))) z ≡ ((same z f.0 || has same (keys rest) z) && not (same z k))
      go Less e ih =
          ap (λ (w : Bool). same z f.0 || w) ih ∙ pull (same z f.0) (has same (keys rest) z) (same z k) (less_apart o f.0 k z e)
      go Equal e ih =
          let is : f.0 ≡ k = o.tells f.0 k e in
          let out : has same (keys rest) k ≡ false = subst (λ (w : K). has same (keys rest) w ≡ false) is (none_at f.0 rest asc.0) in
          absent_from k z rest out ∙ drop_one (same z k) (has same (keys rest) z) ∙ ap (λ (w : K). (same z w || has same (keys rest) z) && not (same z k)) (sym is)
      go Greater e ih =
          let less : cmp k f.0 ≡ Less = o.total.antisymm k f.0 ∙ ap ordering_reverse e in
          absent_from k z (f ∷ rest) (none_at k (f ∷ rest) (less, further k f.0 rest less asc.0))

  pub value_held : (k : K) (es : List (K × V)) → is_some (value_at cmp k es) ≡ has same (keys es) k
  value_held k [] = refl
  value_held k (e ∷ es) =
      some_or (is_eq (cmp e.0 k)) e.1 (value_at cmp k es)
      ∙ (λ i. turned i || value_held k es i)
    where
      some_or : (b : Bool) (v : V) (r : Option V) → is_some (cond b (Some v) r) ≡ (b || is_some r)
      some_or true v r = refl
      some_or false v r = refl

      both_ways : (x y : K) (b c : Bool) → same x y ≡ b → same y x ≡ c → b ≡ c
      both_ways x y true true e f = refl
      both_ways x y true false e f = sym ((o.decides y x).1 (sym ((o.decides x y).0 e))) ∙ f
      both_ways x y false true e f = sym e ∙ (o.decides x y).1 (sym ((o.decides y x).0 f))
      both_ways x y false false e f = refl

      turned : is_eq (cmp e.0 k) ≡ same k e.0
      turned = sym (same_ties o e.0 k) ∙ both_ways e.0 k (same e.0 k) (same k e.0) refl refl

-- ---- counts

put_new_at : (q y : Quad) (ys later : List Quad) (r : Ordering) → quad_cmp q y ≡ r → quad_eq q y ≡ false
    → length later ≡ suc (length ys) → length (placed r q y ys later) ≡ suc (suc (length ys))
put_new_at q y ys later Less e apart ih = refl
put_new_at q y ys later Equal e apart ih = absurd (false≢true (sym apart ∙ (quad_decides q y).1 (quad_strict.tells q y e)))
put_new_at q y ys later Greater e apart ih = ap suc ih

or_false_both : (a b : Bool) → (a || b) ≡ false → (a ≡ false) × (b ≡ false)
or_false_both true b e = absurd (true≢false e)
or_false_both false b e = (refl, e)

pub put_new : (q : Quad) (d : List Quad) → holds d q ≡ false → length (with_quad q d) ≡ suc (length d)
put_new q [] e = refl
put_new q (y ∷ ys) e =
    let parts = or_false_both (quad_eq q y) (holds ys q) e in
    put_new_at q y ys (with_quad q ys) (quad_cmp q y) refl parts.0 (put_new q ys parts.1)

-- ---- the quads of a version

pub held : (es : SetOf Quad) (z : Quad) → holds (quads_of es) z ≡ holds (keys es) z
held es z = has-set_of quad_strict (keys es) z

pub quads_put : (q : Quad) (es : SetOf Quad) → quads_of (put_pair subject_order q tt es) ≡ with_quad q (quads_of es)
quads_put q es =
    same_members quad_strict (quads_of (put_pair subject_order q tt es)) (with_quad q (quads_of es))
    (ascends-set_of quad_strict (keys (put_pair subject_order q tt es))) (ascends-put quad_strict q (quads_of es) (ascends-set_of quad_strict (keys es)))
    (λ z. held (put_pair subject_order q tt es) z
    ∙ (has-put_pair subject_strictly q tt es z ∙ (ap (λ (w : Bool). quad_eq z q || w) (sym (held es z)) ∙ sym (has-put quad_strict q (quads_of es) z))))

absorbed : (a b : Bool) → (a ≡ true → b ≡ true) → (a || b) ≡ b
absorbed true b f = sym (f refl)
absorbed false b f = refl

-- a quad that is there is put in vain
pub put_present : (q : Quad) (d : List Quad) → is_dataset d ≡ true → holds d q ≡ true → with_quad q d ≡ d
put_present q d asc here =
    same_members quad_strict (with_quad q d) d (ascends-put quad_strict q d asc) asc
    (λ z. has-put quad_strict q d z ∙ absorbed (quad_eq z q) (holds d z) (λ e. ap (holds d) ((quad_decides z q).0 e) ∙ here))

alone : (a b : Bool) → (b ≡ true → a ≡ false) → (a && not b) ≡ a
alone true true f = sym (f refl)
alone false true f = refl
alone true false f = refl
alone false false f = refl

-- a quad that is not there is taken out in vain
pub without_absent : (q : Quad) (d : List Quad) → is_dataset d ≡ true → holds d q ≡ false → without quad_eq d (q ∷ []) ≡ d
without_absent q d asc out =
    same_members quad_strict (without quad_eq d (q ∷ [])) d (ascends-filter quad_strict (λ x. not (holds (q ∷ []) x)) d asc) asc
    (λ z. has-without quad_strict d (q ∷ []) z
    ∙ alone (holds d z) (holds (q ∷ []) z) (λ e. ap (holds d) ((quad_decides z q).0 (sym (or_false (quad_eq z q)) ∙ e)) ∙ out))

less_one : (es : SetOf Quad) (q z : Quad) → (holds (keys es) z && not (quad_eq z q)) ≡ (holds (quads_of es) z && not (holds (q ∷ []) z))
less_one es q z = λ i. sym (held es z) i && not (sym (or_false (quad_eq z q)) i)

pub quads_without : (q : Quad) (es : SetOf Quad) → Ascends subject_order es → quads_of (without_key subject_order q es) ≡ without quad_eq (quads_of es) (q ∷ [])
quads_without q es asc =
    same_members quad_strict (quads_of (without_key subject_order q es)) (without quad_eq (quads_of es) (q ∷ []))
    (ascends-set_of quad_strict (keys (without_key subject_order q es)))
    (ascends-filter quad_strict (λ x. not (holds (q ∷ []) x)) (quads_of es) (ascends-set_of quad_strict (keys es)))
    (λ z. held (without_key subject_order q es) z
    ∙ (has-without_key subject_strictly q es z asc ∙ (less_one es q z ∙ sym (has-without quad_strict (quads_of es) (q ∷ []) z))))

-- ---- names

-- the quads of a version that has a quad are that quad and those without it
one_and_rest : (q : Quad) (es : SetOf Quad) → Ascends subject_order es → holds (keys es) q ≡ true → (z : Quad)
    → holds (keys es) z ≡ holds (q ∷ keys (without_key subject_order q es)) z
one_and_rest q es asc here z =
    back (quad_eq z q) (holds (keys es) z) (λ e. ap (holds (keys es)) ((quad_decides z q).0 e) ∙ here)
    ∙ ap (λ (w : Bool). quad_eq z q || w) (sym (has-without_key subject_strictly q es z asc))
  where
    back : (a b : Bool) → (a ≡ true → b ≡ true) → b ≡ (a || (b && not a))
    back true b f = f refl
    back false true f = refl
    back false false f = refl

named_put : (q : Quad) (es : SetOf Quad) (t : Term) → named (keys (put_pair subject_order q tt es)) t ≡ (lies_in (graph.Named t) q || named (keys es) t)
named_put q es t =
    any_alike quad_strict (lies_in (graph.Named t)) (keys (put_pair subject_order q tt es)) (q ∷ keys es) (λ z. has-put_pair subject_strictly q tt es z)

named_split : (q : Quad) (es : SetOf Quad) (t : Term) → Ascends subject_order es → holds (keys es) q ≡ true
    → named (keys es) t ≡ (lies_in (graph.Named t) q || named (keys (without_key subject_order q es)) t)
named_split q es t asc here =
    any_alike quad_strict (lies_in (graph.Named t)) (keys es) (q ∷ keys (without_key subject_order q es)) (one_and_rest q es asc here)

label_told : (label : Option Term) (names : SetOf Term) (t : Term) → has term_eq (keys (with_label label names)) t ≡ (option_eq term_eq (Some t) label || has term_eq (keys names) t)
label_told None names t = refl
label_told (Some name) names t = has-put_pair term_strictly name tt names t

label_gone : (label : Option Term) (names : SetOf Term) (quads : List Quad) (t : Term) (before after : Bool) → Ascends term_order names
    → has term_eq (keys names) t ≡ before → before ≡ (option_eq term_eq (Some t) label || after)
    → ((name : Term) → term_eq t name ≡ true → after ≡ named quads name)
    → has term_eq (keys (without_label label quads names)) t ≡ after
label_gone None names quads t before after asc told split at = told ∙ split
label_gone (Some name) names quads t before after asc told split at = go (named quads name) refl
  where
    stays : (a b : Bool) → (a ≡ true → b ≡ true) → (a || b) ≡ b
    stays true b f = sym (f refl)
    stays false b f = refl

    goes : (a b : Bool) → (a ≡ true → b ≡ false) → ((a || b) && not a) ≡ b
    goes true b f = sym (f refl)
    goes false true f = refl
    goes false false f = refl

    go : (b : Bool) → named quads name ≡ b → has term_eq (keys (cond b names (without_key term_order name names))) t ≡ after
    go true e = told ∙ (split ∙ stays (term_eq t name) after (λ s. at name s ∙ e))
    go false e =
        has-without_key term_strictly name names t asc
        ∙ (ap (λ (w : Bool). w && not (term_eq t name)) (told ∙ split) ∙ goes (term_eq t name) after (λ s. at name s ∙ e))

-- ---- the invariant

pub indexed_empty : IsIndexed [] [] [] [] 0
indexed_empty = record { objects_alike = λ q. refl; graphs_alike = λ q. refl; names_told = λ t. refl; counted = refl }

pub indexed_put : (q : Quad) (subjects objects graphs : SetOf Quad) (names : SetOf Term) (count : ℕ) → IsIndexed subjects objects graphs names count
    → holds (keys subjects) q ≡ false
    → IsIndexed (put_pair subject_order q tt subjects) (put_pair object_order q tt objects) (put_pair graph_order q tt graphs) (with_label q.graph names) (count + 1)
indexed_put q subjects objects graphs names count i out =
    record {
      objects_alike = λ z.
          has-put_pair object_strictly q tt objects z ∙ (ap (λ (w : Bool). quad_eq z q || w) (i.objects_alike z) ∙ sym (has-put_pair subject_strictly q tt subjects z));
      graphs_alike = λ z.
          has-put_pair graph_strictly q tt graphs z ∙ (ap (λ (w : Bool). quad_eq z q || w) (i.graphs_alike z) ∙ sym (has-put_pair subject_strictly q tt subjects z));
      names_told = λ t.
          label_told q.graph names t ∙ (ap (λ (w : Bool). lies_in (graph.Named t) q || w) (i.names_told t) ∙ sym (named_put q subjects t));
      counted =
          let grown : length (quads_of (put_pair subject_order q tt subjects)) ≡ suc (length (quads_of subjects)) =
          ap length (quads_put q subjects) ∙ put_new q (quads_of subjects) (held subjects q ∙ out) in
          omega (arith, i.counted, grown);
    }

and_less : (es fs : SetOf Quad) (q z : Quad) → holds (keys es) z ≡ holds (keys fs) z → (holds (keys es) z && not (quad_eq z q)) ≡ (holds (keys fs) z && not (quad_eq z q))
and_less es fs q z e = ap (λ (w : Bool). w && not (quad_eq z q)) e

pub indexed_without : (q : Quad) (subjects objects graphs : SetOf Quad) (names : SetOf Term) (count : ℕ) → IsIndexed subjects objects graphs names count
    → Ascends subject_order subjects → Ascends object_order objects → Ascends graph_order graphs → Ascends term_order names
    → holds (keys subjects) q ≡ true
    → IsIndexed (without_key subject_order q subjects) (without_key object_order q objects) (without_key graph_order q graphs)
    (without_label q.graph (keys (without_key graph_order q graphs)) names) (count - 1)
indexed_without q subjects objects graphs names count i by_s by_o by_g by_n here =
    record {
      objects_alike = λ z.
          has-without_key object_strictly q objects z by_o ∙ (and_less objects subjects q z (i.objects_alike z) ∙ sym (has-without_key subject_strictly q subjects z by_s));
      graphs_alike = in_graphs;
      names_told = λ t.
          label_gone q.graph names (keys (without_key graph_order q graphs)) t (named (keys subjects) t) (named (keys (without_key subject_order q subjects)) t) by_n
          (i.names_told t) (named_split q subjects t by_s here)
          (λ name s. ap (named (keys (without_key subject_order q subjects))) ((term_decides t name).0 s)
          ∙ sym (any_alike quad_strict (lies_in (graph.Named name)) (keys (without_key graph_order q graphs)) (keys (without_key subject_order q subjects)) in_graphs));
      counted =
          let less : List Quad = quads_of (without_key subject_order q subjects) in
          let out : holds less q ≡ false = held (without_key subject_order q subjects) q ∙ (has-without_key subject_strictly q subjects q by_s ∙ itself (quad_eq q q) (holds (keys subjects) q) ((quad_decides q q).1 refl)) in
          let whole : with_quad q less ≡ quads_of subjects = regained in
          let grown : length (quads_of subjects) ≡ suc (length less) = sym (ap length whole) ∙ put_new q less out in
          omega (arith, i.counted, grown);
    }
  where
    itself : (a b : Bool) → a ≡ true → (b && not a) ≡ false
    itself true true e = refl
    itself true false e = refl
    itself false b e = absurd (false≢true e)

    in_graphs : (z : Quad) → holds (keys (without_key graph_order q graphs)) z ≡ holds (keys (without_key subject_order q subjects)) z
    in_graphs z = has-without_key graph_strictly q graphs z by_g ∙ (and_less graphs subjects q z (i.graphs_alike z) ∙ sym (has-without_key subject_strictly q subjects z by_s))

    regained : with_quad q (quads_of (without_key subject_order q subjects)) ≡ quads_of subjects
    regained =
        same_members quad_strict (with_quad q (quads_of (without_key subject_order q subjects))) (quads_of subjects)
        (ascends-put quad_strict q (quads_of (without_key subject_order q subjects)) (ascends-set_of quad_strict (keys (without_key subject_order q subjects))))
        (ascends-set_of quad_strict (keys subjects))
        (λ z. has-put quad_strict q (quads_of (without_key subject_order q subjects)) z
        ∙ (ap (λ (w : Bool). quad_eq z q || w) (held (without_key subject_order q subjects) z) ∙ (sym (one_and_rest q subjects by_s here z) ∙ sym (held subjects z))))

-- ---- the same, by the equations that calls give

pub indexed_same : (subjects objects graphs s o g : SetOf Quad) (names n : SetOf Term) (count : ℕ) → IsIndexed subjects objects graphs names count
    → s ≡ subjects → o ≡ objects → g ≡ graphs → n ≡ names → IsIndexed s o g n count
indexed_same subjects objects graphs s o g names n count i a b c d =
    subst (λ (w : SetOf Quad). IsIndexed w o g n count) (sym a)
    (subst (λ (w : SetOf Quad). IsIndexed subjects w g n count) (sym b)
    (subst (λ (w : SetOf Quad). IsIndexed subjects objects w n count) (sym c)
    (subst (λ (w : SetOf Term). IsIndexed subjects objects graphs w count) (sym d) i)))

pub indexed_put_by : (q o g : Quad) (subjects objects graphs : SetOf Quad) (names : SetOf Term) (count : ℕ) (s' o' g' : SetOf Quad) (n' : SetOf Term)
    → IsIndexed subjects objects graphs names count → holds (keys subjects) q ≡ false → o ≡ q → g ≡ q
    → s' ≡ put_pair subject_order q tt subjects → o' ≡ put_pair object_order o tt objects → g' ≡ put_pair graph_order g tt graphs → n' ≡ with_label g.graph names
    → IsIndexed s' o' g' n' (count + 1)
indexed_put_by q o g subjects objects graphs names count s' o' g' n' i out same_o same_g a b c d =
    indexed_same _ _ _ s' o' g' _ n' (count + 1) (indexed_put q subjects objects graphs names count i out) a
    (b ∙ ap (λ (w : Quad). put_pair object_order w tt objects) same_o) (c ∙ ap (λ (w : Quad). put_pair graph_order w tt graphs) same_g)
    (d ∙ ap (λ (w : Quad). with_label w.graph names) same_g)

pub indexed_without_by : (q o g : Quad) (subjects objects graphs : SetOf Quad) (names : SetOf Term) (count : ℕ) (s' o' g' : SetOf Quad) (n' : SetOf Term)
    → IsIndexed subjects objects graphs names count
    → Ascends subject_order subjects → Ascends object_order objects → Ascends graph_order graphs → Ascends term_order names
    → holds (keys subjects) q ≡ true → o ≡ q → g ≡ q
    → s' ≡ without_key subject_order q subjects → o' ≡ without_key object_order o objects → g' ≡ without_key graph_order g graphs
    → n' ≡ without_label g.graph (keys g') names
    → IsIndexed s' o' g' n' (count - 1)
indexed_without_by q o g subjects objects graphs names count s' o' g' n' i by_s by_o by_g by_n here same_o same_g a b c d =
    let to_g : g' ≡ without_key graph_order q graphs = c ∙ ap (λ (w : Quad). without_key graph_order w graphs) same_g in
    indexed_same _ _ _ s' o' g' _ n' (count - 1) (indexed_without q subjects objects graphs names count i by_s by_o by_g by_n here) a
    (b ∙ ap (λ (w : Quad). without_key object_order w objects) same_o) to_g
    (d ∙ (λ i. without_label (same_g i).graph (keys (to_g i)) names))

copied_some : {A : Type 0} (r : Option (Bor A)) → is_some (option_copied r) ≡ is_some r
copied_some None = refl
copied_some (Some x) = refl

-- a look among the quads tells whether one is held
pub look_told : (es : SetOf Quad) (q : Quad) (r : Option (Bor (Unit {0}))) → option_copied r ≡ value_at subject_order q es → is_some r ≡ holds (quads_of es) q
look_told es q r e = sym (copied_some r) ∙ (ap is_some e ∙ (value_held subject_strictly q es ∙ sym (held es q)))

-- a look among the names tells whether a graph is named
pub name_told : (names : SetOf Term) (quads : List Quad) (t : Term) (r : Option (Bor (Unit {0}))) → ((u : Term) → has term_eq (keys names) u ≡ named quads u)
    → option_copied r ≡ value_at term_order t names → is_some r ≡ named quads t
name_told names quads t r told e = sym (copied_some r) ∙ (ap is_some e ∙ (value_held term_strictly t names ∙ told t))
