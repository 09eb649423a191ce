-- The keys of a graph among its nodes, and those of all graphs.
use Rattle.std.proofs.Common.{◌≡◌, refl, sym, ◌∙◌, ap, subst, cond, ℕ, suc, ◌+◌, ◌<◌, List, [], ◌∷◌, ◌++◌, length, filter, flat_map, take, Bool, true, false, not, ◌&&◌, ◌||◌, ⊎_elim, inr, get_or, if◌then◌else◌, Option, Some, None, is_some, arith}
use Rattle.std.specs.List.{list_any}
use Rattle.std.proofs.Math.Seq.{take-length, take-suc}
use Rattle.std.proofs.lemmas.Bool.{false≢true, and_parts, and_from, or_cases, or_left, or_right}
use Rattle.std.proofs.lemmas.Grind.{flat_map-append}
use Rattle.std.proofs.lemmas.List.{append_assoc, append-nil}
use Rattle.std.proofs.lemmas.List.Folds.{list_any_at}
use Rattle.lf_rdf.specs.declared.term.Term.{Term}
use Rattle.lf_rdf.specs.declared.quad.Quad.{Quad}
use Rattle.lf_rdf.specs.declared.question.GraphRef.{GraphRef}
use Rattle.lf_rdf.specs.declared.question.GraphRef.TheVariants as graph
use Rattle.lf_rdf.specs.declared.question.Question.{Question}
use Rattle.lf_rdf.specs.Vocabulary.{rdf_nil}
use Rattle.lf_rdf.specs.Equality.{term_eq, option_eq}
use Rattle.def_datasets.specs.Sorted.{has, set_of}
use Rattle.def_datasets.specs.Order.{id_cmp}
use Rattle.def_datasets.specs.Terms.{is_node, is_iri, tells_type, lies_in, label_terms, names, is_use, uses}
use Rattle.def_datasets.specs.Questions.{answers_of, members, named, nodes_in, out}
use Rattle.def_datasets.specs.Questions as ask_of
use Rattle.def_datasets.specs.Cells.{enough, is_cell}
use Rattle.def_datasets.specs.Views.{is_key, is_some_quad, keys, quads_of}
use Rattle.def_datasets.proofs.Bools.{same_truth}
use Rattle.def_datasets.proofs.SortedLaws.{ascends-set_of, has-filter, same_itself, same_members}
use Rattle.def_datasets.proofs.OrderLaws.{id_strict, term_decides}
use Rattle.def_datasets.proofs.QuestionProofs.{any-append}
use Rattle.def_datasets.proofs.ViewProofs.{any-filter, any-map, any_found, any_mono, keys_are_listed, keys_in_order, merged_keys}
use Rattle.lf_oracle.specs.Asking.{is_one_graph}
use Rattle.lf_oracle.specs.Nearby.{IsNearMembers}
use Rattle.lf_lists.specs.Hearing.{Hears}
use Rattle.lf_lists.specs.Learning.{NearTo}
use Rattle.lf_lists.specs.declared.known.KnownCells.{KnownCells}
use Rattle.lf_lists.specs.Known.{Knows}
use Rattle.lf_lists.proofs.Hearings.{followed, heard_as, holds_here, moved, unheard}
use Rattle.lf_order.proofs.SetLemmas.{has-set_of}
use Rattle.lf_nodes.specs.Keys.{key_quads, kept_if, names_in, used_in}
use Rattle.lf_nodes.specs.Among.{IsPut}
use Rattle.lf_nodes.specs.Pointing.{named_keys}
use Rattle.lf_nodes.proofs.Merging.{some-filter}
use Rattle.lf_nodes.proofs.OneGraph.{one_key}

-- ---- a node of a graph is a key where it isn't a cell

label_is : (name : Term) (label : Option Term) → has term_eq (label_terms label) name ≡ true → option_eq term_eq (Some name) label ≡ true
label_is name None e = absurd (false≢true e)
label_is name (Some other) e = or_false_from (term_eq name other) e
  where
    or_false_from : (b : Bool) → (b || false) ≡ true → b ≡ true
    or_false_from true k = refl
    or_false_from false k = k

label_has : (name : Term) (label : Option Term) → option_eq term_eq (Some name) label ≡ true → has term_eq (label_terms label) name ≡ true
label_has name None e = absurd (false≢true e)
label_has name (Some other) e = or_left (term_eq name other) false e

in_names : (d : List Quad) (t : Term) → has term_eq (names d) t ≡ list_any (λ q. has term_eq (label_terms q.graph) t) d
in_names d t = has-set_of id_strict (flat_map (λ q. label_terms q.graph) d) t ∙ any_flat (term_eq t) (λ q. label_terms q.graph) d
  where
    any_flat : (p : Term → Bool) (f : Quad → List Term) (xs : List Quad) → list_any p (flat_map f xs) ≡ list_any (λ x. list_any p (f x)) xs
    any_flat p f [] = refl
    any_flat p f (x ∷ xs) = any-append p (f x) (flat_map f xs) ∙ ap (λ (w : Bool). list_any p (f x) || w) (any_flat p f xs)

-- the names of graphs are those that name one
name_told : (d : List Quad) (t : Term) → has term_eq (names d) t ≡ true → named d t ≡ true
name_told d t e = any_mono (λ q. has term_eq (label_terms q.graph) t) (lies_in (graph.Named t)) (λ q h. label_is t q.graph h) d (sym (in_names d t) ∙ e)

name_listed : (d : List Quad) (t : Term) → named d t ≡ true → has term_eq (names d) t ≡ true
name_listed d t e = in_names d t ∙ any_mono (lies_in (graph.Named t)) (λ q. has term_eq (label_terms q.graph) t) (λ q h. label_has t q.graph h) d e

any_flat_terms : {A : Type 0} (p : Term → Bool) (f : A → List Term) (xs : List A) → list_any p (flat_map f xs) ≡ list_any (λ x. list_any p (f x)) xs
any_flat_terms p f [] = refl
any_flat_terms p f (x ∷ xs) = any-append p (f x) (flat_map f xs) ∙ ap (λ (w : Bool). list_any p (f x) || w) (any_flat_terms p f xs)

in_members : (d : List Quad) (g : GraphRef) (t : Term)
    → has term_eq (members d g) t ≡ (list_any (λ q. lies_in g q && has term_eq (nodes_in q) t) d || has term_eq (ask_of.names_in d g) t)
in_members d g t =
    has-set_of id_strict (flat_map nodes_in (filter (lies_in g) d) ++ ask_of.names_in d g) t
    ∙ (any-append (term_eq t) (flat_map nodes_in (filter (lies_in g) d)) (ask_of.names_in d g)
    ∙ ap (λ (w : Bool). w || has term_eq (ask_of.names_in d g) t)
    (any_flat_terms (term_eq t) nodes_in (filter (lies_in g) d) ∙ any-filter (λ q. has term_eq (nodes_in q) t) (lies_in g) d))

-- a node that a quad puts into its graph is its subject, or its object where it tells no type
object_case : (q : Quad) (t : Term) (r : Bool) → tells_type q ≡ r → has term_eq (if r then [] else q.object ∷ []) t ≡ true → is_use t q ≡ true
object_case q t true e h = absurd (false≢true h)
object_case q t false e h =
    let is : t ≡ q.object = (term_decides t q.object).0 (or_false_from (term_eq t q.object) h) in
    and_from (term_eq q.object t) (not (tells_type q)) ((term_decides q.object t).1 (sym is)) (ap not e)
  where
    or_false_from : (b : Bool) → (b || false) ≡ true → b ≡ true
    or_false_from true k = refl
    or_false_from false k = k

node_case : (q : Quad) (t : Term) → has term_eq (nodes_in q) t ≡ true → (term_eq q.subject t || is_use t q) ≡ true
node_case q t e =
    let all : List Term = q.subject ∷ (if tells_type q then [] else q.object ∷ []) in
    let parts = and_parts (is_node t) (has term_eq all t) (sym (has-filter id_strict is_node (q.subject ∷ (if tells_type q then [] else q.object ∷ [])) t) ∙ e) in
    ⊎_elim (λ s. or_left (term_eq q.subject t) (is_use t q) ((term_decides q.subject t).1 (sym ((term_decides t q.subject).0 s))))
    (λ o. or_right (term_eq q.subject t) (is_use t q) (object_case q t (tells_type q) refl o))
    (or_cases (term_eq t q.subject) (has term_eq (if tells_type q then [] else q.object ∷ []) t) parts.1)

default_named : (d : List Quad) (g : GraphRef) (t : Term) → is_one_graph g ≡ true → has term_eq (ask_of.names_in d g) t ≡ true → names_in d g t ≡ true
default_named d graph.Default t one e = name_told d t e
default_named d (graph.Named name) t one e = absurd (false≢true e)
default_named d graph.Merged t one e = absurd (false≢true one)

module _ (d : List Quad) (g : GraphRef) (s : Term) (one : is_one_graph g ≡ true) where
  abbrev B : Bool
  B = is_some_quad (out d g s)

  abbrev U : Bool
  U = used_in d g s

  abbrev N : Bool
  N = names_in d g s

  member_cause : is_iri rdf_nil s ≡ false → has term_eq (members d g) s ≡ true → (B || U || N) ≡ true
  member_cause other e =
      ⊎_elim
      (λ h.
      let (q, passes, among) = any_found (λ q. lies_in g q && has term_eq (nodes_in q) s) d h in
      let parts = and_parts (lies_in g q) (has term_eq (nodes_in q) s) passes in
      or_left (B || U) N
      (⊎_elim
      (λ b.
      or_left B U
      (some-filter (λ r. lies_in g r && term_eq r.subject s) d ∙ among (λ r. lies_in g r && term_eq r.subject s) (and_from (lies_in g q) (term_eq q.subject s) parts.0 b)))
      (λ u.
      or_right B U
      (and_from (not (is_iri rdf_nil s)) (list_any (lies_in g) (uses d s)) (ap not other)
      (any-filter (lies_in g) (is_use s) d ∙ among (λ r. is_use s r && lies_in g r) (and_from (is_use s q) (lies_in g q) u parts.0))))
      (or_cases (term_eq q.subject s) (is_use s q) (node_case q s parts.1))))
      (λ n. or_right (B || U) N (default_named d g s one n))
      (or_cases (list_any (λ q. lies_in g q && has term_eq (nodes_in q) s) d) (has term_eq (ask_of.names_in d g) s) (sym (in_members d g s) ∙ e))

  member_case : (n c r : Bool) → n ≡ true → r ≡ true → not c ≡ (n && not c && r)
  member_case true true true x y = refl
  member_case true false true x y = refl
  member_case false c r x y = absurd (false≢true x)
  member_case true c false x y = absurd (false≢true y)

  pub member_key : is_node s ≡ true → is_iri rdf_nil s ≡ false → has term_eq (members d g) s ≡ true → not (is_cell d g s) ≡ is_key d g s
  member_key node other e =
      member_case (is_node s) (is_cell d g s) (B || U || N) node (member_cause other e) ∙ sym (one_key d g s one)

  pub literal_no_key : is_node s ≡ false → false ≡ is_key d g s
  literal_no_key none = ap (λ (b : Bool). b && not (is_cell d g s) && (B || U || N)) (sym none) ∙ sym (one_key d g s one)

some_kept : (b : Bool) (quads : List Quad) → is_some (kept_if b quads) ≡ b
some_kept true quads = refl
some_kept false quads = refl

pub some_key : (d : List Quad) (g : GraphRef) (s : Term) (found : Option (List Quad)) → found ≡ key_quads d g s → is_some found ≡ is_key d g s
some_key d g s found e = ap is_some e ∙ some_kept (is_key d g s) (quads_of (answers_of d) (enough d) g s)

-- ---- one key more

pub put_one : (d : List Quad) (g : GraphRef) (s : Term) (old new : List Term) → true ≡ is_key d g s → new ≡ old ++ s ∷ [] → new ≡ old ++ filter (is_key d g) (s ∷ [])
put_one d g s old new key e = e ∙ ap (λ (b : Bool). old ++ cond b (s ∷ []) []) key

pub put_none : (d : List Quad) (g : GraphRef) (s : Term) (old : List Term) → false ≡ is_key d g s → old ≡ old ++ filter (is_key d g) (s ∷ [])
put_none d g s old none = sym (append-nil old) ∙ ap (λ (b : Bool). old ++ cond b (s ∷ []) []) none

-- ---- keys among the first nodes of a graph

near_member : (d : List Quad) (g : GraphRef) (x : Term) → has term_eq (members d g) x ≡ true → (question : Question) → NearTo d x question → IsNearMembers d g question
near_member d graph.Default x e question near = tt
near_member d (graph.Named name) x e question near = (x, (inr e, near))
near_member d graph.Merged x e question near = tt

pub record KeysState (d now : List Quad) (g : GraphRef) (before told : Option (List Question)) (first last : ℕ) (nodes : List Term) (i : ℕ) (known : KnownCells) (old found : List Term) : Type 0 where
  pub stays : now ≡ d
  pub hears : Hears (IsNearMembers d g) d before told first last
      (λ other. Knows other g known × (nodes ≡ members other g → found ≡ old ++ filter (is_key other g) (take i nodes)))

pub keys_begun : (d : List Quad) (g : GraphRef) (told : Option (List Question)) (first : ℕ) (nodes : List Term) (known : KnownCells) (old : List Term)
    → ((other : List Quad) (h : GraphRef) → Knows other h known) → KeysState d d g told told first first nodes 0 known old old
keys_begun d g told first nodes known old knows =
    record {
      stays = refl;
      hears =
          unheard (IsNearMembers d g) d told first
          (λ other. Knows other g known × (nodes ≡ members other g → old ≡ old ++ filter (is_key other g) (take 0 nodes)))
          (λ other. (knows other g, λ e. sym (append-nil old)));
    }

-- what is known holds of the dataset as it stands
pub keys_known : {d now : List Quad} {g : GraphRef} {before told : Option (List Question)} {first last : ℕ} {nodes : List Term} {i : ℕ} {known : KnownCells} {old found : List Term}
    → KeysState d now g before told first last nodes i known old found → Knows now g known
keys_known {g = g} {known = known} state = subst (λ (w : List Quad). Knows w g known) (sym state.stays) (holds_here state.hears).0

filter_append : (p : Term → Bool) (xs ys : List Term) → filter p (xs ++ ys) ≡ filter p xs ++ filter p ys
filter_append p [] ys = refl
filter_append p (x ∷ xs) ys = go (p x) (filter_append p xs ys)
  where
    go : (b : Bool) → filter p (xs ++ ys) ≡ filter p xs ++ filter p ys → cond b (x ∷ filter p (xs ++ ys)) (filter p (xs ++ ys)) ≡ cond b (x ∷ filter p xs) (filter p xs) ++ filter p ys
    go true ih = ap (λ (l : List Term). x ∷ l) ih
    go false ih = ih

node_at : (nodes : List Term) (i : ℕ) (s : Term) → i < length nodes → s ≡ get_or nodes i s → has term_eq nodes s ≡ true
node_at nodes i s inside at = list_any_at (term_eq s) nodes i s inside (ap (term_eq s) (sym at) ∙ same_itself id_strict s)

filter_next : (p : Term → Bool) (nodes : List Term) (i : ℕ) (s : Term) (old mid new : List Term) → i < length nodes → s ≡ get_or nodes i s → mid ≡ old ++ filter p (take i nodes)
    → new ≡ mid ++ filter p (s ∷ []) → new ≡ old ++ filter p (take (i + 1) nodes)
filter_next p nodes i s old mid new inside at so_far pushed =
    let one : i + 1 ≡ suc i = omega arith in
    pushed
    ∙ (ap (λ (l : List Term). l ++ filter p (s ∷ [])) so_far
    ∙ (append_assoc old (filter p (take i nodes)) (filter p (s ∷ []))
    ∙ ap (λ (l : List Term). old ++ l)
    (sym (filter_append p (take i nodes) (s ∷ []))
    ∙ (ap (λ (w : Term). filter p (take i nodes ++ (w ∷ []))) at
    ∙ (ap (filter p) (sym (take-suc nodes i s inside)) ∙ ap (λ (n : ℕ). filter p (take n nodes)) (sym one))))))

pub keys_more : {d now : List Quad} {g : GraphRef} {before told : Option (List Question)} {first last : ℕ} {nodes : List Term} {i : ℕ} {known : KnownCells} {old found : List Term}
    → KeysState d now g before told first last nodes i known old found → nodes ≡ members d g → (s : Term) → i < length nodes → s ≡ get_or nodes i s
    → (later : KnownCells) (new : List Term) → {told_after : Option (List Question)} {last_after : ℕ}
    → Hears (NearTo now s) now told told_after last last_after (λ other. Knows other g known → IsPut other g later s found new)
    → {now_after : List Quad} → now_after ≡ now
    → KeysState d now_after g before told_after first last_after nodes (i + 1) later old new
keys_more {d = d} {g = g} {nodes = nodes} {i = i} {old = old} {found = found} state are s inside at later new asked stays =
    record {
      stays = stays ∙ state.stays;
      hears =
          heard_as (λ question close. close)
          (λ other e. (
            (e.1 e.0.0).knows,
            λ same.
                filter_next (is_key other g) nodes i s old found new inside at (e.0.1 same)
                ((e.1 e.0.0).put (ap (λ (l : List Term). has term_eq l s) (sym same) ∙ node_at nodes i s inside at)),
          ))
          (followed state.hears
          (heard_as (near_member d g s (ap (λ (l : List Term). has term_eq l s) (sym are) ∙ node_at nodes i s inside at)) (λ other f. f) (moved state.stays asked)));
    }

one_keys : (d : List Quad) (g : GraphRef) → is_one_graph g ≡ true → filter (is_key d g) (members d g) ≡ keys d g
one_keys d graph.Default one = refl
one_keys d (graph.Named name) one = refl
one_keys d graph.Merged one = absurd (false≢true one)

pub keys_done : {d now : List Quad} {g : GraphRef} {before told : Option (List Question)} {first last : ℕ} {nodes : List Term} {i : ℕ} {known : KnownCells} {old found : List Term}
    → KeysState d now g before told first last nodes i known old found → is_one_graph g ≡ true → i ≡ length nodes
    → Hears (IsNearMembers d g) d before told first last (λ other. nodes ≡ members other g → found ≡ old ++ keys other g)
keys_done {g = g} {nodes = nodes} {old = old} state one end =
    heard_as (λ question close. close)
    (λ other e same.
    e.1 same
    ∙ ap (λ (l : List Term). old ++ l)
    (ap (filter (is_key other g)) ((ap (λ (n : ℕ). take n nodes) end ∙ take-length nodes) ∙ same) ∙ one_keys other g one))
    state.hears

-- the dataset stays
pub moved_members : {dataset now : List Quad} (g : GraphRef) {before after : Option (List Question)} {first last : ℕ} {Fact : List Quad → Type 0}
    → now ≡ dataset → Hears (IsNearMembers now g) now before after first last Fact → Hears (IsNearMembers dataset g) dataset before after first last Fact
moved_members g {before = before} {after = after} {first = first} {last = last} {Fact = Fact} stays hears =
    subst (λ (d : List Quad). Hears (IsNearMembers d g) d before after first last Fact) stays hears

-- ---- keys of the graphs of some names

pub record NamesState (d now : List Quad) (before told : Option (List Question)) (first last : ℕ) (names : List Term) (i : ℕ) (old found : List Term) : Type 0 where
  pub stays : now ≡ d
  pub hears : Hears (IsNearMembers d graph.Merged) d before told first last (λ other. found ≡ old ++ flat_map (named_keys other) (take i names))

pub names_begun : (d : List Quad) (told : Option (List Question)) (first : ℕ) (names old : List Term) → NamesState d d told told first first names 0 old old
names_begun d told first names old =
    record {
      stays = refl;
      hears =
          unheard (IsNearMembers d graph.Merged) d told first (λ other. old ≡ old ++ flat_map (named_keys other) (take 0 names)) (λ other. sym (append-nil old));
    }

flat_next : (f : Term → List Term) (names : List Term) (i : ℕ) (s : Term) (old mid new : List Term) → i < length names → s ≡ get_or names i s → mid ≡ old ++ flat_map f (take i names)
    → new ≡ mid ++ f s → new ≡ old ++ flat_map f (take (i + 1) names)
flat_next f names i s old mid new inside at so_far pushed =
    let one : i + 1 ≡ suc i = omega arith in
    pushed
    ∙ (ap (λ (l : List Term). l ++ f s) so_far
    ∙ (append_assoc old (flat_map f (take i names)) (f s)
    ∙ ap (λ (l : List Term). old ++ l)
    (ap (λ (l : List Term). flat_map f (take i names) ++ l) (sym (append-nil (f s)))
    ∙ (sym (flat_map-append f (take i names) (s ∷ []))
    ∙ (ap (λ (w : Term). flat_map f (take i names ++ (w ∷ []))) at
    ∙ (ap (flat_map f) (sym (take-suc names i s inside)) ∙ ap (λ (n : ℕ). flat_map f (take n names)) (sym one)))))))

pub names_more : {d now : List Quad} {before told : Option (List Question)} {first last : ℕ} {names : List Term} {i : ℕ} {old found : List Term}
    → NamesState d now before told first last names i old found → (s : Term) → i < length names → s ≡ get_or names i s
    → (new : List Term) → {told_after : Option (List Question)} {last_after : ℕ}
    → Hears (IsNearMembers now graph.Merged) now told told_after last last_after (λ other. new ≡ found ++ named_keys other s)
    → {now_after : List Quad} → now_after ≡ now
    → NamesState d now_after before told_after first last_after names (i + 1) old new
names_more {names = names} {i = i} {old = old} {found = found} state s inside at new asked stays =
    record {
      stays = stays ∙ state.stays;
      hears =
          heard_as (λ question close. close)
          (λ other e. flat_next (named_keys other) names i s old found new inside at e.0 e.1)
          (followed state.hears (moved_members graph.Merged state.stays asked));
    }

pub names_done : {d now : List Quad} {before told : Option (List Question)} {first last : ℕ} {names : List Term} {i : ℕ} {old found : List Term}
    → NamesState d now before told first last names i old found → i ≡ length names
    → Hears (IsNearMembers d graph.Merged) d before told first last (λ other. found ≡ old ++ flat_map (named_keys other) names)
names_done {names = names} {old = old} state end =
    heard_as (λ question close. close)
    (λ other e. e ∙ ap (λ (l : List Term). old ++ flat_map (named_keys other) l) (ap (λ (n : ℕ). take n names) end ∙ take-length names)) state.hears

-- ---- the keys of the merged graph are those of all graphs

module _ (d : List Quad) where
  abbrev all : List Term
  all = keys d graph.Default ++ flat_map (named_keys d) (members d graph.Default)

  named_case : (n s : Term) (b : Bool) → named d n ≡ b → has term_eq (if b then keys d (graph.Named n) else []) s ≡ (b && is_key d (graph.Named n) s)
  named_case n s true e = keys_are_listed d (graph.Named n) s
  named_case n s false e = refl

  in_named : (n s : Term) → has term_eq (named_keys d n) s ≡ (named d n && is_key d (graph.Named n) s)
  in_named n s = named_case n s (named d n) refl

  default_member : (n : Term) → named d n ≡ true → has term_eq (members d graph.Default) n ≡ true
  default_member n e =
      in_members d graph.Default n ∙ or_right (list_any (λ q. lies_in graph.Default q && has term_eq (nodes_in q) n) d) (has term_eq (names d) n) (name_listed d n e)

  named_listed : (s : Term) → list_any (λ n. has term_eq (named_keys d n) s) (members d graph.Default) ≡ list_any (λ n. is_key d (graph.Named n) s) (names d)
  named_listed s =
      same_truth (list_any (λ n. has term_eq (named_keys d n) s) (members d graph.Default)) (list_any (λ n. is_key d (graph.Named n) s) (names d))
      (λ e.
      let (n, passes, among) = any_found (λ n. has term_eq (named_keys d n) s) (members d graph.Default) e in
      let parts = and_parts (named d n) (is_key d (graph.Named n) s) (sym (in_named n s) ∙ passes) in
      any_mono (term_eq n) (λ m. is_key d (graph.Named m) s) (λ m h. ap (λ (w : Term). is_key d (graph.Named w) s) (sym ((term_decides n m).0 h)) ∙ parts.1) (names d)
      (name_listed d n parts.0))
      (λ e.
      let (n, passes, among) = any_found (λ n. is_key d (graph.Named n) s) (names d) e in
      let is : named d n ≡ true = name_told d n (among (term_eq n) (same_itself id_strict n)) in
      any_mono (term_eq n) (λ m. has term_eq (named_keys d m) s)
      (λ m h. ap (λ (w : Term). has term_eq (named_keys d w) s) (sym ((term_decides n m).0 h)) ∙ (in_named n s ∙ and_from (named d n) (is_key d (graph.Named n) s) is passes))
      (members d graph.Default) (default_member n is))

  pub merged_is : set_of id_cmp all ≡ keys d graph.Merged
  merged_is =
      same_members id_strict (set_of id_cmp all) (keys d graph.Merged) (ascends-set_of id_strict all) (keys_in_order d graph.Merged)
      (λ s.
      has-set_of id_strict all s
      ∙ (any-append (term_eq s) (keys d graph.Default) (flat_map (named_keys d) (members d graph.Default))
      ∙ ((λ i. keys_are_listed d graph.Default s i || (any_flat_terms (term_eq s) (named_keys d) (members d graph.Default) ∙ named_listed s) i)
      ∙ (ap (λ (w : Bool). is_key d graph.Default s || w) (sym (any-map (λ g. is_key d g s) (λ name. graph.Named name) (names d)))
      ∙ (sym (merged_keys d s) ∙ sym (keys_are_listed d graph.Merged s))))))

pub named_put : (d : List Quad) (n : Term) (old new : List Term) → true ≡ named d n → new ≡ old ++ keys d (graph.Named n) → new ≡ old ++ named_keys d n
named_put d n old new is e = e ∙ ap (λ (b : Bool). old ++ (if b then keys d (graph.Named n) else [])) is

pub unnamed_put : (d : List Quad) (n : Term) (old : List Term) → false ≡ named d n → old ≡ old ++ named_keys d n
unnamed_put d n old is = sym (append-nil old) ∙ ap (λ (b : Bool). old ++ (if b then keys d (graph.Named n) else [])) is
