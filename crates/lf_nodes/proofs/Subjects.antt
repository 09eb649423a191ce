-- The subjects of quads that may point, tested one after the other.
use Rattle.std.proofs.Common.{◌≡◌, refl, sym, ◌∙◌, ap, subst, cond, ℕ, suc, ◌+◌, ◌<◌, List, [], ◌∷◌, ◌++◌, length, map, filter, take, Bool, true, false, ◌&&◌, ⊎_elim, inl, inr, get_or, Option, Some, None, arith}
use Rattle.std.specs.List.{list_any}
use Rattle.std.proofs.Math.Seq.{take-length, take-suc}
use Rattle.std.proofs.lemmas.Bool.{false≢true, and_from, or_cases, or_left}
use Rattle.std.proofs.lemmas.List.{append-nil, map-append}
use Rattle.std.proofs.lemmas.List.Folds.{list_any_at}
use Rattle.lf_rdf.specs.declared.term.Term.{Term}
use Rattle.lf_rdf.specs.declared.term.Term.TheVariants.{Iri, Blank, Literal}
use Rattle.lf_rdf.specs.declared.quad.Quad.{Quad}
use Rattle.lf_rdf.specs.declared.question.GraphRef.{GraphRef}
use Rattle.lf_rdf.specs.declared.question.Question.{Question}
use Rattle.lf_rdf.specs.Vocabulary.{rdf_first, rdf_rest}
use Rattle.lf_rdf.specs.Canonical.{id_of}
use Rattle.lf_rdf.specs.Equality.{text_eq, term_eq, quad_eq}
use Rattle.def_datasets.specs.Sorted.{has, set_of}
use Rattle.def_datasets.specs.Order.{id_cmp}
use Rattle.def_datasets.specs.Terms.{graph_of, is_iri, is_node, lies_in}
use Rattle.def_datasets.specs.Views.{pointing}
use Rattle.def_datasets.specs.Questions.{inward}
use Rattle.def_datasets.proofs.OrderLaws.{quad_decides, quad_strict, term_decides, text_strict}
use Rattle.def_datasets.proofs.SortedLaws.{same_itself}
use Rattle.def_datasets.proofs.ViewProofs.{any-filter, any_mono}
use Rattle.lf_oracle.specs.Asking.{Learns}
use Rattle.lf_oracle.specs.Nearby.{IsNearOne, IsPointing}
use Rattle.lf_oracle.specs.NodeViews.{pointing_at}
use Rattle.lf_lists.specs.Hearing.{Hears}
use Rattle.lf_lists.specs.Learning.{NearTo}
use Rattle.lf_lists.proofs.Hearings.{followed, heard_as, unheard}
use Rattle.lf_nodes.specs.Pointing.{AnyLinkNear, LinkNear, NodeOrLinkNear, arrows, first_quad, is_link, is_referred, subject_test}
use Rattle.lf_nodes.proofs.Arrows.{arrow_in, no_arrows, not_referred, points_there, refers_is}

abbrev subjects_in : List Quad → List Quad → List Term
subjects_in d quads = map (λ q. q.subject) (filter (subject_test d) quads)

-- one subject more

pub subject_put : (d : List Quad) (q : Quad) (old new : List Term) → true ≡ subject_test d q → new ≡ old ++ q.subject ∷ [] → new ≡ old ++ map (λ r. r.subject) (filter (subject_test d) (q ∷ []))
subject_put d q old new key e = e ∙ ap (λ (b : Bool). old ++ map (λ r. r.subject) (cond b (q ∷ []) [])) key

pub subject_left : (d : List Quad) (q : Quad) (old : List Term) → false ≡ subject_test d q → old ≡ old ++ map (λ r. r.subject) (filter (subject_test d) (q ∷ []))
subject_left d q old none = sym (append-nil old) ∙ ap (λ (b : Bool). old ++ map (λ r. r.subject) (cond b (q ∷ []) [])) none

-- the subjects of the first quads

pub record SubjectsState (d now : List Quad) (before told : Option (List Question)) (first last : ℕ) (quads : List Quad) (i : ℕ) (found : List Term) : Type 0 where
  pub stays : now ≡ d
  pub hears : Hears (AnyLinkNear d quads) d before told first last (λ other. found ≡ map (λ q. q.subject) (filter (subject_test other) (take i quads)))

pub subjects_begun : (d : List Quad) (told : Option (List Question)) (first : ℕ) (quads : List Quad) (found : List Term) → found ≡ []
    → SubjectsState d d told told first first quads 0 found
subjects_begun d told first quads found none =
    record {
      stays = refl;
      hears = unheard (AnyLinkNear d quads) d told first (λ other. found ≡ map (λ q. q.subject) (filter (subject_test other) (take 0 quads))) (λ other. none);
    }

filter_append : (p : Quad → Bool) (xs ys : List Quad) → filter p (xs ++ ys) ≡ filter p xs ++ filter p ys
filter_append p [] ys = refl
filter_append p (x ∷ xs) ys = go (p x) (filter_append p xs ys)
  where
    go : (b : Bool) → filter p (xs ++ ys) ≡ filter p xs ++ filter p ys → cond b (x ∷ filter p (xs ++ ys)) (filter p (xs ++ ys)) ≡ cond b (x ∷ filter p xs) (filter p xs) ++ filter p ys
    go true ih = ap (λ (l : List Quad). x ∷ l) ih
    go false ih = ih

quad_at : (quads : List Quad) (i : ℕ) (q : Quad) → i < length quads → q ≡ get_or quads i q → has quad_eq quads q ≡ true
quad_at quads i q inside at = list_any_at (quad_eq q) quads i q inside (ap (quad_eq q) (sym at) ∙ same_itself quad_strict q)

subjects_next : (d : List Quad) (quads : List Quad) (i : ℕ) (q : Quad) (mid new : List Term) → i < length quads → q ≡ get_or quads i q → mid ≡ subjects_in d (take i quads)
    → new ≡ mid ++ subjects_in d (q ∷ []) → new ≡ subjects_in d (take (i + 1) quads)
subjects_next d quads i q mid new inside at so_far pushed =
    let one : i + 1 ≡ suc i = omega arith in
    let test = subject_test d in
    pushed
    ∙ (ap (λ (l : List Term). l ++ subjects_in d (q ∷ [])) so_far
    ∙ (sym (map-append (λ (r : Quad). r.subject) (filter test (take i quads)) (filter test (q ∷ [])))
    ∙ ap (map (λ (r : Quad). r.subject))
    (sym (filter_append test (take i quads) (q ∷ []))
    ∙ (ap (λ (w : Quad). filter test (take i quads ++ (w ∷ []))) at
    ∙ (ap (filter test) (sym (take-suc quads i q inside)) ∙ ap (λ (n : ℕ). filter test (take n quads)) (sym one))))))

moved_link : {d now : List Quad} (q : Quad) {before after : Option (List Question)} {first last : ℕ} {Fact : List Quad → Type 0}
    → now ≡ d → Hears (LinkNear now q) now before after first last Fact → Hears (LinkNear d q) d before after first last Fact
moved_link q {before = before} {after = after} {first = first} {last = last} {Fact = Fact} stays hears =
    subst (λ (w : List Quad). Hears (LinkNear w q) w before after first last Fact) stays hears

pub subjects_more : {d now : List Quad} {before told : Option (List Question)} {first last : ℕ} {quads : List Quad} {i : ℕ} {found : List Term}
    → SubjectsState d now before told first last quads i found → (q : Quad) → i < length quads → q ≡ get_or quads i q
    → (new : List Term) → {told_after : Option (List Question)} {last_after : ℕ}
    → Hears (LinkNear now q) now told told_after last last_after (λ other. new ≡ found ++ map (λ r. r.subject) (filter (subject_test other) (q ∷ [])))
    → {now_after : List Quad} → now_after ≡ now
    → SubjectsState d now_after before told_after first last_after quads (i + 1) new
subjects_more {quads = quads} {i = i} {found = found} state q inside at new asked stays =
    record {
      stays = stays ∙ state.stays;
      hears =
          heard_as (λ question close. close) (λ other e. subjects_next other quads i q found new inside at e.0 e.1)
          (followed state.hears (heard_as (λ question close. (q, (quad_at quads i q inside at, close))) (λ other f. f) (moved_link q state.stays asked)));
    }

pub subjects_done : {d now : List Quad} {before told : Option (List Question)} {first last : ℕ} {quads : List Quad} {i : ℕ} {found : List Term}
    → SubjectsState d now before told first last quads i found → i ≡ length quads
    → Hears (AnyLinkNear d quads) d before told first last (λ other. found ≡ map (λ q. q.subject) (filter (subject_test other) quads))
subjects_done {quads = quads} state end =
    heard_as (λ question close. close)
    (λ other e. e ∙ ap (λ (l : List Quad). map (λ (q : Quad). q.subject) (filter (subject_test other) l)) (ap (λ (n : ℕ). take n quads) end ∙ take-length quads)) state.hears

-- ---- the subject of a link that points is near

iri_case : (iri : List ℕ) (t : Term) → is_iri iri t ≡ true → t ≡ Iri iri
iri_case iri (Iri other) e = ap Iri (sym ((text_strict.decides iri other).0 e))
iri_case iri (Blank label) e = absurd (false≢true e)
iri_case iri (Literal a d l) e = absurd (false≢true e)

link_iri : (q : Quad) (p : List ℕ) → is_link q ≡ true → text_eq p (id_of q.predicate) ≡ true → term_eq q.predicate (Iri p) ≡ true
link_iri q p e under =
    ⊎_elim (λ a. told rdf_first (iri_case rdf_first q.predicate a)) (λ b. told rdf_rest (iri_case rdf_rest q.predicate b))
    (or_cases (is_iri rdf_first q.predicate) (is_iri rdf_rest q.predicate) e)
  where
    told : (iri : List ℕ) → q.predicate ≡ Iri iri → term_eq q.predicate (Iri p) ≡ true
    told iri is =
        let same : p ≡ iri = (text_strict.decides p (id_of q.predicate)).0 under ∙ ap id_of is in
        (term_decides q.predicate (Iri p)).1 (is ∙ ap Iri (sym same))

pub link_near : (d : List Quad) (g : GraphRef) (p : List ℕ) (node : Term) (quads : List Quad) → quads ≡ arrows d g p node → (question : Question)
    → AnyLinkNear d quads question → IsNearOne d (IsPointing d g (Iri p) node) question
link_near d g p node quads same question (q, (among, (link, near))) =
    let (there, arrow) = arrow_in d g p node q (ap (λ (l : List Quad). has quad_eq l q) (sym same) ∙ among) in
    let inside : list_any (λ r. term_eq r.subject q.subject) (inward d g (Iri p) node) ≡ true =
    any-filter (λ r. term_eq r.subject q.subject) (λ r. lies_in g r && (term_eq r.predicate (Iri p) && term_eq r.object node)) d
    ∙ any_mono (quad_eq q) (λ r. (lies_in g r && (term_eq r.predicate (Iri p) && term_eq r.object node)) && term_eq r.subject q.subject)
    (λ r h.
    subst (λ (w : Quad). ((lies_in g w && (term_eq w.predicate (Iri p) && term_eq w.object node)) && term_eq w.subject q.subject) ≡ true) ((quad_strict.decides q r).0 h)
    (and_from _ _ (and_from _ _ arrow.lies (and_from _ _ (link_iri q p link arrow.under) arrow.object)) ((term_decides q.subject q.subject).1 refl)))
    d there in
    (q.subject, (inr inside, near))

pub node_near : (d : List Quad) (g : GraphRef) (property node : Term) (question : Question) → NearTo d node question → IsNearOne d (IsPointing d g property node) question
node_near d g property node question near = (node, (inl (inl refl), near))

pub first_in : (quads : List Quad) (q : Quad) → Some q ≡ first_quad quads → has quad_eq quads q ≡ true
first_in [] q e = absurd (cc)
first_in (x ∷ xs) q e =
    let is : q ≡ x = cc in
    or_left (quad_eq q x) (has quad_eq xs q) ((quad_decides q x).1 is)

none_in : (quads : List Quad) → None ≡ first_quad quads → quads ≡ []
none_in [] e = refl
none_in (x ∷ xs) e = absurd (cc)

module _ (d : List Quad) (g : GraphRef) (p : List ℕ) (node : Term) (told : List Quad) (same : told ≡ arrows d g p node) where
  pub nothing_points : None ≡ first_quad told → [] ≡ pointing d g p node
  nothing_points none = no_arrows d g p node (sym same ∙ none_in told none)

  first_arrow : (first : Quad) → Some first ≡ first_quad told → has quad_eq (arrows d g p node) first ≡ true
  first_arrow first e = ap (λ (l : List Quad). has quad_eq l first) (sym same) ∙ first_in told first e

  pub list_points : is_node node ≡ true → (first : Quad) → Some first ≡ first_quad told → is_referred d (graph_of first) node ≡ false → [] ≡ pointing d g p node
  list_points there first e none = not_referred d g p node first (first_arrow first e) (refers_is d (graph_of first) node there ∙ none)

  pub subjects_point : is_node node ≡ true → (first : Quad) → Some first ≡ first_quad told → is_referred d (graph_of first) node ≡ true
      → (found : List Term) → found ≡ set_of id_cmp (map (λ q. q.subject) (filter (subject_test d) told)) → found ≡ pointing d g p node
  subjects_point there first e refers found is =
      is
      ∙ (ap (λ (l : List Quad). set_of id_cmp (map (λ q. q.subject) (filter (subject_test d) l))) same
      ∙ points_there d g p node first (first_arrow first e) (refers_is d (graph_of first) node there ∙ refers))

pub either_near : (d : List Quad) (g : GraphRef) (p : List ℕ) (node : Term) (told lent : List Quad) → told ≡ arrows d g p node → lent ≡ told → (question : Question)
    → NodeOrLinkNear d node lent question → IsNearOne d (IsPointing d g (Iri p) node) question
either_near d g p node told lent same is question (inl near) = node_near d g (Iri p) node question near
either_near d g p node told lent same is question (inr near) = link_near d g p node lent (is ∙ same) question near

pub moved_either : {d now : List Quad} (node : Term) (quads : List Quad) {before after : Option (List Question)} {first last : ℕ} {Fact : List Quad → Type 0}
    → now ≡ d → Hears (NodeOrLinkNear now node quads) now before after first last Fact → Hears (NodeOrLinkNear d node quads) d before after first last Fact
moved_either node quads {before = before} {after = after} {first = first} {last = last} {Fact = Fact} stays hears =
    subst (λ (w : List Quad). Hears (NodeOrLinkNear w node quads) w before after first last Fact) stays hears

pub moved_links : {d now : List Quad} (quads : List Quad) {before after : Option (List Question)} {first last : ℕ} {Fact : List Quad → Type 0}
    → now ≡ d → Hears (AnyLinkNear now quads) now before after first last Fact → Hears (AnyLinkNear d quads) d before after first last Fact
moved_links quads {before = before} {after = after} {first = first} {last = last} {Fact = Fact} stays hears =
    subst (λ (w : List Quad). Hears (AnyLinkNear w quads) w before after first last Fact) stays hears

-- the property is an IRI
pub by_iri : {d : List Quad} (g : GraphRef) {p : List ℕ} {property : Term} (node : Term) {before after : Option (List Question)} {first last : ℕ} {found : List Term} → property ≡ Iri p
    → Learns (IsNearOne d (IsPointing d g (Iri p) node)) d before after first last (λ other. pointing other g p node) found
    → Learns (IsNearOne d (IsPointing d g property node)) d before after first last (λ other. pointing_at other g property node) found
by_iri {d = d} g node {before = before} {after = after} {first = first} {last = last} {found = found} is learnt =
    subst (λ (t : Term). Learns (IsNearOne d (IsPointing d g t node)) d before after first last (λ other. pointing_at other g t node) found) (sym is) learnt
