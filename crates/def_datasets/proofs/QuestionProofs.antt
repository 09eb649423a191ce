-- The laws of terms, questions and answers.
use Rattle.std.proofs.Common.{◌≡◌, refl, sym, ◌∙◌, ap, List, [], ◌∷◌, ◌++◌, Bool, true, false, not, cond, ◌&&◌, ◌||◌, filter, flat_map}
use Rattle.std.specs.List.{list_any}
use Rattle.std.proofs.lemmas.Bool.{true≢false, or_parts}
use Rattle.lf_rdf.specs.declared.term.Term.{Term}
use Rattle.lf_rdf.specs.declared.quad.Quad.{Quad}
use Rattle.lf_rdf.specs.declared.quad.Signed.{Signed}
use Rattle.lf_rdf.specs.declared.question.GraphRef.{GraphRef}
use Rattle.lf_rdf.specs.declared.question.GraphRef.TheVariants as graph
use Rattle.lf_rdf.specs.declared.question.Question.{Question}
use Rattle.lf_rdf.specs.declared.question.Question.TheVariants as ask
use Rattle.lf_rdf.specs.declared.question.Answer.TheVariants.{Quads, Flag, Terms}
use Rattle.lf_rdf.specs.Equality.{term_eq, quad_eq}
use Rattle.def_datasets.specs.Sorted.{has, set_of}
use Rattle.def_datasets.specs.Order.{id_cmp}
use Rattle.def_datasets.specs.Dataset.{holds, additions, deletions, after}
use Rattle.def_datasets.specs.Terms.{is_node, label_terms, lies_in}
use Rattle.def_datasets.specs.Questions.{nodes_in, names_in, members, answer, touches}
use Rattle.def_datasets.specs.QuestionLaws.{UntouchedAnswers, UntouchedByPatch, TouchingQuadsDecide, AnswersReply, TermsInOrder, MembersInOrder, stands_in, TermsStandInQuads}
use Rattle.def_datasets.proofs.SortedLaws.{same_members, ascends-filter, ascends-set_of, has-filter, has-put_all}
use Rattle.def_datasets.proofs.OrderLaws.{quad_strict, id_strict, quad_decides}
use Rattle.def_datasets.proofs.VersionProofs.{patch_keeps_order, patch_decides_quads}

-- ---- filters of filters

module _ {A : Type 0} (p : A → Bool) where
  again_case : (x : A) (xs : List A) (r : Bool) → p x ≡ r → filter p xs ≡ filter p (filter p xs)
      → cond r (x ∷ filter p xs) (filter p xs) ≡ filter p (cond r (x ∷ filter p xs) (filter p xs))
  again_case x xs true e ih = rw e (ap (λ (w : List A). x ∷ w) ih)
  again_case x xs false e ih = ih

  pub filter_again : (xs : List A) → filter p xs ≡ filter p (filter p xs)
  filter_again [] = refl
  filter_again (x ∷ xs) = again_case x xs (p x) refl (filter_again xs)

  any_case : (x : A) (xs : List A) (r : Bool) → p x ≡ r → list_any p xs ≡ list_any p (filter p xs)
      → (p x || list_any p xs) ≡ list_any p (cond r (x ∷ filter p xs) (filter p xs))
  any_case x xs true e ih = rw e refl
  any_case x xs false e ih = rw e ih

  pub any_again : (xs : List A) → list_any p xs ≡ list_any p (filter p xs)
  any_again [] = refl
  any_again (x ∷ xs) = any_case x xs (p x) refl (any_again xs)

  pub any-append : (xs ys : List A) → list_any p (xs ++ ys) ≡ (list_any p xs || list_any p ys)
  any-append [] ys = refl
  any-append (x ∷ xs) ys = ap (λ (w : Bool). p x || w) (any-append xs ys) ∙ regroup (p x) (list_any p xs) (list_any p ys)
    where
      regroup : (a b c : Bool) → (a || (b || c)) ≡ ((a || b) || c)
      regroup true b c = refl
      regroup false b c = refl

pub filter_true : {A : Type 0} (xs : List A) → xs ≡ filter (λ x. true) xs
filter_true [] = refl
filter_true (x ∷ xs) = ap (λ (w : List _). x ∷ w) (filter_true xs)

-- ---- answers

members_touched : (dataset : List Quad) (g : GraphRef)
    → members dataset g ≡ members (filter (λ q. touches q (ask.Members g)) dataset) g
members_touched dataset graph.Default = ap (λ (w : List Quad). members w graph.Default) (filter_true dataset)
members_touched dataset (graph.Named name) =
    ap (λ (w : List Quad). set_of id_cmp (flat_map nodes_in w ++ [])) (filter_again (lies_in (graph.Named name)) dataset)
members_touched dataset graph.Merged = ap (λ (w : List Quad). members w graph.Merged) (filter_true dataset)

pub touching_quads_decide : TouchingQuadsDecide
touching_quads_decide dataset (ask.Out g s) = ap Quads (filter_again (λ q. touches q (ask.Out g s)) dataset)
touching_quads_decide dataset (ask.OutAny s) = ap Quads (filter_again (λ q. touches q (ask.OutAny s)) dataset)
touching_quads_decide dataset (ask.Inward g p o) = ap Quads (filter_again (λ q. touches q (ask.Inward g p o)) dataset)
touching_quads_decide dataset (ask.InwardAny p o) = ap Quads (filter_again (λ q. touches q (ask.InwardAny p o)) dataset)
touching_quads_decide dataset (ask.Uses o) = ap Quads (filter_again (λ q. touches q (ask.Uses o)) dataset)
touching_quads_decide dataset (ask.Named n) = ap Flag (any_again (λ q. touches q (ask.Named n)) dataset)
touching_quads_decide dataset (ask.Members g) = ap Terms (members_touched dataset g)

alike_case : (a b t : Bool) → (t ≡ true → a ≡ b) → (t && a) ≡ (t && b)
alike_case a b true f = f refl
alike_case a b false f = refl

pub untouched_answers : UntouchedAnswers
untouched_answers one two question a b alike =
    let test : Quad → Bool = λ q. touches q question in
    let same : filter (λ q. touches q question) one ≡ filter (λ q. touches q question) two =
    same_members quad_strict (filter test one) (filter test two) (ascends-filter quad_strict test one a)
    (ascends-filter quad_strict test two b)
    (λ q.
    has-filter quad_strict test one q
    ∙ (alike_case (holds one q) (holds two q) (touches q question) (alike q) ∙ sym (has-filter quad_strict test two q))) in
    touching_quads_decide one question
    ∙ (ap (λ (w : List Quad). answer w question) same ∙ sym (touching_quads_decide two question))

-- a quad that touches is in no line
line_false : (s : Signed) (q : Quad) (question : Question) (e : Bool) → quad_eq q s.quad ≡ e → touches q question ≡ true → touches s.quad question ≡ false → e ≡ false
line_false s q question false e t f = refl
line_false s q question true e t f =
    let is : q ≡ s.quad = (quad_decides q s.quad).0 e in
    absurd (true≢false (sym t ∙ (ap (λ (w : Quad). touches w question) is ∙ f)))

not_added : (patch : List Signed) (q : Quad) (question : Question) → touches q question ≡ true
    → list_any (λ line. touches line.quad question) patch ≡ false → (holds (additions patch) q ≡ false) × (holds (deletions patch) q ≡ false)
not_added [] q question t f = (refl, refl)
not_added (s ∷ rest) q question t f =
    let parts : (touches s.quad question ≡ false) × (list_any (λ (line : Signed). touches line.quad question) rest ≡ false) =
    or_parts (touches s.quad question) (list_any (λ (line : Signed). touches line.quad question) rest) f in
    let ih : (holds (additions rest) q ≡ false) × (holds (deletions rest) q ≡ false) = not_added rest q question t parts.1 in
    let other : quad_eq q s.quad ≡ false = line_false s q question (quad_eq q s.quad) refl t parts.0 in
    go s.add other ih
  where
    go : (add : Bool) → quad_eq q s.quad ≡ false → (holds (additions rest) q ≡ false) × (holds (deletions rest) q ≡ false)
        → (holds (cond add (s.quad ∷ additions rest) (additions rest)) q ≡ false) × (holds (cond add (deletions rest) (s.quad ∷ deletions rest)) q ≡ false)
    go true other ih = (ap (λ (w : Bool). w || holds (additions rest) q) other ∙ ih.0, ih.1)
    go false other ih = (ih.0, ap (λ (w : Bool). w || holds (deletions rest) q) other ∙ ih.1)

stays : (adds dels here : Bool) → adds ≡ false → dels ≡ false → (adds || (here && not dels)) ≡ here
stays true dels here a d = absurd (true≢false a)
stays false true here a d = absurd (true≢false d)
stays false false true a d = refl
stays false false false a d = refl

pub untouched_by_patch : UntouchedByPatch
untouched_by_patch dataset patch question a none =
    untouched_answers (after dataset patch) dataset question (patch_keeps_order dataset patch a) a
    λ q t.
    let no : (holds (additions patch) q ≡ false) × (holds (deletions patch) q ≡ false) = not_added patch q question t none in
    patch_decides_quads dataset patch q
    ∙ stays (holds (additions patch) q) (holds (deletions patch) q) (holds dataset q) no.0 no.1

pub answers_reply : AnswersReply
answers_reply dataset (ask.Out g s) = refl
answers_reply dataset (ask.OutAny s) = refl
answers_reply dataset (ask.Inward g p o) = refl
answers_reply dataset (ask.InwardAny p o) = refl
answers_reply dataset (ask.Uses o) = refl
answers_reply dataset (ask.Named n) = refl
answers_reply dataset (ask.Members g) = refl

-- ---- terms

pub terms_in_order : TermsInOrder
terms_in_order dataset =
    ascends-set_of id_strict (filter is_node (flat_map (λ q. q.subject ∷ q.object ∷ label_terms q.graph) dataset))

pub members_in_order : MembersInOrder
members_in_order dataset g = ascends-set_of id_strict (flat_map nodes_in (filter (lies_in g) dataset) ++ names_in dataset g)

or_false : (a : Bool) → (a || false) ≡ a
or_false true = refl
or_false false = refl

or_three : (a b c d : Bool) → ((a || (b || c)) || d) ≡ (a || (b || (c || d)))
or_three true b c d = refl
or_three false true c d = refl
or_three false false c d = refl

standing : (dataset : List Quad) (t : Term)
    → has term_eq (flat_map (λ q. q.subject ∷ q.object ∷ label_terms q.graph) dataset) t ≡ list_any (stands_in t) dataset
standing [] t = refl
standing (q ∷ rest) t =
    ap (λ (w : Bool). term_eq t q.subject || (term_eq t q.object || w))
    (any-append (term_eq t) (label_terms q.graph) (flat_map (λ q. q.subject ∷ q.object ∷ label_terms q.graph) rest)
    ∙ ap (λ (w : Bool). list_any (term_eq t) (label_terms q.graph) || w) (standing rest t))
    ∙ sym (or_three (term_eq t q.subject) (term_eq t q.object) (list_any (term_eq t) (label_terms q.graph)) (list_any (stands_in t) rest))

pub terms_stand_in_quads : TermsStandInQuads
terms_stand_in_quads dataset t =
    let all : List Term = flat_map (λ q. q.subject ∷ q.object ∷ label_terms q.graph) dataset in
    has-put_all id_strict [] (filter is_node all) t
    ∙ (or_false (has term_eq (filter is_node all) t)
    ∙ (has-filter id_strict is_node all t ∙ ap (λ (w : Bool). is_node t && w) (standing dataset t)))
