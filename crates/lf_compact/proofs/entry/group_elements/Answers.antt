use Rattle.std.proofs.Common.{◌≡◌, ◌∷◌, [], ◌++◌, ◌∙◌, ap, sym, refl, map, not, append_assoc, append-nil}
use Rattle.std.specs.Prelude.{is_some}
use Rattle.std.proofs.IntoIterSteps.{All-taken}
use Rattle.std.proofs.lemmas.List.{map-append}
use Rattle.lf_model.specs.JsonBridge.{json_data}
use Rattle.def_documents.specs.Entries.{group_elements}
use Rattle.lf_compact.specs.Pieces.{filed_data}
use Rattle.lf_compact.proofs.entry.group_elements.Goals as goal

pub loop-filed-init : goal.loop-filed-init
loop-filed-init c =
    λ languages is. (
      is,
      λ rest. ap (λ l. map json_data l ++ group_elements languages (not (is_some c.args.languages)) rest) c.new-elements.ensures.items,
    )

pub loop-filed-preserved : goal.loop-filed-preserved
loop-filed-preserved c =
    λ languages is.
    let before = c.loop-filed.invariant languages is in
    let step = c.in_ok-push_piece.ensures languages before.0 in
    let filed = c.in-Some.filed in
    let yielded = c.loop-filed.yielded in (
      step.0,
      λ rest.
          step.1 (filed_data filed) rest refl
          ∙ before.1 (filed_data filed ∷ rest)
          ∙ ap (group_elements languages (not (is_some c.args.languages)))
          (sym (ap (λ l. l ++ rest) (map-append filed_data yielded (filed ∷ [])) ∙ append_assoc (map filed_data yielded) (filed_data filed ∷ []) rest)),
    )

pub returns : goal.returns
returns c =
    λ languages is.
    let same : c.loop-filed.yielded ≡ c.args.group.items =
    All-taken c.into_iter-filed-iterator.result c.loop-filed.yielded
    (c.next.new.self, (c.loop-filed.filed-iterator, c.loop-filed.yielded_by, c.in-None.ensures.steps))
    ∙ c.into_iter-filed-iterator.ensures.into_iter_gives.0 in
    sym (append-nil (map json_data c.loop-filed.elements.items))
    ∙ (c.loop-filed.invariant languages is).1 []
    ∙ ap (group_elements languages (not (is_some c.args.languages)))
    (append-nil (map filed_data c.loop-filed.yielded) ∙ ap (map filed_data) same)
