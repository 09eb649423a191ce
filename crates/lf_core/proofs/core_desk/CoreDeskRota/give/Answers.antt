use Rattle.std.proofs.Common.{sym, ◌∙◌, ap, subst, List, ◌++◌}
use Rattle.std.proofs.lemmas.List.{append-nil}
use Rattle.def_histories.specs.declared.operation.Operation.{Operation}
use Rattle.def_histories.specs.Legal.{IsLegal}
use Rattle.def_turns.specs.Turns.{entry_of}
use Rattle.lf_frames.specs.FrameTexts.{is_frame}
use Rattle.lf_core.specs.Taken.{given_job}
use Rattle.lf_core.proofs.Lone.{lone_call}
use Rattle.lf_core.proofs.Turning.{gives, gives_away, gives_away_then, gives_legal, home_away_then}
use Rattle.lf_core.proofs.core_desk.CoreDeskRota.give.Goals as goal

pub returns-in-Ok-clause-call : goal.returns-in-Ok-clause-call
returns-in-Ok-clause-call c =
    let answer =
    c.give_back.ensures.answer ∙ ap (λ (history : List Operation). given_job history c.args.job) c.in-Ok.ensures.history in
    let entered =
    c.give_back.ensures.entry ∙ ap (λ (history : List Operation). history ++ entry_of c.give_back.result) c.in-Ok.ensures.history in
    lone_call _ _ _ _ _ _ entered
    (subst (IsLegal is_frame) (sym entered)
    (gives_legal c.args.self.now.state.history c.args.job c.give_back.result c.given_back_is_allowed.ensures c.args.self.now.legal c.requires.own answer))
    (gives c.args.self.now.state.history c.args.job c.give_back.result answer)

pub returns-in-Ok-clause-away : goal.returns-in-Ok-clause-away
returns-in-Ok-clause-away c =
    λ _. gives_away_then c.args.self.now.state c.make_place.new.self c.give_back.new.self c.args.job c.give_back.result c.in-Ok.ensures.history
    c.in-Ok.ensures.boards c.requires.own c.give_back.ensures.answer c.give_back.ensures.entry c.give_back.ensures.boards

pub returns-in-Err-clause-call : goal.returns-in-Err-clause-call
returns-in-Err-clause-call c =
    let same = c.take_home.ensures.history ∙ c.in-Err.ensures.history in
    lone_call _ _ _ _ _ _ (same ∙ sym (append-nil c.args.self.now.state.history)) (subst (IsLegal is_frame) (sym same) c.args.self.now.legal) tt

pub returns-in-Err-clause-away : goal.returns-in-Err-clause-away
returns-in-Err-clause-away c =
    λ _. home_away_then c.args.self.now.state c.make_place.new.self c.take_home.new.self c.args.job c.in-Err.ensures.history c.in-Err.ensures.boards
    c.take_home.ensures.history c.take_home.ensures.boards

pub returns-in-GoesHome-clause-call : goal.returns-in-GoesHome-clause-call
returns-in-GoesHome-clause-call c =
    lone_call _ _ _ _ _ _ c.give_back-in-GoesHome.ensures.entry
    (subst (IsLegal is_frame) (sym c.give_back-in-GoesHome.ensures.entry)
    (gives_legal c.args.self.now.state.history c.args.job c.give_back-in-GoesHome.result c.given_back_is_allowed.ensures c.args.self.now.legal
    c.requires.own c.give_back-in-GoesHome.ensures.answer))
    (gives c.args.self.now.state.history c.args.job c.give_back-in-GoesHome.result c.give_back-in-GoesHome.ensures.answer)

pub returns-in-GoesHome-clause-away : goal.returns-in-GoesHome-clause-away
returns-in-GoesHome-clause-away c =
    λ _. gives_away c.args.self.now.state c.give_back-in-GoesHome.new.self c.args.job c.give_back-in-GoesHome.result c.requires.own
    c.give_back-in-GoesHome.ensures.answer c.give_back-in-GoesHome.ensures.entry c.give_back-in-GoesHome.ensures.boards

pub returns-in-IsSuperseded-clause-away : goal.returns-in-IsSuperseded-clause-away
returns-in-IsSuperseded-clause-away c =
    λ _. gives_away c.args.self.now.state c.give_back-in-IsSuperseded.new.self c.args.job c.give_back-in-IsSuperseded.result c.requires.own
    c.give_back-in-IsSuperseded.ensures.answer c.give_back-in-IsSuperseded.ensures.entry c.give_back-in-IsSuperseded.ensures.boards
