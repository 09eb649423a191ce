use Rattle.lf_core.proofs.Prepare.{commit_answers}
use Rattle.lf_core.proofs.state.State.commit.Goals as goal

pub returns-clause-answer : goal.returns-clause-answer
returns-clause-answer c =
    commit_answers c.args.self.now c.ready_commit.new.self c.put.new.self c.args.seat c.args.patch c.in_ok-ready.ready c.versions.result
    c.in_ok-ready.ensures.answer c.in_ok-ready.ensures.history c.put.ensures.entry c.versions.ensures
