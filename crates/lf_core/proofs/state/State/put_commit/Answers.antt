use Rattle.std.proofs.Common.{arith}
use Rattle.std.specs.Arc.{arc_value}
use Rattle.lf_core.proofs.Calls.{commit_fits, committed_in}
use Rattle.lf_core.proofs.state.State.put_commit.Goals as goal

pub overflow_add-self : goal.overflow_add-self
overflow_add-self c =
    omega (
      arith,
      commit_fits c.args.self.now _ c.self.inside.frames.items _ c.self.inside.bytes (arc_value c.args.commit) c.deref.result.now c.self.view_is
          c.self.invariant.counts_bytes c.requires.legal c.deref.ensures,
    )

pub invariant_of-self : goal.invariant_of-self
invariant_of-self c =
    committed_in c.args.self.now _ _ c.self.inside.newest c.args.version c.self.inside.frames.items _ _ _ _ _ _ (arc_value c.args.commit)
    c.deref.result.now c.self.view_is c.self.invariant c.requires.legal c.requires.version c.requires.place c.deref.ensures c.enter.ensures.entered
    c.enter.ensures.room
