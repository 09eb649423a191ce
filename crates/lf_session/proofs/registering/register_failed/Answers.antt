use Rattle.std.proofs.Common.{inl}
use Rattle.lf_session.proofs.registering.register_failed.Goals as goal

pub returns-in-Ok-clause-shown : goal.returns-in-Ok-clause-shown
returns-in-Ok-clause-shown c = λ name. inl (c.in-Ok.ensures.shown name)
