use Rattle.std.proofs.Common.{◌≡◌, ◌++◌, drop}
use Rattle.std.specs.List.{filter}
use Rattle.def_datasets.specs.Questions.{touches}
use Rattle.lf_plain.proofs.answers.touching.Given as goal

abbrev pub invariant-loop-quad : goal.invariant-loop-quad
invariant-loop-quad l = l.found ++ filter (λ q. touches q l.question) (drop l.quad-index l.quads) ≡ filter (λ q. touches q l.question) l.quads
