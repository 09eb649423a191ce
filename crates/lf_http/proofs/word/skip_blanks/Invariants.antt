use Rattle.std.proofs.Common.{◌≡◌, drop}
use Rattle.httparse.specs.Grammar.{skip_ows}
use Rattle.lf_http.proofs.word.skip_blanks.Given as goal

abbrev pub invariant-loop-place : goal.invariant-loop-place
invariant-loop-place l = skip_ows l.text ≡ skip_ows (drop l.place l.text)
