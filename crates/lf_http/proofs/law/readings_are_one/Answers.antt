use Rattle.httparse.proofs.GrammarLemmas.{request_unique}
use Rattle.lf_http.proofs.Streams.{streams_are_one}
use Rattle.lf_http.proofs.law.readings_are_one.Goals as goal

pub returns-clause-head : goal.returns-clause-head
returns-clause-head c = λ bytes first second rest more. request_unique bytes first second rest more

pub returns-clause-stream : goal.returns-clause-stream
returns-clause-stream c = λ bytes ms ns rest more. streams_are_one bytes ms ns rest more
