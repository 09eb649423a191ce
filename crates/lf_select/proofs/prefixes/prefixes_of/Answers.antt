use Rattle.std.proofs.Common.{arith}
use Rattle.lf_select.proofs.prefixes.prefixes_of.Goals as goal

pub add_prefix-requires-clause-grouped : goal.add_prefix-requires-clause-grouped
add_prefix-requires-clause-grouped c =
    let so_far = c.loop-place.invariant.0 in
    record {
      prefixes = so_far.prefixes;
      found = λ p term iri from at may its. so_far.found p term iri (omega arith) at may its;
    }

pub returns : goal.returns
returns c =
    let so_far = c.loop-place.invariant.0 in
    record {
      prefixes = so_far.prefixes;
      found = λ p term iri from at may its. so_far.found p term iri (omega arith) at may its;
    }
