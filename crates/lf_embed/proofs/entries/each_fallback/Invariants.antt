use Rattle.std.proofs.Common.{◌≡◌, [], drop, map}
use Rattle.lf_model.specs.TreeBridge.{entry_data}
use Rattle.def_framing.specs.Parts.{fallback_next}
use Rattle.def_framing.specs.Results.{through}
use Rattle.lf_embed.specs.Walks.{path_of, state_of}
use Rattle.lf_embed.proofs.entries.each_fallback.Given as goal

abbrev pub invariant-loop-value : goal.invariant-loop-value
invariant-loop-value l =
    record {
      run :
          through fallback_next (map entry_data l.entries) (drop l.value-index l.values) (state_of l.walk)
          ≡ through fallback_next [] l.values (state_of l.initial.walk);
      path : path_of l.walk ≡ path_of l.initial.walk;
    }
