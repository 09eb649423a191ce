use Rattle.std.proofs.Common.{sym, subst}
use Rattle.std.specs.Option.{option_copied}
use Rattle.lf_model.specs.declared.frame.DefaultValue.{DefaultValue}
use Rattle.def_contexts.specs.Defaults.{default_of}
use Rattle.lf_expand.specs.Gives.{Gives}
use Rattle.lf_expand.proofs.Values.{map_value}
use Rattle.lf_expand.proofs.defaults.default_of.Goals as goal

pub returns-in-Map : goal.returns-in-Map
returns-in-Map c =
    subst (λ v. Gives (λ (value : DefaultValue). value) c.default_map.result (default_of c.args.terms.now.table.now (option_copied c.args.term) v))
    (sym (map_value c.args.value.now c.in-Map.members c.in-Map.is)) c.default_map.ensures
