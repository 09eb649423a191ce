-- What embedding chooses without asking (JSON-LD 1.1 Framing, section 4.1: the object embed flag
-- and named graphs).
use Rattle.std.specs.Prelude.{List, Bool, true, false, not, ◌&&◌, ◌||◌}
use Rattle.lf_rdf.specs.declared.term.Term.{Term}
use Rattle.lf_rdf.specs.declared.question.GraphRef.{GraphRef}
use Rattle.def_nested.specs.Nested.{Nested, within_of}
use Rattle.def_framing.specs.Steps.{has_graph, is_merged, is_outside}
use Rattle.def_framing.specs.Views.{Place}
use Rattle.lf_embed.specs.declared.choices.ReferenceRule.{ReferenceRule}
use Rattle.lf_embed.specs.declared.choices.ReferenceRule.TheVariants as rule

-- a reference is taken, by whether the sub-frame matches its node
abbrev pub taken_by : ReferenceRule → Bool → Bool
taken_by rule.Never matched = false
taken_by rule.Always matched = true
taken_by rule.Matching matched = matched

-- the graph of this name is entered, by whether it names a graph
abbrev pub enters_by : Bool → GraphRef → Term → Nested → List Place → Bool
enters_by named graph id frame path =
    named && is_outside path id && (has_graph (within_of frame) || not (is_merged graph))
