-- What a frame makes of a term (JSON-LD 1.1 Framing, section 4: the top frame selects nodes of the
-- framed graph).
use Rattle.std.specs.Prelude.{[], ℕ, Bool, true, false, Option, Some, None}
use Rattle.lf_rdf.specs.declared.term.Term.{Term}
use Rattle.lf_rdf.specs.declared.question.GraphRef.{GraphRef}
use Rattle.lf_rdf.specs.declared.question.GraphRef.TheVariants.{Default, Merged}
use Rattle.lf_model.specs.declared.frame.Frame.{Frame}
use Rattle.lf_model.specs.TreeData.{TreeNode}
use Rattle.def_nested.specs.Nested.{Nested}
use Rattle.def_nested.specs.Unfolding.{nested_frame}
use Rattle.def_datasets.specs.Views.{View}
use Rattle.def_framing.specs.Views.{Views}
use Rattle.def_framing.specs.Matching.{matches}
use Rattle.lf_model.specs.declared.document.Limit.{Limit}
use Rattle.def_framing.specs.Results.{Result, gives, over, at_first}
use Rattle.def_framing.specs.Embedding.{embed}

pub data Outcome : Type 0 where
  not_key : Outcome
  no_match : Outcome
  matched : TreeNode → Outcome
  past : Limit → Outcome

-- the framed graph: the default graph where the frame has `@graph` at its top, else all graphs
-- merged
abbrev pub framed_graph : Bool → GraphRef
framed_graph true = Default
framed_graph false = Merged

-- the most nodes on a path
abbrev pub depth_limit : ℕ
depth_limit = 256

abbrev pub outcome_of_result : Result TreeNode → Outcome
outcome_of_result (gives made after) = matched made
outcome_of_result (over limit) = past limit

-- a key that matches is embedded free, with nothing embedded before and an empty path
abbrev pub outcome_of_key : Views → Nested → GraphRef → Term → Bool → Outcome
outcome_of_key views top graph id true =
    outcome_of_result (embed views depth_limit graph id top true [] at_first)
outcome_of_key views top graph id false = no_match

abbrev pub outcome_of_view : Views → Nested → GraphRef → Term → Option View → Outcome
outcome_of_view views top graph id None = not_key
outcome_of_view views top graph id (Some view) =
    outcome_of_key views top graph id (matches views graph top id)

-- the outcome of a term by a nested frame
abbrev pub outcome_in : Views → Nested → GraphRef → Term → Outcome
outcome_in views top graph id = outcome_of_view views top graph id (views.view graph id)

-- the outcome of a term by a frame
abbrev pub outcome : Views → Frame → Term → Outcome
outcome views f id = outcome_in views (nested_frame f) (framed_graph f.top_graph) id
