-- The sub-frames that embedding hands on, as nested frames (JSON-LD 1.1 Framing, section 4.1).
use Rattle.std.specs.Prelude.{List, ℕ, Option, Some, None}
use Rattle.lf_model.specs.declared.frame.FrameNode.{FrameNode}
use Rattle.lf_embed.specs.declared.form.Form.{Form}
use Rattle.lf_embed.specs.declared.form.Form.TheVariants as form
use Rattle.lf_embed.specs.declared.form.WildFlags.{WildFlags}
use Rattle.def_nested.specs.Nested.{Flags, Nested, Within, match_none, no_graph, in_graph, plain, wildcard}
use Rattle.def_nested.specs.Unfolding.{above, nested, sub_frame}

-- the flags of a wildcard
abbrev pub wild_flags : WildFlags → Flags
wild_flags flags =
    record plain { embed = flags.embed; explicit = flags.explicit; require_all = flags.require_all }

-- the flags that a wildcard takes over from a frame
abbrev pub heir : Flags → WildFlags
heir flags =
    record { embed = flags.embed; explicit = flags.explicit; require_all = flags.require_all }

-- the nested frame that a sub-frame of a table's frame stands for
abbrev pub form_of : List FrameNode → Form → Nested
form_of rows form.Absent = match_none
form_of rows (form.Row at) = nested rows at
form_of rows (form.Wild flags) = wildcard (wild_flags flags)

-- the frame for the items of a list under a list pattern of the map `at`
abbrev pub list_item : List FrameNode → ℕ → Option ℕ → Nested
list_item rows at None = wildcard plain
list_item rows at (Some number) = sub_frame (above at (nested rows)) (Some number)

-- the sub-frame of `@graph`, where it stands
abbrev pub within_frame : Within → Option Nested
within_frame no_graph = None
within_frame (in_graph sub) = Some sub
