-- What a value of the type `Frame` means (JSON-LD 1.1 Framing, section 4.1).
use Rattle.std.specs.Prelude.{◌≡◌, Ok}
use Rattle.lf_model.specs.declared.frame.Frame.{Frame}
use Rattle.lf_model.specs.JsonData.{JsonValue}
use Rattle.lf_model.specs.JsonBridge.{json_data}
use Rattle.def_nested.specs.Unfolding.{nested_frame}
use Rattle.def_contexts.specs.Frames.{FrameMeaning, frame_of}

-- its nested frame is that of node 0, with its table, its context and whether a key of its top map
-- is `@graph`
abbrev pub frame_meaning : Frame → FrameMeaning
frame_meaning f =
    record {
      nested = nested_frame f;
      table = f.table;
      context = json_data f.context;
      top_graph = f.top_graph;
    }

-- the value stands for a frame's text
abbrev pub IsFrameOf : JsonValue → Frame → Type 0
IsFrameOf frame f = frame_of frame ≡ Ok (frame_meaning f)
