-- A worked value of the type `Frame`: the text that it stands for, and its document.
use Rattle.std.specs.Prelude.{◌≡◌, List, [], ◌∷◌, ℕ, false, Some, None, codes}
use Rattle.lf_rdf.specs.declared.quad.Quad.{Quad}
use Rattle.lf_rdf.specs.declared.term.Term.TheVariants.{Blank}
use Rattle.lf_model.specs.JsonData.{JsonValue}
use Rattle.lf_model.specs.declared.document.Doc.TheVariants.{Bytes}
use Rattle.lf_model.specs.declared.frame.Embed.TheVariants as embed
use Rattle.lf_model.specs.declared.frame.Frame.{Frame}
use Rattle.lf_model.specs.declared.frame.FrameKind.{FrameKind}
use Rattle.lf_model.specs.declared.frame.FrameKind.TheVariants as kind
use Rattle.lf_model.specs.declared.frame.FrameNode.{FrameNode}
use Rattle.lf_model.specs.declared.frame.FrameProp.{FrameProp}
use Rattle.lf_model.specs.declared.frame.IdTest.TheVariants as id_test
use Rattle.lf_model.specs.declared.frame.TypeTest.TheVariants as type_test
use Rattle.lf_model.specs.declared.json.Json.TheVariants as json
use Rattle.def_contexts.specs.CaseWords.{map_of}
use Rattle.def_contexts.specs.FrameValues.{IsFrameOf}
use Rattle.def_contexts.specs.Table.{empty_table}
use Rattle.def_framing.specs.Worked.Words.{quad, string, a, b, p, q}
use Rattle.def_scratch.specs.Scratch.{scratch_frame}

-- a map of these properties and this kind that states no more
abbrev pub row : List FrameProp → FrameKind → FrameNode
row props kind =
    record {
      ids = id_test.Absent;
      types = type_test.Absent;
      embed = embed.Once;
      explicit = false;
      require_all = false;
      omit_default = None;
      props = props;
      reverse = [];
      graph = None;
      kind = kind;
      fallback = None;
    }

-- {"http://e/p":{}}
abbrev pub frame_text : JsonValue
frame_text = map_of ((codes "http://e/p", map_of []) ∷ [])

-- its maps by their numbers: the property of the first names the second, which is a wildcard
abbrev pub numbered_frame : Frame
numbered_frame =
    record {
      nodes = row (record { property = codes "http://e/p"; frame = Some 1 } ∷ []) kind.Node
          ∷ row [] kind.Wild ∷ [];
      context = json.Null;
      table = empty_table;
      top_graph = false;
    }

abbrev pub shared : List Quad
shared = quad a p (Blank (codes "x")) ∷ quad b p (Blank (codes "x"))
    ∷ quad (Blank (codes "x")) q (string (codes "1")) ∷ []

abbrev pub shared_document : List ℕ
shared_document =
    codes "{\"@graph\":[{\"@id\":\"http://e/a\",\"http://e/p\":{\"@id\":\"_:x\",\"http://e/q\":\"1\"}},{\"@id\":\"http://e/b\",\"http://e/p\":{\"@id\":\"_:x\",\"http://e/q\":\"1\"}}]}"

pub record WorkedFrame : Type 0 where
  pub stands : IsFrameOf frame_text numbered_frame
  pub document : scratch_frame numbered_frame shared ≡ Bytes shared_document
