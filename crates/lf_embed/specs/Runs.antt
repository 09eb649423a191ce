-- What a call of embedding gave, as the definitions say it (JSON-LD 1.1 Framing, section 4: the
-- framing algorithm).
use Rattle.std.specs.Prelude.{List, ℕ, Option, Some, None, Result as Returned, Ok, Err}
use Rattle.lf_model.specs.declared.frame.FrameProp.{FrameProp}
use Rattle.lf_model.specs.TreeData.{TreeEntries}
use Rattle.lf_embed.specs.declared.walk.Stop.{Stop}
use Rattle.lf_embed.specs.declared.walk.Stop.TheVariants as stop
use Rattle.def_nested.specs.Nested.{Nested}
use Rattle.def_nested.specs.Unfolding.{Numbered, sub_frame}
use Rattle.def_framing.specs.Parts.{default_next, takes_default}
use Rattle.def_framing.specs.Results.{State, Result, choose, gives, over}

-- an output and the state after it, a limit, or nothing where no memory was found
abbrev pub run_of : {T A : Type 0} → (T → A) → Returned T Stop → State → Option (Result A)
run_of shown (Ok made) after = Some (gives (shown made) after)
run_of shown (Err (stop.Over limit)) after = Some (over limit)
run_of shown (Err stop.Memory) after = None

-- one more property of a frame takes its default, or is passed over
abbrev pub default_step :
    Nested → List (List ℕ × TreeEntries) → Numbered → List (List ℕ × TreeEntries) → FrameProp →
    State → Result (List (List ℕ × TreeEntries))
default_step frame outputs sub done p state =
    choose (takes_default frame outputs (p.property, sub_frame sub p.frame))
    (default_next done (p.property, sub_frame sub p.frame))
    (gives done) state
