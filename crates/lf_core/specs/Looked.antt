-- What stands at a live frame, for a caller that needs a version.
use Rattle.std.specs.Prelude.{◌≡◌, ◌≤◌, ℕ, true, false, Some, is_some, Result, Ok, Err}
use Rattle.std.specs.Arc.{arc_value}
use Rattle.std.specs.Option.{option_map}
use Rattle.lf_base.specs.declared.memory.Memory.{Memory}
use Rattle.lf_model.specs.declared.desk.Look.{Look}
use Rattle.lf_model.specs.declared.desk.Look.TheVariants.{Document, Pending, Unknown}
use Rattle.lf_desk.specs.Looks.{is_new_enough}
use Rattle.lf_core.specs.declared.frames.Kept.{Kept}

-- a document stands at a published version
abbrev pub IsPublished : Kept → Type 0
IsPublished kept = is_some kept.doc ≡ is_some kept.live.published

abbrev pub ShowsAt : Kept → ℕ → Look → Type 0
ShowsAt kept need Unknown = ⊥
ShowsAt kept need (Pending have needed) =
    (have ≡ kept.live.published) × (needed ≡ need) × (is_new_enough need have ≡ false)
ShowsAt kept need (Document doc version) =
    (kept.live.published ≡ Some version) × (need ≤ version)
    × (Some (arc_value doc) ≡ option_map arc_value kept.doc)

abbrev pub LooksAt : Kept → ℕ → Result Look Memory → Type 0
LooksAt kept need (Ok look) = ShowsAt kept need look
LooksAt kept need (Err refused) = is_new_enough need kept.live.published ≡ true
