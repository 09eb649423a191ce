-- Members that are read one by one.
use Rattle.std.proofs.Common.{◌≡◌, List, length, Result, Ok, sym, ap, subst, ◌∙◌}
use Rattle.lf_model.specs.declared.error.LdError.{LdError}
use Rattle.lf_model.specs.JsonData.{JsonMembers}
use Rattle.lf_expand.specs.declared.error.FrameErr.{FrameErr}
use Rattle.lf_expand.specs.declared.reading.Reading as program
use Rattle.lf_expand.specs.declared.rows.Row.{Row}
use Rattle.def_contexts.specs.Outcomes.{◌>>=◌}
use Rattle.def_contexts.specs.Readings.{Reading}
use Rattle.lf_expand.specs.Gives.{Fails}
use Rattle.lf_expand.specs.RowData.{built, Keeps}
use Rattle.lf_expand.specs.ReadingData.{Lists, Told, reading_of, IsRead}
use Rattle.lf_expand.proofs.RowLemmas.{keeps_both}
use Rattle.lf_expand.proofs.ReadingLemmas.{fails_then}

-- how members are read
abbrev pub Members : Type 0
Members = JsonMembers → Reading → Result Reading LdError

-- reading all members is reading those that are left, after what was read so far
pub record GoesOn (read : JsonMembers → Reading → Result Reading LdError) (old now : List Row) (first later : program.Reading) (lists : Lists) (all left : JsonMembers) : Type 0 where
  pub keeps : Keeps old now
  pub lists_now : Lists
  pub is : read all (reading_of (built old) first lists) ≡ read left (reading_of (built now) later lists_now)
  pub tells : Told (length now) later lists_now

-- one member more is read by a step
pub goes_on :
    (read : Members) (step : Reading → Result Reading LdError) (old now next : List Row) (first later after : program.Reading) (lists : Lists) (all left rest : JsonMembers) →
    ((d : Reading) → read left d ≡ (step d >>= read rest)) → (h : GoesOn read old now first later lists all left) →
    IsRead now next after (step (reading_of (built now) later h.lists_now)) → GoesOn read old next first after lists all rest
goes_on read step old now next first later after lists all left rest splits h k =
    record {
      keeps = keeps_both old now next h.keeps k.keeps;
      lists_now = k.lists;
      is = h.is ∙ splits (reading_of (built now) later h.lists_now) ∙ ap (λ s. s >>= read rest) k.is;
      tells = k.tells;
    }

-- the step fails
pub goes_wrong :
    (read : Members) (step : Reading → Result Reading LdError) (old now : List Row) (first later : program.Reading) (lists : Lists) (all left rest : JsonMembers) (e : FrameErr) →
    ((d : Reading) → read left d ≡ (step d >>= read rest)) → (h : GoesOn read old now first later lists all left) →
    Fails e (step (reading_of (built now) later h.lists_now)) → Fails e (read all (reading_of (built old) first lists))
goes_wrong read step old now first later lists all left rest e splits h k =
    subst (Fails e) (sym (h.is ∙ splits (reading_of (built now) later h.lists_now)))
    (fails_then e (step (reading_of (built now) later h.lists_now)) (read rest) k)

-- no member is left
pub ends :
    (read : Members) (old now : List Row) (first later : program.Reading) (lists : Lists) (all left : JsonMembers) →
    ((d : Reading) → read left d ≡ Ok d) → GoesOn read old now first later lists all left → IsRead old now later (read all (reading_of (built old) first lists))
ends read old now first later lists all left none h =
    record { keeps = h.keeps; lists = h.lists_now; is = h.is ∙ none (reading_of (built now) later h.lists_now); tells = h.tells }
