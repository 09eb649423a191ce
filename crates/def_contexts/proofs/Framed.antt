-- The laws of frames.
use Rattle.std.proofs.Common.{◌≡◌, Bool, true, false, ◌&&◌, ◌||◌, List, [], ◌∷◌, unwrap_or, Result, Ok, Err, IsTrue, refl, sym, ◌∙◌, subst, true≢false, codes}
use Rattle.std.specs.Bool.{⊤}
use Rattle.lf_model.specs.declared.table.TermTable.{TermTable}
use Rattle.lf_model.specs.declared.error.LdError.{LdError}
use Rattle.lf_model.specs.declared.error.LdError.TheVariants as ld
use Rattle.lf_model.specs.JsonData.{JsonValue, JsonItems, JsonMembers, null, truth, whole, fraction, text, array, object, no_items, item, no_members, member}
use Rattle.def_nested.specs.Nested.{Nested}
use Rattle.def_contexts.specs.Outcomes.{◌>>=◌}
use Rattle.def_contexts.specs.Members.{value_of}
use Rattle.def_contexts.specs.Table.{table_of}
use Rattle.def_contexts.specs.Causes.{is_context_error}
use Rattle.def_contexts.specs.FrameKeys.{Meaning, meaning_of}
use Rattle.def_contexts.specs.SubFrames.{top_frame}
use Rattle.def_contexts.specs.Frames.{FrameMeaning, one_map, without_key, is_graph_key, unwrapped, frame_by, frame_of}
use Rattle.def_contexts.specs.FrameLaws.{is_sound, FramesAreSound, FrameTermsAreItsContexts, is_frame_error, FrameErrorsAreNamed, OneMapInAnArray, ContextErrorsComeFirst}
use Rattle.def_contexts.specs.FrameCauses.{speaks, holds_frames, value_speaks, items_speak, members_speak, FrameErrorsHaveCauses}
use Rattle.def_contexts.proofs.Holding.{Holds, then-holds, cond-holds}
use Rattle.def_contexts.proofs.Tables.{errors_are_named}
use Rattle.def_contexts.proofs.FrameReading.{top-holds}

-- a step whose own outcome is known
known-holds :
    {A B : Type 0} (Q : LdError → Type 0) (R : B → Type 0) (r : Result A LdError) (next : A → Result B LdError) →
    ((e : LdError) → r ≡ Err e → Q e) → ((x : A) → r ≡ Ok x → Holds Q R (next x)) → Holds Q R (r >>= next)
known-holds Q R (Ok x) next q h = h x refl
known-holds Q R (Err e) next q h = q e refl

pub frame_errors_have_causes : FrameErrorsHaveCauses
frame_errors_have_causes table given e h =
    subst (Holds (λ e. IsTrue (members_speak e table [] given)) (λ nested. is_sound nested ≡ true)) h (top-holds table given)

top-sound : (table : TermTable) (given : JsonMembers) (nested : Nested) → top_frame table given ≡ Ok nested → is_sound nested ≡ true
top-sound table given nested h =
    subst (Holds (λ e. IsTrue (members_speak e table [] given)) (λ nested. is_sound nested ≡ true)) h (top-holds table given)

-- an error of which no key speaks
abbrev IsMute : LdError → Type 0
IsMute e = (table : TermTable) (before : List Meaning) (m : Meaning) (value : JsonValue) → speaks e table before m value ≡ false

mutual
  value-mute : (e : LdError) (table : TermTable) (value : JsonValue) → IsMute e → value_speaks e table value ≡ false
  value-mute e table (array items) mute = items-mute e table items mute
  value-mute e table (object given) mute = members-mute e table [] given mute
  value-mute e table null mute = refl
  value-mute e table (truth b) mute = refl
  value-mute e table (whole n) mute = refl
  value-mute e table fraction mute = refl
  value-mute e table (text t) mute = refl

  items-mute : (e : LdError) (table : TermTable) (items : JsonItems) → IsMute e → items_speak e table items ≡ false
  items-mute e table no_items mute = refl
  items-mute e table (item value rest) mute = rw (value-mute e table value mute, items-mute e table rest mute) refl

  members-mute : (e : LdError) (table : TermTable) (before : List Meaning) (given : JsonMembers) → IsMute e → members_speak e table before given ≡ false
  members-mute e table before no_members mute = refl
  members-mute e table before (member key value rest) mute =
      rw (mute table before (meaning_of table key) value, value-mute e table value mute, members-mute e table (meaning_of table key ∷ before) rest mute)
      (nothing (holds_frames (meaning_of table key)))
    where
      nothing : (b : Bool) → ((b && false) || false) ≡ false
      nothing true = refl
      nothing false = refl

context-frame : (e : LdError) → IsTrue (is_context_error e) → IsTrue (is_frame_error e)
context-frame ld.IriConfusedWithPrefix h = h
context-frame _ h = refl

top-frame : (e : LdError) (table : TermTable) (given : JsonMembers) → IsTrue (members_speak e table [] given) → IsTrue (is_frame_error e)
top-frame ld.IriConfusedWithPrefix table given h =
    absurd (true≢false (sym h ∙ members-mute ld.IriConfusedWithPrefix table [] given (λ table before m value. refl)))
top-frame _ table given h = refl

-- the errors and the meaning of a frame
abbrev Named : LdError → Type 0
Named e = IsTrue (is_frame_error e)

abbrev IsMeant : FrameMeaning → Type 0
IsMeant f = (is_sound f.nested ≡ true) × (table_of f.context ≡ Ok f.table)

one_map-holds : (value : JsonValue) → Holds Named (λ (_ : JsonMembers). ⊤) (one_map value)
one_map-holds (object given) = tt
one_map-holds (array no_items) = tt
one_map-holds (array (item (object given) no_items)) = tt
one_map-holds _ = refl

unwrapped-holds : (table : TermTable) (given : JsonMembers) → Holds Named (λ (_ : JsonMembers). ⊤) (unwrapped table given)
unwrapped-holds table (member key value no_members) =
    cond-holds Named (λ (_ : JsonMembers). ⊤) (is_graph_key table key) _ _ (λ _. one_map-holds value) (λ _. tt)
unwrapped-holds table no_members = tt
unwrapped-holds table (member key value (member _ _ _)) = tt

frame_by-holds : (context : JsonValue) (given : JsonMembers) → Holds Named IsMeant (frame_by context given)
frame_by-holds context given =
    known-holds Named IsMeant (table_of context) _ (λ e h. context-frame e (errors_are_named context e h))
    (λ table t. then-holds Named (λ (_ : JsonMembers). ⊤) IsMeant (unwrapped table given) _ (unwrapped-holds table given)
    (λ inner _. known-holds Named IsMeant (top_frame table inner) _ (λ e h. top-frame e table inner (frame_errors_have_causes table inner e h))
    (λ nested n. (top-sound table inner nested n, t))))

frame-holds : (frame : JsonValue) → Holds Named IsMeant (frame_of frame)
unfolding frame_of
frame-holds frame =
    then-holds Named (λ (_ : JsonMembers). ⊤) IsMeant (one_map frame) _ (one_map-holds frame)
    (λ given _. frame_by-holds (unwrap_or (value_of (codes "@context") given) null) (without_key (codes "@context") given))

pub frames_are_sound : FramesAreSound
frames_are_sound frame f h = (subst (Holds Named IsMeant) h (frame-holds frame)).0

pub frame_terms_are_its_contexts : FrameTermsAreItsContexts
frame_terms_are_its_contexts frame f h = (subst (Holds Named IsMeant) h (frame-holds frame)).1

pub frame_errors_are_named : FrameErrorsAreNamed
frame_errors_are_named frame e h = subst (Holds Named IsMeant) h (frame-holds frame)

pub one_map_in_an_array : OneMapInAnArray
unfolding frame_of
one_map_in_an_array given = refl

pub context_errors_come_first : ContextErrorsComeFirst
unfolding frame_of
context_errors_come_first given context e found h = rw (found, h) refl
