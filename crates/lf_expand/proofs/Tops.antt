-- The members of a frame's map beside its context.
use Rattle.std.proofs.Common.{◌≡◌, ℕ, Bool, true, false, ◌&&◌, cond, List, codes, Option, Some, None, is_some, unwrap_or, Result, Ok, Err, IfOk, IfErr, refl, sym, ap, subst, ◌∙◌}
use Rattle.lf_model.specs.declared.error.LdError.{LdError}
use Rattle.lf_model.specs.declared.frame.Frame.{Frame}
use Rattle.def_nested.specs.Nested.{Nested}
use Rattle.def_contexts.specs.Outcomes.{◌>>=◌}
use Rattle.def_contexts.specs.Members.{value_of}
use Rattle.def_contexts.specs.Table.{table_of}
use Rattle.def_contexts.specs.SubFrames.{top_frame}
use Rattle.def_contexts.specs.FrameValues.{frame_meaning, IsFrameOf}
use Rattle.lf_expand.specs.declared.error.FrameErr.{FrameErr}
use Rattle.lf_expand.specs.Gives.{Gives, Fails}
use Rattle.lf_expand.proofs.ReadingLemmas.{fails_then}
use Rattle.lf_rdf.specs.Equality.{text_eq}
use Rattle.lf_model.specs.declared.table.TermTable.{TermTable}
use Rattle.def_contexts.specs.Frames.{FrameMeaning, one_map, unwrapped, without_key, has_graph, frame_by, frame_of}
use Rattle.lf_expand.specs.TopFrames.{map_alone, shown, maps_by, framed}
use Rattle.lf_sorted.specs.declared.map.Entry.{Entry}
use Rattle.lf_model.specs.declared.json.Json.{Json}
use Rattle.lf_model.specs.JsonData.{JsonValue, JsonMembers, null, truth, whole, fraction, text, array, object, no_items, item, no_members, member}
use Rattle.lf_model.specs.JsonBridge.{json_data}

-- the member that was met, before those that are to come
abbrev pub with_sole : Option (Entry Json) → JsonMembers → JsonMembers
with_sole None rest = rest
with_sole (Some e) rest = member e.key (json_data e.value) rest

-- two members stay as they are
pub two_members : (table : TermTable) (sole : Option (Entry Json)) (key : List ℕ) (value : JsonValue) (rest : JsonMembers) → is_some sole ≡ true →
    unwrapped table (with_sole sole (member key value rest)) ≡ Ok (with_sole sole (member key value rest))
two_members table (Some e) key value rest is = refl
two_members table None key value rest is = absurd (cc)

pub one_alone : (value : JsonValue) → one_map (array (item value no_items)) ≡ map_alone value
one_alone null = refl
one_alone (truth b) = refl
one_alone (whole n) = refl
one_alone fraction = refl
one_alone (text t) = refl
one_alone (array items) = refl
one_alone (object given) = refl

-- a member that is read, and one that is passed over
pub shown_kept : (b : Bool) (ms : JsonMembers) (key : List ℕ) (value : JsonValue) (rest : JsonMembers) → ms ≡ member key value rest → (b && text_eq (codes "@context") key) ≡ false →
    shown b ms ≡ member key value (shown b rest)
shown_kept true ms key value rest is other =
    ap (without_key (codes "@context")) is
    ∙ ap (λ t. cond t (without_key (codes "@context") rest) (member key value (without_key (codes "@context") rest))) other
shown_kept false ms key value rest is other = is

pub shown_past : (b : Bool) (ms : JsonMembers) (key : List ℕ) (value : JsonValue) (rest : JsonMembers) → ms ≡ member key value rest → (b && text_eq (codes "@context") key) ≡ true →
    shown b ms ≡ shown b rest
shown_past true ms key value rest is same =
    ap (without_key (codes "@context")) is
    ∙ ap (λ t. cond t (without_key (codes "@context") rest) (member key value (without_key (codes "@context") rest))) same
shown_past false ms key value rest is same = absurd (cc)

pub shown_none : (b : Bool) (ms : JsonMembers) → ms ≡ no_members → shown b ms ≡ no_members
shown_none true ms is = ap (without_key (codes "@context")) is
shown_none false ms is = is

-- ---- a frame by its own context

-- the meaning of a frame of these parts
abbrev pub meaning : JsonValue → TermTable → Nested → Bool → FrameMeaning
meaning context table sub graph = record { nested = sub; table = table; context = context; top_graph = graph }

abbrev paired : TermTable → JsonMembers → Nested → Result (Nested × Bool) LdError
paired table given sub = Ok (sub, has_graph table given)

abbrev meaning_of_pair : JsonValue → TermTable → Nested × Bool → Result FrameMeaning LdError
meaning_of_pair context table m = Ok (meaning context table m.0 m.1)

maps_of : (context : JsonValue) (table : TermTable) (given : JsonMembers) →
    (unwrapped table given >>= λ inner. top_frame table inner >>= λ sub. Ok (meaning context table sub (has_graph table given)))
    ≡ (maps_by table given >>= meaning_of_pair context table)
maps_of context table given = by (unwrapped table given)
  where
    nested_by : (q : Result Nested LdError) →
        (q >>= λ sub. Ok (meaning context table sub (has_graph table given))) ≡ ((q >>= paired table given) >>= meaning_of_pair context table)
    nested_by (Ok sub) = refl
    nested_by (Err e) = refl

    by : (r : Result JsonMembers LdError) →
        (r >>= λ inner. top_frame table inner >>= λ sub. Ok (meaning context table sub (has_graph table given)))
        ≡ ((r >>= λ inner. top_frame table inner >>= paired table given) >>= meaning_of_pair context table)
    by (Ok inner) = nested_by (top_frame table inner)
    by (Err e) = refl

pub by_table : (context : JsonValue) (given : JsonMembers) (table : TermTable) → table_of context ≡ Ok table →
    frame_by context given ≡ framed context table given
by_table context given table is =
    ap (λ (r : Result TermTable LdError). r >>= λ t. unwrapped t given >>= λ inner. top_frame t inner >>= λ sub. Ok (meaning context t sub (has_graph t given))) is
    ∙ maps_of context table given

pub framed_made : (context : JsonValue) (table : TermTable) (given : JsonMembers) (sub : Nested) (graph : Bool) → maps_by table given ≡ Ok (sub, graph) →
    framed context table given ≡ Ok (meaning context table sub graph)
framed_made context table given sub graph maps = ap (λ (r : Result (Nested × Bool) LdError). r >>= meaning_of_pair context table) maps

pub framed_fails : (context : JsonValue) (table : TermTable) (given : JsonMembers) (e : FrameErr) → Fails e (maps_by table given) → Fails e (framed context table given)
framed_fails context table given e h = fails_then e (maps_by table given) (meaning_of_pair context table) h

pub frame_table_fails : (context : JsonValue) (given : JsonMembers) (e : FrameErr) → Fails e (table_of context) → Fails e (frame_by context given)
frame_table_fails context given e h =
    fails_then e (table_of context) (λ t. unwrapped t given >>= λ inner. top_frame t inner >>= λ sub. Ok (meaning context t sub (has_graph t given))) h

-- ---- the frame of a value

of_members : (source : JsonValue) (given : JsonMembers) → one_map source ≡ Ok given →
    frame_of source ≡ frame_by (unwrap_or (value_of (codes "@context") given) null) (without_key (codes "@context") given)
unfolding frame_of
of_members source given is = ap (λ (r : Result JsonMembers LdError). r >>= λ ms. frame_by (unwrap_or (value_of (codes "@context") ms) null) (without_key (codes "@context") ms)) is

pub is_frame : (source : JsonValue) (given : JsonMembers) (result : Result Frame FrameErr) → one_map source ≡ Ok given →
    Gives frame_meaning result (frame_by (unwrap_or (value_of (codes "@context") given) null) (without_key (codes "@context") given)) → IfOk result (λ f. IsFrameOf source f)
is_frame source given (Ok f) is h = of_members source given is ∙ h
is_frame source given (Err e) is h = tt

pub is_refused : (source : JsonValue) (given : JsonMembers) (result : Result Frame FrameErr) → one_map source ≡ Ok given →
    Gives frame_meaning result (frame_by (unwrap_or (value_of (codes "@context") given) null) (without_key (codes "@context") given)) → IfErr result (λ e. Fails e (frame_of source))
is_refused source given (Ok f) is h = tt
is_refused source given (Err e) is h = subst (Fails e) (sym (of_members source given is)) h

pub one_map_fails : (source : JsonValue) (e : FrameErr) → Fails e (one_map source) → Fails e (frame_of source)
unfolding frame_of
one_map_fails source e h = fails_then e (one_map source) (λ ms. frame_by (unwrap_or (value_of (codes "@context") ms) null) (without_key (codes "@context") ms)) h
