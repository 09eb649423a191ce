-- Worked frames that are refused.
use Rattle.std.specs.Prelude.{◌≡◌, refl, List, [], ◌∷◌, ℕ, pos, false, Ok, Err, codes}
use Rattle.lf_model.specs.declared.error.LdError.TheVariants as ld
use Rattle.lf_model.specs.JsonData.{JsonValue, null, whole, fraction, text}
use Rattle.def_nested.specs.Nested.{plain, wildcard}
use Rattle.def_contexts.specs.Table.{empty_table}
use Rattle.def_contexts.specs.Frames.{frame_of}
use Rattle.def_contexts.specs.CaseWords.{frames_open, map_of, list_of}

-- the frame of one key
abbrev pub one : List ℕ → JsonValue → JsonValue
one key value = map_of ((key, value) ∷ [])

-- {"@embed":"@link"}
pub link_refused : frame_of (one (codes "@embed") (text (codes "@link"))) ≡ Err ld.InvalidEmbedValue
unfolding frames_open
link_refused = refl

-- {"@context":"http://e/c"}
pub remote_refused :
    frame_of (one (codes "@context") (text (codes "http://e/c")))
    ≡ Err ld.LoadingRemoteContextFailed
unfolding frames_open
remote_refused = refl

-- {"@context":{"@version":1.1}} is a frame
pub version_accepted :
    frame_of (one (codes "@context") (one (codes "@version") fraction))
    ≡ Ok (record {
      nested = wildcard plain;
      table = empty_table;
      context = one (codes "@version") fraction;
      top_graph = false;
    })
unfolding frames_open
version_accepted = refl

-- [{},{}]
pub two_frames_refused : frame_of (list_of (map_of [] ∷ map_of [] ∷ [])) ≡ Err ld.InvalidFrame
unfolding frames_open
two_frames_refused = refl

-- {"@context":{"a":{"@id":"b:x"},"b":{"@id":"a:y"}}}
pub cycle_refused :
    frame_of (one (codes "@context") (map_of ((codes "a", one (codes "@id") (text (codes "b:x")))
    ∷ (codes "b", one (codes "@id") (text (codes "a:y"))) ∷ []))) ≡ Err ld.CyclicIriMapping
unfolding frames_open
cycle_refused = refl

-- {"@context":{"id":"@id"},"@id":{},"id":5}: the collision is found before the second value is read
pub collision_refused :
    frame_of (map_of ((codes "@context", one (codes "id") (text (codes "@id")))
    ∷ (codes "@id", map_of []) ∷ (codes "id", whole (pos 5)) ∷ [])) ≡ Err ld.CollidingKeywords
unfolding frames_open
collision_refused = refl

-- {"@context":{"p":"http://e/p"},"http://e/p":null,"p":{}}: a property that null drops is given
pub property_collision_refused :
    frame_of (map_of ((codes "@context", one (codes "p") (text (codes "http://e/p")))
    ∷ (codes "http://e/p", null) ∷ (codes "p", map_of []) ∷ [])) ≡ Err ld.InvalidFrame
unfolding frames_open
property_collision_refused = refl

pub id_refused : frame_of (one (codes "@id") (text (codes "x"))) ≡ Err ld.InvalidIdValue
unfolding frames_open
id_refused = refl

-- {"@id":"_:-"}: what follows `_:` is no label
pub label_refused : frame_of (one (codes "@id") (text (codes "_:-"))) ≡ Err ld.InvalidIdValue
unfolding frames_open
label_refused = refl

pub type_refused : frame_of (one (codes "@type") (list_of (null ∷ []))) ≡ Err ld.InvalidTypeValue
unfolding frames_open
type_refused = refl

-- {"@reverse":{"http://e/p":{"@value":"x"}}}
pub reverse_pattern_refused :
    frame_of
    (one (codes "@reverse") (one (codes "http://e/p") (one (codes "@value") (text (codes "x")))))
    ≡ Err ld.InvalidReverseValue
unfolding frames_open
reverse_pattern_refused = refl

-- {"http://e/p":{"@id":{},"@value":"x"}}
pub value_object_refused :
    frame_of (one (codes "http://e/p")
    (map_of ((codes "@id", map_of []) ∷ (codes "@value", text (codes "x")) ∷ [])))
    ≡ Err ld.InvalidValueObject
unfolding frames_open
value_object_refused = refl

-- {"@default":"x"}, {"@value":"x"} and {"http://e/p":{"@context":{}}}: each stands where it can't
pub top_default_refused : frame_of (one (codes "@default") (text (codes "x"))) ≡ Err ld.InvalidFrame
unfolding frames_open
top_default_refused = refl

pub top_value_refused : frame_of (one (codes "@value") (text (codes "x"))) ≡ Err ld.InvalidFrame
unfolding frames_open
top_value_refused = refl

pub inner_context_refused :
    frame_of (one (codes "http://e/p") (one (codes "@context") (map_of []))) ≡ Err ld.InvalidFrame
unfolding frames_open
inner_context_refused = refl
