-- Worked cases: the properties of the `@reverse` maps of nested frames, and what is near a term for
-- such a frame.
use Rattle.std.specs.Prelude.{◌≡◌, List, [], ◌∷◌, ℕ, codes}
use Rattle.lf_rdf.specs.declared.quad.Quad.{Quad}
use Rattle.lf_rdf.specs.declared.question.Question.TheVariants as ask
use Rattle.def_datasets.specs.Near.{itself, by_object, by_reverse}
use Rattle.def_nested.specs.Nested as nested
use Rattle.def_nested.specs.Nested.{Nested, match_none, frame_map, no_props, prop, reverse_prop, no_graph, in_graph, node_frame, list_pattern_of, plain}
use Rattle.def_framing.specs.Nearness.{reversed_in, NearFor, NearQuestionFor}
use Rattle.def_framing.specs.Worked.Words.{a, b, c, l, n, p, q, any, quad, form}
use mathlib.Core.Path.{refl}

pub none_in_wildcard : reversed_in any ≡ []
none_in_wildcard = refl

-- the frame `{"@reverse": {"http://e/p": {}}}`
unfoldable pub pointed : Nested
pointed = frame_map plain no_props (reverse_prop p any nested.no_reverses) no_graph node_frame

-- the frame `{"@graph": F, "@reverse": {"http://e/n": F}, "http://e/l": {"@list": F}, "http://e/q":
-- []}`, where F is the one above
unfoldable pub at_each_place : Nested
at_each_place =
    frame_map
    plain
    (prop l (frame_map plain no_props nested.no_reverses no_graph (list_pattern_of pointed))
    (prop q match_none no_props))
    (reverse_prop n pointed nested.no_reverses)
    (in_graph pointed)
    node_frame

pub found_at_each_place : reversed_in at_each_place ≡ p ∷ n ∷ p ∷ p ∷ []
unfolding pointed at_each_place
found_at_each_place = refl

-- the frame `{"http://e/q": {"@reverse": {"http://e/p": {}}}}`
unfoldable pub below : Nested
below = form plain (prop q pointed no_props)

-- node a has the value b, and c points at b
abbrev pub pointing : List Quad
pointing = quad a q b ∷ quad c p b ∷ []

pub near_below : NearFor pointing below a c
unfolding pointed below a b c p q
near_below = by_reverse (quad c p b) refl refl (by_object (quad a q b) refl itself)

pub asked_below : NearQuestionFor pointing below a (ask.OutAny c)
asked_below = near_below
