-- Worked cases of whole lines: what may stand where, and what may not.
use Rattle.std.specs.Prelude.{◌≡◌, ℕ, Bool, true, false, List, [], ◌∷◌, codes, is_some, refl}
use Rattle.std.specs.List.{list_all, list_any}
use Rattle.def_patch_texts.specs.PatchText.{absolute_iris, lines_of}
use Rattle.def_patch_texts.specs.Reading.{line_at}
use Rattle.def_patch_texts.specs.WorkedCases.{reading_open}

-- these characters are a line
abbrev pub reads : List ℕ → Bool
reads text = is_some (line_at absolute_iris text)

pub skipped_lines : list_all reads ([] ∷ codes " \t" ∷ codes "#" ∷ codes "\t # +" ∷ []) ≡ true
unfolding reading_open
skipped_lines = refl

-- signs have one space behind them and none before them; spaces stand wherever they are not needed
pub spaced_lines : list_all reads
    (codes "<a:><b:><c:>."
    ∷ codes "\t<a:>  <b:>\t<c:> ."
    ∷ codes "+  <a:> <b:> <c:> .\t# c"
    ∷ codes "- <a:><b:><c:><g:>.#"
    ∷ codes "<a:><b:>\"x\" ^^\t<d:> <g:> ."
    ∷ codes "<a:><b:>\"x\" @en-1<g:>."
    ∷ [])
    ≡ true
unfolding reading_open
spaced_lines = refl

pub signs_refused : list_any reads
    (codes "+<a:><b:><c:>."
    ∷ codes "-\t<a:><b:><c:>."
    ∷ codes " + <a:><b:><c:>."
    ∷ codes "+"
    ∷ codes "- # c"
    ∷ codes "+ - <a:><b:><c:>."
    ∷ [])
    ≡ false
unfolding reading_open
signs_refused = refl

-- labels are the longest that stand there, and leave the dot at the end
pub labelled_lines : list_all reads
    (codes "_:1 <b:> _::.b _:g."
    ∷ codes "_:a_:b <b:> _:c.d."
    ∷ codes "_:a<b:>_:c<g:>."
    ∷ [])
    ≡ true
unfolding reading_open
labelled_lines = refl

pub labels_refused : list_any reads
    (codes "_:a. <b:> <c:> ."
    ∷ codes "_:.a <b:> <c:> ."
    ∷ codes "_: a <b:> <c:> ."
    ∷ codes "<a:> <b:> _:c.."
    ∷ codes "<a:> <b:> _:c.g"
    ∷ [])
    ≡ false
unfolding reading_open
labels_refused = refl

pub escaped_lines : list_all reads
    (codes "<\\u0061\\u003A> <b:\\U0001F600> \"\\t\\b\\n\\r\\f\\\"\\'\\\\\\u0000\\uD7FF\\uE000\\U0010FFFF\" ."
    ∷ codes "<a:#b> <b:> \"# \\u0022 #\" . # \\x"
    ∷ [])
    ≡ true
unfolding reading_open
escaped_lines = refl

pub escapes_refused : list_any reads
    (codes "<a:\\n> <b:> <c:> ."
    ∷ codes "<a:\\u003E> <b:> <c:> ."
    ∷ codes "<a:\\u005C> <b:> <c:> ."
    ∷ codes "<a:> <b:> \"\\a\" ."
    ∷ codes "<a:> <b:> \"\\u12G4\" ."
    ∷ codes "<a:> <b:> \"\\u123\" ."
    ∷ codes "<a:> <b:> \"\\U0000041\" ."
    ∷ codes "<a:> <b:> \"\\uDFFF\" ."
    ∷ codes "<a:> <b:> \"\\U00110000\" ."
    ∷ [])
    ≡ false
unfolding reading_open
escapes_refused = refl

-- each term at its place, one graph at most, a dot, and nothing but a comment behind it
pub terms_refused : list_any reads
    (codes "\"a\" <b:> <c:> ."
    ∷ codes "<a:> _:b <c:> ."
    ∷ codes "<a:> \"b\" <c:> ."
    ∷ codes "<a:> <b:> <c:> \"g\" ."
    ∷ codes "<a:> <b:> <c:> <g:> <h:> ."
    ∷ codes "<a:> <b:> ."
    ∷ codes "<a:> <b:> <c:>"
    ∷ codes "<a:> <b:> <c:> . ."
    ∷ codes "<a:> <b:> <c:> . <d:>"
    ∷ [])
    ≡ false
unfolding reading_open
terms_refused = refl

pub parts_refused : list_any reads
    (codes "<a: b> <b:> <c:> ."
    ∷ codes "<a:{> <b:> <c:> ."
    ∷ codes "<> <b:> <c:> ."
    ∷ codes "<a:> <b:> \"c ."
    ∷ codes "<a:> <b:> \"c\nd\" ."
    ∷ codes "<a:> <b:> \"c\"^ ^<d:> ."
    ∷ codes "<a:> <b:> \"c\"^^_:d ."
    ∷ codes "<a:> <b:> \"c\"@ en ."
    ∷ codes "<a:> <b:> \"c\"@en- ."
    ∷ codes "<a:> <b:> \"c\"@en^^<d:> ."
    ∷ codes "<a:> <b:> <c:>@en ."
    ∷ [])
    ≡ false
unfolding reading_open
parts_refused = refl

-- ---- the lines of a text

pub no_end : lines_of (codes "a") ≡ codes "a" ∷ []
no_end = refl

pub nothing : lines_of [] ≡ [] ∷ []
nothing = refl

pub end_at_last : lines_of (codes "a\n") ≡ codes "a" ∷ [] ∷ []
end_at_last = refl

-- CR CR LF are two ends, and so are LF CR
pub ends_beside :
    lines_of (codes "a\r\r\nb\n\rc") ≡ codes "a" ∷ [] ∷ codes "b" ∷ [] ∷ codes "c" ∷ []
ends_beside = refl
