-- A head within the limits that a stream begins with is the one that is read.
use Rattle.std.proofs.Common.{◌≡◌, ◌<◌, ◌≤◌, ◌⊎◌, inl, inr, ◌∙◌, ◌+◌, unwrap_or, ℕ, List, [], ◌∷◌, ◌++◌, Option, Some, None, Err, refl, ap, sym, subst, arith, length, map, take, drop, append_assoc}
use Rattle.std.proofs.Math.Seq.{take-append_seam}
use Rattle.std.proofs.lemmas.Grind.{common_steps}
use Rattle.std.proofs.lemmas.List.{append-nil, take-append-le, take-append-drop, length-append, length-map}
use Rattle.std.proofs.lemmas.Option.{none-some}
use Rattle.httparse.specs.Grammar.{RequestHead, IsRequestHead, ReadsRequest, HasNoRequest, print_request}
use Rattle.httparse.specs.Spans.{RequestExceeds, RequestOverflows, IsRequestAt, IsRequestWithin, header_bytes, name_and_value}
use Rattle.httparse.specs.declared.spans.HeaderSpan.{HeaderSpan}
use Rattle.httparse.specs.declared.spans.RequestSpans.{RequestSpans}
use Rattle.httparse.proofs.GrammarLemmas.{request_unique, ReadsRequest-append}
use Rattle.lf_io.specs.Bytes.{prepended, HasEnded}
use Rattle.lf_http.specs.declared.head.HeadErr.{HeadErr}
use Rattle.lf_http.specs.declared.head.HeadErr.TheVariants.{ReadFault, CutShort, TooLarge, BadHead, LengthNeeded, BodyTooLong, Expectation}
use Rattle.lf_http.specs.Judge.{judged, request_of}
use Rattle.lf_http.specs.Reading.{IsOpen, LacksHead, IsRefused, IsBeyond, longest_head, most_lines}

-- a head that is no longer than the bytes stands in them
within : (bytes more front rest : List ℕ) → bytes ++ more ≡ front ++ rest → length front ≤ length bytes
    → bytes ≡ front ++ drop (length front) bytes
within bytes more front rest same short =
    let taken : take (length front) bytes ≡ front =
    sym (take-append-le (length front) bytes more short)
    ∙ ap (λ (all : List ℕ). take (length front) all) same ∙ take-append_seam front rest in
    sym (take-append-drop (length front) bytes)
    ∙ ap (λ (part : List ℕ). part ++ drop (length front) bytes) taken

-- where the bytes hold no head, none that is no longer stands before more
too_long : (bytes more rest : List ℕ) (h : RequestHead) → HasNoRequest bytes → length (print_request h) ≤ length bytes
    → ReadsRequest (bytes ++ more) h rest → ⊥
too_long bytes more rest h none short reads =
    none h (drop (length (print_request h)) bytes) (reads.0, within bytes more (print_request h) rest reads.1 short)

some-injective : (a b : List ℕ) → Some a ≡ Some b → a ≡ b
some-injective a b e = ap (λ (o : Option (List ℕ)). unwrap_or o a) e

print-some : (h : RequestHead) → 0 < length (print_request h)
unfolding print_request
print-some h = grind (arith, common_steps)

-- no bytes hold no head
pub nothing_read : HasNoRequest []
nothing_read h rest reads =
    let some : 0 < length (print_request h) = print-some h in
    let all : length (print_request h ++ rest) ≡ length (print_request h) + length rest = length-append (print_request h) rest in
    let same : 0 ≡ length (print_request h ++ rest) = ap length reads.1 in
    omega arith

-- a head within the limits leaves no cause to answer that there is none
not_lacking : (bytes more rest : List ℕ) (h : RequestHead) (e : HeadErr)
    → ReadsRequest (bytes ++ more) h rest → length (print_request h) ≤ longest_head → length h.fields ≤ most_lines
    → (e ≡ ReadFault → ⊥) → LacksHead bytes (Some more) e → ⊥
not_lacking bytes more rest h ReadFault reads short few read lacks = read refl
not_lacking bytes more rest h CutShort reads short few read lacks =
    lacks.1.0 h rest (subst (λ (all : List ℕ). ReadsRequest all h rest) (ap (λ (m : List ℕ). bytes ++ m) lacks.2 ∙ append-nil bytes) reads)
not_lacking bytes more rest h TooLarge reads short few read lacks = over lacks
  where
    over : ((length bytes ≡ longest_head) × IsOpen bytes) ⊎ (RequestExceeds most_lines bytes × RequestOverflows most_lines bytes) → ⊥
    over (inl full) = too_long bytes more rest h full.1.0 (omega (arith, full.0)) reads
    over (inr many) = let more_lines : most_lines < length h.fields = many.1 more h rest reads in omega arith
not_lacking bytes more rest h BadHead reads short few read lacks = lacks more h rest reads
not_lacking bytes more rest h LengthNeeded reads short few read lacks = lacks
not_lacking bytes more rest h BodyTooLong reads short few read lacks = lacks
not_lacking bytes more rest h Expectation reads short few read lacks = lacks

-- the refusal of a head within the limits is its own
pub found-refused : (stream rest bytes more : List ℕ) (h : RequestHead) (e : HeadErr)
    → stream ≡ bytes ++ more → ReadsRequest stream h rest → length (print_request h) ≤ longest_head → length h.fields ≤ most_lines
    → (e ≡ ReadFault → ⊥) → IsRefused bytes (Some more) e → judged (request_of h) ≡ Err e
found-refused stream rest bytes more h e is reads short few read refused = by refused
  where
    here : ReadsRequest (bytes ++ more) h rest
    here = subst (λ (all : List ℕ). ReadsRequest all h rest) is reads

    by : IsRefused bytes (Some more) e → judged (request_of h) ≡ Err e
    by (inl lacks) = absurd (not_lacking bytes more rest h e here short few read lacks)
    by (inr (k, left, reads_k, why)) =
        let same : h ≡ k = (request_unique (bytes ++ more) h k rest (left ++ more) here (ReadsRequest-append bytes k left more reads_k)).0 in
        ap (λ (head : RequestHead). judged (request_of head)) same ∙ why

-- an accepted head is the one that stands first, and what follows it stays
pub found-head : (stream rest bytes more : List ℕ) (h k : RequestHead)
    → IsRequestHead k → stream ≡ (print_request k ++ bytes) ++ more → ReadsRequest stream h rest → (h ≡ k) × (bytes ++ more ≡ rest)
found-head stream rest bytes more h k valid is reads =
    let same = request_unique stream h k rest (bytes ++ more) reads (valid, is ∙ append_assoc (print_request k) bytes more) in
    (same.0, sym same.1)

pub found-none : (stream rest : List ℕ) (h : RequestHead) → stream ≡ [] → ReadsRequest stream h rest → ⊥
found-none stream rest h is reads = nothing_read h rest (subst (λ (all : List ℕ). ReadsRequest all h rest) is reads)

-- The same, where what is left is told at the beginning.
pub refused_is : (stream rest bytes : List ℕ) (left : Option (List ℕ)) (h : RequestHead) (e : HeadErr)
    → Some stream ≡ prepended bytes left → ReadsRequest stream h rest → length (print_request h) ≤ longest_head → length h.fields ≤ most_lines
    → (e ≡ ReadFault → ⊥) → IsRefused bytes left e → judged (request_of h) ≡ Err e
refused_is stream rest bytes None h e is reads short few read refused = absurd (none-some stream (sym is))
refused_is stream rest bytes (Some more) h e is reads short few read refused =
    found-refused stream rest bytes more h e (some-injective stream (bytes ++ more) is) reads short few read refused

pub head_is : (stream rest bytes : List ℕ) (left : Option (List ℕ)) (h k : RequestHead)
    → Some stream ≡ prepended (print_request k ++ bytes) left → IsRequestHead k → ReadsRequest stream h rest → h ≡ k
head_is stream rest bytes None h k is valid reads = absurd (none-some stream (sym is))
head_is stream rest bytes (Some more) h k is valid reads =
    (found-head stream rest bytes more h k valid (some-injective stream ((print_request k ++ bytes) ++ more) is) reads).0

pub rest_is : (stream rest bytes : List ℕ) (left : Option (List ℕ)) (h k : RequestHead)
    → Some stream ≡ prepended (print_request k ++ bytes) left → IsRequestHead k → ReadsRequest stream h rest → prepended bytes left ≡ Some rest
rest_is stream rest bytes None h k is valid reads = absurd (none-some stream (sym is))
rest_is stream rest bytes (Some more) h k is valid reads =
    ap Some (found-head stream rest bytes more h k valid (some-injective stream ((print_request k ++ bytes) ++ more) is) reads).1

pub not_none : (stream rest : List ℕ) (left : Option (List ℕ)) (h : RequestHead)
    → Some stream ≡ left → HasEnded left → ReadsRequest stream h rest → ⊥
not_none stream rest None h is ended reads = absurd (none-some stream (sym is))
not_none stream rest (Some more) h is ended reads = found-none stream rest h (some-injective stream more is ∙ ended) reads

-- beside a whole head there is no cause to answer that there is none
not_beside : (bytes rest : List ℕ) (left : Option (List ℕ)) (h : RequestHead) (e : HeadErr)
    → ReadsRequest bytes h rest → length h.fields ≤ most_lines → LacksHead bytes left e → ⊥
not_beside bytes rest left h ReadFault reads few lacks = lacks.0 h rest reads
not_beside bytes rest left h CutShort reads few lacks = lacks.1.0 h rest reads
not_beside bytes rest left h TooLarge reads few lacks = over lacks
  where
    over : ((length bytes ≡ longest_head) × IsOpen bytes) ⊎ (RequestExceeds most_lines bytes × RequestOverflows most_lines bytes) → ⊥
    over (inl full) = full.1.0 h rest reads
    over (inr many) =
        let more_lines : most_lines < length h.fields =
        many.1 [] h rest (subst (λ (all : List ℕ). ReadsRequest all h rest) (sym (append-nil bytes)) reads) in omega arith
not_beside bytes rest left h BadHead reads few lacks =
    lacks [] h rest (subst (λ (all : List ℕ). ReadsRequest all h rest) (sym (append-nil bytes)) reads)
not_beside bytes rest left h LengthNeeded reads few lacks = lacks
not_beside bytes rest left h BodyTooLong reads few lacks = lacks
not_beside bytes rest left h Expectation reads few lacks = lacks

-- the refusal of a whole head is its own
pub own_refusal : (bytes rest : List ℕ) (left : Option (List ℕ)) (h : RequestHead) (e : HeadErr)
    → ReadsRequest bytes h rest → length h.fields ≤ most_lines → IsRefused bytes left e → judged (request_of h) ≡ Err e
own_refusal bytes rest left h e reads few refused = by refused
  where
    by : IsRefused bytes left e → judged (request_of h) ≡ Err e
    by (inl lacks) = absurd (not_beside bytes rest left h e reads few lacks)
    by (inr (k, behind, reads_k, why)) =
        let same : h ≡ k = (request_unique bytes h k rest behind reads reads_k).0 in
        ap (λ (head : RequestHead). judged (request_of head)) same ∙ why

no_bytes : (bytes more : List ℕ) → [] ≡ bytes ++ more → bytes ≡ []
no_bytes [] more is = refl
no_bytes (b ∷ bytes) more is = absurd cc

-- where nothing was left, nothing was taken
pub nothing_taken : (bytes : List ℕ) (left : Option (List ℕ)) → Some [] ≡ prepended bytes left → bytes ≡ []
nothing_taken bytes None is = absurd (none-some [] (sym is))
nothing_taken bytes (Some more) is = no_bytes bytes more (some-injective [] (bytes ++ more) is)

-- where a head stands in the stream, want of a head is answered for its length or its lines alone
only_large : (bytes more rest : List ℕ) (h : RequestHead) (e : HeadErr)
    → ReadsRequest (bytes ++ more) h rest → (e ≡ ReadFault → ⊥) → LacksHead bytes (Some more) e → e ≡ TooLarge
only_large bytes more rest h ReadFault reads read lacks = absurd (read refl)
only_large bytes more rest h CutShort reads read lacks =
    absurd (lacks.1.0 h rest
    (subst (λ (all : List ℕ). ReadsRequest all h rest) (ap (λ (m : List ℕ). bytes ++ m) lacks.2 ∙ append-nil bytes) reads))
only_large bytes more rest h TooLarge reads read lacks = refl
only_large bytes more rest h BadHead reads read lacks = absurd (lacks more h rest reads)
only_large bytes more rest h LengthNeeded reads read lacks = absurd lacks
only_large bytes more rest h BodyTooLong reads read lacks = absurd lacks
only_large bytes more rest h Expectation reads read lacks = absurd lacks

pub large_is : (stream rest bytes : List ℕ) (left : Option (List ℕ)) (h : RequestHead) (e : HeadErr)
    → Some stream ≡ prepended bytes left → ReadsRequest stream h rest → (e ≡ ReadFault → ⊥) → LacksHead bytes left e → e ≡ TooLarge
large_is stream rest bytes None h e is reads read lacks = absurd (none-some stream (sym is))
large_is stream rest bytes (Some more) h e is reads read lacks =
    only_large bytes more rest h e
    (subst (λ (all : List ℕ). ReadsRequest all h rest) (some-injective stream (bytes ++ more) is) reads) read lacks

-- beside a whole head, want of a head is answered for its lines alone
pub many_lines : (bytes rest : List ℕ) (left : Option (List ℕ)) (h : RequestHead) (e : HeadErr)
    → ReadsRequest bytes h rest → LacksHead bytes left e → e ≡ TooLarge
many_lines bytes rest left h ReadFault reads lacks = absurd (lacks.0 h rest reads)
many_lines bytes rest left h CutShort reads lacks = absurd (lacks.1.0 h rest reads)
many_lines bytes rest left h TooLarge reads lacks = refl
many_lines bytes rest left h BadHead reads lacks =
    absurd (lacks [] h rest (subst (λ (all : List ℕ). ReadsRequest all h rest) (sym (append-nil bytes)) reads))
many_lines bytes rest left h LengthNeeded reads lacks = absurd lacks
many_lines bytes rest left h BodyTooLong reads lacks = absurd lacks
many_lines bytes rest left h Expectation reads lacks = absurd lacks

-- a head that was found is within the limits
pub within_limits : (bytes : List ℕ) (lines : List HeaderSpan) (spans : RequestSpans) (k : RequestHead)
    → IsRequestAt bytes lines spans k → IsRequestWithin bytes lines spans → length lines ≡ most_lines → length bytes ≤ longest_head
    → (length (print_request k) ≤ longest_head) × (length k.fields ≤ most_lines)
within_limits bytes lines spans k at inside room short =
    let fits : spans.len ≤ length bytes = inside.section.len_fits in
    let whole : spans.len ≡ length (print_request k) = at.len in
    let few : spans.headers ≤ length lines = inside.section.count_fits in
    let same : length (map (header_bytes bytes) (take spans.headers lines)) ≡ length (map name_and_value k.fields) = ap length at.fields in
    let taken : length (take spans.headers lines) ≡ length k.fields =
    sym (length-map (take spans.headers lines) (header_bytes bytes)) ∙ same ∙ length-map k.fields name_and_value in
    (omega arith, grind (arith, common_steps, taken, few, room))

pub not_beyond : (h k : RequestHead) → h ≡ k → (length (print_request k) ≤ longest_head) × (length k.fields ≤ most_lines)
    → IsBeyond h → ⊥
not_beyond h k same (short, few) (inl longer) =
    let other : length (print_request h) ≡ length (print_request k) = ap (λ (x : RequestHead). length (print_request x)) same in
    omega arith
not_beyond h k same (short, few) (inr more) =
    let other : length h.fields ≡ length k.fields = ap (λ (x : RequestHead). length x.fields) same in
    omega arith

last_none : (front bytes : List ℕ) → [] ≡ front ++ bytes → bytes ≡ []
last_none [] bytes is = sym is
last_none (b ∷ front) bytes is = absurd cc

-- where a part of a head within the limits is all that there is, that is the cause
only_cut : (bytes more lacking : List ℕ) (h : RequestHead) (e : HeadErr)
    → ReadsRequest (bytes ++ (more ++ lacking)) h [] → length (print_request h) ≤ longest_head → length h.fields ≤ most_lines
    → (e ≡ ReadFault → ⊥) → LacksHead bytes (Some more) e → e ≡ CutShort
only_cut bytes more lacking h ReadFault reads short few read lacks = absurd (read refl)
only_cut bytes more lacking h CutShort reads short few read lacks = refl
only_cut bytes more lacking h TooLarge reads short few read lacks =
    absurd (not_lacking bytes (more ++ lacking) [] h TooLarge reads short few read lacks)
only_cut bytes more lacking h BadHead reads short few read lacks =
    absurd (not_lacking bytes (more ++ lacking) [] h BadHead reads short few read lacks)
only_cut bytes more lacking h LengthNeeded reads short few read lacks = absurd lacks
only_cut bytes more lacking h BodyTooLong reads short few read lacks = absurd lacks
only_cut bytes more lacking h Expectation reads short few read lacks = absurd lacks

found-cut : (stream bytes more lacking : List ℕ) (h : RequestHead) (e : HeadErr)
    → stream ≡ bytes ++ more → ReadsRequest (stream ++ lacking) h [] → (lacking ≡ [] → ⊥)
    → length (print_request h) ≤ longest_head → length h.fields ≤ most_lines
    → (e ≡ ReadFault → ⊥) → IsRefused bytes (Some more) e → e ≡ CutShort
found-cut stream bytes more lacking h e is reads some short few read refused = by refused
  where
    here : ReadsRequest (bytes ++ (more ++ lacking)) h []
    here =
        subst (λ (all : List ℕ). ReadsRequest all h [])
        (ap (λ (all : List ℕ). all ++ lacking) is ∙ append_assoc bytes more lacking) reads

    by : IsRefused bytes (Some more) e → e ≡ CutShort
    by (inl lacks) = only_cut bytes more lacking h e here short few read lacks
    by (inr (k, behind, reads_k, why)) =
        absurd (some (last_none more lacking (sym (last_none behind (more ++ lacking)
        (request_unique (bytes ++ (more ++ lacking)) h k [] (behind ++ (more ++ lacking)) here
        (ReadsRequest-append bytes k behind (more ++ lacking) reads_k)).1))))

pub cut_is : (stream lacking bytes : List ℕ) (left : Option (List ℕ)) (h : RequestHead) (e : HeadErr)
    → Some stream ≡ prepended bytes left → ReadsRequest (stream ++ lacking) h [] → (lacking ≡ [] → ⊥)
    → length (print_request h) ≤ longest_head → length h.fields ≤ most_lines
    → (e ≡ ReadFault → ⊥) → IsRefused bytes left e → e ≡ CutShort
cut_is stream lacking bytes None h e is reads some short few read refused = absurd (none-some stream (sym is))
cut_is stream lacking bytes (Some more) h e is reads some short few read refused =
    found-cut stream bytes more lacking h e (some-injective stream (bytes ++ more) is) reads some short few read refused

-- a part of a head holds no whole one
pub no_whole : (stream lacking bytes : List ℕ) (left : Option (List ℕ)) (h k : RequestHead)
    → Some stream ≡ prepended (print_request k ++ bytes) left → IsRequestHead k
    → ReadsRequest (stream ++ lacking) h [] → (lacking ≡ [] → ⊥) → ⊥
no_whole stream lacking bytes None h k is valid reads some = none-some stream (sym is)
no_whole stream lacking bytes (Some more) h k is valid reads some =
    some (last_none (bytes ++ more) lacking (sym
    (found-head (stream ++ lacking) [] (bytes ++ more) lacking h k valid
    (ap (λ (all : List ℕ). all ++ lacking)
    (some-injective stream ((print_request k ++ bytes) ++ more) is ∙ append_assoc (print_request k) bytes more))
    reads).1))

-- where the input has ended and no bytes are pending, there were none
pub none_told : (stream : List ℕ) (left : Option (List ℕ)) → Some stream ≡ left → HasEnded left → stream ≡ []
none_told stream None is ended = absurd (none-some stream (sym is))
none_told stream (Some more) is ended = some-injective stream more is ∙ ended
