-- A told stream is answered from its first message on, and ends by its tail.
use Rattle.std.proofs.Common.{◌≡◌, refl, sym, ◌∙◌, ap, subst, List, [], ◌∷◌, ◌++◌, map, ℕ, Bool, Some, None, All, append_assoc}
use Rattle.std.proofs.lemmas.List.{append-nil, map-append}
use Rattle.std.proofs.lemmas.List.Elements.{All-head, All-tail}
use Rattle.std.proofs.lemmas.Option.{none-some}
use Rattle.def_histories.specs.declared.operation.Operation.{Operation}
use Rattle.lf_session.specs.declared.ended.Ended.{Ended}
use Rattle.lf_session.specs.declared.ended.Ended.TheVariants as ended
use Rattle.lf_session.specs.Boards.{Boards}
use Rattle.lf_session.specs.Exchanges.{Exchange, IsExchange, IsChain, message_of, history_of, need_of, messages, last_boards, last_history, last_need}
use Rattle.lf_session.specs.Session.{Last, IsLast, EndsBy, IsSession}
use Rattle.lf_session.specs.Session as session
use Rattle.lf_session.specs.Headline.{answered}
use Rattle.lf_session.specs.Whole.{Message, message_bytes, all_bytes, message_in, IsWholeMessage, MayEnd, WholeStreamsAreServed}
use Rattle.lf_session.specs.Told.{Tail, no_tail, IsTail, IsCleanTail, IsCutTail, IsBadTail, MayEndBy, AreAnswered, StreamsEndAsTold}
use Rattle.lf_session.proofs.ToldParts.{message-same, none_left, both_nil}
use Rattle.lf_session.proofs.ToldEnds.{no_message, empty_tail, refused-behind, cut-behind}

-- the messages behind those that were answered, and their bytes with the tail's
record Behind (ms : List Message) (xs : List Exchange) (part rest : List ℕ) : Type 0 where
  pub behind : List Message
  pub valid : All IsWholeMessage behind
  pub first : ms ≡ map message_in xs ++ behind
  pub told : all_bytes behind ++ part ≡ rest

one-behind : (alone : Bool) (boards : Boards) (seat need : ℕ) (before : List Operation) (x : Exchange) (ms : List Message) (tail : Tail) (part rest : List ℕ)
    → IsExchange alone boards seat need before x → All IsWholeMessage ms → IsTail tail part → all_bytes ms ++ part ≡ message_of x ++ rest
    → Behind ms (x ∷ []) part rest
one-behind alone boards seat need before x [] tail part rest is valid is_tail e =
    absurd (no_message tail part x.sent x.head x.body rest is_tail is.is_head is.accepted is.whole e)
one-behind alone boards seat need before x (m ∷ ms) tail part rest is valid is_tail e =
    let same = message-same m x.sent x.head x.body (all_bytes ms ++ part) rest (All-head IsWholeMessage m ms valid)
    is.is_head is.accepted is.whole (sym (append_assoc (message_bytes m) (all_bytes ms) part) ∙ e) in
    record {
      behind = ms;
      valid = All-tail IsWholeMessage m ms valid;
      first = λ i. same.0 i ∷ ms;
      told = same.1;
    }

chain-behind : (alone : Bool) (boards : Boards) (seat need : ℕ) (before : List Operation) (xs : List Exchange) (ms : List Message) (tail : Tail) (part rest : List ℕ)
    → IsChain alone boards seat need before xs → All IsWholeMessage ms → IsTail tail part → all_bytes ms ++ part ≡ messages xs ++ rest
    → Behind ms xs part rest
chain-behind alone boards seat need before [] ms tail part rest chain valid is_tail e =
    record { behind = ms; valid = valid; first = refl; told = e }
chain-behind alone boards seat need before (x ∷ xs) ms tail part rest chain valid is_tail e =
    let one = one-behind alone boards seat need before x ms tail part (messages xs ++ rest) chain.0 valid is_tail
    (e ∙ append_assoc (message_of x) (messages xs) rest) in
    let more = chain-behind alone x.boards seat (need_of need x) (history_of x) xs one.behind tail part rest chain.2 one.valid is_tail one.told in
    record {
      behind = more.behind;
      valid = more.valid;
      first = one.first ∙ ap (λ (w : List Message). message_in x ∷ w) more.first;
      told = more.told;
    }

-- ---- the end

-- what stands last goes with what is behind
abbrev Goes : Tail → List Message → Last → Type 0
Goes tail behind session.nothing = (behind ≡ []) × IsCleanTail tail
Goes tail behind (session.request x) = Unit {0}
Goes tail behind (session.refused e reply) = (behind ≡ []) × IsBadTail reply.status tail
Goes tail behind session.cut = (behind ≡ []) × IsCutTail tail
Goes tail behind session.faulted = Unit {0}
Goes tail behind (session.no_room head) = Unit {0}
Goes tail behind session.no_buffers = Unit {0}

asked-front : (xs : List Exchange) (x : Exchange) → map message_in (xs ++ x ∷ []) ≡ map message_in xs ++ message_in x ∷ []
asked-front xs x = map-append message_in xs (x ∷ [])

may-end : (tail : Tail) (xs : List Exchange) (last : Last) (sent : List ℕ) (end : Ended) (behind : List Message) → EndsBy last sent end
    → Goes tail behind last → MayEndBy tail (map message_in (answered xs last)) behind end
may-end tail xs last sent ended.Clean behind ends goes = subst (Goes tail behind) ends.0 goes
may-end tail xs last sent ended.Asked behind ends goes =
    (map message_in xs, message_in ends.0, ap (λ (l : Last). map message_in (answered xs l)) ends.1 ∙ asked-front xs ends.0, ends.2)
may-end tail xs last sent (ended.Bad status) behind ends goes =
    let bad = subst (Goes tail behind) ends.2 goes in
    (bad.0, subst (λ (n : ℕ). IsBadTail n tail) (sym ends.3) bad.1)
may-end tail xs last sent ended.CutShort behind ends goes = subst (Goes tail behind) ends.0 goes
may-end tail xs last sent ended.ReadFault behind ends goes = tt
may-end tail xs last sent ended.WriteFault behind ends goes = tt
may-end tail xs last sent ended.Memory behind ends goes = tt

told-end : (tail : Tail) (xs : List Exchange) (last : Last) (sent : List ℕ) (end : Ended) (ms behind : List Message) → EndsBy last sent end
    → Goes tail behind last → ms ≡ map message_in (answered xs last) ++ behind → AreAnswered tail ms (answered xs last) end
told-end tail xs last sent end ms behind ends goes first =
    record { behind = behind; first = first; ends = may-end tail xs last sent end behind ends goes }

last-told : (alone : Bool) (boards : Boards) (seat need : ℕ) (history after : List Operation) (xs : List Exchange) (last : Last) (rest more sent : List ℕ)
    (end : Ended) (ms : List Message) (tail : Tail) (part : List ℕ)
    → IsTail tail part → Behind ms xs part (rest ++ more) → IsLast alone boards seat need history rest (Some more) last after → EndsBy last sent end
    → AreAnswered tail ms (answered xs last) end
last-told alone boards seat need history after xs session.nothing rest more sent end ms tail part is_tail b stands ends =
    let nil = both_nil (all_bytes b.behind) part (sym (b.told ∙ λ i. stands.0 i ++ stands.1 i)) in
    told-end tail xs session.nothing sent end ms b.behind ends
    (none_left b.behind b.valid nil.0, empty_tail tail part is_tail nil.1) b.first
last-told alone boards seat need history after xs (session.request x) rest more sent end ms tail part is_tail b stands ends =
    let one = one-behind alone boards seat need history x b.behind tail part (stands.1.0 ++ more) stands.0 b.valid is_tail
    (b.told ∙ (ap (λ (w : List ℕ). w ++ more) stands.1.1 ∙ append_assoc (message_of x) stands.1.0 more)) in
    told-end tail xs (session.request x) sent end ms one.behind ends tt
    (b.first
    ∙ (ap (λ (w : List Message). map message_in xs ++ w) one.first
    ∙ (sym (append_assoc (map message_in xs) (message_in x ∷ []) one.behind)
    ∙ ap (λ (w : List Message). w ++ one.behind) (sym (asked-front xs x)))))
last-told alone boards seat need history after xs (session.refused e reply) rest more sent end ms tail part is_tail b stands ends =
    told-end tail xs (session.refused e reply) sent end ms b.behind ends
    (refused-behind tail b.behind part rest more e reply b.valid is_tail b.told stands.0 stands.1) b.first
last-told alone boards seat need history after xs session.cut rest more sent end ms tail part is_tail b stands ends =
    told-end tail xs session.cut sent end ms b.behind ends (cut-behind tail b.behind part rest more b.valid is_tail b.told stands.0) b.first
last-told alone boards seat need history after xs session.faulted rest more sent end ms tail part is_tail b stands ends =
    told-end tail xs session.faulted sent end ms b.behind ends tt b.first
last-told alone boards seat need history after xs (session.no_room head) rest more sent end ms tail part is_tail b stands ends =
    told-end tail xs (session.no_room head) sent end ms b.behind ends tt b.first
last-told alone boards seat need history after xs session.no_buffers rest more sent end ms tail part is_tail b stands ends =
    told-end tail xs session.no_buffers sent end ms b.behind ends tt b.first

some-same : (one two : List ℕ) → Some one ≡ Some two → one ≡ two
some-same one two e = cc

pub streams_end_as_told : StreamsEndAsTold
streams_end_as_told alone boards seat bytes written None before after end xs last ms tail part valid is_tail told is =
    absurd (none-some (all_bytes ms ++ part) (sym told))
streams_end_as_told alone boards seat bytes written (Some more) before after end xs last ms tail part valid is_tail told is =
    last-told alone (last_boards boards xs) seat (last_need 0 xs) (last_history before xs) after xs last is.rest more is.sent end ms tail part is_tail
    (chain-behind alone boards seat 0 before xs ms tail part (is.rest ++ more) is.chain valid is_tail
    (some-same (all_bytes ms ++ part) (bytes ++ more) told
    ∙ (ap (λ (w : List ℕ). w ++ more) is.read ∙ append_assoc (messages xs) is.rest more)))
    is.stands is.ends

-- ---- nothing behind whole messages

whole-end : (before behind : List Message) (end : Ended) → MayEndBy no_tail before behind end → MayEnd before behind end
whole-end before behind ended.Clean ends = ends.0
whole-end before behind ended.Asked ends = ends
whole-end before behind (ended.Bad status) ends = ends.1
whole-end before behind ended.CutShort ends = ends.1
whole-end before behind ended.ReadFault ends = tt
whole-end before behind ended.WriteFault ends = tt
whole-end before behind ended.Memory ends = tt

pub whole_streams_are_served : WholeStreamsAreServed
whole_streams_are_served alone boards seat bytes written left before after end xs last ms valid told is =
    let all = streams_end_as_told alone boards seat bytes written left before after end xs last ms no_tail [] valid refl
    (ap Some (append-nil (all_bytes ms)) ∙ told) is in
    record {
      behind = all.behind;
      first = all.first;
      ends = whole-end (map message_in (answered xs last)) all.behind end all.ends;
    }
