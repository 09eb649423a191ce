use Rattle.std.proofs.Common.{◌≡◌, ◌∙◌, ap, sym, List, ℕ, Option, Ok, Err, take, drop, length, ◌++◌, arith, inl, inr}
use Rattle.std.proofs.lemmas.Grind.{common_steps}
use Rattle.httparse.specs.Grammar.{RequestHead}
use Rattle.httparse.specs.Spans.{IsRequestOf, IsRequestWithin}
use Rattle.httparse.proofs.GrammarLemmas.{request_unique}
use Rattle.lf_io.specs.Bytes.{prepended}
use Rattle.lf_io.proofs.Told.{prepended_nothing}
use Rattle.lf_http.specs.Judge.{judged, request_of}
use Rattle.lf_http.specs.Reading.{IsRefused, as_read, name_of}
use Rattle.lf_http.proofs.Found.{refused_is, head_is, rest_is, not_none, own_refusal, nothing_taken, found-none, large_is, many_lines, within_limits, not_beyond, cut_is, no_whole, none_told}
use Rattle.lf_http.proofs.message.read_head.Goals as goal

pub returns-in-Ok-None-clause-found : goal.returns-in-Ok-None-clause-found
returns-in-Ok-None-clause-found g c =
    let left = g.S.Source.left c.next_head.new.source in
    let none = c.in-Ok-None.is ∙ ap Ok c.in-Ok-None.field-0-is in
    rw (← c.buffers.view_is) (λ h told rest tells reads short few read.
    absurd (not_none (c.buffers.inside.pending.items ++ told) rest left h
    (ap (λ (o : Option (List ℕ)). prepended c.buffers.inside.pending.items o) (sym tells)
    ∙ c.next_head.ensures.bytes
    ∙ ap (λ (bytes : List ℕ). prepended bytes left) (c.next_head.ensures.none none)
    ∙ prepended_nothing left)
    (c.next_head.ensures.end none) reads))

pub returns-in-Err-clause-found : goal.returns-in-Err-clause-found
returns-in-Err-clause-found g c =
    let left = g.S.Source.left c.next_head.new.source in
    let refused : IsRefused c.next_head.new.pending.items left c.in-Err.e =
    inl (rw c.in-Err.e-is c.in-Err.ensures.refused) in
    rw (← c.buffers.view_is) (λ h told rest tells reads short few read.
    ap as_read (sym (refused_is (c.buffers.inside.pending.items ++ told) rest c.next_head.new.pending.items left h c.in-Err.e
    (ap (λ (o : Option (List ℕ)). prepended c.buffers.inside.pending.items o) (sym tells) ∙ c.next_head.ensures.bytes)
    reads short few (λ e. read (ap Err e)) refused)))

pub returns-in-Err-judge-clause-refused : goal.returns-in-Err-judge-clause-refused
returns-in-Err-judge-clause-refused g c =
    let found : IsRequestOf c.next_head.new.pending.items c.next_head.new.lines c.in-Ok-Some.spans =
    rw c.in-Ok-Some.field-0-is at c.in-Ok-Some.ensures.whole in
    let lines : take c.buffers.inside.lines.len (c.next_head.new.lines ++ drop (length c.next_head.new.lines) c.buffers.inside.lines.items)
    ≡ c.next_head.new.lines = grind (arith, common_steps) in
    let judged_is = rw (c.deref.ensures.value, c.deref-2.ensures.value, lines) at c.judge.ensures.value in
    inr (found.0, drop c.in-Ok-Some.spans.len c.next_head.new.pending.items, found.1.reads, sym (judged_is found.0 found.1) ∙ c.in-Err-judge.is)

pub returns-in-Err-judge-clause-found : goal.returns-in-Err-judge-clause-found
returns-in-Err-judge-clause-found g c =
    let left = g.S.Source.left c.next_head.new.source in
    let found : IsRequestOf c.next_head.new.pending.items c.next_head.new.lines c.in-Ok-Some.spans =
    rw c.in-Ok-Some.field-0-is at c.in-Ok-Some.ensures.whole in
    let lines : take c.buffers.inside.lines.len (c.next_head.new.lines ++ drop (length c.next_head.new.lines) c.buffers.inside.lines.items)
    ≡ c.next_head.new.lines = grind (arith, common_steps) in
    let judged_is = rw (c.deref.ensures.value, c.deref-2.ensures.value, lines) at c.judge.ensures.value in
    let refused : IsRefused c.next_head.new.pending.items left c.in-Err-judge.e =
    inr (found.0, drop c.in-Ok-Some.spans.len c.next_head.new.pending.items, found.1.reads, sym (judged_is found.0 found.1) ∙ c.in-Err-judge.is) in
    rw (← c.buffers.view_is) (λ h told rest tells reads short few read.
    ap as_read (sym (refused_is (c.buffers.inside.pending.items ++ told) rest c.next_head.new.pending.items left h c.in-Err-judge.e
    (ap (λ (o : Option (List ℕ)). prepended c.buffers.inside.pending.items o) (sym tells) ∙ c.next_head.ensures.bytes)
    reads short few (λ e. read (ap Err e)) refused)))

pub returns-clause-head : goal.returns-clause-head
returns-clause-head g c =
    let found : IsRequestOf c.next_head.new.pending.items c.next_head.new.lines c.in-Ok-Some.spans =
    rw c.in-Ok-Some.field-0-is at c.in-Ok-Some.ensures.whole in
    let inside : IsRequestWithin c.next_head.new.pending.items c.next_head.new.lines c.in-Ok-Some.spans =
    rw c.in-Ok-Some.field-0-is at c.in-Ok-Some.ensures.spans in
    let limits = within_limits c.next_head.new.pending.items c.next_head.new.lines c.in-Ok-Some.spans found.0 found.1 inside
    c.next_head.ensures.room c.next_head.ensures.within in
    let lines : take c.buffers.inside.lines.len (c.next_head.new.lines ++ drop (length c.next_head.new.lines) c.buffers.inside.lines.items)
    ≡ c.next_head.new.lines = grind (arith, common_steps) in
    let judged_is = rw (c.deref.ensures.value, c.deref-2.ensures.value, lines) at c.judge.ensures.value in (
      found.0,
      found.1.reads.0,
      (rw (← c.buffers.view_is, c.drop_front.ensures.items)
          (c.in-Ok-Some.ensures.bytes ∙ ap (λ (bytes : List ℕ). prepended bytes (g.S.Source.left c.next_head.new.source)) found.1.reads.1)),
      sym (judged_is found.0 found.1) ∙ c.in-Ok.is,
      c.keep_name.ensures.name ∙ ap name_of ((rw c.deref-3.ensures.value at c.bytes_of.ensures) ∙ found.1.path),
      limits.0,
      limits.1,
    )

pub returns-clause-found : goal.returns-clause-found
returns-clause-found g c =
    let left = g.S.Source.left c.next_head.new.source in
    let found : IsRequestOf c.next_head.new.pending.items c.next_head.new.lines c.in-Ok-Some.spans =
    rw c.in-Ok-Some.field-0-is at c.in-Ok-Some.ensures.whole in
    let lines : take c.buffers.inside.lines.len (c.next_head.new.lines ++ drop (length c.next_head.new.lines) c.buffers.inside.lines.items)
    ≡ c.next_head.new.lines = grind (arith, common_steps) in
    let judged_is = rw (c.deref.ensures.value, c.deref-2.ensures.value, lines) at c.judge.ensures.value in
    rw (← c.buffers.view_is) (λ h told rest tells reads short few read.
    let same : h ≡ found.0 =
    head_is (c.buffers.inside.pending.items ++ told) rest (drop c.in-Ok-Some.spans.len c.next_head.new.pending.items) left h found.0
    (ap (λ (o : Option (List ℕ)). prepended c.buffers.inside.pending.items o) (sym tells) ∙ c.next_head.ensures.bytes
    ∙ ap (λ (bytes : List ℕ). prepended bytes left) found.1.reads.1)
    found.1.reads.0 reads in
    ap as_read (sym (ap (λ (head : RequestHead). judged (request_of head)) same ∙ sym (judged_is found.0 found.1) ∙ c.in-Ok.is)))

pub returns-clause-rest : goal.returns-clause-rest
returns-clause-rest g c =
    let left = g.S.Source.left c.next_head.new.source in
    let found : IsRequestOf c.next_head.new.pending.items c.next_head.new.lines c.in-Ok-Some.spans =
    rw c.in-Ok-Some.field-0-is at c.in-Ok-Some.ensures.whole in
    rw (← c.buffers.view_is, c.drop_front.ensures.items) (λ h told rest tells reads.
    rest_is (c.buffers.inside.pending.items ++ told) rest (drop c.in-Ok-Some.spans.len c.next_head.new.pending.items) left h found.0
    (ap (λ (o : Option (List ℕ)). prepended c.buffers.inside.pending.items o) (sym tells) ∙ c.next_head.ensures.bytes
    ∙ ap (λ (bytes : List ℕ). prepended bytes left) found.1.reads.1)
    found.1.reads.0 reads)

pub returns-in-Err-clause-ended : goal.returns-in-Err-clause-ended
returns-in-Err-clause-ended g c =
    rw (← c.buffers.view_is) (λ none tells read.
    absurd (c.in-Err.ensures.some (λ e. read (ap Err (c.in-Err.e-is ∙ e)))
    (nothing_taken c.next_head.new.pending.items (g.S.Source.left c.next_head.new.source)
    (sym (λ i. prepended (none i) (tells i)) ∙ c.next_head.ensures.bytes))))

pub returns-in-Err-judge-clause-ended : goal.returns-in-Err-judge-clause-ended
returns-in-Err-judge-clause-ended g c =
    let found : IsRequestOf c.next_head.new.pending.items c.next_head.new.lines c.in-Ok-Some.spans =
    rw c.in-Ok-Some.field-0-is at c.in-Ok-Some.ensures.whole in
    rw (← c.buffers.view_is) (λ none tells read.
    absurd (found-none c.next_head.new.pending.items (drop c.in-Ok-Some.spans.len c.next_head.new.pending.items) found.0
    (nothing_taken c.next_head.new.pending.items (g.S.Source.left c.next_head.new.source)
    (sym (λ i. prepended (none i) (tells i)) ∙ c.next_head.ensures.bytes))
    found.1.reads))

pub returns-clause-ended : goal.returns-clause-ended
returns-clause-ended g c =
    let found : IsRequestOf c.next_head.new.pending.items c.next_head.new.lines c.in-Ok-Some.spans =
    rw c.in-Ok-Some.field-0-is at c.in-Ok-Some.ensures.whole in
    rw (← c.buffers.view_is) (λ none tells read.
    absurd (found-none c.next_head.new.pending.items (drop c.in-Ok-Some.spans.len c.next_head.new.pending.items) found.0
    (nothing_taken c.next_head.new.pending.items (g.S.Source.left c.next_head.new.source)
    (sym (λ i. prepended (none i) (tells i)) ∙ c.next_head.ensures.bytes))
    found.1.reads))

pub returns-in-Err-clause-exact : goal.returns-in-Err-clause-exact
returns-in-Err-clause-exact g c = λ h rest reads few.
    own_refusal c.next_head.new.pending.items rest (g.S.Source.left c.next_head.new.source) h c.in-Err.e reads few
    (inl (rw c.in-Err.e-is c.in-Err.ensures.refused))

pub returns-in-Err-judge-clause-exact : goal.returns-in-Err-judge-clause-exact
returns-in-Err-judge-clause-exact g c =
    let found : IsRequestOf c.next_head.new.pending.items c.next_head.new.lines c.in-Ok-Some.spans =
    rw c.in-Ok-Some.field-0-is at c.in-Ok-Some.ensures.whole in
    let lines : take c.buffers.inside.lines.len (c.next_head.new.lines ++ drop (length c.next_head.new.lines) c.buffers.inside.lines.items)
    ≡ c.next_head.new.lines = grind (arith, common_steps) in
    let judged_is = rw (c.deref.ensures.value, c.deref-2.ensures.value, lines) at c.judge.ensures.value in
    λ h rest reads few.
    own_refusal c.next_head.new.pending.items rest (g.S.Source.left c.next_head.new.source) h c.in-Err-judge.e reads few
    (inr (found.0, drop c.in-Ok-Some.spans.len c.next_head.new.pending.items, found.1.reads, sym (judged_is found.0 found.1) ∙ c.in-Err-judge.is))

pub returns-in-Ok-None-clause-large : goal.returns-in-Ok-None-clause-large
returns-in-Ok-None-clause-large g c =
    let left = g.S.Source.left c.next_head.new.source in
    let none = c.in-Ok-None.is ∙ ap Ok c.in-Ok-None.field-0-is in
    rw (← c.buffers.view_is) (λ h told rest tells reads beyond read.
    absurd (not_none (c.buffers.inside.pending.items ++ told) rest left h
    (ap (λ (o : Option (List ℕ)). prepended c.buffers.inside.pending.items o) (sym tells)
    ∙ c.next_head.ensures.bytes
    ∙ ap (λ (bytes : List ℕ). prepended bytes left) (c.next_head.ensures.none none)
    ∙ prepended_nothing left)
    (c.next_head.ensures.end none) reads))

pub returns-in-Err-clause-large : goal.returns-in-Err-clause-large
returns-in-Err-clause-large g c =
    let left = g.S.Source.left c.next_head.new.source in
    rw (← c.buffers.view_is) (λ h told rest tells reads beyond read.
    ap Err (large_is (c.buffers.inside.pending.items ++ told) rest c.next_head.new.pending.items left h c.in-Err.e
    (ap (λ (o : Option (List ℕ)). prepended c.buffers.inside.pending.items o) (sym tells) ∙ c.next_head.ensures.bytes)
    reads (λ e. read (ap Err e)) (rw c.in-Err.e-is c.in-Err.ensures.refused)))

pub returns-in-Err-judge-clause-large : goal.returns-in-Err-judge-clause-large
returns-in-Err-judge-clause-large g c =
    let left = g.S.Source.left c.next_head.new.source in
    let found : IsRequestOf c.next_head.new.pending.items c.next_head.new.lines c.in-Ok-Some.spans =
    rw c.in-Ok-Some.field-0-is at c.in-Ok-Some.ensures.whole in
    let inside : IsRequestWithin c.next_head.new.pending.items c.next_head.new.lines c.in-Ok-Some.spans =
    rw c.in-Ok-Some.field-0-is at c.in-Ok-Some.ensures.spans in
    let limits = within_limits c.next_head.new.pending.items c.next_head.new.lines c.in-Ok-Some.spans found.0 found.1 inside
    c.next_head.ensures.room c.next_head.ensures.within in
    rw (← c.buffers.view_is) (λ h told rest tells reads beyond read.
    absurd (not_beyond h found.0
    (head_is (c.buffers.inside.pending.items ++ told) rest (drop c.in-Ok-Some.spans.len c.next_head.new.pending.items) left h found.0
    (ap (λ (o : Option (List ℕ)). prepended c.buffers.inside.pending.items o) (sym tells) ∙ c.next_head.ensures.bytes
    ∙ ap (λ (bytes : List ℕ). prepended bytes left) found.1.reads.1)
    found.1.reads.0 reads) limits beyond))

pub returns-clause-large : goal.returns-clause-large
returns-clause-large g c =
    let left = g.S.Source.left c.next_head.new.source in
    let found : IsRequestOf c.next_head.new.pending.items c.next_head.new.lines c.in-Ok-Some.spans =
    rw c.in-Ok-Some.field-0-is at c.in-Ok-Some.ensures.whole in
    let inside : IsRequestWithin c.next_head.new.pending.items c.next_head.new.lines c.in-Ok-Some.spans =
    rw c.in-Ok-Some.field-0-is at c.in-Ok-Some.ensures.spans in
    let limits = within_limits c.next_head.new.pending.items c.next_head.new.lines c.in-Ok-Some.spans found.0 found.1 inside
    c.next_head.ensures.room c.next_head.ensures.within in
    rw (← c.buffers.view_is) (λ h told rest tells reads beyond read.
    absurd (not_beyond h found.0
    (head_is (c.buffers.inside.pending.items ++ told) rest (drop c.in-Ok-Some.spans.len c.next_head.new.pending.items) left h found.0
    (ap (λ (o : Option (List ℕ)). prepended c.buffers.inside.pending.items o) (sym tells) ∙ c.next_head.ensures.bytes
    ∙ ap (λ (bytes : List ℕ). prepended bytes left) found.1.reads.1)
    found.1.reads.0 reads) limits beyond))

pub returns-in-Err-clause-many : goal.returns-in-Err-clause-many
returns-in-Err-clause-many g c = λ h rest reads many.
    many_lines c.next_head.new.pending.items rest (g.S.Source.left c.next_head.new.source) h c.in-Err.e reads
    (rw c.in-Err.e-is c.in-Err.ensures.refused)

pub returns-in-Err-judge-clause-many : goal.returns-in-Err-judge-clause-many
returns-in-Err-judge-clause-many g c =
    let found : IsRequestOf c.next_head.new.pending.items c.next_head.new.lines c.in-Ok-Some.spans =
    rw c.in-Ok-Some.field-0-is at c.in-Ok-Some.ensures.whole in
    let inside : IsRequestWithin c.next_head.new.pending.items c.next_head.new.lines c.in-Ok-Some.spans =
    rw c.in-Ok-Some.field-0-is at c.in-Ok-Some.ensures.spans in
    let limits = within_limits c.next_head.new.pending.items c.next_head.new.lines c.in-Ok-Some.spans found.0 found.1 inside
    c.next_head.ensures.room c.next_head.ensures.within in
    λ h rest reads many.
    absurd (not_beyond h found.0
    (request_unique c.next_head.new.pending.items h found.0 rest (drop c.in-Ok-Some.spans.len c.next_head.new.pending.items)
    reads found.1.reads).0
    limits (inr many))

pub returns-in-Ok-None-clause-cut : goal.returns-in-Ok-None-clause-cut
returns-in-Ok-None-clause-cut g c =
    let left = g.S.Source.left c.next_head.new.source in
    let none = c.in-Ok-None.is ∙ ap Ok c.in-Ok-None.field-0-is in
    rw (← c.buffers.view_is) (λ h told lacking tells some lacks reads short few read.
    absurd (some (none_told (c.buffers.inside.pending.items ++ told) left
    (ap (λ (o : Option (List ℕ)). prepended c.buffers.inside.pending.items o) (sym tells)
    ∙ c.next_head.ensures.bytes
    ∙ ap (λ (bytes : List ℕ). prepended bytes left) (c.next_head.ensures.none none)
    ∙ prepended_nothing left)
    (c.next_head.ensures.end none))))

pub returns-in-Err-clause-cut : goal.returns-in-Err-clause-cut
returns-in-Err-clause-cut g c =
    let left = g.S.Source.left c.next_head.new.source in
    let refused : IsRefused c.next_head.new.pending.items left c.in-Err.e =
    inl (rw c.in-Err.e-is c.in-Err.ensures.refused) in
    rw (← c.buffers.view_is) (λ h told lacking tells some lacks reads short few read.
    ap Err (cut_is (c.buffers.inside.pending.items ++ told) lacking c.next_head.new.pending.items left h c.in-Err.e
    (ap (λ (o : Option (List ℕ)). prepended c.buffers.inside.pending.items o) (sym tells) ∙ c.next_head.ensures.bytes)
    reads lacks short few (λ e. read (ap Err e)) refused))

pub returns-in-Err-judge-clause-cut : goal.returns-in-Err-judge-clause-cut
returns-in-Err-judge-clause-cut g c =
    let left = g.S.Source.left c.next_head.new.source in
    let found : IsRequestOf c.next_head.new.pending.items c.next_head.new.lines c.in-Ok-Some.spans =
    rw c.in-Ok-Some.field-0-is at c.in-Ok-Some.ensures.whole in
    rw (← c.buffers.view_is) (λ h told lacking tells some lacks reads short few read.
    absurd (no_whole (c.buffers.inside.pending.items ++ told) lacking (drop c.in-Ok-Some.spans.len c.next_head.new.pending.items) left h found.0
    (ap (λ (o : Option (List ℕ)). prepended c.buffers.inside.pending.items o) (sym tells) ∙ c.next_head.ensures.bytes
    ∙ ap (λ (bytes : List ℕ). prepended bytes left) found.1.reads.1)
    found.1.reads.0 reads lacks))

pub returns-clause-cut : goal.returns-clause-cut
returns-clause-cut g c =
    let left = g.S.Source.left c.next_head.new.source in
    let found : IsRequestOf c.next_head.new.pending.items c.next_head.new.lines c.in-Ok-Some.spans =
    rw c.in-Ok-Some.field-0-is at c.in-Ok-Some.ensures.whole in
    rw (← c.buffers.view_is) (λ h told lacking tells some lacks reads short few read.
    absurd (no_whole (c.buffers.inside.pending.items ++ told) lacking (drop c.in-Ok-Some.spans.len c.next_head.new.pending.items) left h found.0
    (ap (λ (o : Option (List ℕ)). prepended c.buffers.inside.pending.items o) (sym tells) ∙ c.next_head.ensures.bytes
    ∙ ap (λ (bytes : List ℕ). prepended bytes left) found.1.reads.1)
    found.1.reads.0 reads lacks))

pub returns-in-Err-clause-onward : goal.returns-in-Err-clause-onward
returns-in-Err-clause-onward g c = rw (← c.buffers.view_is) c.next_head.ensures.onward

pub returns-in-Err-judge-clause-onward : goal.returns-in-Err-judge-clause-onward
returns-in-Err-judge-clause-onward g c = rw (← c.buffers.view_is) c.next_head.ensures.onward
