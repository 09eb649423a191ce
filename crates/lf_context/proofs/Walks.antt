-- How a walk over the terms of a map goes on, step by step.
use Rattle.std.proofs.Common.{◌≡◌, ℕ, Bool, true, false, ◌<◌, ◌≤◌, List, [], ◌∷◌, ◌++◌, Option, Some, None, Result, Ok, Err, codes, reverse, refl, sym, ap, subst, ◌∙◌, arith}
use Rattle.std.proofs.lemmas.List.{reverse-append}
use Rattle.lf_model.specs.declared.table.TermTable.{TermTable}
use Rattle.lf_model.specs.declared.table.TermDef.{TermDef}
use Rattle.lf_model.specs.declared.error.LdError.{LdError}
use Rattle.lf_model.specs.declared.error.LdError.TheVariants.{CyclicIriMapping, InvalidTermDefinition, KeywordRedefinition}
use Rattle.lf_model.specs.JsonBridge.{json_data}
use Rattle.lf_model.specs.JsonData.{JsonValue, JsonMembers}
use Rattle.def_contexts.specs.Outcomes.{◌>>=◌}
use Rattle.def_contexts.specs.Drafts.{Need}
use Rattle.def_contexts.specs.Defining.{entry_value, ready, begun, empty_name, type_name, keyword_name, ignored_name, ordinary_name, name_kind, term_defined}
use Rattle.def_contexts.specs.Table.{terms_of}
use Rattle.def_contexts.specs.Terms.{ordinary_term}
use Rattle.lf_context.specs.declared.walk.Begun.{Begun}
use Rattle.lf_context.specs.declared.stage.Turn.{Turn}
use Rattle.lf_context.specs.declared.stage.Turn.TheVariants.{Asks, Settled, Defined}
use Rattle.lf_context.specs.declared.error.ContextErr.{ContextErr}
use Rattle.lf_context.specs.declared.error.ContextErr.TheVariants.{Ld, Memory}
use Rattle.lf_context.specs.Parts.{IsPart}
use Rattle.lf_context.specs.Tables.{table_without, table_with}
use Rattle.lf_context.specs.Stages.{drafted, resumed, turned, Step, Tells, rank, IsFor}
use Rattle.lf_context.specs.Turns.{begun_turn, resumed_turn}
use Rattle.lf_context.specs.Marks.{mark_at, AreMarked, Puts, standing_in, left}
use Rattle.lf_context.specs.Kinds.{Comes, Starts, StartsType}
use Rattle.lf_context.specs.Walks.{need_in, names, runs, Walk, walk_at, GoesOn, EndsIn, Advances, TakesUp, MakesReady}
use Rattle.lf_context.proofs.Turns.{then-then, begun as begun-tells, goes_on}
use Rattle.lf_context.proofs.Marks.{need-ready, need-cycle, need-begins, mark-begun, mark-done, left-more, left-less}

-- ---- how a definition begins

-- what a turn comes to, where the step is the turn's
pub comes-part : (step : Step) (name : List ℕ) (value : JsonValue) (table : TermTable) (turn : Result Turn LdError) (result : Result Turn ContextErr) → Tells table name value step turn → IsPart turn result → Comes step name value table table result
comes-part step name value table turn (Ok t) tells e = λ need done. tells need done ∙ ap (λ r. r >>= λ u. turned u need name value (drafted table done)) e
comes-part step name value table turn (Err (Ld error)) tells e = λ need done. tells need done ∙ ap (λ r. r >>= λ u. turned u need name value (drafted table done)) e
comes-part step name value table turn (Err Memory) tells e = tt

pub start-ordinary : (name : List ℕ) (value : JsonValue) (old new : TermTable) (result : Result Turn ContextErr) → name_kind name ≡ ordinary_name → new ≡ table_without name old → IsPart (begun_turn new name value) result → Starts name value old new result
start-ordinary name value old new result kind same e = by result (comes-part (λ need draft. ordinary_term need name value draft) name value new (begun_turn new name value) result (begun-tells new name value) e)
  where
    first : (need : Need) (done : List (List ℕ)) → term_defined (name_kind name) need name value (drafted old done) ≡ ordinary_term need name value (drafted new done)
    first need done = ap (λ k. term_defined k need name value (drafted old done)) kind ∙ ap (λ t. ordinary_term need name value (drafted t done)) (sym same)

    by : (r : Result Turn ContextErr) → Comes (λ need draft. ordinary_term need name value draft) name value new new r → Starts name value old new r
    by (Ok t) h = λ need done. first need done ∙ h need done
    by (Err (Ld error)) h = λ need done. first need done ∙ h need done
    by (Err Memory) h = tt

pub start-empty : (name : List ℕ) (value : JsonValue) (table : TermTable) → name_kind name ≡ empty_name → Starts name value table table (Err (Ld InvalidTermDefinition))
start-empty name value table kind = λ need done. ap (λ k. term_defined k need name value (drafted table done)) kind

pub start-keyword : (name : List ℕ) (value : JsonValue) (table : TermTable) → name_kind name ≡ keyword_name → Starts name value table table (Err (Ld KeywordRedefinition))
start-keyword name value table kind = λ need done. ap (λ k. term_defined k need name value (drafted table done)) kind

pub start-ignored : (name : List ℕ) (value : JsonValue) (table : TermTable) → name_kind name ≡ ignored_name → Starts name value table table (Ok Settled)
start-ignored name value table kind = λ need done. ap (λ k. term_defined k need name value (drafted table done)) kind

pub start-type : (name : List ℕ) (value : JsonValue) (old new : TermTable) (result : Result Turn ContextErr) → name_kind name ≡ type_name → name ≡ codes "@type" → StartsType value old new result → Starts name value old new result
start-type name value old new (Ok t) kind same h = λ need done. ap (λ k. term_defined k need name value (drafted old done)) kind ∙ h need done ∙ ap (λ n. turned t need n value (drafted new done)) (sym same)
start-type name value old new (Err (Ld error)) kind same h = λ need done. ap (λ k. term_defined k need name value (drafted old done)) kind ∙ h need done
start-type name value old new (Err Memory) kind same h = tt

-- ---- what a turn leads to

top-last : (items : List Begun) (f : Begun) → reverse (items ++ f ∷ []) ≡ f ∷ reverse items
top-last items f = reverse-append items (f ∷ [])

asks : (f : Begun) (asked : List ℕ) (table : TermTable) (marks : List (List ℕ × Bool)) (stack : List Begun) → TakesUp f.name (json_data f.value.now) (Asks asked f.rest) (record { table = table; marks = marks; stack = stack; asked = None }) (record { table = table; marks = marks; stack = f ∷ stack; asked = Some asked })
asks f asked table marks stack given most below = (
  λ done marked. (done, marked, then-then (need_in given (f.name ∷ names stack) asked (drafted table done)) _ (runs given stack)),
  omega (arith, below),
)

pub takes-asks : (name : List ℕ) (value : JsonValue) (f : Begun) (asked : List ℕ) (table : TermTable) (marks : List (List ℕ × Bool)) (items after : List Begun) → f.name ≡ name → json_data f.value.now ≡ value → after ≡ items ++ f ∷ [] → TakesUp name value (Asks asked f.rest) (walk_at table marks items None) (walk_at table marks after (Some asked))
takes-asks name value f asked table marks items after named valued grown =
    subst (λ v. TakesUp name v (Asks asked f.rest) (walk_at table marks items None) (walk_at table marks after (Some asked))) valued
    (subst (λ n. TakesUp n (json_data f.value.now) (Asks asked f.rest) (walk_at table marks items None) (walk_at table marks after (Some asked))) named
    (subst (λ s. TakesUp f.name (json_data f.value.now) (Asks asked f.rest) (walk_at table marks items None) (record { table = table; marks = marks; stack = s; asked = Some asked })) (sym (ap reverse grown ∙ top-last items f))
    (asks f asked table marks (reverse items))))

pub takes-settled : (name : List ℕ) (value : JsonValue) (table : TermTable) (marks after : List (List ℕ × Bool)) (items : List Begun) → Puts name true marks after → TakesUp name value Settled (walk_at table marks items None) (walk_at table after items None)
takes-settled name value table marks after items put given most below =
    let fewer : left after given ≤ left marks given = left-more given name true marks after put in (
      λ done marked. (name ∷ done, mark-done name marks after done (names (reverse items)) marked put, refl),
      omega (arith, fewer),
    )

pub takes-defined : (name : List ℕ) (value : JsonValue) (d : TermDef) (old new : TermTable) (marks after : List (List ℕ × Bool)) (items : List Begun) → new ≡ table_with d old → Puts name true marks after → TakesUp name value (Defined d) (walk_at old marks items None) (walk_at new after items None)
takes-defined name value d old new marks after items same put given most named =
    let fewer : left after given ≤ left marks given = left-more given name true marks after put in (
      λ done marked. (
        d.name ∷ done,
        subst (λ n. AreMarked after (n ∷ done) (names (reverse items))) (sym named) (mark-done name marks after done (names (reverse items)) marked put),
        ap (λ t. runs given (reverse items) (drafted t (d.name ∷ done))) (sym same),
      ),
      omega (arith, fewer),
    )

-- ---- a step

pub steps-ready : (given : JsonMembers) (table : TermTable) (marks : List (List ℕ × Bool)) (items : List Begun) (name : List ℕ) → standing_in given marks name ≡ ready → Advances given (walk_at table marks items (Some name)) (walk_at table marks items) (Ok None)
steps-ready given table marks items name stands = (
  λ done marked. (done, marked, ap (λ r. r >>= runs given (reverse items)) (need-ready given marks done (names (reverse items)) name table marked stands)),
  omega arith,
)

pub steps-cycle : (given : JsonMembers) (table : TermTable) (marks : List (List ℕ × Bool)) (items : List Begun) (name : List ℕ) (new : Option (List ℕ) → Walk) → standing_in given marks name ≡ begun → Advances given (walk_at table marks items (Some name)) new (Err (Ld CyclicIriMapping))
steps-cycle given table marks items name new stands = λ done marked. ap (λ r. r >>= runs given (reverse items)) (need-cycle given marks done (names (reverse items)) name table marked stands)

pub steps-begun : (given : JsonMembers) (name : List ℕ) (value : JsonValue) (old mid : TermTable) (marks between : List (List ℕ × Bool)) (items : List Begun) (turn : Turn) (asked : Option (List ℕ)) (new : Option (List ℕ) → Walk) →
    entry_value name (terms_of given) ≡ Some value → mark_at name marks ≡ None → Puts name false marks between → Starts name value old mid (Ok turn) → IsFor name 7 turn → TakesUp name value turn (walk_at mid between items None) (new asked) →
    Advances given (walk_at old marks items (Some name)) new (Ok asked)
steps-begun given name value old mid marks between items turn asked new found none put started fits takes =
    let up = takes given 7 fits in
    let less : left between given < left marks given = left-less given name value false marks between found none put in (
      λ done marked. (
          let t = up.0 done (mark-begun name marks between done (names (reverse items)) marked none put) in (
            t.0,
            t.1,
            ap (λ r. r >>= runs given (reverse items)) (need-begins given marks done (names (reverse items)) name old value marked none found ∙ started (need_in given (name ∷ names (reverse items))) done) ∙ t.2,
          )
          ),
      omega (arith, less, up.1),
    )

pub steps-refused : (given : JsonMembers) (name : List ℕ) (value : JsonValue) (old mid : TermTable) (marks : List (List ℕ × Bool)) (items : List Begun) (e : ContextErr) (new : Option (List ℕ) → Walk) →
    entry_value name (terms_of given) ≡ Some value → mark_at name marks ≡ None → Starts name value old mid (Err e) → Advances given (walk_at old marks items (Some name)) new (Err e)
steps-refused given name value old mid marks items (Ld error) new found none started =
    λ done marked. ap (λ r. r >>= runs given (reverse items)) (need-begins given marks done (names (reverse items)) name old value marked none found ∙ started (need_in given (name ∷ names (reverse items))) done)
steps-refused given name value old mid marks items Memory new found none started = tt

resumed-comes : (f : Begun) (table : TermTable) (result : Result Turn ContextErr) → IsPart (resumed_turn f.rest table f.name (json_data f.value.now)) result → Comes (λ need draft. resumed f.rest need f.name (json_data f.value.now) draft) f.name (json_data f.value.now) table table result
resumed-comes f table result e = comes-part (λ need draft. resumed f.rest need f.name (json_data f.value.now) draft) f.name (json_data f.value.now) table (resumed_turn f.rest table f.name (json_data f.value.now)) result (goes_on table f.name (json_data f.value.now) f.rest) e

pub steps-resumed : (given : JsonMembers) (f : Begun) (table : TermTable) (marks : List (List ℕ × Bool)) (items below : List Begun) (turn : Turn) (asked : Option (List ℕ)) (new : Option (List ℕ) → Walk) →
    items ≡ below ++ f ∷ [] → IsPart (resumed_turn f.rest table f.name (json_data f.value.now)) (Ok turn) → IsFor f.name (rank f.rest) turn → TakesUp f.name (json_data f.value.now) turn (walk_at table marks below None) (new asked) →
    Advances given (walk_at table marks items None) new (Ok asked)
steps-resumed given f table marks items below turn asked new popped e fits takes =
    subst (λ s. Advances given (record { table = table; marks = marks; stack = s; asked = None }) new (Ok asked)) (sym (ap reverse popped ∙ top-last below f))
    (let up = takes given (rank f.rest) fits in (
      λ done marked. (
          let t = up.0 done marked in (
            t.0,
            t.1,
            ap (λ r. r >>= runs given (reverse below)) (resumed-comes f table (Ok turn) e (need_in given (f.name ∷ names (reverse below))) done) ∙ t.2,
          )
          ),
      omega (arith, up.1),
    ))

pub steps-stopped : (given : JsonMembers) (f : Begun) (table : TermTable) (marks : List (List ℕ × Bool)) (items below : List Begun) (e : ContextErr) (new : Option (List ℕ) → Walk) →
    items ≡ below ++ f ∷ [] → IsPart (resumed_turn f.rest table f.name (json_data f.value.now)) (Err e) → Advances given (walk_at table marks items None) new (Err e)
steps-stopped given f table marks items below (Ld error) new popped e =
    subst (λ s. EndsIn given (record { table = table; marks = marks; stack = s; asked = None }) error) (sym (ap reverse popped ∙ top-last below f))
    (λ done marked. ap (λ r. r >>= runs given (reverse below)) (resumed-comes f table (Err (Ld error)) e (need_in given (f.name ∷ names (reverse below))) done))
steps-stopped given f table marks items below Memory new popped e = tt

-- ---- many steps

pub goes-further : (given : JsonMembers) (one two three : Walk) → GoesOn given one two → GoesOn given two three → GoesOn given one three
goes-further given one two three h k = λ done marked. (
    let a = h done marked in
    let b = k a.0 a.1 in
    (b.0, b.1, a.2 ∙ b.2)
    )

pub ends-later : (given : JsonMembers) (one two : Walk) (e : ContextErr) (new : Option (List ℕ) → Walk) → GoesOn given one two → Advances given two new (Err e) → Advances given one new (Err e)
ends-later given one two (Ld error) new h k = λ done marked. (let a = h done marked in a.2 ∙ k a.0 a.1)
ends-later given one two Memory new h k = tt

then-ok : {A : Type 0} (r : Result A LdError) → (r >>= Ok) ≡ r
then-ok (Ok x) = refl
then-ok (Err e) = refl

-- a walk from one need to an empty stack makes it ready
pub made-ready : (given : JsonMembers) (old new : TermTable) (marks after : List (List ℕ × Bool)) (name : List ℕ) → GoesOn given (walk_at old marks [] (Some name)) (walk_at new after [] None) → MakesReady given old marks name new after (Ok tt)
made-ready given old new marks after name h = λ done marked. (let a = h done marked in (a.0, a.1, sym (then-ok (need_in given [] name (drafted old done))) ∙ a.2))

pub not-ready : (given : JsonMembers) (old new : TermTable) (marks after : List (List ℕ × Bool)) (name : List ℕ) (e : ContextErr) (later : Option (List ℕ) → Walk) → Advances given (walk_at old marks [] (Some name)) later (Err e) → MakesReady given old marks name new after (Err e)
not-ready given old new marks after name (Ld error) later h = λ done marked. sym (then-ok (need_in given [] name (drafted old done))) ∙ h done marked
not-ready given old new marks after name Memory later h = tt

-- the first moment of a walk
pub walk-begins : (given : JsonMembers) (table : TermTable) (marks : List (List ℕ × Bool)) (name copied : List ℕ) (items : List Begun) → items ≡ [] → copied ≡ name → GoesOn given (walk_at table marks [] (Some name)) (walk_at table marks items (Some copied))
walk-begins given table marks name copied items none same = rw (none, same) (λ done marked. (done, marked, refl))
