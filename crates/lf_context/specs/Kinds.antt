-- How the definition of a term begins.
use Rattle.std.specs.Prelude.{◌≡◌, List, ℕ, Result, Ok, Err, ⊤, codes}
use Rattle.lf_model.specs.declared.table.TermTable.{TermTable}
use Rattle.lf_model.specs.JsonData.{JsonValue}
use Rattle.def_contexts.specs.Drafts.{Need}
use Rattle.def_contexts.specs.Defining.{empty_name, type_name, keyword_name, ignored_name, ordinary_name, name_kind, type_term, term_defined}
use Rattle.lf_context.specs.declared.walk.NameKind.{NameKind as Told}
use Rattle.lf_context.specs.declared.walk.NameKind.TheVariants as told
use Rattle.lf_context.specs.declared.stage.Turn.{Turn}
use Rattle.lf_context.specs.declared.error.ContextErr.{ContextErr}
use Rattle.lf_context.specs.declared.error.ContextErr.TheVariants.{Ld, Memory}
use Rattle.lf_context.specs.Stages.{drafted, Step, turned}

-- the program's answer is the kind of the name
abbrev pub IsKind : List ℕ → Told → Type 0
IsKind name told.Empty = name_kind name ≡ empty_name
IsKind name told.Type = (name_kind name ≡ type_name) × (name ≡ codes "@type")
IsKind name told.Keyword = name_kind name ≡ keyword_name
IsKind name told.Ignored = name_kind name ≡ ignored_name
IsKind name told.Ordinary = name_kind name ≡ ordinary_name

-- a turn that is made of one table and leaves another one, or the step's error
abbrev pub Comes :
    Step → List ℕ → JsonValue → TermTable → TermTable → Result Turn ContextErr → Type 0
Comes step name value old new (Ok turn) =
    (need : Need) (done : List (List ℕ)) →
    step need (drafted old done) ≡ turned turn need name value (drafted new done)
Comes step name value old new (Err (Ld e)) =
    (need : Need) (done : List (List ℕ)) → step need (drafted old done) ≡ Err e
Comes step name value old new (Err Memory) = ⊤

abbrev pub Starts : List ℕ → JsonValue → TermTable → TermTable → Result Turn ContextErr → Type 0
Starts name value old new result = Comes
    (λ need draft. term_defined (name_kind name) need name value draft) name value old new result

abbrev pub StartsType : JsonValue → TermTable → TermTable → Result Turn ContextErr → Type 0
StartsType value old new result =
    Comes (λ need draft. type_term value draft) (codes "@type") value old new result
