-- The steps of reading keys that hold sub-frames, between what a program has read and what the definitions have.
use Rattle.std.proofs.Common.{◌≡◌, ℕ, ◌<◌, nat_eq, Bool, true, false, List, [], ◌∷◌, length, reverse, Option, Some, None, Result, Ok, Err, refl, sym, ap, subst, ◌∙◌, arith}
use Rattle.std.proofs.lemmas.List.{length-reverse}
use Rattle.std.proofs.lemmas.Bool.{eqb-false}
use Rattle.std.specs.Option.{option_map}
use Rattle.lf_model.specs.declared.table.TermTable.{TermTable}
use Rattle.lf_model.specs.declared.table.TermDef.{TermDef}
use Rattle.lf_model.specs.declared.error.LdError.{LdError}
use Rattle.lf_model.specs.declared.error.LdError.TheVariants as ld
use Rattle.lf_model.specs.JsonData.{JsonValue}
use Rattle.lf_expand.specs.declared.error.FrameErr.{FrameErr}
use Rattle.lf_expand.specs.declared.class.MapClass.{MapClass}
use Rattle.lf_expand.specs.declared.class.MapClass.TheVariants as class
use Rattle.lf_expand.specs.declared.keys.FrameKey as program_key
use Rattle.lf_expand.specs.declared.keys.FrameKey.TheVariants as key
use Rattle.lf_expand.specs.declared.keys.Holding.TheVariants.{GraphFrame, ReverseMap, ItemFrame}
use Rattle.lf_expand.specs.declared.found.Found.{Found}
use Rattle.lf_expand.specs.declared.found.Found.TheVariants as found
use Rattle.lf_expand.specs.declared.reading.Reading as program
use Rattle.lf_expand.specs.declared.rows.Row.{Row}
use Rattle.def_nested.specs.Unfolding.{Numbered}
use Rattle.def_contexts.specs.Outcomes.{◌>>=◌, refuse}
use Rattle.def_contexts.specs.Keywords.{one_of}
use Rattle.def_contexts.specs.FrameKeys as keys
use Rattle.def_contexts.specs.FrameKeys.{keyword, frame_key, graph_key, reverse_key, list_key}
use Rattle.def_contexts.specs.Places.{Place, of_graph, of_item, takes_maps_alone, term_at, placed, frame_of_given, scalar_under}
use Rattle.def_contexts.specs.GivenValues.{Given, reference, plain_value, given}
use Rattle.lf_model.specs.declared.scalar.Scalar.{Scalar}
use Rattle.def_contexts.specs.MapReading.{read_key, read_keyword, read_node_key, read_list_key}
use Rattle.def_contexts.specs.SubFrames.{map_read}
use Rattle.def_contexts.specs.Readings.{Reading, Reader, ReverseReader, within_found, item_found, frame_read}
use Rattle.lf_expand.specs.Gives.{Gives, Fails}
use Rattle.lf_expand.specs.KeptKeys.{class_data}
use Rattle.lf_expand.specs.KeyData.{key_data, holding}
use Rattle.lf_expand.specs.RowData.{seen_row, at_row, from_last, built, RowWithin, Keeps, IsPlaced}
use Rattle.lf_expand.specs.ReadingData.{Lists, reading_of, Told, found_data, FoundWithin, IsMapWhere, IsFound, IsRead, Reads, graph_given, item_given, number_of, keyword_added, has_key, unread, given_row, row_of, kind_of, wild_or_node}
use Rattle.lf_expand.proofs.RowLemmas.{keeps_all, keeps_both}
use Rattle.lf_expand.proofs.ReadingLemmas.{fails_then, reading_same, told_more, told_keyword, row_seen}

-- a keyword that was read before
pub keyword_refused :
    (c : keys.MapClass) (name : List ℕ) (table : TermTable) (place : Place) (value : JsonValue) (sub : Reader) (reverses : ReverseReader) (d : Reading) →
    one_of d.keywords name ≡ true → read_key c (keyword name) table place value sub reverses d ≡ Err ld.CollidingKeywords
keyword_refused c name table place value sub reverses d there =
    ap (λ b. refuse b ld.CollidingKeywords >>= λ _. read_keyword c (frame_key name) table place value sub reverses (record d { keywords = name ∷ d.keywords })) there

-- a keyword that wasn't
pub keyword_goes :
    (c : keys.MapClass) (name : List ℕ) (table : TermTable) (place : Place) (value : JsonValue) (sub : Reader) (reverses : ReverseReader) (d : Reading) →
    one_of d.keywords name ≡ false →
    read_key c (keyword name) table place value sub reverses d ≡ read_keyword c (frame_key name) table place value sub reverses (record d { keywords = name ∷ d.keywords })
keyword_goes c name table place value sub reverses d fresh =
    ap (λ b. refuse b ld.CollidingKeywords >>= λ _. read_keyword c (frame_key name) table place value sub reverses (record d { keywords = name ∷ d.keywords })) fresh

graph_in_own : (k : program_key.FrameKey) (table : TermTable) (place : Place) (value : JsonValue) (sub : Reader) (reverses : ReverseReader) (d : Reading) → holding class.Node k ≡ GraphFrame → read_keyword keys.node_map (key_data k) table place value sub reverses d ≡ read_node_key graph_key table value sub reverses d
graph_in_own key.Graph table place value sub reverses d e = refl
graph_in_own _ table place value sub reverses d e = absurd (cc)

graph_elsewhere : (k : program_key.FrameKey) → holding class.List k ≡ GraphFrame → ⊥
graph_elsewhere key.List e = cc
graph_elsewhere _ e = cc

pub graph_key_is :
    (c : MapClass) (k : program_key.FrameKey) (table : TermTable) (place : Place) (value : JsonValue) (sub : Reader) (reverses : ReverseReader) (d : Reading) →
    holding c k ≡ GraphFrame → read_keyword (class_data c) (key_data k) table place value sub reverses d ≡ read_node_key graph_key table value sub reverses d
graph_key_is class.Node k table place value sub reverses d e = graph_in_own k table place value sub reverses d e
graph_key_is class.List k table place value sub reverses d e = absurd (graph_elsewhere k e)
graph_key_is class.Value k table place value sub reverses d e = absurd (cc)
graph_key_is class.Set k table place value sub reverses d e = absurd (cc)

reverse_in_own : (k : program_key.FrameKey) (table : TermTable) (place : Place) (value : JsonValue) (sub : Reader) (reverses : ReverseReader) (d : Reading) → holding class.Node k ≡ ReverseMap → read_keyword keys.node_map (key_data k) table place value sub reverses d ≡ reverses (record d { flags_alone = false })
reverse_in_own key.Reverse table place value sub reverses d e = refl
reverse_in_own _ table place value sub reverses d e = absurd (cc)

reverse_elsewhere : (k : program_key.FrameKey) → holding class.List k ≡ ReverseMap → ⊥
reverse_elsewhere key.List e = cc
reverse_elsewhere _ e = cc

pub reverse_key_is :
    (c : MapClass) (k : program_key.FrameKey) (table : TermTable) (place : Place) (value : JsonValue) (sub : Reader) (reverses : ReverseReader) (d : Reading) →
    holding c k ≡ ReverseMap → read_keyword (class_data c) (key_data k) table place value sub reverses d ≡ reverses (record d { flags_alone = false })
reverse_key_is class.Node k table place value sub reverses d e = reverse_in_own k table place value sub reverses d e
reverse_key_is class.List k table place value sub reverses d e = absurd (reverse_elsewhere k e)
reverse_key_is class.Value k table place value sub reverses d e = absurd (cc)
reverse_key_is class.Set k table place value sub reverses d e = absurd (cc)

item_in_own : (k : program_key.FrameKey) (table : TermTable) (place : Place) (value : JsonValue) (sub : Reader) (reverses : ReverseReader) (d : Reading) → holding class.List k ≡ ItemFrame → read_keyword keys.list_map (key_data k) table place value sub reverses d ≡ read_list_key list_key (term_at place) sub d
item_in_own key.List table place value sub reverses d e = refl
item_in_own _ table place value sub reverses d e = absurd (cc)

item_elsewhere : (k : program_key.FrameKey) → holding class.Node k ≡ ItemFrame → ⊥
item_elsewhere key.Graph e = cc
item_elsewhere _ e = cc

pub item_key_is :
    (c : MapClass) (k : program_key.FrameKey) (table : TermTable) (place : Place) (value : JsonValue) (sub : Reader) (reverses : ReverseReader) (d : Reading) →
    holding c k ≡ ItemFrame → read_keyword (class_data c) (key_data k) table place value sub reverses d ≡ read_list_key list_key (term_at place) sub d
item_key_is class.List k table place value sub reverses d e = item_in_own k table place value sub reverses d e
item_key_is class.Node k table place value sub reverses d e = absurd (item_elsewhere k e)
item_key_is class.Value k table place value sub reverses d e = absurd (cc)
item_key_is class.Set k table place value sub reverses d e = absurd (cc)

-- a number below the bound stands for a map
item_numbered : (rows : List Row) (n : ℕ) → n < length rows → item_found (Some (from_last rows n)) ≡ Some (from_last rows n)
unfolding from_last
item_numbered [] n lt = absurd (omega arith)
item_numbered (row ∷ older) n lt = by (nat_eq n (length older)) refl (λ below. item_numbered older n below)
  where
    by : (b : Bool) → nat_eq n (length older) ≡ b → (n < length older → item_found (Some (from_last older n)) ≡ Some (from_last older n)) →
        item_found (Some (at_row b row (from_last older) n)) ≡ Some (at_row b row (from_last older) n)
    by true e earlier = refl
    by false e earlier = let other = eqb-false n (length older) e in earlier (omega arith)

pub graph_read :
    (old new : List Row) (table : TermTable) (value : JsonValue) (sub : Reader) (reverses : ReverseReader) (f : Found) (r : program.Reading) (lists : Lists) →
    Told (length old) r lists → IsFound old new of_graph f (sub of_graph) →
    IsRead old new (graph_given f r) (read_node_key graph_key table value sub reverses (reading_of (built old) r lists))
graph_read old new table value sub reverses found.MatchNone r lists told h = absurd h.maps
graph_read old new table value sub reverses found.Dropped r lists told h =
    let more = told_more (length old) (length new) r lists h.keeps.grows told in
    record {
      keeps = h.keeps;
      lists = lists;
      is =
          ap (λ s. s >>= λ v. Ok (record (reading_of (built old) r lists) { within = within_found v; flags_alone = false })) h.is
          ∙ ap (λ (d : Reading). Ok (record d { within = within_found None; flags_alone = false })) (sym (reading_same old new r lists h.keeps told));
      tells = record { graph_within = tt; keyword = more.keyword; property = more.property; reversed = more.reversed; props_within = more.props_within; reverses_within = more.reverses_within; item_within = more.item_within };
    }
graph_read old new table value sub reverses (found.Numbered n) r lists told h =
    let more = told_more (length old) (length new) r lists h.keeps.grows told in
    record {
      keeps = h.keeps;
      lists = lists;
      is =
          ap (λ s. s >>= λ v. Ok (record (reading_of (built old) r lists) { within = within_found v; flags_alone = false })) h.is
          ∙ ap (λ (d : Reading). Ok (record d { within = within_found (Some (built new n)); flags_alone = false })) (sym (reading_same old new r lists h.keeps told));
      tells = record { graph_within = h.within; keyword = more.keyword; property = more.property; reversed = more.reversed; props_within = more.props_within; reverses_within = more.reverses_within; item_within = more.item_within };
    }

found_item : (rows : List Row) (f : Found) → FoundWithin (length rows) f → item_found (found_data (built rows) f) ≡ option_map (built rows) (number_of f)
found_item rows found.Dropped h = refl
found_item rows found.MatchNone h = refl
found_item rows (found.Numbered n) h = let len = length-reverse rows in item_numbered (reverse rows) n (omega (arith, h))

number_below : (bound : ℕ) (f : Found) → FoundWithin bound f → Rattle.lf_expand.specs.RowData.IsBelow (number_of f) bound
number_below bound found.Dropped h = tt
number_below bound found.MatchNone h = tt
number_below bound (found.Numbered n) h = h

pub item_read :
    (old new : List Row) (term : Option TermDef) (sub : Reader) (f : Found) (r : program.Reading) (lists : Lists) →
    Told (length old) r lists → IsFound old new (of_item term) f (sub (of_item term)) →
    IsRead old new (item_given f r) (read_list_key list_key term sub (reading_of (built old) r lists))
item_read old new term sub f r lists told h =
    let more = told_more (length old) (length new) r lists h.keeps.grows told in
    record {
      keeps = h.keeps;
      lists = lists;
      is =
          ap (λ s. s >>= λ v. Ok (record (reading_of (built old) r lists) { item = item_found v })) h.is
          ∙ ap (λ (d : Reading). Ok (record d { item = item_found (found_data (built new) f) })) (sym (reading_same old new r lists h.keeps told))
          ∙ ap (λ v. Ok (record (reading_of (built new) r lists) { item = v })) (found_item new f h.within);
      tells = record { item_within = number_below (length new) f h.within; keyword = more.keyword; property = more.property; reversed = more.reversed; props_within = more.props_within; reverses_within = more.reverses_within; graph_within = more.graph_within };
    }

-- a key without sub-frames
pub flat_read :
    {U : Type 0} (rows : List Row) (before after : program.Reading) (lists : Lists) (result : Result U FrameErr) (defined : Result Reading LdError) →
    Gives (λ _. reading_of (built rows) after lists) result defined → (Told (length rows) before lists → Told (length rows) after lists) → Told (length rows) before lists →
    Reads rows rows after result defined
flat_read rows before after lists (Ok u) defined gives same told = record { keeps = keeps_all rows; lists = lists; is = gives; tells = same told }
flat_read rows before after lists (Err e) defined gives same told = gives

-- reading that goes on after what was read
pub reads_on :
    {U : Type 0} (one two three : List Row) (r : program.Reading) (result : Result U FrameErr) (defined : Result Reading LdError) →
    Keeps one two → Reads two three r result defined → Reads one three r result defined
reads_on one two three r (Ok u) defined keeps h = record { keeps = keeps_both one two three keeps h.keeps; lists = h.lists; is = h.is; tells = h.tells }
reads_on one two three r (Err e) defined keeps h = h

-- a map of what was read holds numbers below the bound
pub row_within : (bound : ℕ) (c : MapClass) (r : program.Reading) (lists : Lists) → Told bound r lists → RowWithin bound (row_of c r)
row_within bound c r lists told =
    record { props = told.props_within; reverses = told.reverses_within; graph = told.graph_within; kind = kinds c r.flags_alone }
  where
    alone : (b : Bool) → Rattle.lf_expand.specs.RowData.KindWithin bound (wild_or_node b)
    alone true = tt
    alone false = tt

    kinds : (c : MapClass) (b : Bool) → Rattle.lf_expand.specs.RowData.KindWithin bound (kind_of c r.pattern r.item b)
    kinds class.Value b = tt
    kinds class.List b = told.item_within
    kinds class.Set b = alone b
    kinds class.Node b = alone b

-- the sub-frame of a map whose keys were read
pub map_found :
    (old mid new : List Row) (c : MapClass) (place : Place) (r : program.Reading) (done : Result Reading LdError) (n : ℕ) →
    IsRead old mid r done → (RowWithin (length mid) (row_of c r) → IsPlaced mid new n (placed place (seen_row (built mid) (row_of c r)))) →
    IsFound old new place (found.Numbered n) (map_read (class_data c) place done)
map_found old mid new c place r done n h put =
    let p = put (row_within (length mid) c r h.lists h.tells) in
    record {
      keeps = keeps_both old mid new h.keeps p.keeps;
      is =
          ap (map_read (class_data c) place) h.is
          ∙ ap (λ s. Ok (Some (placed place s))) (sym (row_seen (built mid) c r h.lists))
          ∙ ap (λ s. Ok (Some s)) (sym p.is);
      within = p.within;
      maps = anywhere (takes_maps_alone place);
    }
  where
    anywhere : (b : Bool) → IsMapWhere b (found.Numbered n)
    anywhere true = tt
    anywhere false = tt

-- a keyword is read
pub keyword_read :
    {U : Type 0} (c : MapClass) (k : program_key.FrameKey) (name : List ℕ) (table : TermTable) (place : Place) (value : JsonValue) (sub : Reader) (reverses : ReverseReader)
    (old new : List Row) (r added after : program.Reading) (lists : Lists) (result : Result U FrameErr) →
    has_key name r.keywords ≡ false → key_data k ≡ frame_key name → added ≡ keyword_added name r →
    ((ls : Lists) → Told (length old) added ls → Reads old new after result (read_keyword (class_data c) (key_data k) table place value sub reverses (reading_of (built old) added ls))) →
    Told (length old) r lists → Reads old new after result (read_key (class_data c) (keyword name) table place value sub reverses (reading_of (built old) r lists))
keyword_read c k name table place value sub reverses old new r added after lists result fresh is put step told =
    let more : Lists = record lists { keywords = name ∷ lists.keywords } in
    let read : Reads old new after result (read_keyword (class_data c) (key_data k) table place value sub reverses (reading_of (built old) (keyword_added name r) more)) =
    subst (λ x. Told (length old) x more → Reads old new after result (read_keyword (class_data c) (key_data k) table place value sub reverses (reading_of (built old) x more))) put (step more)
    (told_keyword (length old) name r lists told) in
    subst (λ d. Reads old new after result d)
    (sym (keyword_goes (class_data c) name table place value sub reverses (reading_of (built old) r lists) (told.keyword name ∙ fresh)
    ∙ ap (λ x. read_keyword (class_data c) x table place value sub reverses (reading_of (built old) (keyword_added name r) more)) (sym is)))
    read

-- nothing is read
abbrev pub no_lists : Lists
no_lists = record { keywords = []; properties = []; reversed = [] }

pub told_unread : (bound : ℕ) → Told bound unread no_lists
told_unread bound =
    record {
      keyword = λ name. refl;
      property = λ iri. refl;
      reversed = λ iri. refl;
      props_within = tt;
      reverses_within = tt;
      graph_within = tt;
      item_within = tt;
    }

pub map_fails : (c : keys.MapClass) (place : Place) (done : Result Reading LdError) (e : FrameErr) → Fails e done → Fails e (map_read c place done)
map_fails c place done e h = fails_then e done (λ reading. Ok (Some (placed place (frame_read c reading)))) h

given_seen : (sub : Numbered) (g : Given) → seen_row sub (given_row g) ≡ frame_of_given g
given_seen sub (reference node) = refl
given_seen sub (plain_value s datatype language) = refl

given_within : (bound : ℕ) (g : Given) → RowWithin bound (given_row g)
given_within bound (reference node) = record { props = tt; reverses = tt; graph = tt; kind = tt }
given_within bound (plain_value s datatype language) = record { props = tt; reverses = tt; graph = tt; kind = tt }

anywhere : (b : Bool) (n : ℕ) → IsMapWhere b (found.Numbered n)
anywhere true n = tt
anywhere false n = tt

-- a scalar is read
pub scalar_found :
    (old new : List Row) (place : Place) (table : TermTable) (term : Option TermDef) (s : Scalar) (g : Given) (row : Row) (n : ℕ) →
    given table term s ≡ Ok g → row ≡ given_row g → (RowWithin (length old) row → IsPlaced old new n (placed place (seen_row (built old) row))) →
    IsFound old new place (found.Numbered n) (scalar_under table term s place)
scalar_found old new place table term s g row n is made put =
    let p : IsPlaced old new n (placed place (seen_row (built old) (given_row g))) =
    subst (λ x. RowWithin (length old) x → IsPlaced old new n (placed place (seen_row (built old) x))) made put (given_within (length old) g) in
    record {
      keeps = p.keeps;
      is =
          ap (λ x. x >>= λ v. Ok (Some (placed place (frame_of_given v)))) is
          ∙ ap (λ sub. Ok (Some (placed place sub))) (sym (given_seen (built old) g))
          ∙ ap (λ sub. Ok (Some sub)) (sym p.is);
      within = p.within;
      maps = anywhere (takes_maps_alone place) n;
    }
