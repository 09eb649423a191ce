-- Each step of reading a map's keys, between what a program has read and what the definitions have.
use Rattle.std.proofs.Common.{◌≡◌, ℕ, ◌<◌, ◌≤◌, Bool, true, false, ◌||◌, List, [], ◌∷◌, length, Option, Some, None, Result, Ok, Err, refl, sym, ap, subst, ◌∙◌}
use Rattle.std.specs.Option.{option_map}
use Rattle.lf_sorted.specs.declared.map.Entry.{Entry}
use Rattle.lf_rdf.specs.Equality.{text_eq}
use Rattle.lf_model.specs.declared.table.TermDef.{TermDef}
use Rattle.lf_model.specs.declared.error.LdError.{LdError}
use Rattle.lf_model.specs.declared.error.LdError.TheVariants as ld
use Rattle.lf_expand.specs.declared.error.FrameErr.{FrameErr}
use Rattle.lf_expand.specs.declared.error.FrameErr.TheVariants as err
use Rattle.lf_expand.specs.declared.class.MapClass as program_class
use Rattle.lf_expand.specs.declared.class.MapClass.TheVariants as class
use Rattle.lf_expand.specs.declared.found.Found.{Found}
use Rattle.lf_expand.specs.declared.found.Found.TheVariants as found
use Rattle.lf_expand.specs.declared.reading.Reading as program
use Rattle.lf_expand.specs.declared.rows.Row.{Row}
use Rattle.def_nested.specs.Nested.{prop, reverse_prop, in_graph, match_none, frame_map}
use Rattle.def_nested.specs.Unfolding.{Numbered, build_within, build_kind, sub_frame}
use Rattle.def_contexts.specs.Outcomes.{◌>>=◌, refuse}
use Rattle.def_contexts.specs.Keywords.{one_of}
use Rattle.def_contexts.specs.Places.{of_property, of_reverse}
use Rattle.def_contexts.specs.MapReading.{read_property, read_reverse}
use Rattle.def_contexts.specs.Readings.{Reading, Reader, with_property, with_reverse, within_found, item_found, frame_read, kind_of}
use Rattle.lf_expand.specs.Gives.{Fails}
use Rattle.lf_expand.specs.KeptKeys.{class_data}
use Rattle.lf_expand.specs.RowData.{flags_data, seen_props, seen_reverses, seen_row, built, IsBelow, PropsWithin, ReversesWithin, Keeps}
use Rattle.lf_expand.specs.ReadingData as stated
use Rattle.lf_expand.specs.ReadingData.{has_key, keyword_added, property_given, reverse_given, row_of, Lists, reading_of, Told, found_data, FoundWithin, IsMapWhere, IsFound, IsRead}
use Rattle.lf_expand.proofs.Sets.{has_put, seen_put, seen_reverse_put, props_put, reverses_put, below_more, props_more, reverses_more}

-- an error is the error of what goes on
pub fails_then : {A B : Type 0} (e : FrameErr) (r : Result A LdError) (next : A → Result B LdError) → Fails e r → Fails e (r >>= next)
fails_then err.Memory r next h = tt
fails_then (err.Ld e) r next h = ap (λ x. x >>= next) h

-- numbers that keep what they stand for
props_same : (f g : Numbered) (bound : ℕ) (es : List (Entry (Option ℕ))) → ((n : ℕ) → n < bound → f n ≡ g n) → PropsWithin bound es → seen_props f es ≡ seen_props g es
props_same f g bound [] same h = refl
props_same f g bound (e ∷ es) same h = go e.value h.0 (props_same f g bound es same h.1)
  where
    go : (v : Option ℕ) → IsBelow v bound → seen_props f es ≡ seen_props g es → prop e.key (sub_frame f v) (seen_props f es) ≡ prop e.key (sub_frame g v) (seen_props g es)
    go (Some n) lt rest = λ i. prop e.key (same n lt i) (rest i)
    go None lt rest = λ i. prop e.key match_none (rest i)

reverses_same : (f g : Numbered) (bound : ℕ) (es : List (Entry ℕ)) → ((n : ℕ) → n < bound → f n ≡ g n) → ReversesWithin bound es → seen_reverses f es ≡ seen_reverses g es
reverses_same f g bound [] same h = refl
reverses_same f g bound (e ∷ es) same h = let rest = reverses_same f g bound es same h.1 in λ i. reverse_prop e.key (same e.value h.0 i) (rest i)

within_same : (f g : Numbered) (bound : ℕ) (v : Option ℕ) → ((n : ℕ) → n < bound → f n ≡ g n) → IsBelow v bound → build_within f v ≡ build_within g v
within_same f g bound (Some n) same h = ap in_graph (same n h)
within_same f g bound None same h = refl

item_same : (f g : Numbered) (bound : ℕ) (v : Option ℕ) → ((n : ℕ) → n < bound → f n ≡ g n) → IsBelow v bound → option_map f v ≡ option_map g v
item_same f g bound (Some n) same h = ap Some (same n h)
item_same f g bound None same h = refl

-- what was read stands as maps are put behind
pub reading_same : (old new : List Row) (r : program.Reading) (lists : Lists) → Keeps old new → Told (length old) r lists → reading_of (built new) r lists ≡ reading_of (built old) r lists
reading_same old new r lists keeps told =
    let props = props_same (built new) (built old) (length old) r.props keeps.same told.props_within in
    let reverses = reverses_same (built new) (built old) (length old) r.reverse keeps.same told.reverses_within in
    let within = within_same (built new) (built old) (length old) r.graph keeps.same told.graph_within in
    let item = item_same (built new) (built old) (length old) r.item keeps.same told.item_within in
    λ i. record (reading_of (built old) r lists) { props = props i; reverses = reverses i; within = within i; item = item i }

pub told_more : (bound more : ℕ) (r : program.Reading) (lists : Lists) → bound ≤ more → Told bound r lists → Told more r lists
told_more bound more r lists le told =
    record {
      keyword = told.keyword;
      property = told.property;
      reversed = told.reversed;
      props_within = props_more bound more r.props le told.props_within;
      reverses_within = reverses_more bound more r.reverse le told.reverses_within;
      graph_within = below_more r.graph bound more le told.graph_within;
      item_within = below_more r.item bound more le told.item_within;
    }

-- ---- one key more

or_turned : (a b c : Bool) → (a || (b || c)) ≡ (b || (a || c))
or_turned true true c = refl
or_turned true false c = refl
or_turned false true c = refl
or_turned false false c = refl

or_grouped : (a b c : Bool) → (a || (b || c)) ≡ ((a || b) || c)
or_grouped true b c = refl
or_grouped false b c = refl

pub told_keyword : (bound : ℕ) (name : List ℕ) (r : program.Reading) (lists : Lists) → Told bound r lists → Told bound (keyword_added name r) (record lists { keywords = name ∷ lists.keywords })
told_keyword bound name r lists told =
    record { keyword = λ other. ap (λ b. text_eq other name || b) (told.keyword other) ∙ sym (has_put name true r.keywords other); property = told.property; reversed = told.reversed; props_within = told.props_within; reverses_within = told.reverses_within; graph_within = told.graph_within; item_within = told.item_within }

pub told_property : (bound : ℕ) (iri : List ℕ) (f : Found) (r : program.Reading) (lists : Lists) → FoundWithin bound f → Told bound r lists → Told bound (property_given iri f r) (record lists { properties = iri ∷ lists.properties })
told_property bound iri found.Dropped r lists within told =
    record {
      property = λ other.
          ap (λ b. text_eq other iri || b) (told.property other)
          ∙ or_turned (text_eq other iri) (has_key other r.props) (has_key other r.dropped)
          ∙ ap (λ b. has_key other r.props || b) (sym (has_put iri true r.dropped other));
      keyword = told.keyword;
      reversed = told.reversed;
      props_within = told.props_within;
      reverses_within = told.reverses_within;
      graph_within = told.graph_within;
      item_within = told.item_within;
    }
told_property bound iri found.MatchNone r lists within told =
    record {
      property = λ other.
          ap (λ b. text_eq other iri || b) (told.property other)
          ∙ or_grouped (text_eq other iri) (has_key other r.props) (has_key other r.dropped)
          ∙ ap (λ b. b || has_key other r.dropped) (sym (has_put iri None r.props other));
      props_within = props_put bound iri None r.props tt told.props_within;
      keyword = told.keyword;
      reversed = told.reversed;
      reverses_within = told.reverses_within;
      graph_within = told.graph_within;
      item_within = told.item_within;
    }
told_property bound iri (found.Numbered n) r lists within told =
    record {
      property = λ other.
          ap (λ b. text_eq other iri || b) (told.property other)
          ∙ or_grouped (text_eq other iri) (has_key other r.props) (has_key other r.dropped)
          ∙ ap (λ b. b || has_key other r.dropped) (sym (has_put iri (Some n) r.props other));
      props_within = props_put bound iri (Some n) r.props within told.props_within;
      keyword = told.keyword;
      reversed = told.reversed;
      reverses_within = told.reverses_within;
      graph_within = told.graph_within;
      item_within = told.item_within;
    }

pub told_reverse : (bound : ℕ) (iri : List ℕ) (n : ℕ) (r : program.Reading) (lists : Lists) → n < bound → Told bound r lists → Told bound (reverse_given iri n r) (record lists { reversed = iri ∷ lists.reversed })
told_reverse bound iri n r lists within told =
    record {
      reversed = λ other. ap (λ b. text_eq other iri || b) (told.reversed other) ∙ sym (has_put iri n r.reverse other);
      reverses_within = reverses_put bound iri n r.reverse within told.reverses_within;
      keyword = told.keyword;
      property = told.property;
      props_within = told.props_within;
      graph_within = told.graph_within;
      item_within = told.item_within;
    }

pub with_property_is : (sub : Numbered) (iri : List ℕ) (f : Found) (r : program.Reading) (lists : Lists) →
    with_property iri (found_data sub f) (reading_of sub r lists) ≡ reading_of sub (property_given iri f r) (record lists { properties = iri ∷ lists.properties })
with_property_is sub iri found.Dropped r lists = refl
with_property_is sub iri found.MatchNone r lists =
    let put = seen_put sub iri None r.props in
    λ i. record (reading_of sub (property_given iri found.MatchNone r) (record lists { properties = iri ∷ lists.properties })) { props = sym put i }
with_property_is sub iri (found.Numbered n) r lists =
    let put = seen_put sub iri (Some n) r.props in
    λ i. record (reading_of sub (property_given iri (found.Numbered n) r) (record lists { properties = iri ∷ lists.properties })) { props = sym put i }

pub with_reverse_is : (sub : Numbered) (iri : List ℕ) (n : ℕ) (r : program.Reading) (lists : Lists) →
    with_reverse iri (Some (sub n)) (reading_of sub r lists) ≡ Ok (reading_of sub (reverse_given iri n r) (record lists { reversed = iri ∷ lists.reversed }))
with_reverse_is sub iri n r lists =
    let put = seen_reverse_put sub iri n r.reverse in
    λ i. Ok (record (reading_of sub (reverse_given iri n r) (record lists { reversed = iri ∷ lists.reversed })) { reverses = sym put i })

-- the map of what was read is the definition's
pub row_seen : (sub : Numbered) (c : program_class.MapClass) (r : program.Reading) (lists : Lists) → seen_row sub (row_of c r) ≡ frame_read (class_data c) (reading_of sub r lists)
row_seen sub c r lists = ap (λ k. frame_map (flags_data r.flags) (seen_props sub r.props) (seen_reverses sub r.reverse) (build_within sub r.graph) k) (kinds c r.item r.flags_alone)
  where
    alone : (b : Bool) → build_kind sub (stated.wild_or_node b) ≡ Rattle.def_contexts.specs.Readings.node_kind b
    alone true = refl
    alone false = refl

    items : (item : Option ℕ) → build_kind sub (Rattle.lf_model.specs.declared.frame.FrameKind.TheVariants.List item) ≡ Rattle.def_contexts.specs.Readings.list_kind (option_map sub item)
    items (Some n) = refl
    items None = refl

    kinds : (c : program_class.MapClass) (item : Option ℕ) (b : Bool) → build_kind sub (stated.kind_of c r.pattern item b) ≡ kind_of (class_data c) (record (reading_of sub r lists) { item = option_map sub item; flags_alone = b })
    kinds class.Value item b = refl
    kinds class.List item b = items item
    kinds class.Set item b = alone b
    kinds class.Node item b = alone b

-- ---- properties and reverse properties

-- a property whose value is read
pub property_read :
    (old new : List Row) (iri : List ℕ) (term : Option TermDef) (sub : Reader) (f : Found) (r : program.Reading) (lists : Lists) →
    Told (length old) r lists → (has_key iri r.props || has_key iri r.dropped) ≡ false → IsFound old new (of_property term) f (sub (of_property term)) →
    IsRead old new (property_given iri f r) (read_property iri term sub (reading_of (built old) r lists))
property_read old new iri term sub f r lists told fresh h =
    record {
      keeps = h.keeps;
      lists = record lists { properties = iri ∷ lists.properties };
      is =
          ap (λ b. refuse b ld.InvalidFrame >>= λ _. sub (of_property term) >>= λ v. Ok (with_property iri v (reading_of (built old) r lists))) (told.property iri ∙ fresh)
          ∙ ap (λ s. s >>= λ v. Ok (with_property iri v (reading_of (built old) r lists))) h.is
          ∙ ap (λ d. Ok (with_property iri (found_data (built new) f) d)) (sym (reading_same old new r lists h.keeps told))
          ∙ ap Ok (with_property_is (built new) iri f r lists);
      tells = told_property (length new) iri f r lists h.within (told_more (length old) (length new) r lists h.keeps.grows told);
    }

-- its error
pub property_fails :
    (iri : List ℕ) (term : Option TermDef) (sub : Reader) (e : FrameErr) (d : Reading) → one_of d.properties iri ≡ false → Fails e (sub (of_property term)) →
    Fails e (read_property iri term sub d)
property_fails iri term sub e d fresh h =
    subst (Fails e) (sym (ap (λ b. refuse b ld.InvalidFrame >>= λ _. sub (of_property term) >>= λ v. Ok (with_property iri v d)) fresh))
    (fails_then e (sub (of_property term)) (λ v. Ok (with_property iri v d)) h)

pub property_refused : (iri : List ℕ) (term : Option TermDef) (sub : Reader) (d : Reading) → one_of d.properties iri ≡ true → read_property iri term sub d ≡ Err ld.InvalidFrame
property_refused iri term sub d there = ap (λ b. refuse b ld.InvalidFrame >>= λ _. sub (of_property term) >>= λ v. Ok (with_property iri v d)) there

pub reverse_read :
    (old new : List Row) (iri : List ℕ) (sub : Reader) (n : ℕ) (r : program.Reading) (lists : Lists) →
    Told (length old) r lists → has_key iri r.reverse ≡ false → IsFound old new of_reverse (found.Numbered n) (sub of_reverse) →
    IsRead old new (reverse_given iri n r) (read_reverse iri sub (reading_of (built old) r lists))
reverse_read old new iri sub n r lists told fresh h =
    record {
      keeps = h.keeps;
      lists = record lists { reversed = iri ∷ lists.reversed };
      is =
          ap (λ b. refuse b ld.InvalidFrame >>= λ _. sub of_reverse >>= λ v. with_reverse iri v (reading_of (built old) r lists)) (told.reversed iri ∙ fresh)
          ∙ ap (λ s. s >>= λ v. with_reverse iri v (reading_of (built old) r lists)) h.is
          ∙ ap (λ d. with_reverse iri (Some (built new n)) d) (sym (reading_same old new r lists h.keeps told))
          ∙ with_reverse_is (built new) iri n r lists;
      tells = told_reverse (length new) iri n r lists h.within (told_more (length old) (length new) r lists h.keeps.grows told);
    }

pub reverse_fails : (iri : List ℕ) (sub : Reader) (e : FrameErr) (d : Reading) → one_of d.reversed iri ≡ false → Fails e (sub of_reverse) → Fails e (read_reverse iri sub d)
reverse_fails iri sub e d fresh h =
    subst (Fails e) (sym (ap (λ b. refuse b ld.InvalidFrame >>= λ _. sub of_reverse >>= λ v. with_reverse iri v d) fresh))
    (fails_then e (sub of_reverse) (λ v. with_reverse iri v d) h)

pub reverse_refused : (iri : List ℕ) (sub : Reader) (d : Reading) → one_of d.reversed iri ≡ true → read_reverse iri sub d ≡ Err ld.InvalidFrame
reverse_refused iri sub d there = ap (λ b. refuse b ld.InvalidFrame >>= λ _. sub of_reverse >>= λ v. with_reverse iri v d) there

pub reverse_dropped : (iri : List ℕ) (sub : Reader) (d : Reading) → one_of d.reversed iri ≡ false → sub of_reverse ≡ Ok None → read_reverse iri sub d ≡ Err ld.InvalidReverseValue
reverse_dropped iri sub d fresh is =
    ap (λ b. refuse b ld.InvalidFrame >>= λ _. sub of_reverse >>= λ v. with_reverse iri v d) fresh
    ∙ ap (λ s. s >>= λ v. with_reverse iri v d) is
