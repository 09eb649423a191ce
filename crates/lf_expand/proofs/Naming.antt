-- Each map of a frame names maps behind it, and the top map is the first.
use Rattle.std.proofs.Common.{◌≡◌, ℕ, zero, suc, ◌+◌, ◌-◌, ◌<◌, List, [], ◌∷◌, ◌++◌, length, map, reverse, slice_get, Option, Some, None, Result, Ok, sym, ap, subst, ◌∙◌, arith}
use Rattle.std.proofs.lemmas.List.{length-reverse, length-append}
use Rattle.std.proofs.lemmas.Option.{none-some, same_Some}
use Rattle.std.proofs.lemmas.List.{length-map}
use Rattle.std.specs.Option.{option_map}
use Rattle.std.specs.List.{AllByRecursion}
use Rattle.lf_sorted.specs.declared.map.Entry.{Entry}
use Rattle.lf_model.specs.declared.error.LdError.{LdError}
use Rattle.lf_model.specs.declared.table.TermTable.{TermTable}
use Rattle.lf_model.specs.declared.frame.FrameNode.{FrameNode}
use Rattle.lf_model.specs.declared.frame.FrameProp.{FrameProp}
use Rattle.lf_model.specs.declared.frame.FrameReverse.{FrameReverse}
use Rattle.lf_model.specs.declared.frame.FrameKind.{FrameKind}
use Rattle.lf_model.specs.declared.frame.FrameKind.TheVariants as frame_kind
use Rattle.lf_model.specs.JsonData.{JsonMembers}
use Rattle.lf_expand.specs.declared.error.FrameErr.{FrameErr}
use Rattle.lf_expand.specs.declared.class.MapClass.TheVariants as class
use Rattle.lf_expand.specs.declared.reading.Reading as program
use Rattle.lf_expand.specs.declared.rows.Row.{Row}
use Rattle.def_nested.specs.Unfolding.{nested}
use Rattle.def_contexts.specs.Outcomes.{◌>>=◌}
use Rattle.def_contexts.specs.FrameKeys.{node_map}
use Rattle.def_contexts.specs.Places.{of_top}
use Rattle.def_contexts.specs.Readings.{Reading, unread, frame_read}
use Rattle.def_contexts.specs.SubFrames.{read_members, top_frame}
use Rattle.lf_expand.specs.Gives.{Fails}
use Rattle.lf_expand.specs.RowData.{built, IsBelow, PropsWithin, ReversesWithin, KindWithin, RowWithin, DescendsFrom, Descends}
use Rattle.lf_expand.specs.ReadingData.{reading_of, row_of, IsRead}
use Rattle.lf_expand.specs.Numbers.{turned_props, turned_reverses, turned_kind, turned_row, IsLater, KindIsLater, NamesLater, NamesLargerNumbers}
use Rattle.lf_expand.proofs.RowLemmas.{built_last, keeps_push}
use Rattle.lf_expand.proofs.ReadingLemmas.{fails_then, row_seen}
use Rattle.lf_expand.proofs.Steps.{row_within}
use Rattle.lf_expand.proofs.Turning.{top_first}

later : (first last bound : ℕ) → first + bound ≡ last → (v : Option ℕ) → IsBelow v bound → IsLater first (last + 1) (option_map (λ n. last - n) v)
later first last bound at (Some n) lt = (omega arith, omega arith)
later first last bound at None lt = tt

props_later : (first last bound : ℕ) → first + bound ≡ last → (es : List (Entry (Option ℕ))) → PropsWithin bound es → AllByRecursion (λ (p : FrameProp). IsLater first (last + 1) p.frame) (turned_props last es)
props_later first last bound at [] h = tt
props_later first last bound at (e ∷ es) h = (later first last bound at e.value h.0, props_later first last bound at es h.1)

reverses_later : (first last bound : ℕ) → first + bound ≡ last → (es : List (Entry ℕ)) → ReversesWithin bound es → AllByRecursion (λ (p : FrameReverse). (first < p.frame) × (p.frame < last + 1)) (turned_reverses last es)
reverses_later first last bound at [] h = tt
reverses_later first last bound at (e ∷ es) h = let lt = h.0 in ((omega arith, omega arith), reverses_later first last bound at es h.1)

kind_later : (first last bound : ℕ) → first + bound ≡ last → (k : FrameKind) → KindWithin bound k → KindIsLater first (last + 1) (turned_kind last k)
kind_later first last bound at frame_kind.Wild h = tt
kind_later first last bound at frame_kind.Node h = tt
kind_later first last bound at (frame_kind.Value pattern) h = tt
kind_later first last bound at (frame_kind.List item) h = later first last bound at item h

row_later : (first last bound : ℕ) → first + bound ≡ last → (row : Row) → RowWithin bound row → NamesLater first (last + 1) (turned_row last row)
row_later first last bound at row h =
    record {
      props = props_later first last bound at row.props h.props;
      reverses = reverses_later first last bound at row.reverse h.reverses;
      graph = later first last bound at row.graph h.graph;
      kind = kind_later first last bound at row.kind h.kind;
    }

each_later : (first last : ℕ) (rows : List Row) → first + length rows ≡ last + 1 → DescendsFrom rows → (place : ℕ) (node : FrameNode) →
    slice_get (map (turned_row last) rows) place ≡ Some node → NamesLater (first + place) (last + 1) node
each_later first last [] len d place node found = absurd (none-some node found)
each_later first last (row ∷ older) len d zero node found =
    let here : first + 0 ≡ first = omega arith in
    subst (λ n. NamesLater n (last + 1) node) (sym here)
    (subst (NamesLater first (last + 1)) (same_Some (turned_row last row) node found) (row_later first last (length older) (omega arith) row d.0))
each_later first last (row ∷ older) len d (suc place) node found =
    let next : (first + 1) + place ≡ first + suc place = omega arith in
    subst (λ n. NamesLater n (last + 1) node) next (each_later (first + 1) last older (omega arith) d.1 place node found)

-- the maps in their last order name larger numbers
pub all_later : (rows : List Row) (last : ℕ) → length rows ≡ last + 1 → Descends rows → NamesLargerNumbers (map (turned_row last) (reverse rows))
all_later rows last len d own node found =
    let same = length-reverse rows in
    let count : length (map (turned_row last) (reverse rows)) ≡ last + 1 = length-map (reverse rows) (turned_row last) ∙ same ∙ len in
    let at : 0 + own ≡ own = omega arith in
    subst (λ bound. NamesLater own bound node) (sym count)
    (subst (λ n. NamesLater n (last + 1) node) at (each_later 0 last (reverse rows) (omega arith) d own node found))

-- ---- the top frame

-- the maps after the top map's keys were read
pub record IsTop (rows : List Row) (last : ℕ) (defined : Result Reading LdError) : Type 0 where
  pub descends : Descends rows
  pub count : length rows ≡ last + 1
  pub reading : Reading
  pub is : defined ≡ Ok reading
  pub top : built rows last ≡ frame_read node_map reading

pub top_put : (mid rows : List Row) (r : program.Reading) (row : Row) (last : ℕ) (defined : Result Reading LdError) →
    IsRead [] mid r defined → row ≡ row_of class.Node r → last ≡ length mid → rows ≡ mid ++ row ∷ [] → IsTop rows last defined
top_put mid rows r row last defined h made at is =
    let within : RowWithin (length mid) row = subst (RowWithin (length mid)) (sym made) (row_within (length mid) class.Node r h.lists h.tells) in
    let len = length-append mid (row ∷ []) in
    subst (λ all. IsTop all last defined) (sym is)
    (record {
      descends = (keeps_push mid row within).descends (h.keeps.descends tt);
      count = omega arith;
      reading = reading_of (built mid) r h.lists;
      is = h.is;
      top = ap (built (mid ++ row ∷ [])) at ∙ built_last mid row ∙ ap (Rattle.lf_expand.specs.RowData.seen_row (built mid)) made ∙ row_seen (built mid) class.Node r h.lists;
    })

pub top_found : (table : TermTable) (given : JsonMembers) (rows : List Row) (last : ℕ) (nodes : List FrameNode) →
    IsTop rows last (read_members table given node_map of_top unread) → nodes ≡ map (turned_row last) (reverse rows) → top_frame table given ≡ Ok (nested nodes 0)
unfolding top_frame
top_found table given rows last nodes h is =
    ap (λ d. d >>= λ reading. Ok (frame_read node_map reading)) h.is
    ∙ ap Ok (sym (ap (λ l. nested l 0) is ∙ top_first rows last h.count h.descends ∙ h.top))

pub top_numbers : (rows : List Row) (last : ℕ) (nodes : List FrameNode) (defined : Result Reading LdError) →
    IsTop rows last defined → nodes ≡ map (turned_row last) (reverse rows) → NamesLargerNumbers nodes
top_numbers rows last nodes defined h is = subst NamesLargerNumbers (sym is) (all_later rows last h.count h.descends)

pub top_fails : (table : TermTable) (given : JsonMembers) (e : FrameErr) → Fails e (read_members table given node_map of_top unread) → Fails e (top_frame table given)
unfolding top_frame
top_fails table given e h = fails_then e (read_members table given node_map of_top unread) (λ reading. Ok (frame_read node_map reading)) h
