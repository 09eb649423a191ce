-- Parts of a node's map.
use Rattle.std.proofs.Common.{◌≡◌, ℕ, Bool, true, false, not, List, [], ◌∷◌, ◌++◌, Option, Some, None, refl, ap, sym, ◌∙◌, subst, map, length, nat_cmp, cond, is_eq}
use Rattle.std.proofs.Math.Dec.{eqb-suc-zero}
use Rattle.std.specs.Prelude.{nat_eq, filter, option_map}
use Rattle.std.specs.Cmp.Lexicographic.{slice_cmp}
use Rattle.std.specs.BTreeMap.{is_at}
use Rattle.std.specs.Map.{lookup}
use Rattle.std.proofs.lemmas.Cmp.{nat_list_cmp_total, tied_itself}
use Rattle.std.proofs.lemmas.Map.Entries.{lookup_head}
use Rattle.std.proofs.lemmas.Slice.Eq.{bytes_eq-Decides}
use Rattle.lf_rdf.specs.declared.term.Term.{Term}
use Rattle.lf_rdf.specs.Equality.{text_eq}
use Rattle.lf_model.specs.declared.json.Json.{Json}
use Rattle.lf_model.specs.declared.table.TermTable.{TermTable}
use Rattle.lf_model.specs.JsonData.{JsonValue, array, items_of, text}
use Rattle.lf_model.specs.JsonBridge.{json_data}
use Rattle.def_selection.specs.Iris.{short_keyword, short_node}
use Rattle.def_selection.specs.Keywords.{at_graph, at_id, at_reverse, at_type}
use Rattle.def_documents.specs.Trying.{◌>>=◌}
use Rattle.def_documents.specs.Grouping.{alone_or_array, object_of, under}
use Rattle.def_documents.specs.Nodes.{graph_entry, id_entry, short_types, type_entry, types_in_array}
use Rattle.lf_compact.specs.declared.members.Joined.{Joined}
use Rattle.lf_compact.specs.Members.{Hold, Members, join, joined_data}
use Rattle.lf_compact.specs.Nodes.{names_entry, reverse_part, type_names_entry}

-- ---- types

bind-none : {A B : Type 0} (o : Option A) (f : A → Option B) → o ≡ None → (o >>= f) ≡ None
bind-none o f e = ap (λ u. u >>= f) e

-- the types by their names, whether there are any or none
pub types-entry : (table : TermTable) (types : List Term) → type_entry table types ≡ (short_types table types >>= (λ names. Some (names_entry table names)))
types-entry table [] = refl
types-entry table (first ∷ rest) = go (short_node table true first) (short_types table rest)
  where
    go : (a : Option (List ℕ)) (b : Option (List JsonValue)) →
        ((a >>= (λ c. b >>= (λ others. Some (text c ∷ others)))) >>= (λ names. Some (type_names_entry table names)))
        ≡ ((a >>= (λ c. b >>= (λ others. Some (text c ∷ others)))) >>= (λ names. Some (names_entry table names)))
    go None b = refl
    go (Some c) None = refl
    go (Some c) (Some others) = refl

pub types_none : (table : TermTable) (types : List Term) → short_types table types ≡ None → type_entry table types ≡ None
types_none table types e = types-entry table types ∙ bind-none (short_types table types) (λ names. Some (names_entry table names)) e

pub names-part : (table : TermTable) (xs : List Json) →
    cond (not (nat_eq (length xs) 0)) ((short_keyword table at_type, alone_or_array (types_in_array table (short_keyword table at_type)) (map json_data xs)) ∷ []) []
    ≡ names_entry table (map json_data xs)
names-part table [] = refl
names-part table (x ∷ xs) =
    ap (λ b. cond (not b) ((short_keyword table at_type, alone_or_array (types_in_array table (short_keyword table at_type)) (map json_data (x ∷ xs))) ∷ []) [])
    (eqb-suc-zero (length xs))

-- ---- a graph and an id

pub graph-part : (table : TermTable) (xs : List Json) →
    cond (not (nat_eq (length xs) 0)) ((short_keyword table at_graph, array (items_of (map json_data xs))) ∷ []) [] ≡ graph_entry table (map json_data xs)
graph-part table [] = refl
graph-part table (x ∷ xs) =
    ap (λ b. cond (not b) ((short_keyword table at_graph, array (items_of (map json_data (x ∷ xs)))) ∷ []) []) (eqb-suc-zero (length xs))

pub some-id : (table : TermTable) (id : Option Term) (own : Term) (compacted : List ℕ) → id ≡ Some own
    → short_node table false own ≡ Some compacted → id_entry table id ≡ Some ((short_keyword table at_id, text compacted) ∷ [])
some-id table id own compacted e made =
    ap (id_entry table) e ∙ ap (λ o. o >>= (λ (c : List ℕ). Some ((short_keyword table at_id, text c) ∷ []))) made

pub begun : (a b : Option (List (List ℕ × JsonValue))) (x y : List (List ℕ × JsonValue)) → a ≡ Some x → b ≡ Some y
    → (a >>= (λ ids. b >>= (λ names. Some (ids ++ names)))) ≡ Some (x ++ y)
begun a b x y e f = λ i. e i >>= (λ ids. f i >>= (λ names. Some (ids ++ names)))

-- ---- whether members hold anything

text-self : (key : List ℕ) → text_eq key key ≡ true
text-self key = (bytes_eq-Decides key key).1 refl

empty-held : (members : Members) (entries : List (List ℕ × JsonValue)) → members.entries ≡ [] → Hold members entries → entries ≡ []
empty-held members [] none held = refl
empty-held members (e ∷ es) none held =
    let found : join (under e.0 (e ∷ es)) ≡ None =
    sym (held e.0) ∙ ap (λ l. option_map joined_data (lookup (is_at (slice_cmp nat_cmp e.0)) l)) none in
    absurd (go (map (λ x. x.1) (filter (λ x. text_eq x.0 e.0) es)) (ap (λ b. join (map (λ x. x.1) (cond b (e ∷ filter (λ x. text_eq x.0 e.0) es) (filter (λ x. text_eq x.0 e.0) es)))) (sym (text-self e.0)) ∙ found))
  where
    go : (xs : List JsonValue) → join (e.1 ∷ xs) ≡ None → ⊥
    go [] n = cc
    go (x ∷ xs) n = cc

none-held : (members : Members) → Hold members [] → members.entries ≡ []
none-held members held = go members.entries refl
  where
    go : (es : List (List ℕ × Joined)) → members.entries ≡ es → es ≡ []
    go [] e = refl
    go (x ∷ xs) e =
        cc (
          held x.0,
          ap (λ l. option_map joined_data (lookup (is_at (slice_cmp nat_cmp x.0)) l)) e,
          ap (option_map joined_data) (lookup_head (is_at (slice_cmp nat_cmp x.0)) x xs (ap is_eq (tied_itself nat_list_cmp_total x.0))),
        )

-- the entry of `@reverse` stands where its members hold anything
pub reverse-held : (table : TermTable) (members : Members) (entries : List (List ℕ × JsonValue)) → Hold members entries
    → cond (not (nat_eq (length members.entries) 0)) ((short_keyword table at_reverse, object_of entries) ∷ []) [] ≡ reverse_part table entries
reverse-held table members [] held =
    ap (λ l. cond (not (nat_eq (length l) 0)) ((short_keyword table at_reverse, object_of []) ∷ []) []) (none-held members held)
reverse-held table members (e ∷ es) held = go members.entries refl
  where
    go : (rows : List (List ℕ × Joined)) → members.entries ≡ rows
        → cond (not (nat_eq (length rows) 0)) ((short_keyword table at_reverse, object_of (e ∷ es)) ∷ []) [] ≡ reverse_part table (e ∷ es)
    go [] p = cc (empty-held members (e ∷ es) p held)
    go (x ∷ xs) p = ap (λ b. cond (not b) ((short_keyword table at_reverse, object_of (e ∷ es)) ∷ []) []) (eqb-suc-zero (length xs))
