-- Texts written one part after another.
use Rattle.std.proofs.Common.{◌≡◌, ℕ, ◌+◌, ◌<◌, ◌≤◌, Bool, true, false, nat_lt, cond, List, [], ◌∷◌, ◌++◌, Option, Some, None, length, refl, sym, ap, subst, ◌∙◌, append_assoc, arith, ltb-true, ltb-false}
use Rattle.std.specs.Str.{IsUtf8}
use Rattle.std.proofs.lemmas.List.{length-append}
use Rattle.std.proofs.lemmas.Str.{IsUtf8-append}
use Rattle.json.specs.Print.{print}
use Rattle.json.specs.Token.{string}
use Rattle.def_printed.specs.JsonText.{json_string}
use Rattle.def_printed.proofs.Prints.{print-is, prints-string}
use Rattle.def_documents.specs.Document.{most_bytes, within_bytes}
use Rattle.lf_doc.specs.Sheets.{IsKept, appended, doc_of, within}

-- a text past the limit stays past it
past-stays : (text added : List ℕ) → nat_lt most_bytes (length text) ≡ true → within (text ++ added) ≡ None
past-stays text added past = go (nat_lt most_bytes (length (text ++ added))) refl
  where
    go : (b : Bool) → nat_lt most_bytes (length (text ++ added)) ≡ b → cond b None (Some (text ++ added)) ≡ None
    go true e = refl
    go false e =
        let over : most_bytes < length text = ltb-true most_bytes (length text) past in
        let fits : length (text ++ added) ≤ most_bytes = ltb-false most_bytes (length (text ++ added)) e in
        let sum : length (text ++ added) ≡ length text + length added = length-append text added in
        absurd (omega arith)

within-appended : (text added : List ℕ) → appended (within text) added ≡ within (text ++ added)
within-appended text added = go (nat_lt most_bytes (length text)) refl
  where
    go : (b : Bool) → nat_lt most_bytes (length text) ≡ b → appended (cond b None (Some text)) added ≡ within (text ++ added)
    go true e = sym (past-stays text added e)
    go false e = refl

-- two parts are one
pub appended_twice : (sheet : Option (List ℕ)) (one two : List ℕ) → appended (appended sheet one) two ≡ appended sheet (one ++ two)
appended_twice None one two = refl
appended_twice (Some text) one two = within-appended (text ++ one) two ∙ ap within (append_assoc text one two)

-- the document of a whole text
pub doc-within : (text : List ℕ) → doc_of (within text) ≡ within_bytes text
doc-within text = go (nat_lt most_bytes (length text)) refl
  where
    go : (b : Bool) → nat_lt most_bytes (length text) ≡ b → doc_of (cond b None (Some text)) ≡ within_bytes text
    go true e = rw e refl
    go false e = rw e refl

-- ---- characters stay characters

pub utf8-added : (bytes added all : List ℕ) → IsKept bytes → IsUtf8 added → all ≡ bytes ++ added → IsUtf8 all
utf8-added bytes added all kept utf8 is = subst IsUtf8 (sym is) (IsUtf8-append bytes added kept.utf8 utf8)

-- a string's token prints as its JSON string
pub string-printed : (text : List ℕ) → print (string text ∷ []) ≡ json_string text
string-printed text = print-is (string text ∷ []) (json_string text) (prints-string text)
