-- Worked cases of the classes of characters: each range at its edges, and the characters beside
-- them.
use Rattle.std.specs.Prelude.{◌≡◌, true, false, [], ◌∷◌, codes, refl}
use Rattle.std.specs.List.{list_all, list_any}
use Rattle.def_patch_texts.specs.Characters.{is_absolute, is_iri_char, is_pn_chars_base, is_pn_chars_u, is_pn_chars, is_label, is_tag}

-- ---- labels of blank nodes

pub base_edges : list_all is_pn_chars_base
    (0x41 ∷ 0x5A ∷ 0x61 ∷ 0x7A ∷ 0xC0 ∷ 0xD6 ∷ 0xD8 ∷ 0xF6 ∷ 0xF8 ∷ 0x2FF ∷ 0x370 ∷ 0x37D ∷ 0x37F ∷ 0x1FFF ∷ 0x200C ∷ 0x200D
    ∷ 0x2070 ∷ 0x218F ∷ 0x2C00 ∷ 0x2FEF ∷ 0x3001 ∷ 0xD7FF ∷ 0xF900 ∷ 0xFDCF ∷ 0xFDF0 ∷ 0xFFFD ∷ 0x10000 ∷ 0xEFFFF ∷ [])
    ≡ true
base_edges = refl

pub beside_base : list_any is_pn_chars_base
    (0x40 ∷ 0x5B ∷ 0x60 ∷ 0x7B ∷ 0xBF ∷ 0xD7 ∷ 0xF7 ∷ 0x300 ∷ 0x36F ∷ 0x37E ∷ 0x2000 ∷ 0x200B ∷ 0x200E ∷ 0x206F ∷ 0x2190 ∷ 0x2BFF
    ∷ 0x2FF0 ∷ 0x3000 ∷ 0xD800 ∷ 0xF8FF ∷ 0xFDD0 ∷ 0xFDEF ∷ 0xFFFE ∷ 0xFFFF ∷ 0xF0000 ∷ 0x5F ∷ 0x3A ∷ 0x30 ∷ [])
    ≡ false
beside_base = refl

-- `_` and `:`, but neither `-` nor a digit
pub u_adds : list_all is_pn_chars_u (0x5F ∷ 0x3A ∷ []) ≡ true
u_adds = refl

pub u_lacks :
    list_any is_pn_chars_u (0x2D ∷ 0x2E ∷ 0x30 ∷ 0x39 ∷ 0xB7 ∷ 0x300 ∷ 0x203F ∷ []) ≡ false
u_lacks = refl

pub chars_add :
    list_all is_pn_chars
    (0x2D ∷ 0x30 ∷ 0x39 ∷ 0xB7 ∷ 0x300 ∷ 0x36F ∷ 0x203F ∷ 0x2040 ∷ 0x5F ∷ 0x3A ∷ []) ≡ true
chars_add = refl

pub chars_lack :
    list_any is_pn_chars
    (0x20 ∷ 0x2C ∷ 0x2E ∷ 0x2F ∷ 0x3B ∷ 0xB6 ∷ 0xB8 ∷ 0x37E ∷ 0x203E ∷ 0x2041 ∷ []) ≡ false
chars_lack = refl

pub labels : list_all is_label
    (codes "a" ∷ codes "1" ∷ codes "_" ∷ codes ":" ∷ codes "a.b" ∷ codes "a..b" ∷ codes "a-"
    ∷ codes "0.-" ∷ [])
    ≡ true
labels = refl

pub no_labels :
    list_any is_label
    ([] ∷ codes "." ∷ codes ".a" ∷ codes "-a" ∷ codes "a." ∷ codes "a.." ∷ codes "a b" ∷ [])
    ≡ false
no_labels = refl

-- ---- IRIs

pub iri_chars : list_all is_iri_char
    (0x21 ∷ 0x23 ∷ 0x25 ∷ 0x27 ∷ 0x3D ∷ 0x3F ∷ 0x5B ∷ 0x5D ∷ 0x5F ∷ 0x7E ∷ 0x7F ∷ 0xA0 ∷ 0xFFFE
    ∷ 0x10FFFF ∷ [])
    ≡ true
iri_chars = refl

pub no_iri_chars : list_any is_iri_char
    (0x00 ∷ 0x09 ∷ 0x0A ∷ 0x1F ∷ 0x20 ∷ 0x22 ∷ 0x3C ∷ 0x3E ∷ 0x5C ∷ 0x5E ∷ 0x60 ∷ 0x7B ∷ 0x7C ∷ 0x7D
    ∷ [])
    ≡ false
no_iri_chars = refl

pub absolutes : list_all is_absolute (codes "a:" ∷ codes "Z0+-.:x" ∷ codes "urn:a b" ∷ []) ≡ true
absolutes = refl

pub relatives : list_any is_absolute
    ([] ∷ codes ":" ∷ codes "a" ∷ codes "1a:b" ∷ codes "+a:b" ∷ codes "a_b:c" ∷ codes "a/b:c"
    ∷ codes "//e/a" ∷ (0xE9 ∷ codes ":a") ∷ [])
    ≡ false
relatives = refl

-- ---- language tags

pub tags : list_all is_tag (codes "e" ∷ codes "EN" ∷ codes "en-1" ∷ codes "a-B2-3c" ∷ []) ≡ true
tags = refl

pub no_tags : list_any is_tag
    ([] ∷ codes "1" ∷ codes "e1" ∷ codes "en-" ∷ codes "-en" ∷ codes "en--a" ∷ codes "en-a_"
    ∷ (0xE9 ∷ []) ∷ [])
    ≡ false
no_tags = refl
