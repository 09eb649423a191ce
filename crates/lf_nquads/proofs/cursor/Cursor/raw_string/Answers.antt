use Rattle.std.proofs.Common.{◌≡◌, List, ℕ, take, drop, sym, ap, subst, ◌∙◌}
use Rattle.std.specs.Prelude.{encode_utf8_all}
use Rattle.std.specs.List.{prefix_len}
use Rattle.std.specs.Str.{IsCharBoundary, is_utf8, chars}
use Rattle.def_patch_texts.specs.Characters.{is_string_char}
use Rattle.lf_nquads.proofs.Places.{cuts_front, string_passes_high}
use Rattle.lf_nquads.proofs.cursor.Cursor.raw_string.Goals as goal

pub split_at-requires : goal.split_at-requires
split_at-requires c =
    let len : c.raw_string_len-len.result ≡ prefix_len is_string_char c.self.inside.rest.now = c.raw_string_len-len.ensures ∙ ap (prefix_len is_string_char) c.as_bytes.ensures.value in
    subst (λ (n : ℕ). IsCharBoundary c.self.inside.rest.now n) (sym len) (cuts_front is_string_char string_passes_high c.self.inside.rest.now c.self.invariant).boundary

pub invariant_of-self : goal.invariant_of-self
invariant_of-self c =
    let len : c.raw_string_len-len.result ≡ prefix_len is_string_char c.self.inside.rest.now = c.raw_string_len-len.ensures ∙ ap (prefix_len is_string_char) c.as_bytes.ensures.value in
    ap is_utf8 (c.split_at.ensures.back ∙ ap (λ (n : ℕ). drop n c.self.inside.rest.now) len)
    ∙ (cuts_front is_string_char string_passes_high c.self.inside.rest.now c.self.invariant).utf8

pub returns-clause-text : goal.returns-clause-text
returns-clause-text c =
    let len : c.raw_string_len-len.result ≡ prefix_len is_string_char c.self.inside.rest.now = c.raw_string_len-len.ensures ∙ ap (prefix_len is_string_char) c.as_bytes.ensures.value in
    c.split_at.ensures.front ∙ ap (λ (n : ℕ). take n c.self.inside.rest.now) len
    ∙ (cuts_front is_string_char string_passes_high c.self.inside.rest.now c.self.invariant).front
    ∙ ap (λ (cs : List ℕ). encode_utf8_all (take (prefix_len is_string_char cs) cs)) c.self.view_is

pub returns-clause-rest : goal.returns-clause-rest
returns-clause-rest c =
    let len : c.raw_string_len-len.result ≡ prefix_len is_string_char c.self.inside.rest.now = c.raw_string_len-len.ensures ∙ ap (prefix_len is_string_char) c.as_bytes.ensures.value in
    ap chars (c.split_at.ensures.back ∙ ap (λ (n : ℕ). drop n c.self.inside.rest.now) len)
    ∙ (cuts_front is_string_char string_passes_high c.self.inside.rest.now c.self.invariant).rest
    ∙ ap (λ (cs : List ℕ). drop (prefix_len is_string_char cs) cs) c.self.view_is
