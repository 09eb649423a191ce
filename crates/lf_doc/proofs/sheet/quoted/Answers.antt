use Rattle.std.proofs.Common.{◌≡◌, [], ◌∷◌, ◌++◌, ap, subst, ◌∙◌}
use Rattle.std.specs.Str.{IsUtf8}
use Rattle.json.specs.Print.{print}
use Rattle.json.specs.Token.{string}
use Rattle.lf_doc.proofs.Sheets.{string-printed}
use Rattle.lf_doc.proofs.sheet.quoted.Goals as goal

pub returns-clause-items : goal.returns-clause-items
returns-clause-items c =
    let before : c.string.new.self.before ≡ [] = c.in_ok-string.ensures.room.0 ∙ c.new-out.ensures.before ∙ c.clear.ensures.items in
    let tokens : c.string.new.self.tokens ≡ string c.args.text.now ∷ [] = c.in_ok-string.ensures.ok ∙ ap (λ l. l ++ string c.args.text.now ∷ []) c.new-out.ensures.tokens in
    c.into_inner.ensures.items ∙ (λ i. before i ++ print (tokens i)) ∙ string-printed c.args.text.now

pub returns-clause-utf8 : goal.returns-clause-utf8
returns-clause-utf8 c =
    let tokens : c.string.new.self.tokens ≡ string c.args.text.now ∷ [] = c.in_ok-string.ensures.ok ∙ ap (λ l. l ++ string c.args.text.now ∷ []) c.new-out.ensures.tokens in
    subst IsUtf8 (ap print tokens ∙ string-printed c.args.text.now) c.into_inner.ensures.utf8
