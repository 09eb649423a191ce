use Rattle.std.proofs.Common.{◌∷◌, [], ap, sym, ◌∙◌}
use Rattle.std.proofs.lemmas.Result.{on_ok_weaker}
use Rattle.lf_model.proofs.JsonLemmas.{json_data-Text}
use Rattle.def_documents.specs.Values.{language_entry}
use Rattle.def_selection.specs.Iris.{short_keyword}
use Rattle.def_selection.specs.Keywords.{at_language}
use Rattle.lf_compact.proofs.Added.{adds-same}
use Rattle.lf_compact.proofs.write.add_language.Goals as goal

pub returns-in-Some : goal.returns-in-Some
unfolding at_language
returns-in-Some c =
    let table = c.args.inverse.now in
    on_ok_weaker c.add_under.result
    (adds-same c.args.members.now c.add_under.new.members _ _
    (ap (λ v. (short_keyword table at_language, v) ∷ []) (json_data-Text c.in-Some.language) ∙ sym (ap (language_entry table) c.in-Some.is)))
    c.add_under.ensures
