use Rattle.std.proofs.Common.{◌≡◌, IfOk, ap, subst, ◌∙◌, rules}
use Rattle.json.specs.Print.{print}
use Rattle.lf_model.specs.JsonBridge.{json_data}
use Rattle.lf_json.proofs.Printing.{printed_value}
use Rattle.lf_json.proofs.ReadBackLemmas.{printed_reads_back}
use Rattle.lf_json.proofs.write.text.Goals as goal

pub returns-clause-value : goal.returns-clause-value
returns-clause-value c =
    let appended = c.in_ok-write.ensures.tokens c.requires in
    subst (λ bytes. IfOk c.text_of.result (λ text. text ≡ bytes)) (ap print (appended.tokens ∙ ap (λ l. l) (search rules)) ∙ printed_value (json_data c.args.json.now) c.requires) c.text_of.ensures.value

pub returns-clause-reads_back : goal.returns-clause-reads_back
returns-clause-reads_back c = printed_reads_back c.text_of.result (json_data c.args.json.now) c.requires c.in_ok-write.ensures.order (returns-clause-value c) c.text_of.ensures.utf8
