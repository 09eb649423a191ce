use Rattle.std.proofs.Common.{not, length, ap, sym, ◌∙◌, arith, [], None}
use Rattle.std.proofs.lemmas.List.Sums.{position_or_len_is}
use Rattle.lf_rdf.specs.declared.quad.Quad.{Quad}
use Rattle.lf_rdf.specs.declared.term.Term.TheVariants.{Blank}
use Rattle.lf_rdf.specs.Equality.{text_eq}
use Rattle.lf_nodes.specs.Properties.{under}
use Rattle.lf_nodes.proofs.entries.property_run.Goals as goal

pub returns-then-ne : goal.returns-then-ne
returns-then-ne c =
    let entries = c.args.entries.now in
    let place = c.loop-place.place in
    let test = λ (q : Quad). not (under c.args.property.now q) in
    let d = c.index-entries-place.result in
    sym (position_or_len_is test entries place d (omega arith) (λ k below. ap not (c.loop-place.invariant k d below))
    (λ _. ap test (sym c.index-entries-place.is) ∙ (ap (λ w. not (text_eq c.args.property.now w)) (sym c.property.ensures) ∙ sym c.if-ne.ensures)))

pub returns : goal.returns
returns c =
    let entries = c.args.entries.now in
    let test = λ (q : Quad). not (under c.args.property.now q) in
    let d : Quad = record { subject = Blank []; predicate = Blank []; object = Blank []; graph = None } in
    sym (position_or_len_is test entries (length entries) d (omega arith) (λ k below. ap not (c.loop-place.invariant k d (omega arith))) (λ below. absurd (omega arith)))
