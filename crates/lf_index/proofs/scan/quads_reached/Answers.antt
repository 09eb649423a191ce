use Rattle.std.proofs.Common.{◌≡◌, List, ◌∷◌, map, sym, ap, ◌∙◌, rules}
use Rattle.lf_rdf.specs.declared.quad.Quad.{Quad}
use Rattle.lf_ptree.specs.Ranges.{pairs_left}
use Rattle.lf_index.proofs.LoopLemmas.{found_more}
use Rattle.lf_index.proofs.scan.quads_reached.Goals as goal

pub loop-pair-preserved : goal.loop-pair-preserved
loop-pair-preserved g c =
    let quads : List (g.row.K.Denot × Unit {0}) → List Quad = map (λ e. g.K.Keyed.quad e.0) in
    let rest : List Quad = quads (pairs_left c.next.new.self) in
    let front : quads (pairs_left c.loop-pair.pair-iterator) ≡ c.row-row.result.now ∷ rest = ap quads c.in-Some.ensures.steps ∙ ap (λ q. q ∷ rest) (sym c.row-row.ensures) in
    found_more c.args.question.now (quads (pairs_left c.loop-pair.pair-iterator)) rest c.row-row.result.now front (search rules)
    c.loop-pair.found.items c.push.new.self.items _ c.loop-pair.invariant (search rules)
