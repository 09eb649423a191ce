use Rattle.std.proofs.Common.{sym, ◌∙◌, ap, not, None}
use Rattle.lf_rdf.specs.Vocabulary.{rdf_rest}
use Rattle.def_datasets.specs.Cells.{is_one_in, has_list_form, object_of, with_predicate}
use Rattle.lf_lists.proofs.Hearings.{heard, learnt, moved, followed}
use Rattle.lf_lists.proofs.Shapes.{flipped, flipped_back, rest_of_named, rest_of_used, rest_of_formless, rest_of_shaped}
use Rattle.lf_lists.specs.Walking.{shaped_rest}
use Rattle.lf_lists.proofs.shape.blank_rest.Goals as goal

pub returns-then-named-clause-rest : goal.returns-then-named-clause-rest
returns-then-named-clause-rest g c =
    learnt (heard c.in_ok-named.ensures.names) (λ other. shaped_rest other c.args.graph.now c.args.node.now) None
    (λ other e. rest_of_named other c.args.graph.now c.args.node.now (sym c.if-named.true ∙ e))

pub returns-then-lacks_form-clause-rest : goal.returns-then-lacks_form-clause-rest
returns-then-lacks_form-clause-rest g c =
    learnt
    (followed (heard c.in_ok-named.ensures.names) (moved c.in_ok-named.ensures.quads_stay (heard c.in_ok-told.ensures.quads)))
    (λ other. shaped_rest other c.args.graph.now c.args.node.now) None
    (λ other e. rest_of_formless other c.args.graph.now c.args.node.now c.in_ok-told.told e.1
    (flipped (sym c.if-lacks_form.true ∙ (c.lacks_form.ensures ∙ ap (λ q. not (has_list_form q)) c.as_slice.ensures))))

pub returns-then-is_misused-clause-rest : goal.returns-then-is_misused-clause-rest
returns-then-is_misused-clause-rest g c =
    learnt
    (followed (followed (heard c.in_ok-named.ensures.names) (moved c.in_ok-named.ensures.quads_stay (heard c.in_ok-told.ensures.quads)))
    (moved (c.in_ok-told.ensures.quads_stay ∙ c.in_ok-named.ensures.quads_stay) (heard c.in_ok-uses.ensures.quads)))
    (λ other. shaped_rest other c.args.graph.now c.args.node.now) None
    (λ other e. rest_of_used other c.args.graph.now c.args.node.now c.in_ok-uses.uses e.1
    (flipped (sym c.if-is_misused.true ∙ (c.is_misused.ensures ∙ ap (λ q. not (is_one_in c.args.graph.now q)) c.as_slice-2.ensures))))

pub returns-clause-rest : goal.returns-clause-rest
returns-clause-rest g c =
    learnt
    (followed (followed (heard c.in_ok-named.ensures.names) (moved c.in_ok-named.ensures.quads_stay (heard c.in_ok-told.ensures.quads)))
    (moved (c.in_ok-told.ensures.quads_stay ∙ c.in_ok-named.ensures.quads_stay) (heard c.in_ok-uses.ensures.quads)))
    (λ other. shaped_rest other c.args.graph.now c.args.node.now) c.in_ok-rest.rest
    (λ other e.
    (c.in_ok-rest.ensures ∙ ap (λ q. object_of (with_predicate rdf_rest q)) c.as_slice-3.ensures)
    ∙ rest_of_shaped other c.args.graph.now c.args.node.now c.in_ok-uses.uses c.in_ok-told.told c.requires.blank (sym c.if-named.false ∙ e.0.0) e.1
    (flipped_back (sym c.if-is_misused.false ∙ (c.is_misused.ensures ∙ ap (λ q. not (is_one_in c.args.graph.now q)) c.as_slice-2.ensures))) e.0.1
    (flipped_back (sym c.if-lacks_form.false ∙ (c.lacks_form.ensures ∙ ap (λ q. not (has_list_form q)) c.as_slice.ensures))))
