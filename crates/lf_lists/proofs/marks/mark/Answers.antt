use Rattle.std.proofs.Common.{sym, ◌∙◌, ap, subst}
use Rattle.lf_rdf.specs.declared.term.Term.{Term}
use Rattle.lf_rdf.specs.declared.term.Term.TheVariants.{Blank}
use Rattle.lf_lists.specs.Marks.{HasMark}
use Rattle.lf_lists.proofs.Marking.{has_mark}
use Rattle.lf_lists.proofs.marks.mark.Goals as goal

pub returns-in_ok-insert-in-Blank : goal.returns-in_ok-insert-in-Blank
returns-in_ok-insert-in-Blank c =
    record {
      marked =
          subst (λ (t : Term). HasMark c.args.marks.now.keys c.insert.new.self.keys t) (ap Blank c.in_ok-copy-in-Blank.ensures ∙ sym c.in-Blank.is)
          (has_mark c.args.marks.now.keys c.insert.new.self.keys c.in_ok-copy-in-Blank.field-0 c.in_ok-insert-in-Blank.field-0
          c.in_ok-insert-in-Blank.ensures.keys c.in_ok-insert-in-Blank.ensures.added c.in_ok-insert-in-Blank.ensures.len
          c.in_ok-insert-in-Blank.ensures.ordered);
    }
