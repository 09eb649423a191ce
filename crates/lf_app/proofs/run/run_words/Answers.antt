use Rattle.std.proofs.Common.{◌∙◌, refl, sym, ap, map, string_bytes, None, Some}
use Rattle.lf_app.specs.Words.{frame, check, command_read}
use Rattle.lf_app.specs.Answers.{usage}
use Rattle.lf_app.specs.Counting.{answer_said}
use Rattle.lf_app.proofs.RunProofs.{run_beside, says_run}
use Rattle.lf_app.proofs.run.run_words.Goals as goal

pub returns-in-Some-Frame-clause-run : goal.returns-in-Some-Frame-clause-run
returns-in-Some-Frame-clause-run g c =
    says_run
    (run_beside (map string_bytes c.args.words.now) (g.F.Shelf.files c.args.shelf.now) (g.S.Source.left c.args.input.now) (g.S.Source.faults c.args.input.now)
    (g.K.Sink.held c.args.output.now) (g.K.Sink.faults c.args.output.now) (g.F.Shelf.faults c.args.shelf.now) (g.F.Shelf.refusals c.args.shelf.now)
    c.tell.result (g.K.Sink.held c.tell.new.output) (g.K.Sink.faults c.tell.new.output) (g.F.Shelf.faults c.frame_files.new.shelf) (g.F.Shelf.refusals c.frame_files.new.shelf))
    (Some (frame c.in-Some-Frame.frame.now (map string_bytes c.in-Some-Frame.files.now))) (answer_said c.frame_files.result)
    (sym (ap (λ f. Some (command_read f)) c.in-Some-Frame.field-0-is) ∙ c.in-Some-Frame.ensures)
    refl c.frame_files.ensures.answers c.tell.ensures c.frame_files.ensures.faults c.frame_files.ensures.refusals refl

pub returns-in-Some-Check-clause-run : goal.returns-in-Some-Check-clause-run
returns-in-Some-Check-clause-run g c =
    says_run
    (run_beside (map string_bytes c.args.words.now) (g.F.Shelf.files c.args.shelf.now) (g.S.Source.left c.args.input.now) (g.S.Source.faults c.args.input.now)
    (g.K.Sink.held c.args.output.now) (g.K.Sink.faults c.args.output.now) (g.F.Shelf.faults c.args.shelf.now) (g.F.Shelf.refusals c.args.shelf.now)
    c.tell-in-Some-Check.result (g.K.Sink.held c.tell-in-Some-Check.new.output) (g.K.Sink.faults c.tell-in-Some-Check.new.output) (g.F.Shelf.faults c.check_file.new.shelf) (g.F.Shelf.refusals c.check_file.new.shelf))
    (Some (check c.in-Some-Check.frame.now)) (answer_said c.check_file.result)
    (sym (ap (λ f. Some (command_read f)) c.in-Some-Check.field-0-is) ∙ c.in-Some-Check.ensures)
    refl c.check_file.ensures.answers c.tell-in-Some-Check.ensures c.check_file.ensures.faults c.check_file.ensures.refusals refl

pub returns-in-None-clause-run : goal.returns-in-None-clause-run
returns-in-None-clause-run g c =
    says_run
    (run_beside (map string_bytes c.args.words.now) (g.F.Shelf.files c.args.shelf.now) (g.S.Source.left c.args.input.now) (g.S.Source.faults c.args.input.now)
    (g.K.Sink.held c.args.output.now) (g.K.Sink.faults c.args.output.now) (g.F.Shelf.faults c.args.shelf.now) (g.F.Shelf.refusals c.args.shelf.now)
    c.tell-in-None.result (g.K.Sink.held c.tell-in-None.new.output) (g.K.Sink.faults c.tell-in-None.new.output) (g.F.Shelf.faults c.args.shelf.now) (g.F.Shelf.refusals c.args.shelf.now))
    None usage c.in-None.ensures refl refl c.tell-in-None.ensures refl refl refl
