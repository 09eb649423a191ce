-- A run, from what its command came to.
use Rattle.std.proofs.Common.{◌≡◌, ℕ, Bool, true, false, List, Option, sym, ap, subst, ◌∙◌}
use Rattle.lf_io.specs.Files.{Files}
use Rattle.lf_session.specs.declared.ended.Ended.{Ended}
use Rattle.lf_app.specs.Words.{Command, command_of}
use Rattle.lf_app.specs.Answers.{Answer, AnswersTo}
use Rattle.lf_app.specs.Counting.{faults_after, refusals_after}
use Rattle.lf_app.specs.Runs.{Run, IsPrinted, Says}
use Rattle.lf_app.specs.Sessions.{Serves, is_session, RunsAs, IsRun}

-- a run that takes nothing of its input, by what it was given and by what it left
abbrev pub run_beside : (words : List (List ℕ)) (files : Option Files) (left : Option (List ℕ)) (reads : ℕ) (held : Option (List ℕ)) (writes takes there : ℕ)
    (status : ℕ) (held_after : Option (List ℕ)) (writes_after takes_after there_after : ℕ) → Run
run_beside words files left reads held writes takes there status held_after writes_after takes_after there_after =
    record {
      words = words;
      files = files;
      status = status;
      left_before = left;
      left_after = left;
      held_before = held;
      held_after = held_after;
      reads_before = reads;
      reads_after = reads;
      writes_before = writes;
      writes_after = writes_after;
      takes_before = takes;
      takes_after = takes_after;
      there_before = there;
      there_after = there_after;
    }

pub says_run : (run : Run) (command : Option Command) (answer : Answer) → command ≡ command_of run.words → is_session command ≡ false
    → AnswersTo run.files command answer
    → IsPrinted run.status answer run.held_before run.held_after run.writes_before run.writes_after
    → run.takes_after ≡ faults_after run.takes_before answer
    → run.there_after ≡ refusals_after run.files run.there_before answer
    → run.reads_after ≡ run.reads_before → IsRun run
says_run run command answer named plain answers printed takes there reads =
    let says : Says run answer =
    record {
      comes = subst (λ (c : Option Command). AnswersTo run.files c answer) named answers;
      printed = printed;
      takes = takes;
      there = there;
      reads = reads;
    }
    in subst (λ (b : Bool). RunsAs b run) (sym (ap is_session (sym named) ∙ plain)) (answer, says)

pub serves_run : (run : Run) (command : Option Command) (end : Ended) → command ≡ command_of run.words → is_session command ≡ true
    → Serves run end → IsRun run
serves_run run command end named session serves =
    subst (λ (b : Bool). RunsAs b run) (sym (ap is_session (sym named) ∙ session)) (end, serves)
