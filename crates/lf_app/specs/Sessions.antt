-- A run of the word `session`: one stream, served from the empty history on by a seat that is
-- alone.
use Rattle.std.specs.Prelude.{◌≡◌, List, [], ℕ, Bool, true, false, Option, Some, None}
use Rattle.def_histories.specs.declared.operation.Operation.{Operation}
use Rattle.lf_session.specs.declared.ended.Ended.{Ended}
use Rattle.lf_session.specs.declared.ended.Ended.TheVariants as ended
use Rattle.lf_session.specs.Boards.{Boards, no_boards}
use Rattle.lf_session.specs.Session.{reads_failed, writes_failed}
use Rattle.lf_session.specs.Served.{Told, IsServed}
use Rattle.lf_session.specs.Headline.{IsHeadline, answered}
use Rattle.lf_session.specs.LoneTurns.{AreLoneTurns}
use Rattle.lf_app.specs.Words.{Command, frame, check, session, command_of}
use Rattle.lf_app.specs.Holding.{session_seat}
use Rattle.lf_app.specs.Answers.{Answer}
use Rattle.lf_app.specs.Runs.{Run, Says}

-- What was read and sent is a session, and its caller can trust the documents, each of one version
-- that was committed and no older than any that it had seen. Its turns publish the frame that is
-- next, and are answered that none waits where none does.
pub record RunsSession (told : Told) (end : Ended) : Type 0 where
  pub after : List Operation
  pub boards : Boards
  pub served : IsServed true no_boards boards session_seat [] after told end
  pub headline : IsHeadline session_seat [] after (answered served.xs served.last)
  pub turns : AreLoneTurns [] (answered served.xs served.last)

-- the status for each end of the stream
abbrev pub status_of : Ended → ℕ
status_of ended.Clean = 0
status_of ended.Asked = 0
status_of (ended.Bad status) = 11
status_of ended.CutShort = 10
status_of ended.ReadFault = 3
status_of ended.WriteFault = 4
status_of ended.Memory = 9

-- what the input and the output of a run told
abbrev pub streams_of : Run → Told
streams_of run =
    record {
      left_before = run.left_before;
      left_after = run.left_after;
      held_before = run.held_before;
      held_after = run.held_after;
    }

-- The run served a stream, which ended so. No file was taken.
pub record Serves (run : Run) (end : Ended) : Type 0 where
  pub session : RunsSession (streams_of run) end
  pub status : run.status ≡ status_of end
  pub reads : run.reads_after ≡ reads_failed run.reads_before end
  pub writes : run.writes_after ≡ writes_failed run.writes_before end
  pub takes : run.takes_after ≡ run.takes_before
  pub there : run.there_after ≡ run.there_before

-- the words are those of `session`
abbrev pub is_session : Option Command → Bool
is_session (Some session) = true
is_session (Some (frame file data_files)) = false
is_session (Some (check file)) = false
is_session None = false

-- What a run does: it serves a stream, or says one thing.
abbrev pub RunsAs : Bool → Run → Type 0
RunsAs true run = (end : Ended) × Serves run end
RunsAs false run = (answer : Answer) × Says run answer

abbrev pub IsRun : Run → Type 0
IsRun run = RunsAs (is_session (command_of run.words)) run
