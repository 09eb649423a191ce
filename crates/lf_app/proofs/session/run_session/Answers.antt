use Rattle.std.proofs.Common.{◌≡◌, rules, refl, ap, List, [], None}
use Rattle.def_histories.specs.declared.operation.Operation.{Operation}
use Rattle.lf_core.specs.Held.{away, away_from}
use Rattle.lf_session.specs.Boards.{boards_of, no_boards}
use Rattle.lf_app.proofs.Sessions.{runs_session}
use Rattle.lf_app.proofs.session.run_session.Goals as goal

pub returns-clause-runs : goal.returns-clause-runs
returns-clause-runs g c =
    let empty : c.new-desk.result.state.history ≡ [] = search rules in
    let home : boards_of (away c.new-desk.result.state) None ≡ no_boards =
    ap (λ (history : List Operation). boards_of (away_from history c.new-desk.result.state.boards) None) empty in
    runs_session c.new-desk.result.seat _ (boards_of (away c.new-desk.result.state) None) _ c.new-desk.result.state.history _ _
    c.serve_stream.result c.new-desk.ensures.seat refl home empty c.serve_stream.ensures.served
