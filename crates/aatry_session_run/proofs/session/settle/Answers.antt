use Rattle.std.proofs.Common.{sym}
use Rattle.aatry_folder.specs.Loadings.{seen_top}
use Rattle.aatry_session.specs.SeenTurns.{seen_turn}
use Rattle.aatry_session_run.specs.Session.{is_taken}
use Rattle.aatry_session_run.proofs.SessionLemmas.{none_settled}
use Rattle.aatry_session_run.proofs.session.settle.Goals as goal

pub returns-in-ByFlags : goal.returns-in-ByFlags
returns-in-ByFlags c =
    sym (none_settled c.args.language c.args.files.now (seen_top c.args.file.now) (is_taken (seen_turn c.args.turn.now)) c.args.session.now c.in-ByFlags.is)
