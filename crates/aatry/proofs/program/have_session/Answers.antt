use Rattle.std.proofs.Common.{string_bytes}
use Rattle.aatry_session_run.specs.Broken.{IsBrokenSession}
use Rattle.aatry_session_run.specs.Session.{IsSession}
use Rattle.aatry.proofs.ProgramLemmas.{session_done}
use Rattle.aatry.proofs.program.have_session.Goals as goal

pub returns : goal.returns
returns g c =
    let folders = g.F.Folders.told c.args.folders.now in
    let known = g.D.FileSystem.known c.args.disk.now in
    let base = string_bytes c.args.asked.base in
    let left = g.S.Source.left c.args.streams.now.input in
    let before = g.W.Sink.written c.args.streams.now.output in
    let after = g.W.Sink.written c.session_folder-outcome.new.writer in
    session_done (IsSession c.args.language folders known base c.args.prompt.now left before after)
    (IsBrokenSession c.args.language folders known base c.args.prompt.now left before after)
    c.session_status.result c.session_folder-outcome.result c.session_folder-outcome.ensures.had c.session_folder-outcome.ensures.broken c.session_status.ensures
