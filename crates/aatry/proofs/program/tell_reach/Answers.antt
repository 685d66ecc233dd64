use Rattle.aatry_arguments.specs.Given.{meant_reach}
use Rattle.aatry.proofs.ProgramLemmas.{paths_done}
use Rattle.aatry.specs.Program.{output_of}
use Rattle.aatry_reach.specs.Reach.{IsEndOfReach, IsReachTold}
use Rattle.aatry.proofs.program.tell_reach.Goals as goal

pub returns : goal.returns
returns g c =
    let folders = g.F.Folders.told c.args.folders.now in
    let known = g.D.FileSystem.known c.args.disk.now in
    let output = output_of (g.W.Sink.written c.args.streams.now.output) (g.W.Sink.written c.show_found.new.streams.output) (g.W.Sink.failed c.show_found.new.streams.output) in
    let asked = meant_reach c.args.asked in
    paths_done (IsReachTold c.args.teller.form c.args.teller.verbose c.args.language folders known asked) (IsEndOfReach folders asked) output
    c.show_found.result c.reach_folder-outcome.result c.reach_folder-outcome.ensures.told c.reach_folder-outcome.ensures.fault c.show_found.ensures
