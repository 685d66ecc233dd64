use Rattle.std.proofs.Common.{inr, refl}
use Rattle.aatry_arguments.specs.Given.{meant_paths}
use Rattle.aatry_folder.specs.declared.fault.Fault.TheVariants as fault
use Rattle.aatry.proofs.ProgramLemmas.{memory_ends, paths_done}
use Rattle.aatry.specs.Program.{output_of}
use Rattle.aatry_never_exec.specs.NeverExec.{IsClaimTold, IsEndOfClaim}
use Rattle.aatry.proofs.program.tell_paths.Goals as goal

pub returns-in-Ok : goal.returns-in-Ok
returns-in-Ok g c =
    let folders = g.F.Folders.told c.args.folders.now in
    let known = g.D.FileSystem.known c.args.disk.now in
    let output = output_of (g.W.Sink.written c.args.streams.now.output) (g.W.Sink.written c.show_paths.new.streams.output) (g.W.Sink.failed c.show_paths.new.streams.output) in
    let asked = meant_paths c.args.asked in
    paths_done (IsClaimTold c.args.teller.form c.args.teller.verbose c.args.language folders known asked) (IsEndOfClaim c.args.language folders known asked) output
    c.show_paths.result c.claim_folder.result c.claim_folder.ensures.told c.claim_folder.ensures.fault c.show_paths.ensures

pub returns-in-Err : goal.returns-in-Err
returns-in-Err g c =
    let folders = g.F.Folders.told c.args.folders.now in
    let known = g.D.FileSystem.known c.args.disk.now in
    inr (fault.NoMemory, memory_ends c.args.language folders known (meant_paths c.args.asked), (refl, c.report.ensures))
