use Rattle.aatry_arguments.specs.Given.{meant_path_comparison}
use Rattle.aatry_diff_paths.specs.Below.{ArePathsCompared, IsEndOfPathComparison}
use Rattle.aatry.proofs.ProgramLemmas.{paths_done}
use Rattle.aatry.specs.Program.{output_of}
use Rattle.aatry.proofs.program.compare_paths.Goals as goal

pub returns : goal.returns
returns g c =
    let folders = g.F.Folders.told c.args.folders.now in
    let known = g.D.FileSystem.known c.args.disk.now in
    let output = output_of (g.W.Sink.written c.args.streams.now.output) (g.W.Sink.written c.show_found.new.streams.output) (g.W.Sink.failed c.show_found.new.streams.output) in
    let asked = meant_path_comparison c.args.asked in
    paths_done (ArePathsCompared c.args.teller.form c.args.teller.verbose c.args.language folders known asked) (IsEndOfPathComparison folders asked) output
    c.show_found.result c.diff_paths_folders-outcome.result c.diff_paths_folders-outcome.ensures.told c.diff_paths_folders-outcome.ensures.fault c.show_found.ensures
