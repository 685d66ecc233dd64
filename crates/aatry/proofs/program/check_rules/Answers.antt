use Rattle.aatry_arguments.specs.Given.{meant_rules}
use Rattle.aatry_check_rules.specs.Below.{AreRulesChecked, IsEndOfRules}
use Rattle.aatry.proofs.ProgramLemmas.{paths_done}
use Rattle.aatry.specs.Program.{output_of, rules_how}
use Rattle.aatry.proofs.program.check_rules.Goals as goal

pub returns : goal.returns
returns g c =
    let folders = g.F.Folders.told c.args.folders.now in
    let known = g.D.FileSystem.known c.args.disk.now in
    let output = output_of (g.W.Sink.written c.args.streams.now.output) (g.W.Sink.written c.show_found.new.streams.output) (g.W.Sink.failed c.show_found.new.streams.output) in
    let asked = meant_rules c.args.asked in
    paths_done (AreRulesChecked c.args.teller.form c.args.teller.verbose c.args.language folders known asked.check (rules_how asked)) (IsEndOfRules folders asked.check) output
    c.show_found.result c.check_rules_folder-outcome.result c.check_rules_folder-outcome.ensures.told c.check_rules_folder-outcome.ensures.fault c.show_found.ensures
