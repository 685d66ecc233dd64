use Rattle.std.proofs.Common.{refl, string_bytes}
use Rattle.aa_start.specs.Gathering.{texts_of}
use Rattle.aatry_arguments.specs.Given.{meant_comparison}
use Rattle.aatry_check.specs.Below.{IsChecked}
use Rattle.aatry_check.specs.Ends.{IsEndOfCheck}
use Rattle.aatry_diff.specs.Below.{IsComparedBelow}
use Rattle.aatry_diff.specs.Ends.{IsEndOfDiff}
use Rattle.aatry_test.specs.Below.{IsTestedAndReplaced}
use Rattle.aatry_test.specs.Ends.{IsEndOfTest}
use Rattle.aatry.proofs.ProgramLemmas.{command_done}
use Rattle.aatry.specs.Program.{output_of}
use Rattle.aatry.proofs.program.perform.Goals as goal

pub returns-in-Check : goal.returns-in-Check
returns-in-Check g c =
    let folders = g.F.Folders.told c.args.disk.now.folders in
    let known = g.D.FileSystem.known c.args.disk.now.files in
    let output = output_of (g.W.Sink.written c.args.streams.now.output) (g.W.Sink.written c.show_outcome.new.streams.output) (g.W.Sink.failed c.show_outcome.new.streams.output) in
    let asked = c.in-Check.asked in
    rw c.in-Check.is (
      command_done (IsChecked c.args.call.form c.args.call.language folders known (string_bytes asked.base) (texts_of asked.names)) (IsEndOfCheck folders (string_bytes asked.base)) output
          c.show_outcome.result c.check_folder-outcome.result c.check_folder-outcome.ensures.checked c.check_folder-outcome.ensures.fault c.show_outcome.ensures,
      refl,
    )

pub returns-in-Test : goal.returns-in-Test
returns-in-Test g c =
    let folders = g.F.Folders.told c.args.disk.now.folders in
    let known = g.D.FileSystem.known c.args.disk.now.files in
    let output = output_of (g.W.Sink.written c.args.streams.now.output) (g.W.Sink.written c.show_outcome-in-Test.new.streams.output) (g.W.Sink.failed c.show_outcome-in-Test.new.streams.output) in
    let asked = c.in-Test.asked in
    let before = g.T.FileStore.replaced c.args.disk.now.store in
    let after = g.T.FileStore.replaced c.test_folder-outcome.new.store in
    rw c.in-Test.is (command_done (IsTestedAndReplaced c.args.call.language folders known (string_bytes asked.base) (texts_of asked.paths) asked.accept before after) (IsEndOfTest c.args.call.language folders known (string_bytes asked.base) (texts_of asked.paths) asked.accept before after) output
    c.show_outcome-in-Test.result c.test_folder-outcome.result c.test_folder-outcome.ensures.tested c.test_folder-outcome.ensures.fault c.show_outcome-in-Test.ensures)

pub returns-in-Who : goal.returns-in-Who
returns-in-Who g c = rw c.in-Who.is (c.tell_question.ensures, refl)

pub returns-in-Why : goal.returns-in-Why
returns-in-Why g c = rw c.in-Why.is (c.tell_question-in-Why.ensures, refl)

pub returns-in-Diff : goal.returns-in-Diff
returns-in-Diff g c =
    let folders = g.F.Folders.told c.args.disk.now.folders in
    let known = g.D.FileSystem.known c.args.disk.now.files in
    let output = output_of (g.W.Sink.written c.args.streams.now.output) (g.W.Sink.written c.show_outcome-in-Diff.new.streams.output) (g.W.Sink.failed c.show_outcome-in-Diff.new.streams.output) in
    let asked = c.in-Diff.asked in
    rw c.in-Diff.is (
      command_done (IsComparedBelow c.args.call.form c.args.call.verbose c.args.call.language folders known (meant_comparison asked)) (IsEndOfDiff folders known (meant_comparison asked)) output
          c.show_outcome-in-Diff.result c.diff_folders-outcome.result c.diff_folders-outcome.ensures.told c.diff_folders-outcome.ensures.fault c.show_outcome-in-Diff.ensures,
      refl,
    )

pub returns-in-Session : goal.returns-in-Session
returns-in-Session g c = rw c.in-Session.is (c.have_session.ensures, refl)

pub returns-in-Paths : goal.returns-in-Paths
returns-in-Paths g c = rw c.in-Paths.is (c.tell_paths.ensures, refl)

pub returns-in-DiffAll : goal.returns-in-DiffAll
returns-in-DiffAll g c = rw c.in-DiffAll.is (c.compare_paths.ensures, refl)

pub returns-in-CheckRules : goal.returns-in-CheckRules
returns-in-CheckRules g c = rw c.in-CheckRules.is (c.check_rules.ensures, refl)

pub returns-in-Reach : goal.returns-in-Reach
returns-in-Reach g c = rw c.in-Reach.is (c.tell_reach.ensures, refl)
