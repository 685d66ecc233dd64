use Rattle.std.proofs.Common.{◌+◌, ◌≤◌, drop, false}
use Rattle.aa_set_manager.specs.Manager.{new_manager_in}
use Rattle.aatry_test.specs.Running.{AreAsserted, Asserted, and_asserted, seen_asserted}
use Rattle.aatry_transcripts.specs.Transcripts.{texts}
use Rattle.aatry_test.proofs.running.assert_each.Given as goal

-- whatever the lines that are left come to, all come to, behind what was so far
abbrev pub invariant-loop-at : goal.invariant-loop-at
invariant-loop-at l = record {
  told : (rest : Asserted)
      → AreAsserted l.run.language l.run.files.now l.run.path.now (l.at + 1) l.manager (texts (drop l.at l.lines)) rest
      → AreAsserted l.run.language l.run.files.now l.run.path.now 1 (new_manager_in l.run.language false) (texts l.lines) (and_asserted (seen_asserted l.all) rest);
  few : l.all.failing ≤ l.at;
}
