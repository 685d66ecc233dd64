use Rattle.std.proofs.Common.{◌≡◌, ◌++◌, drop}
use Rattle.aatry_shared.specs.SharedLines.{shared_lines}
use Rattle.aatry_shared.proofs.shared_lines.push_shared.Given as goal

-- the text so far, with what is told of the changes that are left, is all; and places are found in the same files
abbrev pub invariant-loop-place : goal.invariant-loop-place
invariant-loop-place l =
    let text = shared_lines l.teller.form l.initial.finders.of_old l.initial.finders.of_new in
    record {
      told : l.out.items ++ text (drop l.place l.sharing) ≡ l.initial.out.items ++ text l.sharing;
      same : l.finders ≡ l.initial.finders;
    }
