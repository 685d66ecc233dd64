use Rattle.std.proofs.Common.{◌≡◌, [], take}
use Rattle.aatry_abstractions.specs.Probes.{with_files}
use Rattle.aatry_abstractions.proofs.probes.copied.Given as goal

-- copies of the files so far
abbrev pub invariant-loop-place : goal.invariant-loop-place
invariant-loop-place l = l.copies ≡ with_files [] (take l.place l.files)
