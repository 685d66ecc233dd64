use Rattle.std.proofs.Common.{◌≡◌, [], take}
use Rattle.std.specs.Prelude.{flat_map}
use Rattle.aatry_abstractions.specs.Probes.{probe_of, with_files}
use Rattle.aatry_abstractions.proofs.probes.probed.Given as goal

-- the probes of the files so far stand behind the files
abbrev pub invariant-loop-place : goal.invariant-loop-place
invariant-loop-place l = l.made ≡ with_files (with_files [] l.files) (flat_map (probe_of l.files) (take l.place l.files))
