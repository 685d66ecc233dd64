use Rattle.std.proofs.Common.{◌≡◌, take}
use Rattle.aatry_folder.specs.Asked.{asked_in_files}
use Rattle.aatry_folder.specs.SeenPaths.{lent_paths}
use Rattle.aatry_folder.proofs.asked.asked_in_files.Given as goal

-- what the files so far ask for
abbrev pub invariant-loop-place : goal.invariant-loop-place
invariant-loop-place l = lent_paths l.asked.items ≡ asked_in_files l.front (take l.place l.files)
