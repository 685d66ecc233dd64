use Rattle.std.proofs.Common.{◌≡◌, ◌≤◌, ◌+◌, drop}
use Rattle.aatry_session_told.specs.Differing.{file_count}
use Rattle.aatry_session_told.proofs.differing.file_count.Given as goal

-- those so far, with those that are left, are all
abbrev pub invariant-loop-place : goal.invariant-loop-place
invariant-loop-place l = record {
  counted : l.count + file_count (drop l.place l.files) ≡ file_count l.files;
  few : l.count ≤ l.place;
}
