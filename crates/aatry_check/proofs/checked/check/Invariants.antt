use Rattle.std.proofs.Common.{◌≡◌, ◌+◌, ◌++◌, ◌≤◌, ℕ, List, drop, map, string_bytes, take}
use Rattle.aatry_folder.specs.Loadings.{seen_top}
use Rattle.aatry_check.specs.Checks.{TellsEach, refused_count}
use Rattle.aatry_check.proofs.checked.check.Given as goal

-- as many of the files so far were refused as are counted, and what stands behind the text tells each of them
abbrev pub invariant-loop-name : goal.invariant-loop-name
invariant-loop-name l = record {
  few : l.refused ≤ l.name-index;
  refused : l.refused + refused_count l.language l.files (map string_bytes (drop l.name-index l.names)) ≡ refused_count l.language l.files (map string_bytes l.names);
  told : (lines : List ℕ) × (l.out.items ≡ l.initial.out.items ++ lines) × TellsEach l.teller.form l.language l.files l.unread l.base (map seen_top l.top) (map string_bytes (take l.name-index l.names)) lines;
}
