use Rattle.std.proofs.Common.{◌≡◌, false, length, reverse, Some, take}
use Rattle.aa_glob_pattern.specs.Active.{AreActive, AreUnset}
use Rattle.aa_glob_pattern.proofs.matching.matches_in.Given as goal
use Rattle.aa_glob_pattern.specs.Reads.{reads}
use Rattle.aa_glob_pattern.specs.Trails.{trail_of}

-- what is active is so for the bytes so far, and so is what the last pass told
abbrev pub invariant-loop-byte : goal.invariant-loop-byte
invariant-loop-byte l =
    (length l.active ≡ length l.fn.active)
    × AreActive l.text (Some (reverse (take l.byte-index l.path))) l.active
    × (l.passed.whole ≡ reads (trail_of l.text) (reverse (take l.byte-index l.path)))
    × (l.passed.some ≡ false → AreUnset l.text l.active)
