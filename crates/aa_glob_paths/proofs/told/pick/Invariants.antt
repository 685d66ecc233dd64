use Rattle.std.proofs.Common.{◌≡◌, ℕ, true, false, take}
use Rattle.std.specs.Prelude.{Contains}
use Rattle.aa_bytes.specs.ByteMaps.{in_map}
use Rattle.aa_glob_paths.specs.code.Told.{HasStanding}
use Rattle.aa_glob_paths.proofs.told.pick.Given as goal

-- where one of the bytes that aren't told came, the first of them is picked
abbrev pub invariant-loop-byte : goal.invariant-loop-byte
invariant-loop-byte l = record {
  each : (c : ℕ) → Contains (take l.byte-index l.bytes) c → HasStanding l.told l.own.items c;
  only : (b : ℕ) → Contains l.own.items b → Contains l.bytes b;
  other : l.has_untold ≡ true → (b : ℕ) × Contains l.own.items b × (in_map l.told b ≡ false);
}
