use Rattle.std.proofs.Common.{◌≡◌, ◌<◌, drop}
use Rattle.aatry_words.specs.Masks.{needs_onto}
use Rattle.aatry_words.proofs.masks.needs_of_mask.Given as goal

-- the letters so far and the others give what all do
abbrev pub invariant-loop-letter : goal.invariant-loop-letter
invariant-loop-letter l = record {
  needs : needs_onto l.set.0 (drop l.letter-index l.mask) ≡ needs_onto 0 l.mask;
  known : l.set.0 < 64;
}
