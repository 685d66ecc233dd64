use Rattle.std.proofs.Common.{◌≡◌, ◌<◌, drop}
use Rattle.aa_profile_data.specs.Access.{letters_onto}
use Rattle.aa_profile_data.proofs.access.Perms.of_letters.Given as goal

-- the letters so far and the others give what all do
abbrev pub invariant-loop-letter : goal.invariant-loop-letter
invariant-loop-letter l = record {
  needs : letters_onto l.set.0 (drop l.letter-index l.letters) ≡ letters_onto 0 l.letters;
  known : l.set.0 < 64;
}
