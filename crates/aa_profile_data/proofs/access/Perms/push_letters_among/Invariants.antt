use Rattle.std.proofs.Common.{◌≡◌, ◌++◌, flat_map, length}
use Rattle.aa_profile_data.specs.Access.{letter_in}
use Rattle.aa_profile_data.proofs.access.Perms.push_letters_among.Given as goal

abbrev pub invariant-loop-rest : goal.invariant-loop-rest
invariant-loop-rest l = l.text.items ++ flat_map (letter_in l.self.0) l.rest ≡ l.initial.text.items ++ flat_map (letter_in l.self.0) l.letters

abbrev pub decreases-loop-rest : goal.decreases-loop-rest
decreases-loop-rest l = length l.rest
