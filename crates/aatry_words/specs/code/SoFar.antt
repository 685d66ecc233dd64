-- How far a search for the nearest name has come, in the code.
use Rattle.std.specs.Prelude.{option_map}
use Rattle.aatry_words.specs.Near.{SoFar}
use Rattle.aatry_words.specs.declared.near.SoFar.{SoFar as CodeSoFar}

abbrev pub seen_so_far : CodeSoFar → SoFar
seen_so_far so_far = record { nearest = option_map (λ name. name.now) so_far.nearest; below = so_far.below }
