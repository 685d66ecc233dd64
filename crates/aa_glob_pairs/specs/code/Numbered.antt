-- The classes below a state, stored as one number.
use Rattle.std.specs.Prelude.{ℕ, ◌+◌, ◌-◌, ◌==◌, if◌then◌else◌, nat_lt}
use Rattle.aa_glob_pairs.specs.declared.below.Below.{Below}
use Rattle.aa_glob_pairs.specs.declared.below.Below.TheVariants.{Nothing, One, Several}

-- the classes below a state, by their number
abbrev pub below_of : ℕ → Below
below_of number = if number == 0 then Nothing else if number == 1 then Several else One (number - 2)

-- so many classes have a number of their own
abbrev pub numbered_classes : ℕ
numbered_classes = 4294967294

-- the number of the classes below a state: a class with no number of its own is stored as several
abbrev pub number_of : Below → ℕ
number_of Nothing = 0
number_of (One class) = if nat_lt class numbered_classes then class + 2 else 1
number_of Several = 1

-- the classes below a state, as far as their number says
abbrev pub as_kept : Below → Below
as_kept below = below_of (number_of below)
