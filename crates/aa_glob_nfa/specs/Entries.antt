-- The entry of a state: what it takes to enter it from a state that leads to it, and to stay in it.
use Rattle.std.specs.Prelude.{ℕ, Bool, true, false, ◌==◌, not, Option, None, Some}
use Rattle.aa_bytes.specs.ByteSets.{is_inside}
use Rattle.aa_bytes.specs.ByteMaps.{in_map}
use Rattle.aa_glob_nfa.specs.declared.entry.Entry.{Entry}
use Rattle.aa_glob_nfa.specs.declared.entry.Entry.TheVariants.{Free, Byte, Inside, Class, Star, DoubleStar}

-- the state is entered without a byte
abbrev pub is_free : Entry → Bool
is_free Free = true
is_free (Byte b) = false
is_free Inside = false
is_free (Class map) = false
is_free Star = true
is_free DoubleStar = true

-- the byte leads into the state
abbrev pub takes_byte : Entry → ℕ → Bool
takes_byte Free c = false
takes_byte (Byte b) c = c == b
takes_byte Inside c = is_inside c
takes_byte (Class map) c = in_map map c
takes_byte Star c = false
takes_byte DoubleStar c = false

-- the byte leads into the state, if there is one
abbrev pub takes_if : Option ℕ → Entry → Bool
takes_if None entry = false
takes_if (Some c) entry = takes_byte entry c

-- the byte stays in the state
abbrev pub stays_at : Entry → ℕ → Bool
stays_at Free c = false
stays_at (Byte b) c = false
stays_at Inside c = false
stays_at (Class map) c = false
stays_at Star c = is_inside c
stays_at DoubleStar c = not (c == 0)
