-- Which place follows a place by a number, and how that changes as places are added.
use Rattle.std.specs.Prelude.{◌≡◌, ◌<◌, ℕ, ◌==◌, ◌&&◌, ◌+◌, ◌*◌, ◌^◌, Bool, false, Option, None, Some, if◌then◌else◌, List, length, nat_eq, nat_lt, slice_get}
use Rattle.std.specs.Map.{lookup}

-- A tree as contracts see it: for each place the number by which the place with the next number follows it, or that none does; and the other places
-- by the place that they follow and their number.
abbrev pub Ways : Type 0
Ways = List ℕ × List (ℕ × ℕ)

-- the number by which no place follows
abbrev pub nowhere : ℕ
nowhere = 4294967295

-- what is noted for a place whose followers are all among the others: numbers from this one on aren't noted for a place
abbrev pub others_alone : ℕ
others_alone = 65534

-- what is noted for a place that no place follows
abbrev pub nothing : ℕ
nothing = 65535

-- how many places there are
abbrev pub places : Ways → ℕ
places ways = length ways.0

-- a place and a number as one
abbrev pub key : ℕ → ℕ → ℕ
key place number = place * 2 ^ 32 + number

-- what is noted is this number, and neither of those two
abbrev pub is_number : ℕ → Option ℕ → Bool
is_number number None = false
is_number number (Some own) = own == number && nat_lt number others_alone

-- the place that follows a place by a number
abbrev pub next : Ways → ℕ → ℕ → Option ℕ
next ways place number = if is_number number (slice_get ways.0 place) then Some (place + 1) else lookup (nat_eq (key place number)) ways.1

-- no place follows any
abbrev pub HasNoWay : Ways → Type 0
HasNoWay ways = (place number : ℕ) → number < nowhere → next ways place number ≡ None

-- the same places follow as before, and one more follows a place by a number
abbrev pub HasOneMore : Ways → ℕ → ℕ → Ways → Type 0
HasOneMore old place number new =
    (p n : ℕ) → n < nowhere → next new p n ≡ (if p == place && n == number then Some (places old) else next old p n)
