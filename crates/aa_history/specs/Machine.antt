-- The machine that keeps whole sets, of whatever kind a set is: a policy set, or any state (docs/guarantees.md).
use Rattle.std.specs.Prelude.{ℕ, ◌+◌, ◌-◌, ◌≤◌, Bool, if◌then◌else◌, nat_le, nat_lt, Option, None, Some, is_some}
use Rattle.std.specs.Prelude.{List, [], ◌∷◌, ◌++◌, length, map, take, drop, slice_index_or}
use Rattle.std.specs.List.{AllByRecursion, filter}
use Rattle.std.specs.Map.{lookup}
use Rattle.std.specs.Str.{bytes_eq}

-- The set now, the earlier sets, oldest first, and the undone ones, nearest first: all of them in the order in which they came about. And the marks:
-- for each name how many sets are earlier than the marked one.
pub record Machine (S : Type 0) : Type 0 where
  pub earlier : List S
  pub now : S
  pub later : List S
  pub marks : List (List ℕ × ℕ)

-- every set of a machine, in order
abbrev pub all_sets : {S : Type 0} → Machine S → List S
all_sets machine = machine.earlier ++ machine.now ∷ machine.later

-- a machine that has made no change yet
abbrev pub started : {S : Type 0} → S → Machine S
started set = record { earlier = []; now = set; later = []; marks = [] }

-- the marks of no more than so many earlier sets
abbrev pub up_to : ℕ → List (List ℕ × ℕ) → List (List ℕ × ℕ)
up_to number marks = filter (λ mark. nat_le mark.1 number) marks

-- after an accepted change to a set: the old set can be undone to, nothing can be redone, and the marks of later sets are dropped
abbrev pub accepted : {S : Type 0} → Machine S → S → Machine S
accepted machine set =
    record {
      earlier = machine.earlier ++ machine.now ∷ [];
      now = set;
      later = [];
      marks = up_to (length machine.earlier) machine.marks;
    }

-- the machine with these sets, in order, whose set now is the one at an index, and with these marks; where there is no set at that index, it is the
-- given one
abbrev pub standing_at : {S : Type 0} → ℕ → List S → S → List (List ℕ × ℕ) → Machine S
standing_at place sets given marks =
    record { earlier = take place sets; now = slice_index_or sets place given; later = drop (place + 1) sets; marks = marks }

-- n changes can be undone
abbrev pub can_go_back : {S : Type 0} → ℕ → Machine S → Bool
can_go_back n machine = nat_le n (length machine.earlier)

-- n changes can be redone
abbrev pub can_go_on : {S : Type 0} → ℕ → Machine S → Bool
can_go_on n machine = nat_le n (length machine.later)

-- the machine at an index among all sets, in order: the set there is the set now
abbrev pub gone_to : {S : Type 0} → ℕ → Machine S → Machine S
gone_to place machine = standing_at place (all_sets machine) machine.now machine.marks

-- n changes undone, where so many can be: of the same sets the one n indexes nearer to the first is the set now
abbrev pub gone_back : {S : Type 0} → ℕ → Machine S → Machine S
gone_back n machine = gone_to (length machine.earlier - n) machine

-- n changes redone, where so many can be: of the same sets the one n indexes nearer to the last is the set now
abbrev pub gone_on : {S : Type 0} → ℕ → Machine S → Machine S
gone_on n machine = gone_to (length machine.earlier + n) machine

-- how many sets are earlier than the one marked by a name, if one is
abbrev pub marked : {S : Type 0} → List ℕ → Machine S → Option ℕ
marked name machine = lookup (λ other. bytes_eq other name) machine.marks

-- a set is marked by a name
abbrev pub is_marked : {S : Type 0} → List ℕ → Machine S → Bool
is_marked name machine = is_some (marked name machine)

-- marks with a number for a name: in place of the number that it has there, or else after all marks
abbrev pub with_number : List ℕ → ℕ → List (List ℕ × ℕ) → List (List ℕ × ℕ)
with_number name number [] = (name, number) ∷ []
with_number name number (mark ∷ marks) = if bytes_eq mark.0 name then (name, number) ∷ marks else mark ∷ with_number name number marks

-- the set now is marked by a name, in place of the set that was marked by it
abbrev pub with_mark : {S : Type 0} → List ℕ → Machine S → Machine S
with_mark name machine = record machine { marks = with_number name (length machine.earlier) machine.marks }

-- with so many earlier sets: as many changes undone as there are more now, or as many redone as there are fewer, or none
abbrev pub gone_to_number : {S : Type 0} → ℕ → Machine S → Machine S
gone_to_number number machine =
    if nat_lt number (length machine.earlier)
    then gone_back (length machine.earlier - number) machine
    else if nat_lt (length machine.earlier) number then gone_on (number - length machine.earlier) machine else machine

-- gone to the number, if there is one
abbrev pub gone_where : {S : Type 0} → Option ℕ → Machine S → Machine S
gone_where None machine = machine
gone_where (Some number) machine = gone_to_number number machine

-- gone to the set that is marked by a name, if one is
abbrev pub gone_to_mark : {S : Type 0} → List ℕ → Machine S → Machine S
gone_to_mark name machine = gone_where (marked name machine) machine

-- no mark is of more than so many earlier sets
abbrev pub AreUpTo : ℕ → List (List ℕ × ℕ) → Type 0
AreUpTo number marks = AllByRecursion (λ mark. mark.1 ≤ number) marks

-- each mark is of a set that the machine has
abbrev pub MarksItsSets : {S : Type 0} → Machine S → Type 0
MarksItsSets machine = AreUpTo (length machine.earlier + length machine.later) machine.marks

-- the machine with each set mapped by a function
abbrev pub mapped : {S T : Type 0} → (S → T) → Machine S → Machine T
mapped f machine = record { earlier = map f machine.earlier; now = f machine.now; later = map f machine.later; marks = machine.marks }

-- a machine, and how many parts each change has that leads from one of its sets to the next
pub record Kept (S : Type 0) : Type 0 where
  pub machine : Machine S
  pub sizes : List ℕ

-- a machine that has made no change yet, and so keeps no sizes
abbrev pub begun : {S : Type 0} → S → Kept S
begun set = record { machine = started set; sizes = [] }

-- after an accepted change of so many parts to a set: of the changes kept, those that could be undone stay, followed by the new one
abbrev pub committed : {S : Type 0} → Kept S → S → ℕ → Kept S
committed kept set size = record { machine = accepted kept.machine set; sizes = take (length kept.machine.earlier) kept.sizes ++ size ∷ [] }
