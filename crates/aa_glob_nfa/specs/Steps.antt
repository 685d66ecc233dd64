-- How much work a run was. A step is the visit of one state at one place of a text.
use Rattle.std.specs.Prelude.{◌≡◌, ℕ, zero, suc, ◌+◌, ◌-◌, ◌*◌, ◌^◌, ◌≤◌, List, length, min}

-- the greatest count
abbrev pub most_steps : ℕ
most_steps = 2 ^ 128 - 1

-- a count to which steps are added, which saturates
abbrev pub counted : ℕ → ℕ → ℕ
counted old zero = old
counted old (suc steps) = min (old + suc steps) most_steps

-- at least so many and at most so many steps were added to a count
abbrev pub IsCounted : ℕ → ℕ → ℕ → ℕ → Type 0
IsCounted least most old new = (steps : ℕ) × (least ≤ steps) × (steps ≤ most) × (new ≡ counted old steps)

-- how many visits a text takes at most where there are so many states: each may be visited once before each byte, and once at the end
abbrev pub most_visits : List ℕ → ℕ → ℕ
most_visits text states = (length text + 1) * states
