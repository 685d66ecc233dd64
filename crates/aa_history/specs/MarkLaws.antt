-- Laws on the marks of every machine.
use Rattle.std.specs.Prelude.{◌≡◌, ◌≢◌, ℕ, ◌≤◌, true, if◌then◌else◌, Some, List, [], ◌∷◌, length}
use Rattle.aa_history.specs.Machine.{Machine, MarksItsSets, accepted, all_sets, can_go_back, can_go_on, gone_back, gone_on, gone_to_mark}
use Rattle.aa_history.specs.Machine.{is_marked, mapped, marked, started, with_mark}

-- a new mark is of the set now
abbrev pub NewMarkIsOfNow : (S : Type 0) → Type 0
NewMarkIsOfNow S =
    (name : List ℕ) (machine : Machine S)
    → marked name (with_mark name machine) ≡ Some (length machine.earlier)

-- a new mark leaves the marks of all other names
abbrev pub NewMarkLeavesOthers : (S : Type 0) → Type 0
NewMarkLeavesOthers S =
    (name other : List ℕ) (machine : Machine S)
    → other ≢ name
    → marked other (with_mark name machine) ≡ marked other machine

-- two names of one set lead to one machine
abbrev pub SameMarksLeadToOne : (S : Type 0) → Type 0
SameMarksLeadToOne S =
    (name other : List ℕ) (machine : Machine S)
    → marked name machine ≡ marked other machine
    → gone_to_mark name machine ≡ gone_to_mark other machine

-- what can happen to a machine: an accepted change to a set, so many changes undone, or redone, where so many can be, a mark, or going to one
pub data Step (S : Type 0) : Type 0 where
  Accept : (set : S) → Step S
  Undo : (n : ℕ) → Step S
  Redo : (n : ℕ) → Step S
  Mark : (name : List ℕ) → Step S
  Return : (name : List ℕ) → Step S

-- a machine after a step
abbrev pub stepped : {S : Type 0} → Machine S → Step S → Machine S
stepped machine (Accept set) = accepted machine set
stepped machine (Undo n) = if can_go_back n machine then gone_back n machine else machine
stepped machine (Redo n) = if can_go_on n machine then gone_on n machine else machine
stepped machine (Mark name) = with_mark name machine
stepped machine (Return name) = gone_to_mark name machine

-- a machine after each of some steps, in order
abbrev pub run : {S : Type 0} → Machine S → List (Step S) → Machine S
run machine [] = machine
run machine (step ∷ steps) = run (stepped machine step) steps

-- a step neither is a change accepted with fewer earlier sets than so many, nor marks another set by the name
abbrev pub Spares : {S : Type 0} → List ℕ → ℕ → Machine S → Step S → Type 0
Spares name number machine (Accept set) = number ≤ length machine.earlier
Spares name number machine (Undo n) = Unit {0}
Spares name number machine (Redo n) = Unit {0}
Spares name number machine (Mark other) = other ≢ name
Spares name number machine (Return other) = Unit {0}

-- each of some steps does neither
abbrev pub SparesThroughout : {S : Type 0} → List ℕ → ℕ → Machine S → List (Step S) → Type 0
SparesThroughout name number machine [] = Unit {0}
SparesThroughout name number machine (step ∷ steps) = Spares name number machine step × SparesThroughout name number (stepped machine step) steps

-- Each mark of a machine that made no change yet is of a set that it has, and each step keeps that: so a marked set can always be gone to.
abbrev pub StartedMarksItsSets : (S : Type 0) → Type 0
StartedMarksItsSets S = (set : S) → MarksItsSets (started set)

abbrev pub StepsMarkTheirSets : (S : Type 0) → Type 0
StepsMarkTheirSets S =
    (machine : Machine S) (steps : List (Step S))
    → MarksItsSets machine
    → MarksItsSets (run machine steps)

-- Going to a mark keeps every set and their order, so that all that could be undone or redone still can be, and it keeps every mark.
abbrev pub MarkKeepsAll : (S : Type 0) → Type 0
MarkKeepsAll S =
    (name : List ℕ) (machine : Machine S)
    → MarksItsSets machine
    → (all_sets (gone_to_mark name machine) ≡ all_sets machine) × ((gone_to_mark name machine).marks ≡ machine.marks)

-- at a mark as many changes can be undone as its number says
abbrev pub MarkIsReached : (S : Type 0) → Type 0
MarkIsReached S =
    (name : List ℕ) (number : ℕ) (machine : Machine S)
    → MarksItsSets machine
    → marked name machine ≡ Some number
    → length (gone_to_mark name machine).earlier ≡ number

-- going to a mark twice is going there once
abbrev pub MarkTwiceIsOnce : (S : Type 0) → Type 0
MarkTwiceIsOnce S =
    (name : List ℕ) (machine : Machine S)
    → MarksItsSets machine
    → gone_to_mark name (gone_to_mark name machine) ≡ gone_to_mark name machine

-- Whatever happens after a set was marked, as long as no change was accepted with fewer earlier sets and the name wasn't given to another set, the
-- name still marks a set, and going there leads to that very set, with the same earlier sets.
abbrev pub MarkLeadsBack : (S : Type 0) → Type 0
MarkLeadsBack S =
    (name : List ℕ) (machine : Machine S) (steps : List (Step S))
    → MarksItsSets machine
    → SparesThroughout name (length machine.earlier) (with_mark name machine) steps
    → let after = run (with_mark name machine) steps in
    (is_marked name after ≡ true) × ((gone_to_mark name after).now ≡ machine.now) × ((gone_to_mark name after).earlier ≡ machine.earlier)

-- a name has the same number in the mapped machine
abbrev pub MarkedIsMapped : (S T : Type 0) → Type 0
MarkedIsMapped S T = (f : S → T) (name : List ℕ) (machine : Machine S) → marked name (mapped f machine) ≡ marked name machine

-- mapping commutes with marking
abbrev pub MarkIsMapped : (S T : Type 0) → Type 0
MarkIsMapped S T = (f : S → T) (name : List ℕ) (machine : Machine S) → mapped f (with_mark name machine) ≡ with_mark name (mapped f machine)

-- mapping commutes with going to a mark
abbrev pub ToMarkIsMapped : (S T : Type 0) → Type 0
ToMarkIsMapped S T = (f : S → T) (name : List ℕ) (machine : Machine S) → mapped f (gone_to_mark name machine) ≡ gone_to_mark name (mapped f machine)
