-- Which states are settled where some patterns are passed over: those after which one of them matches whatever follows.
use Rattle.std.specs.Prelude.{◌≡◌, ◌≢◌, ℕ, true, false, Bool, List}
use Rattle.aa_glob_nfa.specs.Entries.{takes_byte}
use Rattle.aa_glob_nfa.specs.Graphs.{EndsAt, entry_of, Graph, Reaches, Stays}
use Rattle.aa_glob_pairs.specs.Graphs.{class_at}
use Rattle.aa_glob_paths.specs.Reachable.{is_settled}

-- the class of the patterns that are passed over
abbrev pub passed_over_class : ℕ
passed_over_class = 2

-- the text, which is written with its last byte first, leads to an end of the pattern
abbrev pub IsEndedBy : Graph → ℕ → List ℕ → Type 0
IsEndedBy g p past = (r : ℕ) × EndsAt g r p × Reaches g past r

-- the text leads to the end of a pattern that is passed over
abbrev pub IsPassedOver : Graph → List ℕ → List ℕ → Type 0
IsPassedOver g classes past = (p : ℕ) × (class_at classes p ≡ passed_over_class) × IsEndedBy g p past

-- wherever a state is reached, a pattern that is passed over ends
abbrev pub EndsPassedOver : Graph → List ℕ → ℕ → Type 0
EndsPassedOver g classes q = (past : List ℕ) → Reaches g past q → IsPassedOver g classes past

-- the byte zero leads into no state of a graph
abbrev pub TakesNoZero : Graph → Type 0
TakesNoZero g = (r : ℕ) → takes_byte (entry_of g r) 0 ≡ false

-- Once it is reached, a state stays reached whatever follows, and a pattern that is passed over ends there.
pub record Settles (g : Graph) (classes : List ℕ) (q : ℕ) : Type 0 where
  pub stays : (c : ℕ) → c ≢ 0 → Stays g q c
  pub no_zero : TakesNoZero g
  pub ends : EndsPassedOver g classes q

-- the states that are settled are such ones
abbrev pub MarksSettled : Graph → List ℕ → List Bool → Type 0
MarksSettled g classes settled = (q : ℕ) → is_settled settled q ≡ true → Settles g classes q
