-- How far a run over a text has come: which states are known to be live after what was read. A text is written with its last byte first.
use Rattle.std.specs.Prelude.{◌≡◌, ◌⊎◌, ℕ, ◌*◌, ◌<◌, ◌≤◌, Bool, true, List, [], ◌∷◌, length, reverse, take, Contains, All, Option, Some}
use Rattle.aa_glob_nfa.specs.Entries.{takes_if}
use Rattle.aa_glob_nfa.specs.Graphs.{Graph, entry_of, Leads, Stays, Reaches}
use Rattle.aa_glob_nfa.specs.declared.entry.Entry.{Entry}
use Rattle.aa_glob_nfa.specs.Fronts.{AreDistinct, Live}
use Rattle.aa_glob_nfa.specs.Steps.{counted}
use Rattle.aa_glob_nfa.specs.Visits.{CountsVisits}

-- the list has only states that a text reaches
abbrev pub AreReached : Graph → List ℕ → List ℕ → Type 0
AreReached g past live = All (Reaches g past) live

-- the list has each state that a text reaches
abbrev pub HasReached : Graph → List ℕ → List ℕ → Type 0
HasReached g past live = (r : ℕ) → Reaches g past r → Contains live r

-- a state is entered from the state q, if its entry passes a test
abbrev pub IsEntered : Graph → (Entry → Bool) → ℕ → ℕ → Type 0
IsEntered g test q r = Leads g q r × (test (entry_of g r) ≡ true)

-- a state is q, and the byte stays in it
abbrev pub StaysAt : Graph → ℕ → ℕ → ℕ → Type 0
StaysAt g c q r = (r ≡ q) × Stays g q c

-- a state follows from the state q by the byte: it is entered from there, or it is q and the byte stays in it
abbrev pub Follows : Graph → ℕ → ℕ → ℕ → Type 0
Follows g c q r = IsEntered g (takes_if (Some c)) q r ⊎ StaysAt g c q r

-- the list has what the last byte of a text leads into: for the empty text that is state 0
abbrev pub HasBrought : Graph → List ℕ → List ℕ → Type 0
HasBrought g [] live = Contains live 0
HasBrought g (c ∷ past) live = (q r : ℕ) → Reaches g past q → Follows g c q r → Contains live r

-- a list has the states into which a text's last byte leads, and otherwise only states that the text reaches
pub record IsBegun (g : Graph) (past live : List ℕ) : Type 0 where
  pub reached : AreReached g past live
  pub brought : HasBrought g past live

-- a list has exactly the states that a text reaches
pub record IsWhole (g : Graph) (past live : List ℕ) : Type 0 where
  pub reached : AreReached g past live
  pub each : HasReached g past live

-- any text that reaches the states of one list reaches those of another when it is continued by a byte
abbrev pub LeadsTo : Graph → List ℕ → ℕ → List ℕ → Type 0
LeadsTo g from c to = (past : List ℕ) → IsWhole g past from → IsWhole g (c ∷ past) to

-- all states that live at a place were visited
pub record IsPassed (g : Graph) (byte : Option ℕ) (old here next : Live) : Type 0 where
  pub room : here.room ≡ old.room
  pub next_room : next.room ≡ old.room
  pub longer : length old.states ≤ length here.states
  pub fits : length here.states ≤ here.room
  pub distinct : AreDistinct here.states
  pub whole : (past : List ℕ) → IsBegun g past old.states → IsWhole g past here.states
  pub begun : (past : List ℕ) (c : ℕ) → byte ≡ Some c → IsBegun g past old.states → IsBegun g (c ∷ past) next.states

-- How far a run has come: it is after a text, and made no more visits than there are states, at each of the places that it passed.
pub record IsRunning (g : Graph) (past : List ℕ) (room places : ℕ) (here next : Live) (old new : ℕ) : Type 0 where
  pub begun : IsBegun g past here.states
  pub room_here : here.room ≡ room
  pub empty : next ≡ record { states = []; room = room }
  pub visits : ℕ
  pub some : visits ≡ 0 → 0 < length here.states
  pub few : visits ≤ places * room
  pub steps : new ≡ counted old visits

-- a run has come to a place of a text: it is after the bytes before that, and the visits at each place before it were added to a count
pub record HasRun (g : Graph) (text : List ℕ) (place room : ℕ) (here next : Live) (old new : ℕ) : Type 0 where
  pub running : IsRunning g (reverse (take place text)) room place here next old new
  pub counts : CountsVisits (Reaches g) text place old new
