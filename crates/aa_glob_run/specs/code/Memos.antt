-- What is remembered of runs: states that are live together at a place, and which follow by a byte.
use Rattle.std.specs.Prelude.{◌≡◌, ℕ, suc, ◌+◌, ◌*◌, ◌/◌, ◌<◌, List, [], length, map, replicate, reverse, set, take, All, slice_index_or}
use Rattle.aa_glob_nfa.specs.Graphs.{Graph}
use Rattle.aa_glob_nfa.specs.Fronts.{IsLive}
use Rattle.aa_glob_nfa.specs.Runs.{HasRun, IsWhole, LeadsTo}
use Rattle.aa_glob_run.specs.declared.memo.Memo.{Memo}

-- how many lists are remembered at most
abbrev pub most_fronts : ℕ
most_fronts = 8192

-- how many moves of a text are found at most, each time it is remembered: 32, and more for a long one
abbrev pub most_new : List ℕ → ℕ
most_new text = 32 + length text / 128

-- the list of a number
abbrev pub front_of : List (List ℕ) → ℕ → List ℕ
front_of fronts n = slice_index_or fronts n []

-- the place in the rows of moves where it is noted which list follows by a byte: each list has a row, and each byte a place in it
abbrev pub place_of : ℕ → ℕ → ℕ
place_of from byte = from * 256 + byte

-- a row in which no move is known
abbrev pub unknown_row : List ℕ
unknown_row = replicate 256 0

-- it is known that a list leads to another by a byte: the place has the other's number plus one, and 0 where none is known
abbrev pub Notes : List ℕ → ℕ → ℕ → ℕ → Type 0
Notes moves from byte to = slice_index_or moves (place_of from byte) 0 ≡ suc to

-- rows in which it is noted that a list leads to another by a byte
abbrev pub with_move : List ℕ → ℕ → ℕ → ℕ → List ℕ
with_move moves from byte to = set moves (place_of from byte) (suc to)

-- a move leads to a list that is there, and that is right
abbrev pub IsRight : Graph → List (List ℕ) → ℕ → ℕ → ℕ → Type 0
IsRight g fronts from byte to = (to < length fronts) × LeadsTo g (front_of fronts from) byte (front_of fronts to)

-- What is remembered is right. The first list is of the states that are live before a text.
pub record IsMemo (g : Graph) (room : ℕ) (fronts : List (List ℕ)) (moves : List ℕ) : Type 0 where
  pub start : 0 < length fronts → IsWhole g [] (front_of fronts 0)
  pub lists : All (IsLive room) fronts
  pub rows : length moves ≡ length fronts * 256
  pub known : (from byte to : ℕ) → from < length fronts → byte < 256 → Notes moves from byte to → IsRight g fronts from byte to

-- the lists that are remembered
abbrev pub fronts_in : Memo → List (List ℕ)
fronts_in memo = map (λ front. front.items) memo.fronts.items

abbrev pub front_at : Memo → ℕ → List ℕ
front_at memo n = front_of (fronts_in memo) n

-- each list that is remembered has a row of moves
abbrev pub HasRows : Memo → Type 0
HasRows memo = length memo.moves.items ≡ length (fronts_in memo) * 256

-- nothing is remembered
abbrev pub IsEmpty : Memo → Type 0
IsEmpty memo = (fronts_in memo ≡ []) × (memo.moves.items ≡ [])

-- what is remembered is right, for an automaton with this graph and so many states
abbrev pub Remembers : Graph → ℕ → Memo → Type 0
Remembers g room memo = IsMemo g room (fronts_in memo) memo.moves.items

-- A run has come to a place by what is remembered: the list of a number has the states that are live there.
pub record IsRecalling (g : Graph) (text : List ℕ) (place room : ℕ) (memo : Memo) (at old new : ℕ) : Type 0 where
  pub within : at < length (fronts_in memo)
  pub whole : IsWhole g (reverse (take place text)) (front_at memo at)
  pub run : HasRun g text place room (record { states = front_at memo at; room = room }) (record { states = []; room = room }) old new
