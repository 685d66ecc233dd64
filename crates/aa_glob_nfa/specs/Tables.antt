-- The tables of a graph: its states with their flags, and separate tables of the ways, the sets of classes and the ends.
use Rattle.std.specs.Prelude.{◌≡◌, ◌⊎◌, ℕ, suc, ◌+◌, ◌*◌, ◌^◌, ◌<◌, ◌≤◌, Bool, true, false, ◌==◌, ◌&&◌, ◌||◌, if◌then◌else◌, Option, None, Some, List, [], ◌∷◌, ◌++◌, length, map, slice_index_or, All, AllPairs, Contains}
use Rattle.aa_glob_nfa.specs.Graphs.{Graph}
use Rattle.aa_bytes.specs.declared.byte_map.ByteMap.{ByteMap}
use Rattle.aa_glob_nfa.specs.declared.entry.Entry.{Entry}
use Rattle.aa_glob_nfa.specs.declared.entry.Entry.TheVariants.{Free as FreeEntry, Byte as ByteEntry, Inside as InsideEntry, Class as ClassEntry, Star as StarEntry, DoubleStar as DoubleStarEntry}
use Rattle.aa_glob_nfa.specs.declared.state.Gate.{Gate}
use Rattle.aa_glob_nfa.specs.declared.state.Gate.TheVariants.{Free, Byte, Inside, Class, Star, DoubleStar}
use Rattle.aa_glob_nfa.specs.declared.state.Way.{Way}
use Rattle.aa_glob_nfa.specs.declared.state.ClassRow.{ClassRow}
use Rattle.aa_glob_nfa.specs.declared.state.End.{End}

-- A state: its gate, and flags for what more there is of it: a way leads to the next state; there are ways in the table; it's an end.
pub record State : Type 0 where
  pub gate : Gate
  pub leads_on : Bool
  pub leads_away : Bool
  pub ends : Bool

-- the entry that a gate means, with this set if it is a class
abbrev pub entry_behind : Gate → ByteMap → Entry
entry_behind Free set = FreeEntry
entry_behind (Byte b) set = ByteEntry b
entry_behind Inside set = InsideEntry
entry_behind Class set = ClassEntry set
entry_behind Star set = StarEntry
entry_behind DoubleStar set = DoubleStarEntry

-- the gate of an entry
abbrev pub gate_of : Entry → Gate
gate_of FreeEntry = Free
gate_of (ByteEntry b) = Byte b
gate_of InsideEntry = Inside
gate_of (ClassEntry set) = Class
gate_of StarEntry = Star
gate_of DoubleStarEntry = DoubleStar

-- the number of a way along which not just one byte leads
abbrev pub no_byte : ℕ
no_byte = 256

-- the byte that alone leads through a gate, or that number
abbrev pub by_of : Gate → ℕ
by_of Free = no_byte
by_of (Byte b) = b
by_of Inside = no_byte
by_of Class = no_byte
by_of Star = no_byte
by_of DoubleStar = no_byte

-- the key by which ways are sorted: by the state, and then by the byte
abbrev pub order_of : Way → ℕ
order_of way = way.from * 512 + way.by

-- a set without any byte
abbrev pub no_bytes : ByteMap
no_bytes = record { words = 0 ∷ 0 ∷ 0 ∷ 0 ∷ [] }

-- the set of a state's class, by the table of classes
abbrev pub set_of : List ClassRow → ℕ → ByteMap
set_of [] q = no_bytes
set_of (class ∷ classes) q = if class.state == q then class.map else set_of classes q

-- the entries of states, of which the first has this number
abbrev pub entries_in : List ClassRow → ℕ → List State → List Entry
entries_in classes q [] = []
entries_in classes q (state ∷ states) = entry_behind state.gate (set_of classes q) ∷ entries_in classes (suc q) states

-- the ways that lead from a state to the next one
abbrev pub ways_on : ℕ → List State → List (ℕ × ℕ)
ways_on q [] = []
ways_on q (state ∷ states) = if state.leads_on then (q, suc q) ∷ ways_on (suc q) states else ways_on (suc q) states

-- the graph that tables stand for
abbrev pub graph_in : List State → List Way → List ClassRow → List End → Graph
graph_in states ways classes ends =
    record {
      entries = entries_in classes 0 states;
      ways = ways_on 0 states ++ map (λ w. (w.from, w.to)) ways;
      ends = map (λ e. (e.state, e.pattern)) ends;
    }

-- a state without ways or ends
abbrev pub bare : Gate → State
bare gate = record { gate = gate; leads_on = false; leads_away = false; ends = false }

-- the state with a number
abbrev pub state_at : List State → ℕ → State
state_at states q = slice_index_or states q (bare Free)

-- the row of a state's set, if its entry is a class
abbrev pub sets_in : ℕ → Entry → List ClassRow
sets_in q FreeEntry = []
sets_in q (ByteEntry b) = []
sets_in q InsideEntry = []
sets_in q (ClassEntry set) = record { state = q; map = set } ∷ []
sets_in q StarEntry = []
sets_in q DoubleStarEntry = []

-- a state with the flag that a way leads to the next one
abbrev pub leading_on : State → State
leading_on state = record state { leads_on = true }

-- a state with the flag that it's an end
abbrev pub ending : State → State
ending state = record state { ends = true }

-- a state with the flag that there are ways in the table
abbrev pub leading_away : State → State
leading_away state = record state { leads_away = true }

-- a way is between states, by the right byte, and the state from which it leads is flagged
pub record IsWay (states : List State) (way : Way) : Type 0 where
  pub from : way.from < length states
  pub to : way.to < length states
  pub by : way.by ≡ by_of (state_at states way.to).gate
  pub number : way.by ≤ no_byte
  pub flagged : (state_at states way.from).leads_away ≡ true

-- what holds of the tables of a graph
pub record IsSound (states : List State) (ways : List Way) (classes : List ClassRow) (ends : List End) : Type 0 where
  pub few : length states < 2 ^ 32
  pub some : 0 < length states
  pub on : (q : ℕ) → (state_at states q).leads_on ≡ true → q + 1 < length states
  pub each_way : All (IsWay states) ways
  pub rising : AllPairs (λ a b. a.state < b.state) classes
  pub each_class : All (λ c. c.state < length states) classes
  pub each_end : All (λ e. (state_at states e.state).ends ≡ true) ends

-- a way leads from the state q to another, which is the next one
abbrev pub LeadsOn : List State → ℕ → ℕ → Type 0
LeadsOn states q r = ((state_at states q).leads_on ≡ true) × (r ≡ q + 1)

-- one of these ways leads from the state q to another
abbrev pub LeadsAway : List Way → ℕ → ℕ → Type 0
LeadsAway ways q r = (way : Way) × Contains ways way × (way.from ≡ q) × (way.to ≡ r)

-- a way of the table leads from a state by this number
pub record IsAlong (ways : List Way) (q by : ℕ) (way : Way) : Type 0 where
  pub among : Contains ways way
  pub from : way.from ≡ q
  pub by_it : way.by ≡ by

-- a number is that of the byte, if there is one
abbrev pub is_byte : ℕ → Option ℕ → Bool
is_byte number None = false
is_byte number (Some c) = c == number

-- a way may lead from the state q by this byte, or by none: it has no byte of its own, or it has this one
abbrev pub may_lead : ℕ → Option ℕ → Way → Bool
may_lead q byte way = way.from == q && (way.by == no_byte || is_byte way.by byte)

-- two parts of some ways have each that may lead from the state q by this byte, or by none
pub record AreLeaving (ways : List Way) (q : ℕ) (byte : Option ℕ) (any own : List Way) : Type 0 where
  pub only_any : All (Contains ways) any
  pub only_own : All (Contains ways) own
  pub each : (way : Way) → Contains ways way → may_lead q byte way ≡ true → Contains any way ⊎ Contains own way
