-- States, the ways between them, and the texts that reach them.
use Rattle.std.specs.Prelude.{◌≡◌, ◌↔◌, ◌⊎◌, ℕ, ◌<◌, true, List, [], ◌∷◌, ◌++◌, ◌^◌, length, reverse, slice_index_or, All, Contains}
use Rattle.aa_glob_nfa.specs.Entries.{is_free, takes_byte, stays_at}
use Rattle.aa_glob_nfa.specs.declared.entry.Entry.{Entry}
use Rattle.aa_glob_nfa.specs.declared.entry.Entry.TheVariants.{Free}

-- A graph: the entry of each state, in the order of their numbers; the ways, each from a state to a state; and the ends, each a state with the
-- number of a pattern.
pub record Graph : Type 0 where
  pub entries : List Entry
  pub ways : List (ℕ × ℕ)
  pub ends : List (ℕ × ℕ)

-- the number is that of a state
abbrev pub IsState : Graph → ℕ → Type 0
IsState g r = r < length g.entries

-- the entry of a state
abbrev pub entry_of : Graph → ℕ → Entry
entry_of g r = slice_index_or g.entries r Free

-- a way leads from a state to another, or to itself
abbrev pub Leads : Graph → ℕ → ℕ → Type 0
Leads g q r = Contains g.ways (q, r)

-- a state is entered without a byte
abbrev pub IsFree : Graph → ℕ → Type 0
IsFree g r = is_free (entry_of g r) ≡ true

-- a byte leads into a state
abbrev pub Takes : Graph → ℕ → ℕ → Type 0
Takes g r c = takes_byte (entry_of g r) c ≡ true

-- a byte stays in a state
abbrev pub Stays : Graph → ℕ → ℕ → Type 0
Stays g r c = stays_at (entry_of g r) c ≡ true

-- a state is an end of a pattern
abbrev pub EndsAt : Graph → ℕ → ℕ → Type 0
EndsAt g r p = Contains g.ends (r, p)

-- each number of a text is a byte
abbrev pub AreBytes : List ℕ → Type 0
AreBytes text = All (λ c. c < 2 ^ 8) text

-- A text, which is written with its last byte first, reaches a state. The empty text reaches state 0.
pub data Reaches (g : Graph) : List ℕ → ℕ → Type 0 where
  begins : Reaches g [] 0
  comes : {past : List ℕ} {q r : ℕ} → Reaches g past q → Leads g q r → IsFree g r → Reaches g past r
  takes : {past : List ℕ} {q r c : ℕ} → Reaches g past q → Leads g q r → Takes g r c → Reaches g (c ∷ past) r
  stays : {past : List ℕ} {r c : ℕ} → Reaches g past r → Stays g r c → Reaches g (c ∷ past) r

-- two graphs with the same entries, ways and ends, whatever the order of ways and ends
pub record SameGraph (g h : Graph) : Type 0 where
  pub entries : g.entries ≡ h.entries
  pub ways : (q r : ℕ) → Leads g q r ↔ Leads h q r
  pub ends : (r p : ℕ) → EndsAt g r p ↔ EndsAt h r p

-- a text reaches the same states in both
abbrev pub SameRuns : Graph → Graph → Type 0
SameRuns g h = (past : List ℕ) (r : ℕ) → Reaches g past r ↔ Reaches h past r

-- the start alone, without ways or ends
abbrev pub start_alone : Graph
start_alone = record { entries = Free ∷ []; ways = []; ends = [] }

-- a graph with one more state, with this entry, without ways or ends
abbrev pub with_entry : Entry → Graph → Graph
with_entry entry g = record g { entries = g.entries ++ entry ∷ [] }

-- a graph has one more way
pub record AddsWay (old new : Graph) (from to : ℕ) : Type 0 where
  pub entries : new.entries ≡ old.entries
  pub ways : (q r : ℕ) → Leads new q r ↔ (Leads old q r ⊎ ((q ≡ from) × (r ≡ to)))
  pub ends : new.ends ≡ old.ends

-- a graph has one more end
pub record AddsEnd (old new : Graph) (state pattern : ℕ) : Type 0 where
  pub entries : new.entries ≡ old.entries
  pub ways : new.ways ≡ old.ways
  pub ends : (r p : ℕ) → EndsAt new r p ↔ (EndsAt old r p ⊎ ((r ≡ state) × (p ≡ pattern)))

-- these are the patterns whose ends a text reaches
abbrev pub IsFound : Graph → List ℕ → List ℕ → Type 0
IsFound g text patterns = (p : ℕ) → Contains patterns p ↔ ((r : ℕ) × EndsAt g r p × Reaches g (reverse text) r)
