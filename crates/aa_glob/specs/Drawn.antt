-- Graphs that are drawn of trails: each state stands for the beginning of a pattern that leads to it.
use Rattle.std.specs.Prelude.{◌≡◌, ◌⊎◌, ◌↔◌, ℕ, ◌<◌, ◌^◌, false, Contains, List, [], ◌∷◌, ◌++◌, length, map, slice_index_or}
use Rattle.std.specs.List.{All}
use Rattle.aa_bytes.specs.ByteSets.{has}
use Rattle.aa_bytes.specs.declared.byte_set.ByteSet.{ByteSet}
use Rattle.aa_glob_syntax.specs.Elements.{Element, Single, Open, Comma, Close, Fault}
use Rattle.aa_glob_syntax.specs.Items.{Byte, Set, Star, DoubleStar, Group}
use Rattle.aa_glob_nfa.specs.Entries.{is_free, stays_at, takes_byte}
use Rattle.aa_glob_nfa.specs.Graphs.{entry_of, Graph, Leads}
use Rattle.aa_glob_nfa.specs.declared.entry.Entry.{Entry}
use Rattle.aa_glob_nfa.specs.declared.entry.Entry.TheVariants.{Free, Byte as ByteEntry, Star as StarEntry, DoubleStar as DoubleStarEntry}
use Rattle.aa_glob_pattern.specs.Trails.{sources, Trail}

-- a byte of a set leads into the state, and no byte stays in it
pub record TakesSet (set : ByteSet) (entry : Entry) : Type 0 where
  pub not_free : is_free entry ≡ false
  pub bytes : (c : ℕ) → c < 2 ^ 8 → takes_byte entry c ≡ has set c
  pub not_staying : (c : ℕ) → stays_at entry c ≡ false

-- the entry of a state is what reads this element; groups and faults are no elements of a pattern that was read
abbrev pub Suits : Element → Entry → Type 0
Suits (Single (Byte b)) entry = entry ≡ ByteEntry b
Suits (Single (Set set)) entry = TakesSet set entry
Suits (Single Star) entry = entry ≡ StarEntry
Suits (Single DoubleStar) entry = entry ≡ DoubleStarEntry
Suits (Single (Group first second others)) entry = ⊥
Suits Open entry = entry ≡ Free
Suits Comma entry = entry ≡ Free
Suits Close entry = entry ≡ Free
Suits (Fault error) entry = ⊥

-- the entry of a state is what reads the last element of its trail
abbrev pub SuitsLast : Trail → Entry → Type 0
SuitsLast [] entry = entry ≡ Free
SuitsLast (e ∷ trail) entry = Suits e entry

-- the trail of a state
abbrev pub trail_at : List Trail → ℕ → Trail
trail_at trails q = slice_index_or trails q []

-- A graph is drawn of these trails, one for each state: state 0 has the empty one, no two states have the same, and to each state lead
-- those that have the sources of its trail, which are all there. Ways lead to later states.
pub record IsDrawn (g : Graph) (trails : List Trail) : Type 0 where
  pub states : length trails ≡ length g.entries
  pub begins : 0 < length trails
  pub start : trail_at trails 0 ≡ []
  pub apart : (q r : ℕ) → q < length trails → r < length trails → trail_at trails q ≡ trail_at trails r → q ≡ r
  pub entries : (q : ℕ) → q < length trails → SuitsLast (trail_at trails q) (entry_of g q)
  pub all_there : (q : ℕ) (source : Trail) → q < length trails → Contains (sources (trail_at trails q)) source → Contains trails source
  pub within : (q r : ℕ) → Leads g q r → (q < length trails) × (r < length trails)
  pub later : (q r : ℕ) → Leads g q r → q < r
  pub ways : (q r : ℕ) → q < length trails → r < length trails → (Leads g q r ↔ Contains (sources (trail_at trails r)) (trail_at trails q))

-- the states from which ways are to lead to a trail: their trails are its sources, in whatever order
abbrev pub HaveSources : List Trail → List ℕ → Trail → Type 0
HaveSources trails from trail =
    All (λ q. q < length trails) from
    × ((source : Trail) → (Contains (map (trail_at trails) from) source ↔ Contains (sources trail) source))

-- a state with this entry is appended, and ways lead to it only from these states
pub record AddsState (old new : Graph) (entry : Entry) (from : List ℕ) : Type 0 where
  pub entries : new.entries ≡ old.entries ++ entry ∷ []
  pub ways : (q r : ℕ) → (Leads new q r ↔ (Leads old q r ⊎ ((r ≡ length old.entries) × Contains from q)))
