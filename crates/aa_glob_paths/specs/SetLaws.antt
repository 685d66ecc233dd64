-- What a closed list of sets says of all texts.
use Rattle.std.specs.Prelude.{◌≡◌, ◌↔◌, ℕ, ◌<◌, Bool, true, List, length, reverse, Contains}
use Rattle.aa_glob_nfa.specs.Graphs.{AreBytes, EndsAt, Graph, IsFound, Reaches}
use Rattle.aa_glob_pairs.specs.Graphs.{IsLaid}
use Rattle.aa_glob_paths.specs.Found.{AreFound, FoundSet, set_at}
use Rattle.aa_glob_paths.specs.Reachable.{AreReachable, IsClosed, IsKeptBack, matters, StaysUnsettled}
use Rattle.aa_glob_paths.specs.Settled.{IsPassedOver, MarksSettled}

-- a closed list of sets has the set of each text after which a state is live that matters, and after no beginning of which a settled one is
abbrev pub ClosedSetsAreReachable : Type 0
ClosedSetsAreReachable =
    (g : Graph) (wanted settled : List Bool) (room : ℕ) (found : List FoundSet)
    → IsKeptBack g wanted → AreFound g room found → IsClosed g wanted settled found → AreReachable g wanted settled found

-- these are the patterns that end at states of a set
abbrev pub EndIn : Graph → List ℕ → List ℕ → Type 0
EndIn g set patterns = (p : ℕ) → Contains patterns p ↔ ((r : ℕ) × EndsAt g r p × Contains set r)

-- some text of bytes has exactly these patterns
abbrev pub SomeTextHas : Graph → List ℕ → Type 0
SomeTextHas g patterns = (text : List ℕ) × AreBytes text × IsFound g text patterns

-- some text of bytes has exactly these patterns, after no beginning of which a settled state is live
abbrev pub SomeUnsettledHas : Graph → List Bool → List ℕ → Type 0
SomeUnsettledHas g settled patterns = (text : List ℕ) × AreBytes text × StaysUnsettled g settled (reverse text) × IsFound g text patterns

-- one of the sets has exactly these patterns
abbrev pub SomeSetHas : Graph → List FoundSet → List ℕ → Type 0
SomeSetHas g found patterns = (n : ℕ) × (n < length found) × EndIn g (set_at found n) patterns

-- one of these patterns ends only at states that matter
abbrev pub HasWanted : Graph → List Bool → List ℕ → Type 0
HasWanted g wanted patterns = (p : ℕ) × Contains patterns p × ((r : ℕ) → r < length g.entries → EndsAt g r p → matters wanted r ≡ true)

-- One of the sets has exactly these patterns where a text has them after no beginning of which a settled state is live, if one of them is wanted;
-- and what a set has some text has.
abbrev pub SetsTellPatterns : Type 0
SetsTellPatterns =
    (g : Graph) (wanted settled : List Bool) (found : List FoundSet) (patterns : List ℕ)
    → IsLaid g → AreReachable g wanted settled found
    → (SomeSetHas g found patterns → SomeTextHas g patterns)
    × (HasWanted g wanted patterns → SomeUnsettledHas g settled patterns → SomeSetHas g found patterns)

-- after no beginning of a text that leads somewhere, and to no end of a pattern that is passed over, a settled state is live
abbrev pub NotPassedOverIsUnsettled : Type 0
NotPassedOverIsUnsettled =
    (g : Graph) (classes : List ℕ) (settled : List Bool) (past : List ℕ) → MarksSettled g classes settled
    → (r : ℕ) × Reaches g past r → (IsPassedOver g classes past → ⊥) → StaysUnsettled g settled past
