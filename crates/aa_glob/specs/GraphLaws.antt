-- Properties of graphs that are drawn of trails.
use Rattle.std.specs.Prelude.{◌≡◌, ◌↔◌, ℕ, ◌<◌, true, Contains, List, [], ◌∷◌, ◌++◌, length, Ok, reverse}
use Rattle.aa_glob_syntax.specs.Elements.{Element}
use Rattle.aa_glob_syntax.specs.Matching.{matches}
use Rattle.aa_glob_syntax.specs.Reading.{items_of, reading}
use Rattle.aa_glob_nfa.specs.Graphs.{AreBytes, Graph, Leads, Reaches}
use Rattle.aa_glob_nfa.specs.declared.entry.Entry.{Entry}
use Rattle.aa_glob_nfa.specs.declared.entry.Entry.TheVariants.{Free}
use Rattle.aa_glob.specs.Drawn.{AddsState, HaveSources, IsDrawn, Suits, trail_at}
use Rattle.aa_glob_pattern.specs.Reads.{reads}
use Rattle.aa_glob_pattern.specs.Trails.{Trail, trail_of}

-- a state is reached by the texts that read its trail
abbrev pub ReachingIsReading : Type 0
ReachingIsReading =
    (g : Graph) (trails : List Trail) → IsDrawn g trails
    → (q : ℕ) (past : List ℕ) → q < length trails → AreBytes past
    → (Reaches g past q ↔ (reads (trail_at trails q) past ≡ true))

-- the state that has a pattern's trail is reached by the texts that match the pattern
abbrev pub ReachingTheEndIsMatching : Type 0
ReachingTheEndIsMatching =
    (g : Graph) (trails : List Trail) → IsDrawn g trails
    → (text path : List ℕ) (q : ℕ) → reading text ≡ Ok (items_of text)
    → q < length trails → trail_at trails q ≡ trail_of text → AreBytes path
    → (Reaches g (reverse path) q ↔ (matches (items_of text) path ≡ true))

-- the start alone, to which no way leads, is drawn of the empty trail
abbrev pub StartIsDrawn : Type 0
StartIsDrawn = (g : Graph) → g.entries ≡ Free ∷ [] → ((q r : ℕ) → Leads g q r → ⊥) → IsDrawn g ([] ∷ [])

-- a state that is added with ways from those that have its sources is drawn too
abbrev pub AddedIsDrawn : Type 0
AddedIsDrawn =
    (old new : Graph) (trails : List Trail) (e : Element) (trail : Trail) (entry : Entry) (from : List ℕ) → IsDrawn old trails
    → (Contains trails (e ∷ trail) → ⊥) → Suits e entry
    → HaveSources trails from (e ∷ trail) → AddsState old new entry from
    → IsDrawn new (trails ++ (e ∷ trail) ∷ [])

-- only the ways and entries matter
abbrev pub SameIsDrawn : Type 0
SameIsDrawn =
    (g h : Graph) (trails : List Trail)
    → g.entries ≡ h.entries → ((q r : ℕ) → (Leads g q r ↔ Leads h q r)) → IsDrawn g trails → IsDrawn h trails
