-- Properties of trails, and of patterns that overlap.
use Rattle.std.specs.Prelude.{◌≡◌, ◌↔◌, ℕ, ◌<◌, ◌≤◌, Bool, true, false, Contains, Decides, IsTrue, List, [], ◌∷◌, ◌++◌, length, Ok, reverse}
use Rattle.std.specs.List.{IsDistinct}
use Rattle.aa_glob_syntax.specs.Elements.{Element, Single, Open, Comma, Close, Fault, elements}
use Rattle.aa_glob_syntax.specs.Items.{Pattern}
use Rattle.aa_glob_syntax.specs.Matching.{matches, Matches}
use Rattle.aa_glob_syntax.specs.Overlap.{Overlap}
use Rattle.aa_glob_syntax.specs.Reading.{items_of, reading}
use Rattle.aa_glob_syntax.specs.Symbols.{symbols}
use Rattle.aa_glob_syntax.specs.declared.context.Context.TheVariants.{Elsewhere}
use Rattle.aa_glob_pattern.specs.Beginnings.{AreApart, AreBeginnings, Begun, HasStates, most_states}
use Rattle.aa_glob_pattern.specs.Elements.{EachMayStand, elements_of}
use Rattle.aa_glob_pattern.specs.Reads.{element_behind, reads, some_reads}
use Rattle.aa_glob_pattern.specs.Shared.{overlaps}
use Rattle.aa_glob_pattern.specs.Trails.{depth_behind, element_within, grouped, groups_of, sources, Trail, trail_behind, trail_of}

-- the test of a match says that the text can be cut into one text for each item
abbrev pub MatchingIsBySplits : Type 0
MatchingIsBySplits = (items : Pattern) (text : List ℕ) → (IsTrue (matches items text) ↔ Matches items text)

-- the texts that read a pattern's trail are those that match the pattern
abbrev pub WholeTrailsAreMatched : Type 0
WholeTrailsAreMatched =
    (text path : List ℕ)
    → reading text ≡ Ok (items_of text)
    → reads (trail_of text) (reverse path) ≡ matches (items_of text) path

-- a text reads a trail if it is a text that reads one of the trail's sources, followed by what the trail's last element takes
abbrev pub TrailsAreReadBehindSources : Type 0
TrailsAreReadBehindSources =
    (e : Element) (trail : Trail) (past : List ℕ)
    → reads (e ∷ trail) past ≡ element_behind e (some_reads (sources (e ∷ trail))) past

-- some of these trails can be read exactly where one of them can
abbrev pub SomeAreReadAsOneIs : Type 0
SomeAreReadAsOneIs =
    (trails : List Trail) (past : List ℕ)
    → (some_reads trails past ≡ true ↔ ((trail : Trail) × Contains trails trail × (reads trail past ≡ true)))

-- a trail is a beginning of another one, and is shorter
abbrev pub IsShorterBeginning : Trail → Trail → Type 0
IsShorterBeginning shorter trail = (more : List Element) × (more ++ shorter ≡ trail) × (length shorter < length trail)

-- the sources of a trail are beginnings of it, and shorter
abbrev pub SourcesAreShorter : Type 0
SourcesAreShorter = (trail source : Trail) → Contains (sources trail) source → IsShorterBeginning source trail

-- the trail that continues another one begins with it
abbrev pub TrailsGrowInFront : Type 0
TrailsGrowInFront = (depth : ℕ) (es : List Element) (trail : Trail) → trail_behind trail depth es ≡ reverse (grouped depth es) ++ trail

-- a pattern's trail is the one that continues the empty trail by all elements of its text
abbrev pub WholeTrailsGrowByElements : Type 0
WholeTrailsGrowByElements = (text : List ℕ) → trail_of text ≡ trail_behind [] 0 (elements Elsewhere (symbols text))

-- as many groups are open after a trail as were opened and not closed
abbrev pub DepthIsOfOpenGroups : Type 0
DepthIsOfOpenGroups =
    (e : Element) (trail : Trail)
    → length (groups_of (element_within (length (groups_of trail)) e ∷ trail)) ≡ depth_behind (length (groups_of trail)) e

-- an element whose meaning depends on the group that it is in: a comma or a closing brace
abbrev pub is_of_group : Element → Bool
is_of_group (Single item) = false
is_of_group Open = false
is_of_group Comma = true
is_of_group Close = true
is_of_group (Fault error) = false

-- each comma and each closing brace of a trail is in a group
abbrev pub StandsInGroups : Trail → Type 0
StandsInGroups [] = Unit
StandsInGroups (e ∷ trail) = (is_of_group e ≡ true → 0 < length (groups_of trail)) × StandsInGroups trail

-- in a text that reads as a pattern each comma and each closing brace is in a group, but for commas that stand for themselves
abbrev pub WholeTrailsStandInGroups : Type 0
WholeTrailsStandInGroups = (text : List ℕ) → reading text ≡ Ok (items_of text) → StandsInGroups (trail_of text)

-- what holds of a trail's groups holds of its beginnings'
abbrev pub BeginningsStandInGroups : Type 0
BeginningsStandInGroups = (later : List Element) (trail : Trail) → StandsInGroups (later ++ trail) → StandsInGroups trail

-- in a text that reads as a pattern each element may come where as many groups are open as are before it
abbrev pub WholeTextsStand : Type 0
WholeTextsStand = (text : List ℕ) → reading text ≡ Ok (items_of text) → EachMayStand 0 (elements_of text)

-- a text's trail is its elements, the last one first
abbrev pub WholeTrailsAreElements : Type 0
WholeTrailsAreElements = (text : List ℕ) → trail_of text ≡ reverse (elements_of text)

-- as many groups are open after an element of a trail as it leaves open
abbrev pub DepthIsOfElements : Type 0
DepthIsOfElements = (e : Element) (trail : Trail) → length (groups_of (e ∷ trail)) ≡ depth_behind (length (groups_of trail)) e

-- texts have one count of different beginnings
abbrev pub StatesHaveOneCount : Type 0
StatesHaveOneCount = (texts : List (List ℕ)) (n m : ℕ) → HasStates texts n → HasStates texts m → n ≡ m

-- texts have no more different beginnings than two for each of their bytes, and two for each text
abbrev pub StatesAreFew : Type 0
StatesAreFew = (texts : List (List ℕ)) (n : ℕ) → HasStates texts n → n ≤ most_states texts

-- the same texts in another order, or repeated, have as many different beginnings
abbrev pub SameTextsHaveSameStates : Type 0
SameTextsHaveSameStates =
    (texts others : List (List ℕ)) (n : ℕ)
    → HasStates texts n → ((text : List ℕ) → (Contains texts text ↔ Contains others text)) → HasStates others n

-- no two places have the same trail exactly where no trail is equal to one after it, by any test that decides which are equal
abbrev pub ApartIsDistinct : Type 0
ApartIsDistinct =
    (same : Trail → Trail → Bool) (trails : List Trail)
    → ((s t : Trail) → Decides (same s t) (s ≡ t)) → (AreApart trails ↔ IsDistinct same trails)

-- where there is no text yet, the first one begins with the empty trail
abbrev pub FirstTextIsBegun : Type 0
FirstTextIsBegun = Begun [] [] ([] ∷ [])

-- where there is a text, the empty trail of one more is there already
abbrev pub NextTextIsBegun : Type 0
NextTextIsBegun =
    (texts : List (List ℕ)) (trails : List Trail) (text : List ℕ)
    → AreBeginnings texts trails → Contains texts text → Begun texts [] trails

-- an element leads to a trail that is there already
abbrev pub KnownTrailIsMet : Type 0
KnownTrailIsMet =
    (texts : List (List ℕ)) (trail : Trail) (trails : List Trail) (e : Element)
    → Begun texts trail trails → Contains trails (e ∷ trail) → Begun texts (e ∷ trail) trails

-- an element leads to a trail that isn't there yet, which is added
abbrev pub NewTrailIsAdded : Type 0
NewTrailIsAdded =
    (texts : List (List ℕ)) (trail : Trail) (trails : List Trail) (e : Element)
    → Begun texts trail trails → (Contains trails (e ∷ trail) → ⊥) → Begun texts (e ∷ trail) (trails ++ (e ∷ trail) ∷ [])

-- a text that was read to its end is one of the texts
abbrev pub WholeTextIsThere : Type 0
WholeTextIsThere =
    (texts : List (List ℕ)) (text : List ℕ) (trails : List Trail)
    → Begun texts (trail_of text) trails → AreBeginnings (texts ++ text ∷ []) trails

-- some text matches both patterns exactly where the test says so
abbrev pub OverlapsAreTested : Type 0
OverlapsAreTested =
    (one other : List ℕ)
    → reading one ≡ Ok (items_of one) → reading other ≡ Ok (items_of other)
    → (overlaps one other ≡ true ↔ Overlap one other)
