-- How many different beginnings patterns have, counted: they are collected element by element, and one that is there already isn't added again.
use Rattle.std.specs.Prelude.{ℕ, Bool, true, false, ◌&&◌, if◌then◌else◌, List, [], ◌∷◌, ◌++◌, length}
use Rattle.std.specs.List.{list_any}
use Rattle.std.specs.Str.{bytes_eq}
use Rattle.aa_glob.specs.Numbers.{key_of}
use Rattle.aa_glob_pattern.specs.Trails.{Trail, trail_of}
use Rattle.aa_glob_syntax.specs.Elements.{Element, Single, Open, Comma, Close, Fault}
use Rattle.aa_glob_syntax.specs.Items.{Byte, Set, Star, DoubleStar, Group}

-- The code of an element. No two elements that patterns have share one; their texts have no groups and no faults as elements.
abbrev pub code_of : Element → List ℕ
code_of (Single (Byte b)) = 0 ∷ b ∷ []
code_of (Single (Set set)) = 1 ∷ key_of set
code_of (Single Star) = 2 ∷ []
code_of (Single DoubleStar) = 3 ∷ []
code_of Open = 4 ∷ []
code_of Comma = 5 ∷ []
code_of Close = 6 ∷ []
code_of (Single (Group first second others)) = 7 ∷ []
code_of (Fault error) = 8 ∷ []

-- two beginnings have the same elements
abbrev pub same_trail : Trail → Trail → Bool
same_trail [] [] = true
same_trail [] (f ∷ t) = false
same_trail (e ∷ s) [] = false
same_trail (e ∷ s) (f ∷ t) = bytes_eq (code_of e) (code_of f) && same_trail s t

-- some beginnings, with this one added if it isn't there
abbrev pub with_beginning : List Trail → Trail → List Trail
with_beginning trails trail = if list_any (same_trail trail) trails then trails else trails ++ trail ∷ []

-- some beginnings, which include the empty one, with those of this trail added
abbrev pub with_beginnings : List Trail → Trail → List Trail
with_beginnings trails [] = trails
with_beginnings trails (e ∷ trail) = with_beginning (with_beginnings trails trail) (e ∷ trail)

-- some beginnings, which include the empty one, with those of these texts added
abbrev pub with_texts : List Trail → List (List ℕ) → List Trail
with_texts trails [] = trails
with_texts trails (text ∷ texts) = with_texts (with_beginnings trails (trail_of text)) texts

-- how many different beginnings texts have that read as patterns: none has none, and the empty one is there as soon as there is a text
abbrev pub state_count : List (List ℕ) → ℕ
state_count [] = 0
state_count (text ∷ texts) = length (with_texts ([] ∷ []) (text ∷ texts))
