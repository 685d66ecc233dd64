-- The different beginnings of patterns, which are the states of the automaton that reads them, and how many there are.
use Rattle.std.specs.Prelude.{◌≡◌, ◌⊎◌, ◌↔◌, ℕ, ◌+◌, ◌*◌, ◌<◌, Contains, List, [], ◌++◌, length, slice_index_or, sum_by}
use Rattle.aa_glob_syntax.specs.Elements.{Element}
use Rattle.aa_glob_pattern.specs.Trails.{Trail, trail_of}

-- a trail is another one or a beginning of it; trails have their last element first
abbrev pub IsSuffixOf : Trail → Trail → Type 0
IsSuffixOf part trail = (more : List Element) × (more ++ part ≡ trail)

-- a trail is the beginning of one of these texts: the empty one is as soon as there is a text
abbrev pub IsBeginning : List (List ℕ) → Trail → Type 0
IsBeginning texts trail = (text : List ℕ) × Contains texts text × IsSuffixOf trail (trail_of text)

-- no two places have the same trail
abbrev pub AreApart : List Trail → Type 0
AreApart trails = (q r : ℕ) → q < length trails → r < length trails → slice_index_or trails q [] ≡ slice_index_or trails r [] → q ≡ r

-- these are the trails of which this holds, each once
pub record AreAll (Holds : Trail → Type 0) (trails : List Trail) : Type 0 where
  pub members : (trail : Trail) → (Contains trails trail ↔ Holds trail)
  pub apart : AreApart trails

-- these are the beginnings of the texts, each once
abbrev pub AreBeginnings : List (List ℕ) → List Trail → Type 0
AreBeginnings texts trails = AreAll (IsBeginning texts) trails

-- the texts have so many different beginnings, in whatever order and however often they come
abbrev pub HasStates : List (List ℕ) → ℕ → Type 0
HasStates texts n = (trails : List Trail) × AreBeginnings texts trails × (length trails ≡ n)

-- how many different beginnings texts have at most: two for each byte of a text, and two more
abbrev pub most_states : List (List ℕ) → ℕ
most_states texts = sum_by (λ text. 2 * length text + 2) texts

-- These are the beginnings of the texts and those of one more trail, each once: what there is while one more text is read, which has led to
-- this trail so far.
abbrev pub Begun : List (List ℕ) → Trail → List Trail → Type 0
Begun texts trail trails = AreAll (λ part. IsBeginning texts part ⊎ IsSuffixOf part trail) trails
