-- How far the text of another pattern has been followed.
use Rattle.std.specs.Prelude.{◌≡◌, ℕ, ◌<◌, List, [], ◌++◌, length, reverse}
use Rattle.aa_glob.specs.Walks.{Standing}
use Rattle.aa_glob.specs.code.Growths.{Follows, IsGrowing}
use Rattle.aa_glob.specs.declared.growing.Growing.{Growing}
use Rattle.aa_glob.specs.Drawn.{trail_at}
use Rattle.aa_glob_syntax.specs.Elements.{Element}
use Rattle.aa_glob_pattern.specs.Trails.{Trail, trail_of}

-- what has grown stands for these patterns, and no other is being followed
abbrev pub Between : List (List ℕ) → Growing → Type 0
Between patterns g = (trails : List Trail) × IsGrowing patterns [] g trails

-- what has grown stands for some patterns, and no other is being followed
abbrev pub IsGrown : Growing → Type 0
IsGrown g = (patterns : List (List ℕ)) × Between patterns g

-- A walk over a text has come so far: it has read a trail, and what is left, the last element first, precedes it in the whole trail.
pub record IsFollowing (old : Growing) (text : List ℕ) (g : Growing) (walk : Standing) (left : List Element) : Type 0 where
  pub trail : Trail
  pub whole : reverse left ++ trail ≡ trail_of text
  pub each : (patterns : List (List ℕ)) → Between patterns old → Follows patterns trail g walk

-- a state is that of a text's whole trail
pub record EndsWhole (patterns : List (List ℕ)) (text : List ℕ) (g : Growing) (state : ℕ) : Type 0 where
  pub trails : List Trail
  pub growing : IsGrowing patterns (trail_of text) g trails
  pub there : state < length trails
  pub is : trail_at trails state ≡ trail_of text

-- another text was followed to its end, which is a state
abbrev pub LeadsToEnd : Growing → List ℕ → Growing → ℕ → Type 0
LeadsToEnd old text new state = (patterns : List (List ℕ)) → Between patterns old → EndsWhole patterns text new state
