-- When there are too many different paths.
use Rattle.std.specs.Prelude.{◌↔◌, ℕ, ◌<◌, List, length, All, AllPairs}
use Rattle.aa_glob.specs.Visits.{IsReadOf}
use Rattle.aa_glob_nfa.specs.Graphs.{AreBytes}
use Rattle.aa_glob_pattern.specs.Trails.{Trail}

-- two texts, which are written with their last bytes first, read the same beginnings of the patterns
abbrev pub AreReadAlike : List (List ℕ) → List ℕ → List ℕ → Type 0
AreReadAlike patterns past other = (trail : Trail) → IsReadOf patterns past trail ↔ IsReadOf patterns other trail

-- there are more texts of bytes than so many, no two of which are read alike
pub record AreMoreTextsThan (patterns : List (List ℕ)) (limit : ℕ) : Type 0 where
  pub texts : List (List ℕ)
  pub more : limit < length texts
  pub bytes : All AreBytes texts
  pub apart : AllPairs (λ past other. AreReadAlike patterns past other → ⊥) texts
