-- What contracts see of the code's paths.
use Rattle.std.specs.Prelude.{ℕ, List, map}
use Rattle.std.specs.Borrow.{Bor}

-- paths that are borrowed
abbrev pub lent_paths : List (Bor (List ℕ)) → List (List ℕ)
lent_paths paths = map (λ path. path.now) paths
