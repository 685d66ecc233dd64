-- The printed wider rules of the code, as the definitions see them.
use Rattle.std.specs.Prelude.{ℕ, List, Vec, map}
use Rattle.std.specs.declared.alloc.Global.{Global}

-- the bytes of texts
abbrev pub seen_texts : List (Vec ℕ Global) → List (List ℕ)
seen_texts texts = map (λ text. text.items) texts
