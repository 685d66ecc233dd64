-- Which includes name something by a whole path that lies below a folder (docs/policy.md, "Includes").
use Rattle.std.specs.Prelude.{ℕ, Bool, false, ◌==◌, ◌&&◌, ◌||◌, if◌then◌else◌, List, [], ◌∷◌, Result, Ok, Err, flat_map}
use Rattle.aa_bytes.specs.Bytes.{slash}
use Rattle.aa_bytes.specs.Texts.{begins_with}
use Rattle.aa_text_files.specs.Files.{File}
use Rattle.aa_text_tokens.specs.Splicing.{looked_up}
use Rattle.aa_text_tokens.specs.Cut.{Seen, cut}
use Rattle.aa_text_tokens.specs.declared.cut.CutRefusal.{CutRefusal}
use Rattle.aa_text_tokens.specs.declared.cut.TokenKind.{TokenKind}
use Rattle.aa_text_tokens.specs.declared.cut.TokenKind.TheVariants.{Include}

-- a name that an include looks up, if it begins like each path below the folder
abbrev pub below_if : List ℕ → List ℕ → List (List ℕ)
below_if front name = if begins_with front name then name ∷ [] else []

-- what a token looks up below the folder: only an include looks up something
abbrev pub asked_by : List ℕ → TokenKind → List ℕ → List (List ℕ)
asked_by front (Include if_exists) text = below_if front (looked_up text)
asked_by front kind text = []

-- what tokens look up below the folder
abbrev pub asked_of : List ℕ → List Seen → List (List ℕ)
asked_of front tokens = flat_map (λ token. asked_by front token.kind token.text) tokens

-- what a text looks up below the folder, if it can be cut: else nothing is included by it
abbrev pub asked_by_cut : List ℕ → Result (List Seen) (CutRefusal × ℕ) → List (List ℕ)
asked_by_cut front (Ok tokens) = asked_of front tokens
asked_by_cut front (Err fault) = []

-- a text contains this front of paths, at a slash of it
abbrev pub holds : List ℕ → List ℕ → Bool
holds front [] = false
holds front (b ∷ bs) = (b == slash && begins_with front (b ∷ bs)) || holds front bs

-- what a text looks up below the folder that contains the front: no other looks up such a path
abbrev pub asked_in : List ℕ → List ℕ → List (List ℕ)
asked_in front bytes = if holds front bytes then asked_by_cut front (cut 0 0 false bytes) else []

-- what files look up below the folder
abbrev pub asked_in_files : List ℕ → List File → List (List ℕ)
asked_in_files front files = flat_map (λ file. asked_in front file.1) files
