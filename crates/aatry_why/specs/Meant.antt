-- The loaded name that may have been meant, where nothing of a name is loaded.
use Rattle.std.specs.Prelude.{ℕ, List, [], map, Option, None}
use Rattle.aa_decide_ready.specs.Entries.{Loaded}
use Rattle.aa_set_commands.specs.declared.refusal.RefusalKind.{RefusalKind}
use Rattle.aa_set_commands.specs.declared.refusal.RefusalKind.TheVariants.{Absent}
use Rattle.aatry_words.specs.Paths.{near_path}
use Rattle.aatry_policy.specs.Parts.{Part, set_parts}

-- the full names of parts
abbrev pub names_of : List Part → List (List ℕ)
names_of parts = map (λ part. part.name) parts

-- the full names of a policy set: each profile's, followed by those of its children and hats
abbrev pub full_names : List Loaded → List (List ℕ)
full_names entries = names_of (set_parts entries [])

-- The name that may have been meant by the asker's, where that doesn't exist: the first that ends with it, as `/usr/bin/irssi` with `irssi`, and
-- else the nearest.
abbrev pub meant_name : List Loaded → List ℕ → RefusalKind → Option (List ℕ)
meant_name entries who Absent = near_path who (full_names entries)
meant_name entries who _ = None
