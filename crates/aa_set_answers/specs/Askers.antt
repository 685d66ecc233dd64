-- The asker: by a full name, or as the word `unconfined` (docs/commands.md, "Questions").
use Rattle.std.specs.Prelude.{ℕ, if◌then◌else◌, List, Option, None, Some, codes}
use Rattle.std.specs.Option.{option_map}
use Rattle.std.specs.Str.{bytes_eq}
use Rattle.aa_decide_ready.specs.Confinement.{Confinement, Unconfined, in_state}
use Rattle.aa_decide_ready.specs.Entries.{Loaded}
use Rattle.aa_decide.specs.Exec.{Asker, named_asker}
use Rattle.aa_profile_data.specs.FullNames.{full_name}

-- The asker, if it exists: no one in particular, where it is the word `unconfined`, and else what its full name says.
abbrev pub asker : List Loaded → List ℕ → Option (Option Asker)
asker entries who = if bytes_eq who (codes "unconfined") then Some None else option_map (λ asker. Some asker) (named_asker entries (full_name who))

-- what confines the asker: nothing confines no one in particular
abbrev pub confinement : Option Asker → Confinement
confinement None = Unconfined
confinement (Some asker) = in_state asker.entry.profile asker.entry.state asker.child
