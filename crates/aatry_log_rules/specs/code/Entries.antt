-- Entries of wanted requests, each with a text as its key.
use Rattle.std.specs.Prelude.{ℕ, List, Option, None, Some, option_map}
use Rattle.std.specs.Map.{lookup}
use Rattle.std.specs.Str.{bytes_eq}
use Rattle.aatry_log_rules.specs.SeenWanted.{Entry, seen_wanted}
use Rattle.aatry_log_rules.specs.Wanted.{Wanted, both}

-- a wanted request, joined with what is wanted already, if anything is
abbrev pub with_known : Wanted → Option Wanted → Wanted
with_known asked None = asked
with_known asked (Some wanted) = both asked wanted

-- a wanted request, joined with the one that has the same text
abbrev pub wanted_under : Wanted → List ℕ → List Entry → Wanted
wanted_under asked text entries = with_known asked (option_map seen_wanted (lookup (λ other. bytes_eq text other.items) entries))
