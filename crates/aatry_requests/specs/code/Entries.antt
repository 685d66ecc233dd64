-- Entries of tallies, each with a text as its key.
use Rattle.std.specs.Prelude.{ℕ, List, Option, None, Some}
use Rattle.std.specs.Map.{lookup}
use Rattle.std.specs.Str.{bytes_eq}
use Rattle.aatry_requests.specs.SeenTallies.{Entry}
use Rattle.aatry_requests.specs.Spans.{widened}
use Rattle.aatry_requests.specs.Tallies.{one_more}
use Rattle.aatry_requests.specs.declared.tallies.Count.{Count}
use Rattle.aatry_requests.specs.declared.tallies.Tally.{Tally}

-- how often and when a question occurred, with once more
abbrev pub count_of : Option ℕ → Option Tally → Count
count_of time None = record { times = 1; span = widened time None }
count_of time (Some tally) = record { times = one_more tally.times; span = widened time tally.span }

-- how often and when the question of a text occurred, with once more
abbrev pub count_under : Option ℕ → List ℕ → List Entry → Count
count_under time text entries = count_of time (lookup (λ other. bytes_eq text other.items) entries)
