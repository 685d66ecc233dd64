-- How far the going over tallies has come.
use Rattle.std.specs.Prelude.{List, [], ◌∷◌, Option, None, Some}
use Rattle.aatry_requests.specs.Tallies.{Tally}

-- a tally, if there is one
abbrev pub tally_at : Option Tally → List Tally
tally_at None = []
tally_at (Some tally) = tally ∷ []
