-- Sessions of the code, as the definitions see them.
use Rattle.std.specs.Prelude.{ℕ, List, Option}
use Rattle.aatry_session_run.specs.Session.{Standing, State}
use Rattle.aatry_session_run.specs.declared.state.Table.{Table}

abbrev pub seen_table : Table → State
seen_table table = record { files = table.files; kept = table.session }

-- how far a session has come
abbrev pub standing : Option (List ℕ) → List ℕ → Option (List ℕ) → Table → Standing
standing left waits written table = record { left = left; waits = waits; written = written; state = seen_table table }
