-- For whom runs are remembered, and how many bytes that takes.
use Rattle.std.specs.Prelude.{ℕ, sum_by}
use Rattle.aa_set_parts.specs.declared.remembered.Remembered.{Remembered}

-- how many bytes are remembered, for all who ask together
abbrev pub taken : Remembered → ℕ
taken remembered = sum_by (λ asker. asker.bytes) remembered.askers.items
