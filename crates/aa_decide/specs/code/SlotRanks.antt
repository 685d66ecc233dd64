-- The ranks of slots.
use Rattle.std.specs.Prelude.{ℕ, List, Option, None, Some}
use Rattle.aa_decide.specs.Attachment.{entry_rank}
use Rattle.aa_decide_ready.specs.Entries.{Loaded}

-- the rank of what a slot holds; nothing has rank 0
abbrev pub slot_rank : List ℕ → Option Loaded → ℕ
slot_rank path None = 0
slot_rank path (Some entry) = entry_rank path entry
