use Rattle.std.proofs.Common.{ℕ, ◌<◌, slice_index_or}
use Rattle.aa_glob_run.specs.code.Memos.{Notes}
use Rattle.aa_glob_run.proofs.memo.Memo.kept_by.Given as goal

-- each byte so far keeps the list
abbrev pub invariant-loop-at : goal.invariant-loop-at
invariant-loop-at l = (i : ℕ) → i < l.at → Notes l.self.moves.items l.number (slice_index_or l.text i 0) l.number
