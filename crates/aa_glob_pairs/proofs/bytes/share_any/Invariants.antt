use Rattle.std.proofs.Common.{ℕ, ◌<◌}
use Rattle.aa_glob_pairs.specs.Bytes.{BothHave}
use Rattle.aa_glob_pairs.proofs.bytes.share_any.Given as goal

abbrev pub invariant-loop-byte : goal.invariant-loop-byte
invariant-loop-byte l = (c : ℕ) → c < l.byte → BothHave l.first l.second c → ⊥
