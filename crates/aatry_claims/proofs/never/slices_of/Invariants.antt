use Rattle.std.proofs.Common.{◌≡◌, map, string_bytes, take}
use Rattle.aatry_claims.proofs.never.slices_of.Given as goal

-- the words so far
abbrev pub invariant-loop-word : goal.invariant-loop-word
invariant-loop-word l = map (λ word. word.now) l.slices.items ≡ map string_bytes (take l.word-index l.words)
