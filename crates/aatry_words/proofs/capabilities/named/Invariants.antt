use Rattle.std.proofs.Common.{◌≡◌, length, map}
use Rattle.aatry_words.specs.Capabilities.{named}
use Rattle.aatry_words.proofs.capabilities.named.Given as goal

-- the word is none of the names so far
abbrev pub invariant-loop-rest : goal.invariant-loop-rest
invariant-loop-rest l = named (map (λ name. name.now) l.rest) l.word ≡ named (map (λ name. name.now) l.names) l.word

abbrev pub decreases-loop-rest : goal.decreases-loop-rest
decreases-loop-rest l = length l.rest
