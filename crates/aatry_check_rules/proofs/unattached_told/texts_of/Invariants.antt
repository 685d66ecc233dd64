use Rattle.std.proofs.Common.{◌≡◌, map, take}
use Rattle.aatry_check_rules.proofs.unattached_told.texts_of.Given as goal

-- the patterns so far
abbrev pub invariant-loop-pattern : goal.invariant-loop-pattern
invariant-loop-pattern l = map (λ text. text.now) l.texts.items ≡ take l.pattern-index l.patterns
