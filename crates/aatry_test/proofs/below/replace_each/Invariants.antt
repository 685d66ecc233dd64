use Rattle.std.proofs.Common.{map, take}
use Rattle.aatry_test.specs.SeenTests.{seen_replacement}
use Rattle.aatry_test.specs.Stores.{Replaces}
use Rattle.aatry_test.proofs.below.replace_each.Given as goal

-- those so far were replaced
abbrev pub invariant-loop-replacement : goal.invariant-loop-replacement
invariant-loop-replacement g l =
    Replaces (g.S.FileStore.replaced l.initial.store) (g.S.FileStore.replaced l.store) (map seen_replacement (take l.replacement-index l.replacements))
