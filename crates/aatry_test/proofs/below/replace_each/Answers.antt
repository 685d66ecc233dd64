use Rattle.std.proofs.Common.{◌+◌, [], append-nil, drop, map, subst, take}
use Rattle.std.proofs.lemmas.Result.{err_from_is_err_and}
use Rattle.aatry_test.specs.SeenTests.{seen_replacement}
use Rattle.aatry_test.specs.Stores.{Replaces}
use Rattle.aatry_test.proofs.StoreLemmas.{Replaces-then, parted}
use Rattle.aatry_test.proofs.below.replace_each.Goals as goal

-- those before the one that couldn't be replaced were
pub returns-in_err-replace_one-clause-err : goal.returns-in_err-replace_one-clause-err
returns-in_err-replace_one-clause-err g c =
    let p = err_from_is_err_and c.from_residual.result c.from_residual.ensures.1 in
    let before = g.S.FileStore.replaced c.args.store.now in
    let between = g.S.FileStore.replaced c.loop-replacement.store in
    let after = g.S.FileStore.replaced c.replace_one.new.store in
    let at = c.loop-replacement.replacement-index in
    let all = c.args.replacements.now in
    let front = map seen_replacement (take at all) in
    rw (p.1) (
      front,
      seen_replacement c.replacement-item.result,
      map seen_replacement (drop (at + 1) all),
      parted seen_replacement all at c.replacement-item.result c.loop-replacement-test.true c.replacement-item.is,
      subst (λ files. Replaces before after files) (append-nil front) (Replaces-then before between after front [] c.loop-replacement.invariant c.in_err-replace_one.ensures.err),
    )
