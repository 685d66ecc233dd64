use Rattle.std.proofs.Common.{[], inl, inr, map, refl, subst}
use Rattle.std.proofs.lemmas.Result.{err_from_is_err_and}
use Rattle.aatry_folder.specs.PolicyFolders.{AreBelow}
use Rattle.aatry_test.specs.SeenTests.{seen_replacement}
use Rattle.aatry_test.specs.Stores.{ReplacesUpTo}
use Rattle.aatry_test.proofs.StoreLemmas.{Replaces-none}
use Rattle.aatry_test.proofs.below.test_folder.Goals as goal

-- a transcript can't be read, and nothing was replaced
pub returns-in_err-tests-clause-fault : goal.returns-in_err-tests-clause-fault
returns-in_err-tests-clause-fault g c =
    let p = err_from_is_err_and c.from_residual-in_err-tests.result c.from_residual-in_err-tests.ensures.1 in
    rw (p.1, p.2) (inl (inr c.in_err-tests.ensures.fault, Replaces-none (g.S.FileStore.replaced c.args.store.now)))

-- one that was accepted can't be replaced
pub returns-in_err-replace_each-clause-fault : goal.returns-in_err-replace_each-clause-fault
returns-in_err-replace_each-clause-fault g c =
    let p = err_from_is_err_and c.from_residual-in_err-replace_each.result c.from_residual-in_err-replace_each.ensures.1 in
    let tests = c.in_ok-tests.tests in
    let before = g.S.FileStore.replaced c.args.store.now in
    let after = g.S.FileStore.replaced c.replace_each.new.store in
    rw (p.1, p.2) (inr (
      record { text = tests.text.items; notes = []; failed = tests.failed },
      map seen_replacement tests.replacements.items,
      record {
        files = c.in_ok-policy.policy.files;
        unread = c.in_ok-policy.policy.unread.items;
        below = subst (λ base. AreBelow (g.F.Folders.told c.args.folders.now) (g.D.FileSystem.known c.args.disk.now) base c.in_ok-policy.policy.files c.in_ok-policy.policy.unread.items)
            c.as_str.ensures.value c.in_ok-policy.ensures.below;
        each = c.in_ok-tests.ensures.told;
        noted = refl;
      },
      subst (λ items. ReplacesUpTo before after (map seen_replacement items)) c.deref.ensures.value c.in_err-replace_each.ensures.err,
      c.in_err-replace_each.ensures.fault,
    ))
