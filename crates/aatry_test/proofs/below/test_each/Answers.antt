use Rattle.std.proofs.Common.{rules, ◌≡◌, ◌∙◌, [], ◌∷◌, ◌++◌, ap, append_assoc, arith, length, map, string_bytes, subst, sym}
use Rattle.std.proofs.lemmas.List.{length-map}
use Rattle.std.proofs.lemmas.Result.{err_from_is_err_and}
use Rattle.std.specs.Vec.Iter.{into_iter_items}
use Rattle.aa_start.specs.Gathering.{texts_of}
use Rattle.aatry_test.specs.Below.{IsFileTested, TestsEach}
use Rattle.aatry_test.specs.SeenTests.{seen_tests}
use Rattle.aatry_test.proofs.BelowLemmas.{tests_all, tests_one_more}
use Rattle.aatry_test.proofs.below.test_each.Goals as goal

-- What the next path came to stands behind what was so far.
pub loop-path-preserved : goal.loop-path-preserved
loop-path-preserved g c =
    let known = g.D.FileSystem.known c.args.disk.now in
    let language = c.args.language in
    let files = c.args.files.now in
    let accept = c.args.accept in
    let path = string_bytes c.in-Some.path in
    let behind = map string_bytes (into_iter_items c.next.new.self) in
    let all = texts_of c.args.paths in
    let so_far = c.loop-path.invariant in
    let next : map string_bytes (into_iter_items c.loop-path.path-iterator) ≡ path ∷ behind = ap (map string_bytes) c.in-Some.ensures.steps.0 in
    let own = c.in_ok-test_at.ensures.told in
    let tested : IsFileTested language known files accept path own.0 = subst (λ a. IsFileTested language known files a path own.0) so_far.accept own.2 in
    record {
      stands = (
        so_far.stands.0 ++ path ∷ [],
        so_far.stands.1 ∙ ap (λ left. so_far.stands.0 ++ left) next ∙ sym (append_assoc so_far.stands.0 (path ∷ []) behind),
      );
      told = λ rest tests. tests_one_more language known files accept path behind all (seen_tests c.loop-path.tests) (seen_tests c.test_at.new.tests) own.0 rest own.1 tested
          (λ r t. so_far.told r (subst (λ ps. TestsEach language known files accept ps r) (sym next) t)) tests;
      few = omega (arith, so_far.few, c.in_ok-test_at.ensures.few, ap length c.in-Some.ensures.steps.0);
      accept = c.in_ok-test_at.ensures.accept ∙ so_far.accept;
    }

-- the transcript that can't be read stands behind those that were tested
pub returns-in_err-test_at-clause-fault : goal.returns-in_err-test_at-clause-fault
returns-in_err-test_at-clause-fault g c =
    let p = err_from_is_err_and c.from_residual.result c.from_residual.ensures.1 in
    let path = string_bytes c.in-Some.path in
    let behind = map string_bytes (into_iter_items c.next.new.self) in
    let so_far = c.loop-path.invariant.stands in
    rw (p.1, p.2) (
      so_far.0,
      path,
      behind,
      so_far.1 ∙ ap (λ items. so_far.0 ++ map string_bytes items) c.in-Some.ensures.steps.0,
      c.in_err-test_at.ensures.fault,
    )

pub returns-clause-told : goal.returns-clause-told
returns-clause-told g c =
    tests_all c.args.language (g.D.FileSystem.known c.args.disk.now) c.args.files.now c.args.accept (map string_bytes (into_iter_items c.loop-path.path-iterator)) (texts_of c.args.paths)
    (seen_tests c.loop-path.tests) (length-map (into_iter_items c.loop-path.path-iterator) string_bytes ∙ (search rules)) c.loop-path.invariant.told
