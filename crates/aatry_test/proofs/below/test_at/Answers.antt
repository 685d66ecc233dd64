use Rattle.std.proofs.Common.{◌≡◌, ◌∙◌, ◌++◌, ap, map, refl, string_bytes, subst}
use Rattle.aa_text_files.specs.Files.{bytes_at, name_at}
use Rattle.aatry_test.specs.Below.{came_with}
use Rattle.aatry_test.specs.SeenOutcomes.{seen_outcome}
use Rattle.aatry_test.specs.SeenTests.{seen_replacement}
use Rattle.aatry_test.specs.Tests.{IsTested, failed_of, replaced_of}
use Rattle.aatry_test.proofs.BelowLemmas.{came-is}
use Rattle.aatry_test.proofs.below.test_at.Goals as goal

-- The transcript is the file at the path, and what it came to stands behind what others came to.
pub returns-clause-told : goal.returns-clause-told
returns-clause-told g c =
    let path = string_bytes c.args.path in
    let language = c.args.language in
    let files = c.args.files.now in
    let accept = c.args.tests.now.accept in
    let found = c.in_ok-file.ensures.found in
    let tested = c.in_ok-outcome.ensures in
    let outcome = seen_outcome c.in_ok-outcome.outcome in
    let name : c.name_at.result.now ≡ path = c.name_at.ensures ∙ ap (λ fs. name_at fs 0) found.1 in
    let bytes : c.bytes_at.result.now ≡ found.0 = c.bytes_at.ensures ∙ ap (λ fs. bytes_at fs 0) found.1 in
    let own : string_bytes c.in_ok-own.own ≡ path = c.in_ok-own.ensures.ok ∙ c.as_str.ensures.value in (
      came_with tested.0 (failed_of outcome) (replaced_of path outcome),
      came-is (c.in_ok-count.ensures.text ∙ tested.1) c.in_ok-count.ensures.failed
          (c.in_ok-count.ensures.replaced ∙ ap (λ p. map seen_replacement c.args.tests.now.replacements.items ++ replaced_of p outcome) own),
      (
        found.0,
        outcome,
        (found.0, refl, found.2, found.3),
        subst (λ n. IsTested language files accept n found.0 outcome tested.0) name
            (subst (λ b. IsTested language files accept c.name_at.result.now b outcome tested.0) bytes tested.2),
        refl,
        refl,
      ),
    )
