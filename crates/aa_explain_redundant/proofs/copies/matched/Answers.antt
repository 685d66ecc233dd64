use Rattle.std.proofs.Common.{◌≡◌, ◌∙◌, length, subst, sym}
use Rattle.std.specs.List.Sorted.{IsStrictlyIncreasing}
use Rattle.aa_profile_data.specs.Matching.{AreMatchingRules}
use Rattle.aa_explain_redundant.proofs.CopyLemmas.{copies-match, places-rise}
use Rattle.aa_explain_redundant.specs.code.Copies.{places_to}
use Rattle.aa_explain_redundant.proofs.copies.matched.Goals as goal

pub returns-clause-matched : goal.returns-clause-matched
returns-clause-matched c =
    let copies = c.args.copies.now in
    let path = c.args.path.now in
    let places : c.deref-2.result.now ≡ places_to (length copies.rules.items) = c.deref-2.ensures.value ∙ c.requires.counted in
    let rules = c.deref.ensures.value in
    record {
      found = subst (λ r. AreMatchingRules r path c.deref-2.result.now) (sym rules)
          (subst (AreMatchingRules copies.rules.items path) (sym places) (copies-match path copies.rules.items c.requires.matching));
      rise = subst IsStrictlyIncreasing (sym places) (places-rise (length copies.rules.items));
    }
