use Rattle.std.proofs.Common.{◌∙◌, ◌≡◌, ℕ, Bool, List, sym}
use Rattle.std.specs.Fn.{FnReturnsAt}
use Rattle.aa_text_expansion.specs.Missing.{has_missing}
use Rattle.aa_text_expansion.specs.Names.{Answers}
use Rattle.aa_text_expansion.specs.Parts.{parts}
use Rattle.aa_text_expansion.specs.code.TextParts.{parts_of}
use Rattle.aa_text_expansion.proofs.MissingLemmas.{missing-behind}
use Rattle.aa_text_expansion.proofs.missing.misses.Goals as goal

pub loop-part-preserved : goal.loop-part-preserved
loop-part-preserved g c =
    let behind : (test : List ℕ → Bool) → Answers (FnReturnsAt g.F.Fn c.args.missing.now) test → has_missing test c.in-Some.after.now ≡ has_missing test c.loop-part.rest.now =
    λ test answers. missing-behind test (parts_of c.in-Some.part) (parts c.in-Some.after.now) (parts c.loop-part.rest.now) c.in-Some.ensures.value (sym (c.is_missing.ensures test answers) ∙ c.if-is_missing.false) in
    λ test answers. behind test answers ∙ c.loop-part.invariant test answers
