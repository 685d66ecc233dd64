use Rattle.std.proofs.Common.{◌++◌, ◌∷◌, [], ◌∙◌, ap, sym}
use Rattle.aatry_report.specs.FilePlaces.{without_slashes}
use Rattle.aatry_report.proofs.SlashLemmas.{other_stays, slash_goes}
use Rattle.aatry_report.proofs.file_places.without_slashes.Goals as goal

pub returns-then-last-ne47 : goal.returns-then-last-ne47
returns-then-last-ne47 c =
    let is = c.in-Some.ensures.cases.0 in
    is ∙ sym (other_stays c.in-Some.front.now c.in-Some.last.now c.if-last-ne47.true) ∙ ap without_slashes (sym is) ∙ c.loop-last.invariant

pub loop-last-preserved : goal.loop-last-preserved
loop-last-preserved c =
    let is = c.in-Some.ensures.cases.0 in
    sym (slash_goes c.in-Some.front.now) ∙ ap (λ b. without_slashes (c.in-Some.front.now ++ b ∷ [])) (sym c.if-last-ne47.false)
    ∙ ap without_slashes (sym is) ∙ c.loop-last.invariant
