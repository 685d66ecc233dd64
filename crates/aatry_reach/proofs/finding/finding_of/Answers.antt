use Rattle.std.proofs.Common.{◌≡◌, ℕ, List, Option, Some, refl, subst, sym}
use Rattle.aa_decide.specs.Exec.{Asker}
use Rattle.aa_decide_ready.specs.Entries.{Loaded}
use Rattle.aa_explain_reach.specs.declared.reach.Reach.{Reach}
use Rattle.aatry_reach.specs.Finding.{IsFindingOf, IsReachOf}
use Rattle.aatry_reach.specs.declared.finding.Finding.TheVariants.{Reached}
use Rattle.aatry_reach.proofs.finding.finding_of.Goals as goal

found : (slots : List (Option Loaded)) (limit : ℕ) (who : Option (Option Asker)) (own : Option Asker) (reach : Reach) → who ≡ Some own
    → IsReachOf slots limit own reach → IsFindingOf slots limit who (Reached reach)
found slots limit who own reach is right = subst (λ w. IsFindingOf slots limit w (Reached reach)) (sym is) (reach, refl, right)

pub returns-in_ok-reach-in-Some : goal.returns-in_ok-reach-in-Some
returns-in_ok-reach-in-Some c =
    found c.args.slots.now c.args.limit _ _ c.in_ok-reach-in-Some.reach (sym c.in-Some.ensures.asker)
    (record { reached = c.in_ok-reach-in-Some.ensures.reached; all = c.in_ok-reach-in-Some.ensures.left })
