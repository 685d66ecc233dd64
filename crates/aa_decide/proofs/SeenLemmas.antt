-- Answers of the code, as the definitions see them.
use Rattle.std.proofs.Common.{◌≡◌, ℕ, Bool, true, List, Option, None, Some, ap, refl, subst, ◌∙◌}
use Rattle.std.specs.Option.{option_map}
use Rattle.aa_profile_data.specs.ExecWords.{row}
use Rattle.aa_profile_data.specs.Stacks.{Stack}
use Rattle.aa_profile_data.specs.declared.exec_word.ExecWord.{ExecWord}
use Rattle.aa_profile_data.specs.declared.profile.Transition.{Transition}
use Rattle.aa_decide_rules.specs.declared.judgement.Mediation.{Mediation}
use Rattle.aa_decide_ready.specs.Entries.{Loaded}
use Rattle.aa_decide.specs.Exec.{Asker, Stacked, Started, are_in_force, base_of, carried_out, exec_verdict, led_by, missing, started, tag_if, to_stack}
use Rattle.aa_decide.specs.SeenExec.{IsAnswer, IsDestination, seen_to}
use Rattle.aa_decide_rules.specs.declared.exec_verdict.ExecTo.{ExecTo}
use Rattle.aa_decide_rules.specs.declared.exec_verdict.ExecVerdict.{ExecVerdict}
use Rattle.aa_decide_rules.specs.declared.verdict.Answer.TheVariants.{Allow}
use Rattle.aa_decide_rules.specs.declared.verdict.Tag.TheVariants.{Audit}

some-of : {A : Type 0} (one other : A) → Some one ≡ Some other → one ≡ other
some-of one other same = cc

-- the program runs where the definitions say
seen_started : (slots : List (Option Loaded)) (found : ExecVerdict) (audited scrub : Bool) (to : Started)
    → found.verdict ≡ exec_verdict Allow (tag_if audited Audit) → found.scrub ≡ scrub → seen_to slots found.to ≡ Some to → IsAnswer slots found (started audited to scrub)
seen_started slots found audited scrub to verdict same there = rw (verdict, same, there) refl

-- a transition is carried out as the definitions say, where it leads somewhere
pub seen_carried : (path : List ℕ) (entries : List Loaded) (asker : Asker) (mediation : Mediation) (transition : Transition) (audited : Bool) (slots : List (Option Loaded)) (to : ExecTo) (found : ExecVerdict)
    → IsDestination slots (Some to) (led_by path entries asker transition) → found.verdict ≡ exec_verdict Allow (tag_if audited Audit) → found.to ≡ to → found.scrub ≡ (row transition.word).scrubs
    → IsAnswer slots found (carried_out path entries asker mediation transition audited)
seen_carried path entries asker mediation transition audited slots to found there verdict place scrub = by (led_by path entries asker transition) there
  where
    by : (led : Option Started) → IsDestination slots (Some to) led
        → IsAnswer slots found (elim led [ None ↦ missing mediation | Some to ↦ started audited to (row transition.word).scrubs ])
    by None there = absurd (cc)
    by (Some led) there = seen_started slots found audited (row transition.word).scrubs led verdict scrub (ap (seen_to slots) place ∙ some-of (seen_to slots to) (Some led) there)

-- and where it leads nowhere, that is answered as they say
pub seen_nowhere : (path : List ℕ) (entries : List Loaded) (asker : Asker) (mediation : Mediation) (transition : Transition) (audited : Bool) (slots : List (Option Loaded)) (to : Option ExecTo) (found : ExecVerdict)
    → IsDestination slots to (led_by path entries asker transition) → to ≡ None → IsAnswer slots found (missing mediation)
    → IsAnswer slots found (carried_out path entries asker mediation transition audited)
seen_nowhere path entries asker mediation transition audited slots to found there none is =
    by (led_by path entries asker transition) (subst (λ to. IsDestination slots to (led_by path entries asker transition)) none there)
  where
    by : (led : Option Started) → IsDestination slots None led
        → IsAnswer slots found (elim led [ None ↦ missing mediation | Some to ↦ started audited to (row transition.word).scrubs ])
    by None there = is
    by (Some led) there = absurd (cc)

-- a stack on a base leads where its members are in force
pub seen_on_base : (path : List ℕ) (entries : List Loaded) (asker : Asker) (word : ExecWord) (stack : Stack) (slots : List (Option Loaded)) (to : Option ExecTo)
    → are_in_force stack.members entries ≡ true → stack.on_base ≡ true
    → IsDestination slots to (option_map (λ base. Stacked (Some base) stack.members) (base_of path entries asker (row word).destination (row word).fallback))
    → IsDestination slots to (to_stack path entries asker word stack)
seen_on_base path entries asker word stack slots to force on there = rw (force, on) there
