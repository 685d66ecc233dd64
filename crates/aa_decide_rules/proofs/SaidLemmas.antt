-- What the rules at the places of those that match a path say is what all rules say.
use Rattle.std.proofs.Common.{◌≡◌, ◌∙◌, ℕ, Bool, true, false, List, [], ◌∷◌, Option, None, Some, ap, sym, refl}
use Rattle.std.specs.Prelude.{slice_get}
use Rattle.std.specs.List.{filter}
use Rattle.aa_decide_rules.specs.ExecRules.{ExecRule, exec_rules, said_of}
use Rattle.aa_decide_rules.specs.code.OwnedRules.{owned_rules, said_at, said_by_picked, said_if_owned}
use Rattle.aa_profile_data.specs.declared.profile.Rule.{Rule}
use Rattle.aa_profile_data.specs.declared.profile.Rule.TheVariants.{Cap, File, Net, Other}
use Rattle.aa_profile_data.specs.Matching.{is_matching}
use Rattle.aa_profile_data.specs.Picked.{picked}

-- a rule that matches says what it says where the file is owned, and any other nothing
said-matching : (flag owned : Bool) (path : List ℕ) (rule : Rule) → is_matching path rule ≡ true → said_of flag owned path rule ≡ said_if_owned flag owned rule
said-matching flag owned path (File rule) m = rw m refl
said-matching flag owned path (Cap rule) m = absurd (cc)
said-matching flag owned path (Net rule) m = absurd (cc)
said-matching flag owned path (Other rule) m = absurd (cc)

said-unmatched : (flag owned : Bool) (path : List ℕ) (rule : Rule) → is_matching path rule ≡ false → said_of flag owned path rule ≡ None
said-unmatched flag owned path (File rule) m = rw m refl
said-unmatched flag owned path (Cap rule) m = refl
said-unmatched flag owned path (Net rule) m = refl
said-unmatched flag owned path (Other rule) m = refl

-- what a rule says, before what the others do
abbrev pub said-before : Option ExecRule → List ExecRule → List ExecRule
said-before None rules = rules
said-before (Some said) rules = said ∷ rules

owned-before : (flag owned : Bool) (rule : Rule) (rules : List Rule) → owned_rules flag owned (rule ∷ rules) ≡ said-before (said_if_owned flag owned rule) (owned_rules flag owned rules)
owned-before flag owned rule rules = by (said_if_owned flag owned rule)
  where
    by : (said : Option ExecRule) → elim said [ None ↦ owned_rules flag owned rules | Some said ↦ said ∷ owned_rules flag owned rules ] ≡ said-before said (owned_rules flag owned rules)
    by None = refl
    by (Some said) = refl

-- what a rule says of a path, before what the others do
pub exec-before : (flag owned : Bool) (path : List ℕ) (rule : Rule) (rules : List Rule)
    → said-before (said_of flag owned path rule) (exec_rules flag owned path rules) ≡ exec_rules flag owned path (rule ∷ rules)
exec-before flag owned path rule rules = by (said_of flag owned path rule)
  where
    by : (said : Option ExecRule) → said-before said (exec_rules flag owned path rules) ≡ elim said [ None ↦ exec_rules flag owned path rules | Some said ↦ said ∷ exec_rules flag owned path rules ]
    by None = refl
    by (Some said) = refl

owned-matching : (flag owned : Bool) (path : List ℕ) (rules : List Rule) → owned_rules flag owned (filter (is_matching path) rules) ≡ exec_rules flag owned path rules
owned-matching flag owned path [] = refl
owned-matching flag owned path (rule ∷ rules) = by (is_matching path rule) refl (owned-matching flag owned path rules)
  where
    by : (b : Bool) → is_matching path rule ≡ b → owned_rules flag owned (filter (is_matching path) rules) ≡ exec_rules flag owned path rules
        → owned_rules flag owned (filter (is_matching path) (rule ∷ rules)) ≡ exec_rules flag owned path (rule ∷ rules)
    by true e rest =
        rw e (owned-before flag owned rule (filter (is_matching path) rules)
        ∙ ap (said-before (said_if_owned flag owned rule)) rest
        ∙ ap (λ said. said-before said (exec_rules flag owned path rules)) (sym (said-matching flag owned path rule e))
        ∙ exec-before flag owned path rule rules)
    by false e rest =
        rw e (rest
        ∙ ap (λ said. said-before said (exec_rules flag owned path rules)) (sym (said-unmatched flag owned path rule e))
        ∙ exec-before flag owned path rule rules)

-- what the rules at some places say
picked-said : (flag owned : Bool) (rules : List Rule) (places : List ℕ) → said_by_picked flag owned rules places ≡ owned_rules flag owned (picked rules places)
picked-said flag owned rules [] = refl
picked-said flag owned rules (place ∷ places) = by (slice_get rules place) refl (picked-said flag owned rules places)
  where
    by : (found : Option Rule) → slice_get rules place ≡ found → said_by_picked flag owned rules places ≡ owned_rules flag owned (picked rules places)
        → said_by_picked flag owned rules (place ∷ places) ≡ owned_rules flag owned (picked rules (place ∷ places))
    by None e rest = rw (said_by_picked, said_at, picked, e) rest
    by (Some rule) e rest =
        rw (said_by_picked, said_at, picked, e)
        (before (said_if_owned flag owned rule) ∙ ap (said-before (said_if_owned flag owned rule)) rest ∙ sym (owned-before flag owned rule (picked rules places)))
      where
        before : (said : Option ExecRule)
            → elim said [ None ↦ said_by_picked flag owned rules places | Some said ↦ said ∷ said_by_picked flag owned rules places ]
            ≡ said-before said (said_by_picked flag owned rules places)
        before None = refl
        before (Some said) = refl

-- what the rules at these places say is what all say
pub picked-matching-said : (flag owned : Bool) (path : List ℕ) (rules : List Rule) (places : List ℕ) → picked rules places ≡ filter (is_matching path) rules
    → said_by_picked flag owned rules places ≡ exec_rules flag owned path rules
picked-matching-said flag owned path rules places found =
    picked-said flag owned rules places
    ∙ ap (owned_rules flag owned) found
    ∙ owned-matching flag owned path rules
