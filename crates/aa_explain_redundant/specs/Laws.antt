-- What follows where written rules are reported.
use Rattle.std.specs.Prelude.{◌≡◌, ℕ, ◌<◌, Bool, true, List}
use Rattle.aa_decide_rules.specs.Choices.{choice}
use Rattle.aa_decide_rules.specs.Verdict.{verdict}
use Rattle.aa_decide_rules.specs.declared.judgement.Mediation.{Mediation}
use Rattle.aa_explain_paths.specs.Meant.{may_be_asked}
use Rattle.aa_glob_nfa.specs.Graphs.{AreBytes}
use Rattle.aa_profile_data.specs.Access.{all_letters}
use Rattle.aa_profile_data.specs.Request.{ForFile}
use Rattle.aa_explain_redundant.specs.Left.{WrittenRules, left}
use Rattle.aa_explain_redundant.specs.Redundant.{AreToldOf}

-- any letters of a path are answered alike by all rules and by those that are left, in whatever mode, and so is its start
pub record IsSaidAlike (rules : WrittenRules) (told path : List ℕ) : Type 0 where
  pub letters : (mediation : Mediation) (owned : Bool) (letters : ℕ) → letters < all_letters
      → verdict mediation rules.audit rules.rules (ForFile letters owned path) ≡ verdict mediation rules.audit (left rules told) (ForFile letters owned path)
  pub starts : (owned : Bool) → choice rules.audit owned path rules.rules ≡ choice rules.audit owned path (left rules told)

abbrev pub RedundantRulesDecideNothing : Type 0
RedundantRulesDecideNothing =
    (rules : WrittenRules) (tried told : List ℕ) → AreToldOf rules tried told
    → (path : List ℕ) → AreBytes path → may_be_asked path ≡ true → IsSaidAlike rules told path
