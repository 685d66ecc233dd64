-- Which rules can change an answer, and what follows where nothing is reported.
use Rattle.std.specs.Prelude.{◌≡◌, ◌⊎◌, ℕ, ◌<◌, Bool, false, true, List, map, Contains, None}
use Rattle.std.specs.List.{All}
use Rattle.aa_decide_rules.specs.declared.verdict.Answer.TheVariants.{Allow}
use Rattle.aa_decide_rules.specs.Verdict.{verdict}
use Rattle.aa_decide_rules.specs.declared.judgement.Mediation.{Mediation}
use Rattle.aa_explain_paths.specs.Claims.{single_letters}
use Rattle.aa_explain_paths.specs.Meant.{may_be_asked}
use Rattle.aa_glob_nfa.specs.Graphs.{AreBytes}
use Rattle.aa_profile_data.specs.Access.{all_letters}
use Rattle.aa_profile_data.specs.Request.{ForFile}
use Rattle.aa_explain_changes.specs.Changes.{change_of, is_change}
use Rattle.aa_explain_changes.specs.FileChanges.{AreFileChanges, RuleChange, seen_rule_change}
use Rattle.aa_explain_changes.specs.Lone.{LoneRule, new_lone, old_lone}
use Rattle.aa_explain_changes.specs.Rules.{covers_letter, is_matched_by}
use Rattle.aa_explain_changes.specs.Sides.{Side, Sides, side_verdict}
use Rattle.aa_explain_changes.specs.declared.asking.FileChanges.{FileChanges}
use Rattle.aa_explain_changes.specs.declared.change.Change.TheVariants.{Same}

-- one of some rules covers letters of a file
abbrev pub SomeCovers : List LoneRule → List ℕ → Bool → ℕ → Type 0
SomeCovers rules path owned letters =
    (lone : LoneRule) × Contains rules lone × (covers_letter lone.rule (is_matched_by lone.rule path) owned letters ≡ true)

-- where an answer changes, a rule that only one side has covers some of the letters asked for
abbrev pub ChangedRulesDecide : Type 0
ChangedRulesDecide =
    (sides : Sides) (path : List ℕ) (owned : Bool) (letters : ℕ)
    → is_change (change_of sides path owned letters) ≡ true
    → SomeCovers (old_lone sides) path owned letters ⊎ SomeCovers (new_lone sides) path owned letters

-- nothing is reported on any of some rules
abbrev pub NothingIsTold : List RuleChange → Type 0
NothingIsTold changes = All (λ (change : RuleChange). change.told ≡ None) changes

-- where nothing is reported on a rule of either side, no answer to a letter changes, of no path that the kernel may ask about
abbrev pub NoChangeIsHidden : Type 0
NoChangeIsHidden =
    (sides : Sides) (changes : FileChanges) → AreFileChanges sides changes
    → NothingIsTold (map seen_rule_change changes.old.items) → NothingIsTold (map seen_rule_change changes.new.items)
    → (path : List ℕ) → AreBytes path → may_be_asked path ≡ true → (owned : Bool) (letter : ℕ) → Contains single_letters letter
    → change_of sides path owned letter ≡ Same

-- where none is reported to be lost, each letter that was allowed is allowed
abbrev pub NothingAllowedIsRefused : Type 0
NothingAllowedIsRefused =
    (sides : Sides) (changes : FileChanges) → AreFileChanges sides changes → changes.lost ≡ false
    → (path : List ℕ) → AreBytes path → may_be_asked path ≡ true → (owned : Bool) (letter : ℕ) → Contains single_letters letter
    → (side_verdict sides.old path owned letter).answer ≡ Allow → (side_verdict sides.new path owned letter).answer ≡ Allow

-- Two sides that give the same verdict on each letter by itself do so on any letters, in whatever mode.
abbrev pub LettersDecideSets : Type 0
LettersDecideSets =
    (old new : Side) (path : List ℕ) (owned : Bool)
    → ((letter : ℕ) → Contains single_letters letter → side_verdict old path owned letter ≡ side_verdict new path owned letter)
    → (mediation : Mediation) (letters : ℕ) → letters < all_letters
    → verdict mediation old.audit old.rules (ForFile letters owned path) ≡ verdict mediation new.audit new.rules (ForFile letters owned path)
