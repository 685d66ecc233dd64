-- What a change of rules changes, of all paths.
use Rattle.std.specs.Prelude.{◌≡◌, ℕ, Bool, false, true, ◌||◌, ◌++◌, List, [], ◌∷◌, map, Decides, Option, None, Some, option_map}
use Rattle.std.specs.List.{list_any}
use Rattle.aa_explain_paths.specs.Meant.{may_be_asked, unasked_patterns}
use Rattle.aa_explain_paths.specs.Telling.{telling_among}
use Rattle.aa_glob_nfa.specs.Graphs.{AreBytes}
use Rattle.aa_glob_paths.specs.TooMany.{AreMoreTextsThan}
use Rattle.aa_profile_data.specs.FileRules.{file_patterns}
use Rattle.aa_explain_changes.specs.Changes.{changes_of, same_change}
use Rattle.aa_explain_changes.specs.Lone.{LoneRule, lone_patterns, new_lone, old_lone, seen_lone}
use Rattle.aa_explain_changes.specs.Rules.{FileChange, IsToldOf, seen_change}
use Rattle.aa_explain_changes.specs.Sides.{Sides}
use Rattle.aa_explain_changes.specs.declared.asking.FileChanges.{FileChanges}
use Rattle.aa_explain_changes.specs.declared.change.Change.{Change}
use Rattle.aa_explain_changes.specs.declared.change.Change.TheVariants.{Gained, Lost}
use Rattle.aa_explain_changes.specs.declared.rules.RuleChange.{RuleChange as CodeRuleChange}

-- a rule that only one side has, and the report on it
pub record RuleChange : Type 0 where
  pub lone : LoneRule
  pub told : Option FileChange

abbrev pub seen_rule_change : CodeRuleChange → RuleChange
seen_rule_change change = record { lone = seen_lone change.lone; told = option_map seen_change change.change }

-- these are the rules that only one side has, in their order, and the report on each is right
abbrev pub AreToldOf : Sides → List LoneRule → List RuleChange → Type 0
AreToldOf sides [] [] = Unit {0}
AreToldOf sides (lone ∷ more) (change ∷ changes) = (change.lone ≡ lone) × IsToldOf sides lone.rule change.told × AreToldOf sides more changes
AreToldOf sides [] (change ∷ changes) = ⊥
AreToldOf sides (lone ∷ more) [] = ⊥

-- the answer to one of some letters changes in this manner
abbrev pub has_change : Change → List (ℕ × Change) → Bool
has_change change letters = list_any (λ (letter : ℕ × Change). same_change change letter.1) letters

abbrev pub changes_so : Sides → Change → List ℕ → Bool
changes_so sides change path = has_change change (changes_of sides path false) || has_change change (changes_of sides path true)

-- on some path that the kernel may ask about, the answer to a letter changes in this manner
pub record IsChangeSo (sides : Sides) (change : Change) (path : List ℕ) : Type 0 where
  pub bytes : AreBytes path
  pub asked : may_be_asked path ≡ true
  pub changes : changes_so sides change path ≡ true

abbrev pub SomeChangeSo : Sides → Change → Type 0
SomeChangeSo sides change = (path : List ℕ) × IsChangeSo sides change path

-- The patterns by which paths are told apart: those of the rules of both sides, those that only one side has, and those of paths that the kernel
-- never asks about.
abbrev pub changing_patterns : Sides → List (List ℕ)
changing_patterns sides = telling_among (file_patterns sides.old.rules ++ file_patterns sides.new.rules) (lone_patterns sides) unasked_patterns

-- the report on two sides is right
pub record AreFileChanges (sides : Sides) (changes : FileChanges) : Type 0 where
  pub old : AreToldOf sides (old_lone sides) (map seen_rule_change changes.old.items)
  pub new : AreToldOf sides (new_lone sides) (map seen_rule_change changes.new.items)
  pub gained : Decides changes.gained (SomeChangeSo sides Gained)
  pub lost : Decides changes.lost (SomeChangeSo sides Lost)

-- The report on two sides is right; or there is none, and the patterns read more texts than the limit differently.
abbrev pub AreChangesOf : Sides → ℕ → Option FileChanges → Type 0
AreChangesOf sides limit None = AreMoreTextsThan (changing_patterns sides) limit
AreChangesOf sides limit (Some changes) = AreFileChanges sides changes
