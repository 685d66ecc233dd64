-- Kinds of paths, as the code holds them: paths that the same rules match.
use Rattle.std.specs.Prelude.{◌≡◌, ℕ, ◌-◌, Bool, false, true, if◌then◌else◌, List, [], ◌∷◌, ◌++◌, map, nat_lt, slice_get, Option, None, Some}
use Rattle.std.specs.List.{All, list_any}
use Rattle.std.specs.List.Sorted.{IsStrictlyIncreasing}
use Rattle.aa_explain_paths.specs.Meant.{unasked_patterns}
use Rattle.aa_explain_paths.specs.Telling.{classes_among}
use Rattle.aa_profile_data.specs.Access.{APPEND, EXEC, LINK, LOCK, MAP, READ, WRITE}
use Rattle.aa_profile_data.specs.FileRules.{file_patterns}
use Rattle.aa_profile_data.specs.Matching.{AreMatchingRules}
use Rattle.aa_profile_data.specs.declared.profile.FileRule.{FileRule}
use Rattle.aa_profile_data.specs.declared.profile.Rule.{Rule}
use Rattle.aa_profile_data.specs.declared.profile.Rule.TheVariants.{File}
use Rattle.aa_explain_changes.specs.Changes.{changes_of}
use Rattle.aa_explain_changes.specs.FileChanges.{RuleChange, changes_so, seen_rule_change}
use Rattle.aa_explain_changes.specs.Lone.{LoneRule, lone_patterns}
use Rattle.aa_explain_changes.specs.Rules.{FileChange, changes_at, told_at}
use Rattle.aa_explain_changes.specs.Sides.{Sides}
use Rattle.aa_explain_changes.specs.declared.asking.FileChanges.{FileChanges}
use Rattle.aa_explain_changes.specs.declared.change.Change.{Change}
use Rattle.aa_explain_changes.specs.declared.change.Change.TheVariants.{Gained, Lost}
use Rattle.aa_explain_changes.specs.declared.kinds.Kind.{Kind}
use Rattle.aa_explain_changes.specs.declared.letters.LetterChanges.{LetterChanges}
use Rattle.aa_explain_changes.specs.declared.letters.Places.{Places}

-- the letters with their changes
abbrev pub letter_list : LetterChanges → List (ℕ × Change)
letter_list c =
    (READ, c.read) ∷ (WRITE, c.write) ∷ (APPEND, c.append) ∷ (LINK, c.link) ∷ (LOCK, c.lock) ∷ (MAP, c.map) ∷ (EXEC, c.exec) ∷ []

-- these are the indexes of the rules of a side that match a path, in rising order
pub record AreSidePlaces (rules : List Rule) (path places : List ℕ) : Type 0 where
  pub found : AreMatchingRules rules path places
  pub rise : IsStrictlyIncreasing places

-- these are the indexes of the rules of both sides that match a path
pub record ArePlacesOf (sides : Sides) (places : Places) : Type 0 where
  pub old : AreSidePlaces sides.old.rules places.path.now places.old.now
  pub new : AreSidePlaces sides.new.rules places.path.now places.new.now

-- a kind is one of two sides
pub record IsKind (sides : Sides) (kind : Kind) : Type 0 where
  pub old : AreSidePlaces sides.old.rules kind.path.items kind.old.items
  pub new : AreSidePlaces sides.new.rules kind.path.items kind.new.items
  pub others : letter_list kind.others ≡ changes_of sides kind.path.items false
  pub owned : letter_list kind.owned ≡ changes_of sides kind.path.items true

abbrev pub paths_of_kinds : List Kind → List (List ℕ)
paths_of_kinds kinds = map (λ (k : Kind). k.path.items) kinds

-- those of some indexes that are past a count, counted from there
abbrev pub places_behind : ℕ → List ℕ → List ℕ
places_behind count [] = []
places_behind count (place ∷ places) = if nat_lt place count then places_behind count places else (place - count) ∷ places_behind count places

-- the report on a path, if answers change on it that a rule takes part in
abbrev pub told_if : Sides → FileRule → List ℕ → Option FileChange
told_if sides rule path = if changes_at sides rule path then Some (told_at sides rule path) else None

-- the report on the first of some paths on which such answers change
abbrev pub first_told : Sides → FileRule → List (List ℕ) → Option FileChange
first_told sides rule [] = None
first_told sides rule (path ∷ paths) = if changes_at sides rule path then Some (told_at sides rule path) else first_told sides rule paths

-- the rules of a side
abbrev pub rules_of : Sides → Bool → List Rule
rules_of sides is_old = if is_old then sides.old.rules else sides.new.rules

-- a rule of a side has its number there
abbrev pub IsLoneOf : Sides → Bool → LoneRule → Type 0
IsLoneOf sides is_old lone = slice_get (rules_of sides is_old) lone.number ≡ Some (File lone.rule)

abbrev pub AreLoneOf : Sides → Bool → List LoneRule → Type 0
AreLoneOf sides is_old lone = All (IsLoneOf sides is_old) lone

-- the report on a rule by these paths
abbrev pub told_of : Sides → List (List ℕ) → LoneRule → RuleChange
told_of sides paths lone = record { lone = lone; told = first_told sides lone.rule paths }

-- the reports on rules of both sides by these paths
pub record AreToldBy (sides : Sides) (paths : List (List ℕ)) (before now : List LoneRule) (changes : FileChanges) : Type 0 where
  pub old : map seen_rule_change changes.old.items ≡ map (told_of sides paths) before
  pub new : map seen_rule_change changes.new.items ≡ map (told_of sides paths) now
  pub gained : changes.gained ≡ list_any (changes_so sides Gained) paths
  pub lost : changes.lost ≡ list_any (changes_so sides Lost) paths

-- the classes of the patterns by which paths are told apart
abbrev pub changing_classes : Sides → List ℕ
changing_classes sides = classes_among (file_patterns sides.old.rules ++ file_patterns sides.new.rules) (lone_patterns sides) unasked_patterns
