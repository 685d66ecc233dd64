-- Kinds of paths, as the code holds them, and which written rules are reported by them.
use Rattle.std.specs.Prelude.{◌≡◌, ℕ, ◌+◌, Bool, ◌&&◌, if◌then◌else◌, List, [], ◌∷◌, ◌++◌, fold, map, nat_eq}
use Rattle.std.specs.List.{list_any}
use Rattle.aa_explain_paths.specs.Meant.{unasked_patterns}
use Rattle.aa_explain_paths.specs.Telling.{all_classes, telling_patterns}
use Rattle.aa_explain_changes.specs.Sides.{Side}
use Rattle.aa_glob_paths.specs.AllPaths.{IsOutcome}
use Rattle.aa_glob_paths.specs.declared.outcome.Outcome.{Outcome}
use Rattle.aa_profile_data.specs.declared.profile.Rule.{Rule}
use Rattle.aa_explain_redundant.specs.Left.{Numbered, WrittenRules, can_be_told, left_of, matching, numbered, speaks}
use Rattle.aa_explain_redundant.specs.Seen.{seen_numbered}
use Rattle.aa_explain_redundant.specs.Trying.{tried_patterns}
use Rattle.aa_explain_redundant.specs.code.Comparing.{answers_change}
use Rattle.aa_explain_redundant.specs.code.Copies.{AreCounted}
use Rattle.aa_explain_redundant.specs.declared.kinds.Kind.{Kind}

-- an outcome of the patterns of rules on files, followed by other patterns
pub record IsOutcomeOf (rules : List Rule) (own : Outcome) : Type 0 where
  pub patterns : List (List ℕ)
  pub unasked : List (List ℕ)
  pub classes : List ℕ
  pub outcome : IsOutcome (telling_patterns rules patterns unasked) classes own

-- those of some rules that are at these indexes, of which the first has this one
abbrev pub standing_at : List ℕ → ℕ → List Numbered → List Numbered
standing_at places place [] = []
standing_at places place (one ∷ rules) = if list_any (λ p. nat_eq p place) places then one ∷ standing_at places (place + 1) rules else standing_at places (place + 1) rules

-- a kind of some rules
pub record IsKind (rules : List Numbered) (kind : Kind) : Type 0 where
  pub found : map seen_numbered kind.rules.items ≡ matching kind.path.items rules
  pub all : kind.all.rules.items ≡ left_of [] (matching kind.path.items rules)
  pub counted : AreCounted kind.all

abbrev pub paths_of_kinds : List Kind → List (List ℕ)
paths_of_kinds kinds = map (λ (kind : Kind). kind.path.items) kinds

-- the rules that are left of some, as a side
abbrev pub side_of : Bool → List ℕ → List Numbered → Side
side_of audit gone rules = record { audit = audit; rules = left_of gone rules }

-- of some rules that match a path one is of a written rule, and without these the verdict on the path differs
abbrev pub changes_there : Bool → List ℕ → ℕ → List ℕ → List Numbered → Bool
changes_there audit gone number path rules = speaks number rules && answers_change (side_of audit [] rules) (side_of audit gone rules) path

abbrev pub changes_on : Bool → List Numbered → List ℕ → ℕ → List ℕ → Bool
changes_on audit rules gone number path = changes_there audit gone number path (matching path rules)

-- the verdict on one of some paths differs
abbrev pub some_change : Bool → List Numbered → List (List ℕ) → List ℕ → ℕ → Bool
some_change audit rules paths gone number = list_any (changes_on audit rules gone number) paths

-- the reported rules, with this written rule added, unless the verdict on one of some paths differs
abbrev pub told_unless : Bool → List Numbered → List (List ℕ) → List ℕ → ℕ → List ℕ
told_unless audit rules paths told number = if some_change audit rules paths (told ++ number ∷ []) number then told else told ++ number ∷ []

-- the reported rules, with this written rule added if it can be reported, unless the verdict on one of some paths differs
abbrev pub told_with : Bool → List Numbered → List (List ℕ) → List ℕ → ℕ → List ℕ
told_with audit rules paths told number = if can_be_told rules told number then told_unless audit rules paths told number else told

-- the written rules that some paths report
abbrev pub told_by : Bool → List Numbered → List (List ℕ) → List ℕ → List ℕ
told_by audit rules paths tried = fold (told_with audit rules paths) [] tried

-- the classes of the patterns by which paths are told apart
abbrev pub trying_classes : WrittenRules → List ℕ → List ℕ
trying_classes rules tried = all_classes rules.rules (tried_patterns tried (numbered rules)) unasked_patterns
