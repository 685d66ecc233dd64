-- Rules that conflict (docs/policy.md, "Rules that conflict"): two allow rules of one profile or child lead a program to different profiles, with
-- one rank, and some path matches both.
use Rattle.std.specs.Prelude.{◌≡◌, ℕ, suc, Bool, true, false, not, ◌&&◌, if◌then◌else◌, List, [], ◌∷◌, ◌++◌, Option, None, Some, is_none}
use Rattle.std.specs.List.{list_all, list_any}
use Rattle.std.specs.Option.{option_map}
use Rattle.std.specs.Str.{bytes_eq}
use Rattle.aa_glob_pattern.specs.Shared.{overlaps}
use Rattle.aa_glob_syntax.specs.Overlap.{Overlap}
use Rattle.aa_profile_data.specs.ExecWords.{same_word}
use Rattle.aa_profile_data.specs.declared.profile.Child.{Child}
use Rattle.aa_profile_data.specs.Ranks.{same_rank}
use Rattle.aa_profile_data.specs.declared.profile.Profile.{Profile}
use Rattle.aa_profile_data.specs.declared.profile.Rank.{Rank}
use Rattle.aa_profile_data.specs.declared.profile.Rule.{Rule}
use Rattle.aa_profile_data.specs.declared.profile.Rule.TheVariants.{Cap, File, Net, Other}
use Rattle.aa_profile_data.specs.declared.profile.Transition.{Transition}

-- two transitions name the same target, or neither names one
abbrev pub same_target : Option (List ℕ) → Option (List ℕ) → Bool
same_target None None = true
same_target (Some one) (Some other) = bytes_eq one other
same_target None (Some other) = false
same_target (Some one) None = false

-- two transitions have the same exec word and target
abbrev pub same_transition : Transition → Transition → Bool
same_transition one other = same_word one.word other.word && same_target one.target other.target

-- Where a rule leads the programs whose paths its pattern matches: by which pattern, with which rank, and under which profile they then run.
pub record Lead : Type 0 where
  pub pattern : List ℕ
  pub rank : Rank
  pub transition : Transition

-- the lead of a rule: only an allow rule on files with an exec word has one
abbrev pub lead_of : Rule → Option Lead
lead_of (File rule) =
    if rule.deny
    then None
    else option_map (λ transition. record { pattern = rule.pattern; rank = rule.rank; transition = transition }) rule.exec
lead_of (Cap rule) = None
lead_of (Net rule) = None
lead_of (Other rule) = None

-- two leads have one rank and different transitions, and some path matches both
abbrev pub lead_apart : Lead → Lead → Bool
lead_apart one other =
    same_rank one.rank other.rank && (not (same_transition one.transition other.transition) && overlaps one.pattern other.pattern)

-- two rules conflict
abbrev pub conflict : Rule → Rule → Bool
conflict one other = elim (lead_of one) [
  | None ↦ false
  | Some here ↦ elim (lead_of other) [ None ↦ false | Some there ↦ lead_apart here there ]
]

-- two rules conflict, as a relation
pub record Conflict (one other : Rule) : Type 0 where
  pub here : Lead
  pub there : Lead
  pub leads_here : lead_of one ≡ Some here
  pub leads_there : lead_of other ≡ Some there
  pub alike : here.rank ≡ there.rank
  pub differ : here.transition ≡ there.transition → ⊥
  pub overlap : Overlap here.pattern there.pattern

-- The place of the first of some rules that conflicts with one before it. Others come before all of them.
abbrev pub first_conflict : List Rule → List Rule → Option ℕ
first_conflict before [] = None
first_conflict before (rule ∷ rules) = if list_any (conflict rule) before then Some 0 else option_map suc (first_conflict (before ++ rule ∷ []) rules)

-- no two of some rules conflict
abbrev pub agree : List Rule → Bool
agree rules = is_none (first_conflict [] rules)

-- no two rules of a child or a hat conflict
abbrev pub child_agrees : Child → Bool
child_agrees child = agree child.rules

-- no two rules of a profile, or of one of its children and hats, conflict
abbrev pub profile_agrees : Profile → Bool
profile_agrees profile = agree profile.rules && list_all child_agrees profile.children
