-- Profiles and children that may attach to a path, and how well each fits it (docs/policy.md, "Attachment").
use Rattle.std.specs.Prelude.{ℕ, ◌+◌, ◌==◌, if◌then◌else◌, find, List, [], ◌∷◌, map, Option, None, Some}
use Rattle.aa_decide_rules.specs.Ranks.{best_rank, rank}
use Rattle.aa_decide_ready.specs.Entries.{Loaded, is_in_force}
use Rattle.aa_decide_ready.specs.Visits.{attachments_at}
use Rattle.aa_profile_data.specs.declared.profile.Child.{Child}
use Rattle.aa_explain.specs.declared.candidates.Candidate.{Candidate as CodeCandidate}

-- a loaded profile, or its child or hat at an index
pub record Candidate : Type 0 where
  pub entry : Loaded
  pub child : Option ℕ

-- a candidate of the code
abbrev pub seen_candidate : CodeCandidate → Candidate
seen_candidate candidate = record { entry = candidate.entry.now; child = candidate.child }

abbrev pub seen_candidates : List CodeCandidate → List Candidate
seen_candidates candidates = map seen_candidate candidates

-- each profile
abbrev pub profile_candidates : List Loaded → List Candidate
profile_candidates entries = map (λ entry. record { entry = entry; child = None }) entries

-- each child and hat of a profile, where the first has this index
abbrev pub children_from : Loaded → ℕ → List Child → List Candidate
children_from entry place [] = []
children_from entry place (child ∷ children) = record { entry = entry; child = Some place } ∷ children_from entry (place + 1) children

abbrev pub child_candidates : Loaded → List Candidate
child_candidates entry = children_from entry 0 entry.profile.children

-- the patterns by which a candidate may attach to a path: a disabled profile has none
abbrev pub patterns_of : Candidate → List (List ℕ)
patterns_of candidate = elim candidate.child [
  | None ↦ if is_in_force candidate.entry.state then candidate.entry.profile.attachments else []
  | Some place ↦ attachments_at candidate.entry.profile (Some place)
]

-- the candidate's rank on a path
abbrev pub rank_of : List ℕ → Candidate → ℕ
rank_of path candidate = best_rank path (patterns_of candidate)

-- the first of some patterns that has this rank
abbrev pub with_rank : ℕ → List ℕ → List (List ℕ) → Option (List ℕ)
with_rank best path patterns = find (λ pattern. rank path pattern == best) patterns

-- the first of the patterns that fit the path best, if one matches it
abbrev pub best_pattern : List ℕ → List (List ℕ) → Option (List ℕ)
best_pattern path patterns = if best_rank path patterns == 0 then None else with_rank (best_rank path patterns) path patterns
