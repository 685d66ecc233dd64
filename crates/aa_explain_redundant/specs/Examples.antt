-- An example of what a written rule matches: a shortest path, and the rules that stay and cover something there that it
-- covers.
use Rattle.std.specs.Prelude.{◌≡◌, ℕ, ◌≤◌, ◌+◌, ◌-◌, Bool, true, not, ◌&&◌, ◌==◌, if◌then◌else◌, List, [], ◌∷◌, ◌++◌, fold, length, Option, None, Some}
use Rattle.aa_decide_rules.specs.Verdict.{covers}
use Rattle.aa_explain_paths.specs.Meant.{is_meant, unasked_patterns}
use Rattle.aa_explain_paths.specs.Telling.{telling_among}
use Rattle.aa_glob_nfa.specs.Graphs.{AreBytes}
use Rattle.aa_glob_paths.specs.TooMany.{AreMoreTextsThan}
use Rattle.aa_profile_data.specs.Access.{all_letters, common, union}
use Rattle.aa_profile_data.specs.Request.{ForFile}
use Rattle.aa_profile_data.specs.Matching.{is_matching}
use Rattle.aa_profile_data.specs.declared.profile.Rule.{Rule}
use Rattle.aa_explain_redundant.specs.Left.{Numbered, WrittenRules, is_made_of, numbered, stays}
use Rattle.aa_explain_redundant.specs.Trying.{tried_patterns}
use Rattle.aa_explain_redundant.specs.declared.example.Overlap.{Overlap as CodeOverlap}
use Rattle.aa_explain_redundant.specs.declared.example.Example.{Example as CodeExample}
use Rattle.aa_explain_redundant.specs.declared.example.Example.TheVariants.{MatchesNothing, Overlaps}

-- a path that the kernel may ask about, and that one of some patterns matches
pub record IsPathOf (patterns : List (List ℕ)) (path : List ℕ) : Type 0 where
  pub bytes : AreBytes path
  pub meant : is_meant patterns path ≡ true

-- none of these paths is shorter
pub record IsShortestPathOf (patterns : List (List ℕ)) (path : List ℕ) : Type 0 where
  pub one : IsPathOf patterns path
  pub shortest : (other : List ℕ) → IsPathOf patterns other → length path ≤ length other

-- the patterns of a written rule: those of its rules on files
abbrev pub own_patterns : List Numbered → ℕ → List (List ℕ)
own_patterns rules number = tried_patterns (number ∷ []) rules

-- the letters that a rule covers of the file of a path, of all that can be asked for, where the task's user owns it
abbrev pub covered_at : List ℕ → Rule → ℕ
covered_at path rule = covers (ForFile (all_letters - 1) true path) rule

-- the letters that the rules on files of a written rule cover of the file of a path
abbrev pub with_own : List ℕ → ℕ → ℕ → Numbered → ℕ
with_own path number set one = if is_made_of (number ∷ []) one then union set (covered_at path one.rule) else set

abbrev pub covered_by_own : List ℕ → ℕ → List Numbered → ℕ
covered_by_own path number rules = fold (with_own path number) 0 rules

-- a rule stays, and covers some of these letters
abbrev pub is_beside : List ℕ → List ℕ → ℕ → Numbered → Bool
is_beside path gone letters one = stays gone one && not (common letters (covered_at path one.rule) == 0)

-- the indexes of those rules that stay and cover some of these letters, among rules of which the first has this index
abbrev pub place_beside : List ℕ → List ℕ → ℕ → ℕ → Numbered → List ℕ
place_beside path gone letters place one = if is_beside path gone letters one then place ∷ [] else []

abbrev pub places_beside : List ℕ → List ℕ → ℕ → ℕ → List Numbered → List ℕ
places_beside path gone letters place [] = []
places_beside path gone letters place (one ∷ rules) = place_beside path gone letters place one ++ places_beside path gone letters (place + 1) rules

-- the index of the first rule on files of a written rule that matches a path, where the first of some rules has this index; where there is none, the
-- index past the last
abbrev pub is_own : List ℕ → ℕ → Numbered → Bool
is_own path number one = is_made_of (number ∷ []) one && is_matching path one.rule

abbrev pub own_place : List ℕ → ℕ → ℕ → List Numbered → ℕ
own_place path number place [] = place
own_place path number place (one ∷ rules) = if is_own path number one then place else own_place path number (place + 1) rules

-- A path, the index of the first rule of a written rule that matches it, and the indexes of the rules that stay and cover something there that the
-- written rule covers, in rising order.
pub record Overlap : Type 0 where
  pub path : List ℕ
  pub rule : ℕ
  pub beside : List ℕ

abbrev pub overlap_on : List Numbered → List ℕ → ℕ → List ℕ → Overlap
overlap_on rules gone number path = record {
  path = path;
  rule = own_place path number 0 rules;
  beside = places_beside path gone (covered_by_own path number rules) 0 rules;
}

abbrev pub seen_overlap : CodeOverlap → Overlap
seen_overlap overlap = record { path = overlap.path.items; rule = overlap.rule; beside = overlap.beside.items }

abbrev pub seen_example : CodeExample → Option Overlap
seen_example MatchesNothing = None
seen_example (Overlaps overlap) = Some (seen_overlap overlap)

-- The report on a written rule, where some are gone, this rule among them: a shortest path that it matches, with the rules that stay and cover
-- something there that it covers; or that it matches no path that the kernel may ask about.
abbrev pub IsExampleOf : WrittenRules → List ℕ → ℕ → Option Overlap → Type 0
IsExampleOf rules gone number None = (path : List ℕ) → IsPathOf (own_patterns (numbered rules) number) path → ⊥
IsExampleOf rules gone number (Some overlap) =
    IsShortestPathOf (own_patterns (numbered rules) number) overlap.path × (overlap ≡ overlap_on (numbered rules) gone number overlap.path)

-- the patterns by which the paths of a written rule are found: its own, and those of paths that the kernel never asks about
abbrev pub example_patterns : WrittenRules → ℕ → List (List ℕ)
example_patterns rules number = telling_among [] (own_patterns (numbered rules) number) unasked_patterns

-- The report is right; or there is none, and these patterns read more texts than the limit differently.
abbrev pub IsExampleWithin : WrittenRules → List ℕ → ℕ → ℕ → Option CodeExample → Type 0
IsExampleWithin rules gone number limit None = AreMoreTextsThan (example_patterns rules number) limit
IsExampleWithin rules gone number limit (Some example) = IsExampleOf rules gone number (seen_example example)
