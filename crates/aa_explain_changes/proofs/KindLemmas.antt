-- The rules of both sides that match the path of an outcome are found by its places.
use Rattle.std.proofs.Common.{◌≡◌, ◌∙◌, ◌++◌, ◌||◌, ◌≤◌, ℕ, ◌+◌, ◌-◌, false, true, List, [], ◌∷◌, drop, take, map, refl, ap, append_assoc, arith, length, subst, sym}
use Rattle.std.proofs.lemmas.List.{take_all}
use Rattle.std.specs.List.{list_any}
use Rattle.std.specs.List.Sorted.{IsStrictlyIncreasing}
use Rattle.std.specs.Prelude.{slice_index_or}
use Rattle.aa_explain_changes.proofs.PlaceLemmas.{behind-rise, matching-behind}
use Rattle.aa_explain_changes.specs.FileChanges.{changes_so, changing_patterns}
use Rattle.aa_explain_changes.specs.Lone.{lone_patterns}
use Rattle.aa_explain_changes.specs.Sides.{Sides}
use Rattle.aa_explain_changes.specs.code.Kinds.{ArePlacesOf, AreSidePlaces, paths_of_kinds, places_behind}
use Rattle.aa_explain_changes.specs.declared.change.Change.{Change}
use Rattle.aa_explain_changes.specs.declared.kinds.Kind.{Kind}
use Rattle.aa_explain_changes.specs.declared.letters.Places.{Places}
use Rattle.aa_explain_paths.proofs.MatchedLemmas.{rules-found}
use Rattle.aa_explain_paths.specs.Meant.{unasked_patterns}
use Rattle.aa_glob_paths.specs.AllPaths.{IsOutcome}
use Rattle.aa_glob_paths.specs.Laws.{paths_of}
use Rattle.aa_glob_paths.specs.declared.outcome.Outcome.{Outcome}
use Rattle.aa_glob_syntax.specs.Patterns.{AreMatching}
use Rattle.aa_profile_data.specs.FileRules.{file_patterns, places_from}
use Rattle.aa_profile_data.specs.Matching.{AreMatchingRules}
use Rattle.aa_profile_data.specs.Picked.{picked}
use Rattle.aa_profile_data.specs.declared.profile.Rule.{Rule}

-- the places of the rules that match are picked by the places of the patterns
abbrev pub PatternsFind : Type 0
PatternsFind =
    (rules : List Rule) (path found : List ℕ) → AreMatching (file_patterns rules) path found → AreMatchingRules rules path (picked (places_from 0 rules) found)

-- and rise as those do
abbrev pub PicksRise : Type 0
PicksRise = (rules : List Rule) (found : List ℕ) → IsStrictlyIncreasing found → IsStrictlyIncreasing (picked (places_from 0 rules) found)

module _ (find : PatternsFind) (rise : PicksRise) (sides : Sides) (classes : List ℕ) (o : Outcome) (is : IsOutcome (changing_patterns sides) classes o) where
  abbrev before : List (List ℕ)
  before = file_patterns sides.old.rules

  abbrev now : List (List ℕ)
  now = file_patterns sides.new.rules

  abbrev behind : List (List ℕ)
  behind = lone_patterns sides ++ unasked_patterns

  matching : AreMatching (before ++ (now ++ behind)) o.path.items o.places.items
  matching =
      subst (λ l. AreMatching l o.path.items o.places.items)
      (append_assoc (before ++ now) (lone_patterns sides) unasked_patterns ∙ append_assoc before now behind) is.matching

  pub old-places : AreSidePlaces sides.old.rules o.path.items (picked (places_from 0 sides.old.rules) o.places.items)
  old-places = record {
    found = rules-found sides.old.rules (now ++ behind) o.path.items o.places.items (find sides.old.rules) matching;
    rise = rise sides.old.rules o.places.items (λ k within. is.rise k (k + 1) 0 (omega arith) within);
  }

  pub new-places : AreSidePlaces sides.new.rules o.path.items (picked (places_from 0 sides.new.rules) (places_behind (length before) o.places.items))
  new-places = record {
    found = rules-found sides.new.rules behind o.path.items (places_behind (length before) o.places.items) (find sides.new.rules)
        (matching-behind before (now ++ behind) o.path.items o.places.items matching);
    rise = rise sides.new.rules (places_behind (length before) o.places.items) (behind-rise (length before) o.places.items is.rise);
  }

-- such places, as they are held
pub held : (sides : Sides) (places : Places) (path old new : List ℕ) → AreSidePlaces sides.old.rules path old → AreSidePlaces sides.new.rules path new
    → places.path.now ≡ path → places.old.now ≡ old → places.new.now ≡ new → ArePlacesOf sides places
held sides places path old new is_old is_new same_path same_old same_new = record {
  old = subst (λ p. AreSidePlaces sides.old.rules p places.old.now) (sym same_path) (subst (AreSidePlaces sides.old.rules path) (sym same_old) is_old);
  new = subst (λ p. AreSidePlaces sides.new.rules p places.new.now) (sym same_path) (subst (AreSidePlaces sides.new.rules path) (sym same_new) is_new);
}

-- the paths of kinds, with one more of an outcome's path, and of the outcomes behind it
pub paths-then : (kinds : List Kind) (kind : Kind) (o : Outcome) (os : List Outcome) → kind.path.items ≡ o.path.items
    → paths_of_kinds (kinds ++ kind ∷ []) ++ paths_of os ≡ paths_of_kinds kinds ++ paths_of (o ∷ os)
paths-then [] kind o os same = ap (λ p. p ∷ paths_of os) same
paths-then (one ∷ kinds) kind o os same = ap (λ l. one.path.items ∷ l) (paths-then kinds kind o os same)

-- a list begins with its first element
pub split-first : {X : Type 0} (xs : List X) (x d : X) → 1 ≤ length xs → x ≡ slice_index_or xs 0 d → xs ≡ x ∷ take (length xs - 1) (drop 1 xs)
split-first [] x d some is = absurd (omega (arith, some))
split-first (y ∷ ys) x d some is = ap (λ z. z ∷ ys) (sym is) ∙ ap (λ l. x ∷ l) (sym (take_all (length (y ∷ ys) - 1) ys (omega arith)))

-- of kinds of which the first doesn't change so the others decide; and one that does decides
pub any-later : (sides : Sides) (change : Change) (kind : Kind) (kinds rest : List Kind) → kinds ≡ kind ∷ rest → changes_so sides change kind.path.items ≡ false
    → list_any (changes_so sides change) (paths_of_kinds rest) ≡ list_any (changes_so sides change) (paths_of_kinds kinds)
any-later sides change kind kinds rest split none =
    sym (ap (λ b. b || list_any (changes_so sides change) (paths_of_kinds rest)) none) ∙ ap (λ l. list_any (changes_so sides change) (paths_of_kinds l)) (sym split)

pub any-here : (sides : Sides) (change : Change) (kind : Kind) (kinds rest : List Kind) → kinds ≡ kind ∷ rest → changes_so sides change kind.path.items ≡ true
    → true ≡ list_any (changes_so sides change) (paths_of_kinds kinds)
any-here sides change kind kinds rest split some =
    sym (ap (λ b. b || list_any (changes_so sides change) (paths_of_kinds rest)) some) ∙ ap (λ l. list_any (changes_so sides change) (paths_of_kinds l)) (sym split)

-- a list, seen, with one more behind it and others behind that
pub map-then : {X Y : Type 0} (f : X → Y) (xs : List X) (x : X) (more : List Y) → map f (xs ++ x ∷ []) ++ more ≡ map f xs ++ f x ∷ more
map-then f [] x more = refl
map-then f (y ∷ xs) x more = ap (λ l. f y ∷ l) (map-then f xs x more)
