-- The copies of a kind's rules, and what they say.
use Rattle.std.proofs.Common.{◌≡◌, ℕ, suc, ◌+◌, Bool, true, false, ◌&&◌, ◌||◌, if◌then◌else◌, nat_eq, true≢false, arith, List, [], ◌∷◌, ◌++◌, map, refl, sym, ◌∙◌, ap, subst}
use Rattle.std.proofs.lemmas.List.Elements.{Contains-get_or}
use Rattle.std.specs.List.{All, filter, list_any}
use Rattle.std.specs.Prelude.{Some, slice_get, slice_index_or}
use Rattle.aa_glob_paths.specs.Laws.{paths_of}
use Rattle.aa_glob_paths.specs.declared.outcome.Outcome.{Outcome}
use Rattle.aa_profile_data.specs.Matching.{AreMatchingRules, is_matching}
use Rattle.aa_profile_data.specs.declared.profile.Rule.{Rule}
use Rattle.aa_explain_redundant.proofs.LeftLemmas.{among-there, filter-there, matching-left, there-among}
use Rattle.aa_explain_redundant.specs.Left.{Numbered, left_of, matching, rules_among, speaks}
use Rattle.aa_explain_redundant.specs.Seen.{seen_numbered}
use Rattle.aa_explain_redundant.specs.code.Comparing.{answers_change}
use Rattle.aa_explain_redundant.specs.code.Copies.{AreCounted, ArePathCopies}
use Rattle.aa_explain_redundant.specs.code.Kinds.{IsKind, changes_on, paths_of_kinds, side_of, some_change, standing_at}
use Rattle.aa_explain_redundant.specs.declared.copies.Copies.{Copies}
use Rattle.aa_explain_redundant.specs.declared.kinds.Kind.{Kind}

-- what is left of rules that match a path matches it
left-match : (path gone : List ℕ) (rules : List Numbered) → All (λ rule. is_matching path rule ≡ true) (left_of gone (matching path rules))
left-match path gone rules =
    subst (All (λ rule. is_matching path rule ≡ true)) (sym (matching-left gone path rules))
    (λ k d within.
    (filter-there (is_matching path) (left_of gone rules) (slice_index_or (filter (is_matching path) (left_of gone rules)) k d)
    (Contains-get_or (filter (is_matching path) (left_of gone rules)) k d within)).1)

module _ (rules : List Numbered) (kind : Kind) (is : IsKind rules kind) where
  pub all-copies : (path : List ℕ) → path ≡ kind.path.items → ArePathCopies path kind.all
  all-copies path same = subst (λ p. ArePathCopies p kind.all) (sym same) (record {
    matching = subst (All (λ rule. is_matching kind.path.items rule ≡ true)) (sym is.all) (left-match kind.path.items [] rules);
    counted = is.counted;
  })

  pub left-copies : (path gone : List ℕ) (left : Copies) → path ≡ kind.path.items → left.rules.items ≡ left_of gone (map seen_numbered kind.rules.items) → AreCounted left
      → ArePathCopies path left
  left-copies path gone left same found counted = subst (λ p. ArePathCopies p left) (sym same) (record {
    matching = subst (All (λ rule. is_matching kind.path.items rule ≡ true)) (sym (found ∙ ap (left_of gone) is.found)) (left-match kind.path.items gone rules);
    counted = counted;
  })

  -- where none of them is of a written rule, nothing changes with it
  pub unspoken-there : (audit : Bool) (gone : List ℕ) (number : ℕ) → speaks number (map seen_numbered kind.rules.items) ≡ false
      → false ≡ changes_on audit rules gone number kind.path.items
  unspoken-there audit gone number none =
      let path = kind.path.items in
      ap (λ b. b && answers_change (side_of audit [] (matching path rules)) (side_of audit gone (matching path rules)) path) (sym none ∙ ap (speaks number) is.found)

  -- where one is, the copies decide
  pub copies-say : (audit : Bool) (gone : List ℕ) (number : ℕ) (all left : List Rule) (path : List ℕ) (changes : Bool)
      → speaks number (map seen_numbered kind.rules.items) ≡ true
      → all ≡ kind.all.rules.items → left ≡ left_of gone (map seen_numbered kind.rules.items) → path ≡ kind.path.items
      → changes ≡ answers_change (record { audit = audit; rules = all }) (record { audit = audit; rules = left }) path
      → changes ≡ changes_on audit rules gone number kind.path.items
  copies-say audit gone number all left path changes some same_all same_left same_path told =
      let own = kind.path.items in
      told
      ∙ (λ i. answers_change (record { audit = audit; rules = (same_all ∙ is.all) i }) (record { audit = audit; rules = (same_left ∙ ap (left_of gone) is.found) i }) (same_path i))
      ∙ ap (λ b. b && answers_change (side_of audit [] (matching own rules)) (side_of audit gone (matching own rules)) own) (sym some ∙ ap (speaks number) is.found)

-- the paths of kinds, with one more of an outcome's path, and of the outcomes behind it
pub paths-then : (kinds : List Kind) (kind : Kind) (o : Outcome) (os : List Outcome) → kind.path.items ≡ o.path.items
    → paths_of_kinds (kinds ++ kind ∷ []) ++ paths_of os ≡ paths_of_kinds kinds ++ paths_of (o ∷ os)
paths-then [] kind o os same = ap (λ p. p ∷ paths_of os) same
paths-then (one ∷ kinds) kind o os same = ap (λ l. one.path.items ∷ l) (paths-then kinds kind o os same)

-- of kinds on the first of which nothing changes the others decide; and one on which something does decides
module _ (audit : Bool) (rules : List Numbered) (gone : List ℕ) (number : ℕ) (kind : Kind) (kinds rest : List Kind) (split : kinds ≡ kind ∷ rest) where
  pub any-later : false ≡ changes_on audit rules gone number kind.path.items
      → some_change audit rules (paths_of_kinds rest) gone number ≡ some_change audit rules (paths_of_kinds kinds) gone number
  any-later none =
      ap (λ b. b || some_change audit rules (paths_of_kinds rest) gone number) none
      ∙ ap (λ l. some_change audit rules (paths_of_kinds l) gone number) (sym split)

  pub any-here : true ≡ changes_on audit rules gone number kind.path.items → true ≡ some_change audit rules (paths_of_kinds kinds) gone number
  any-here some =
      ap (λ b. b || some_change audit rules (paths_of_kinds rest) gone number) some
      ∙ ap (λ l. some_change audit rules (paths_of_kinds l) gone number) (sym split)

-- the rules that stand at the places of those that match are those that match
module _ (path places : List ℕ) where
  standing-matching : (rules : List Numbered) (first : ℕ)
      → ((place : ℕ) (rule : Rule) → slice_get (rules_among rules) place ≡ Some rule → list_any (λ p. nat_eq p (first + place)) places ≡ is_matching path rule)
      → standing_at places first rules ≡ matching path rules
  standing-matching [] first each = refl
  standing-matching (one ∷ rules) first each =
      let plain : first + 0 ≡ first = omega arith in
      let here : list_any (λ p. nat_eq p first) places ≡ is_matching path one.rule =
      ap (λ n. list_any (λ p. nat_eq p n) places) (sym plain) ∙ each 0 one.rule refl in
      let later = standing-matching rules (first + 1) (λ place rule at.
      let moved : (first + 1) + place ≡ first + suc place = omega arith in
      ap (λ n. list_any (λ p. nat_eq p n) places) moved ∙ each (suc place) rule at) in
      λ i. if here i then one ∷ later i else later i

  -- a place is among those exactly where the rule there matches
  place-matching : (rules : List Rule) → AreMatchingRules rules path places → (place : ℕ) (rule : Rule) → slice_get rules place ≡ Some rule
      → list_any (λ p. nat_eq p place) places ≡ is_matching path rule
  place-matching rules are place rule at = by (list_any (λ p. nat_eq p place) places) (is_matching path rule) refl refl
    where
      by : (there match : Bool) → list_any (λ p. nat_eq p place) places ≡ there → is_matching path rule ≡ match → there ≡ match
      by true true is matched = refl
      by false false is matched = refl
      by false true is matched = absurd (true≢false (sym (there-among places place ((are place).1 (rule, at, matched))) ∙ is))
      by true false is matched =
          let found = (are place).0 (among-there places place is) in
          let same : found.0 ≡ rule = some-same found.0 rule (sym found.1 ∙ at) in
          absurd (true≢false (sym found.2 ∙ ap (is_matching path) same ∙ matched))
        where
          some-same : (one other : Rule) → Some one ≡ Some other → one ≡ other
          some-same one other is = cc

  pub standing-all : (rules : List Numbered) → AreMatchingRules (rules_among rules) path places → standing_at places 0 rules ≡ matching path rules
  standing-all rules are = standing-matching rules 0 (λ place rule at.
      let plain : 0 + place ≡ place = omega arith in
      ap (λ n. list_any (λ p. nat_eq p n) places) plain ∙ place-matching (rules_among rules) are place rule at)
