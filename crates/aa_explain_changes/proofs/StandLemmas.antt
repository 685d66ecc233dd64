-- What is told of paths that stand for all is right of all paths.
use Rattle.std.proofs.Common.{◌≡◌, ◌⊎◌, ℕ, zero, suc, ◌≤◌, ◌+◌, Bool, true, false, not, ◌&&◌, ◌||◌, ◌==◌, List, [], ◌∷◌, ◌++◌, length, length-append, map, refl, sym, ◌∙◌, ap, subst, inl, inr, arith, true≢false}
use Rattle.std.proofs.lemmas.Bool.{and_parts}
use Rattle.std.proofs.lemmas.List.Elements.{All-contains, Contains-get_or}
use Rattle.std.specs.List.{All, list_any}
use Rattle.std.specs.Prelude.{Contains, Decides, None, Option, Some, slice_get, slice_index_or}
use Rattle.aa_decide_rules.specs.Verdict.{covered_by_file}
use Rattle.aa_decide_rules.specs.declared.judgement.Mediation.TheVariants.{Enforcing}
use Rattle.aa_explain_paths.proofs.TellingLemmas.{among-telling, behind-at, file-at, matched-told, outcome-asked}
use Rattle.aa_explain_paths.proofs.VerdictLemmas.{verdicts-alike}
use Rattle.aa_explain_paths.specs.Claims.{single_letters}
use Rattle.aa_explain_paths.specs.Laws.{HavePatternsAmong}
use Rattle.aa_explain_paths.specs.Meant.{is_matched, may_be_asked, unasked_patterns}
use Rattle.aa_glob_nfa.proofs.ListLemmas.{Contains-cons_cases, Contains-first, Contains-later, Contains-map, Contains-map_cases}
use Rattle.aa_glob_nfa.specs.Graphs.{AreBytes}
use Rattle.aa_glob_paths.specs.AllPaths.{IsOutcome, TellAllPaths}
use Rattle.aa_glob_paths.specs.Laws.{AreMatchedAlike, OutcomesStandForAll, StandForAllPaths, paths_of}
use Rattle.aa_glob_paths.specs.declared.outcome.Outcome.{Outcome}
use Rattle.aa_glob_syntax.specs.Matching.{matches}
use Rattle.aa_glob_syntax.specs.Patterns.{IsPatternAt}
use Rattle.aa_glob_syntax.specs.Reading.{items_of}
use Rattle.aa_profile_data.specs.Access.{common}
use Rattle.aa_profile_data.specs.FileRules.{file_patterns}
use Rattle.aa_profile_data.specs.declared.profile.FileRule.{FileRule}
use Rattle.aa_profile_data.specs.declared.profile.Rule.{Rule}
use Rattle.aa_profile_data.specs.declared.profile.Rule.TheVariants.{File}
use Rattle.aa_explain_changes.specs.Changes.{change_between, change_of, changes_of, is_change, same_change}
use Rattle.aa_explain_changes.specs.FileChanges.{AreFileChanges, AreToldOf, SomeChangeSo, changes_so, changing_patterns, has_change}
use Rattle.aa_explain_changes.specs.Laws.{ChangedRulesDecide}
use Rattle.aa_explain_changes.specs.Lone.{LoneRule, all_count, lone_patterns, new_lone, old_lone, patterns_of}
use Rattle.aa_explain_changes.specs.Rules.{FileChange, IsChange, IsToldOf, changes_at, changes_by, covers_letter, is_matched_by, told_at}
use Rattle.aa_explain_changes.specs.Sides.{Sides}
use Rattle.aa_explain_changes.specs.code.Kinds.{AreLoneOf, AreToldBy, IsLoneOf, changing_classes, first_told, paths_of_kinds, told_of}
use Rattle.aa_explain_changes.specs.declared.kinds.Kind.{Kind}
use Rattle.aa_explain_changes.specs.declared.asking.FileChanges.{FileChanges}
use Rattle.aa_explain_changes.specs.declared.change.Change.{Change}
use Rattle.aa_explain_changes.specs.declared.change.Change.TheVariants.{Gained, Lost, Otherwise, Same}
use Rattle.aa_explain_changes.proofs.FirstLemmas.{first-among, first-shortest, none-changes}
use Rattle.aa_explain_changes.proofs.LoneLemmas.{at-there, exists, lone-at, there}

not-true : (b : Bool) → not b ≡ true → b ≡ false
not-true false h = refl
not-true true h = absurd cc

-- patterns among the first of two lists, or among the second, are among both
front-at : (ps qs : List (List ℕ)) (place : ℕ) (p : List ℕ) → slice_get ps place ≡ Some p → slice_get (ps ++ qs) place ≡ Some p
front-at [] qs place p at = absurd cc
front-at (one ∷ ps) qs zero p at = at
front-at (one ∷ ps) qs (suc place) p at = front-at ps qs place p at

front-among : (rules : List Rule) (ps qs : List (List ℕ)) → HavePatternsAmong rules ps → HavePatternsAmong rules (ps ++ qs)
front-among rules ps qs among rule at = let found = among rule at in (found.0, front-at ps qs found.0 rule.pattern found.1)

behind-among : (rules : List Rule) (ps qs : List (List ℕ)) → HavePatternsAmong rules qs → HavePatternsAmong rules (ps ++ qs)
behind-among rules ps qs among rule at = let found = among rule at in (length ps + found.0, behind-at ps qs found.0 ∙ found.1)

-- a rule takes part in no change on a path that its pattern doesn't match
none-by : (rule : FileRule) (owned : Bool) (letters : List (ℕ × Change)) → changes_by rule false owned letters ≡ false
none-by rule owned [] = refl
none-by rule owned (letter ∷ letters) = none-by rule owned letters

module _ (sides : Sides) where
  abbrev files : List (List ℕ)
  files = file_patterns sides.old.rules ++ file_patterns sides.new.rules

  abbrev all : List (List ℕ)
  all = changing_patterns sides

  abbrev classes : List ℕ
  classes = changing_classes sides

  old-among : HavePatternsAmong sides.old.rules all
  old-among =
      among-telling sides.old.rules files (lone_patterns sides) unasked_patterns
      (front-among sides.old.rules (file_patterns sides.old.rules) (file_patterns sides.new.rules) (file-at sides.old.rules))

  new-among : HavePatternsAmong sides.new.rules all
  new-among =
      among-telling sides.new.rules files (lone_patterns sides) unasked_patterns
      (behind-among sides.new.rules (file_patterns sides.old.rules) (file_patterns sides.new.rules) (file-at sides.new.rules))

  -- a rule that one side alone has
  abbrev IsLone : LoneRule → Type 0
  IsLone l = Contains (old_lone sides) l ⊎ Contains (new_lone sides) l

  -- its pattern is among them all
  lone-among : (l : LoneRule) → IsLone l → (place : ℕ) × IsPatternAt all place l.rule.pattern
  lone-among l lone = elim lone [
    | inl at ↦ old-among l.rule (at-there sides.old.rules l.number (File l.rule) (lone-at (all_count sides) sides.new.rules sides.old.rules l at))
    | inr at ↦ new-among l.rule (at-there sides.new.rules l.number (File l.rule) (lone-at (all_count sides) sides.old.rules sides.new.rules l at))
  ]

  -- and among those that are wanted
  lone-wanted : (l : LoneRule) → IsLone l → (path : List ℕ) → is_matched_by l.rule path ≡ true → is_matched (lone_patterns sides) path ≡ true
  lone-wanted l lone path matched =
      there (λ pattern. matches (items_of pattern) path) (lone_patterns sides) l.rule.pattern (elim lone [
        | inl at ↦ first-part (patterns_of (old_lone sides)) (patterns_of (new_lone sides)) l.rule.pattern (Contains-map (λ (l : LoneRule). l.rule.pattern) (old_lone sides) l at)
        | inr at ↦ last-part (patterns_of (old_lone sides)) (patterns_of (new_lone sides)) l.rule.pattern (Contains-map (λ (l : LoneRule). l.rule.pattern) (new_lone sides) l at)
      ]) matched
    where
      first-part : (ps qs : List (List ℕ)) (p : List ℕ) → Contains ps p → Contains (ps ++ qs) p
      first-part [] qs p at = absurd (omega (arith, at.1))
      first-part (one ∷ ps) qs p at = elim (Contains-cons_cases one ps p at) [
        | inl same ↦ subst (Contains (one ∷ (ps ++ qs))) same (Contains-first one (ps ++ qs))
        | inr more ↦ Contains-later one (ps ++ qs) p (first-part ps qs p more)
      ]

      last-part : (ps qs : List (List ℕ)) (p : List ℕ) → Contains qs p → Contains (ps ++ qs) p
      last-part [] qs p at = at
      last-part (one ∷ ps) qs p at = Contains-later one (ps ++ qs) p (last-part ps qs p at)

  module _ (path other : List ℕ) (alike : AreMatchedAlike all path other) where
    -- on paths that the same patterns match answers change alike
    change-alike : (owned : Bool) (letters : ℕ) → change_of sides path owned letters ≡ change_of sides other owned letters
    change-alike owned letters =
        let old = verdicts-alike all sides.old.rules path other old-among alike Enforcing sides.old.audit letters owned in
        let new = verdicts-alike all sides.new.rules path other new-among alike Enforcing sides.new.audit letters owned in
        λ i. change_between sides.quiet (old i) (new i)

    letters-alike : (owned : Bool) → changes_of sides path owned ≡ changes_of sides other owned
    letters-alike owned = λ i. map (λ letter. (letter, change-alike owned letter i)) single_letters

    so-alike : (change : Change) → changes_so sides change path ≡ changes_so sides change other
    so-alike change = λ i. has_change change (letters-alike false i) || has_change change (letters-alike true i)

    lone-alike : (l : LoneRule) → IsLone l → changes_at sides l.rule path ≡ changes_at sides l.rule other
    lone-alike l lone =
        let at = lone-among l lone in
        let matched : is_matched_by l.rule path ≡ is_matched_by l.rule other = alike at.0 l.rule.pattern at.1 in
        λ i. changes_by l.rule (matched i) false (letters-alike false i) || changes_by l.rule (matched i) true (letters-alike true i)

  -- a change of an answer so is one
  one-so : (change : Change) → is_change change ≡ true → (path : List ℕ) (owned : Bool) → has_change change (changes_of sides path owned) ≡ true
      → (letter : ℕ) × (is_change (change_of sides path owned letter) ≡ true)
  one-so change is path owned some =
      let found = exists (λ (letter : ℕ × Change). same_change change letter.1) (changes_of sides path owned) some in
      let letter = Contains-map_cases (λ letter. (letter, change_of sides path owned letter)) single_letters found.0 found.1 in
      let same : change_of sides path owned letter.0 ≡ found.0.1 = ap (λ (l : ℕ × Change). l.1) letter.2 in
      (letter.0, ap is_change same ∙ sym (as-one change found.0.1 found.2) ∙ is)
    where
      as-one : (one other : Change) → same_change one other ≡ true → is_change one ≡ is_change other
      as-one Same Same h = refl
      as-one Gained Gained h = refl
      as-one Lost Lost h = refl
      as-one Otherwise Otherwise h = refl
      as-one Same Gained h = absurd cc
      as-one Same Lost h = absurd cc
      as-one Same Otherwise h = absurd cc
      as-one Gained Same h = absurd cc
      as-one Gained Lost h = absurd cc
      as-one Gained Otherwise h = absurd cc
      as-one Lost Same h = absurd cc
      as-one Lost Gained h = absurd cc
      as-one Lost Otherwise h = absurd cc
      as-one Otherwise Same h = absurd cc
      as-one Otherwise Gained h = absurd cc
      as-one Otherwise Lost h = absurd cc

  -- so a pattern matches the path of a rule that one side alone has
  lone-matched : ChangedRulesDecide → (path : List ℕ) (owned : Bool) (letter : ℕ) → is_change (change_of sides path owned letter) ≡ true
      → (l : LoneRule) × IsLone l × (is_matched_by l.rule path ≡ true)
  lone-matched law path owned letter changes = elim (law sides path owned letter changes) [
    | inl found ↦ (found.0, inl found.1, matched-by found.0 found.2)
    | inr found ↦ (found.0, inr found.1, matched-by found.0 found.2)
  ]
    where
      matched-by : (l : LoneRule) → covers_letter l.rule (is_matched_by l.rule path) owned letter ≡ true → is_matched_by l.rule path ≡ true
      matched-by l covers_it =
          let both = and_parts (is_matched_by l.rule path && (not l.rule.owner || owned)) (not (common letter (covered_by_file l.rule) == 0)) covers_it in
          (and_parts (is_matched_by l.rule path) (not l.rule.owner || owned) both.0).0

  -- a rule takes part in a change on paths that its pattern matches alone
  change-matched : (rule : FileRule) (path : List ℕ) → changes_at sides rule path ≡ true → is_matched_by rule path ≡ true
  change-matched rule path changes = by (is_matched_by rule path) refl
    where
      by : (b : Bool) → is_matched_by rule path ≡ b → b ≡ true
      by true is = refl
      by false is =
          let none : changes_at sides rule path ≡ false =
          ap (λ b. changes_by rule b false (changes_of sides path false) || changes_by rule b true (changes_of sides path true)) is
          ∙ ap (λ b. b || changes_by rule false true (changes_of sides path true)) (none-by rule false (changes_of sides path false))
          ∙ none-by rule true (changes_of sides path true) in
          absurd (true≢false (sym changes ∙ none))

  module _ (outcomes : List Outcome) (told : TellAllPaths all classes outcomes) (stand : StandForAllPaths all classes (paths_of outcomes)) where
    -- a path that the kernel may ask about and that the pattern of such a rule matches has an outcome that stands for it
    standing : (l : LoneRule) → IsLone l → (path : List ℕ) → AreBytes path → may_be_asked path ≡ true → is_matched_by l.rule path ≡ true
        → (o : Outcome) × Contains outcomes o × AreMatchedAlike all path o.path.items × (length o.path.items ≤ length path)
    standing l lone path bytes asked matched =
        let wanted = lone-wanted l lone path matched in
        let found = stand path bytes (matched-told files (lone_patterns sides) unasked_patterns path wanted (not-true (is_matched unasked_patterns path) asked)) in
        let o = Contains-map_cases (λ (o : Outcome). o.path.items) outcomes found.0 found.1 in
        (o.0, o.1, subst (AreMatchedAlike all path) (sym o.2) found.2.alike, subst (λ p. length p ≤ length path) (sym o.2) found.2.no_longer)

    outcome-bytes : (o : Outcome) → Contains outcomes o → AreBytes o.path.items
    outcome-bytes o at = (All-contains (IsOutcome all classes) outcomes o told.each_outcome at).bytes

    outcome-may : (o : Outcome) → Contains outcomes o → may_be_asked o.path.items ≡ true
    outcome-may o at = ap not (outcome-asked files (lone_patterns sides) unasked_patterns o (All-contains (IsOutcome all classes) outcomes o told.each_outcome at))

    lone-told : (l : LoneRule) → IsLone l → IsToldOf sides l.rule (first_told sides l.rule (paths_of outcomes))
    lone-told l lone = by (first_told sides l.rule (paths_of outcomes)) refl
      where
        of : (path : List ℕ) → IsChange sides l.rule path
            → (o : Outcome) × Contains outcomes o × (changes_at sides l.rule o.path.items ≡ true) × (length o.path.items ≤ length path)
        of path change =
            let found = standing l lone path change.bytes change.asked (change-matched l.rule path change.changes) in
            (found.0, found.1, sym (lone-alike path found.0.path.items found.2 l lone) ∙ change.changes, found.3)

        by : (first : Option FileChange) → first_told sides l.rule (paths_of outcomes) ≡ first → IsToldOf sides l.rule first
        by None is = λ path change.
            let found = of path change in
            true≢false (sym found.2 ∙ none-changes sides l.rule outcomes is found.0 found.1)
        by (Some change) is =
            let first = first-among sides l.rule outcomes change is in
            let same : change.path ≡ first.0.path.items = ap (λ (c : FileChange). c.path) first.2 in (
              record {
                change = subst (IsChange sides l.rule) (sym same) (record {
                  bytes = outcome-bytes first.0 first.1;
                  asked = outcome-may first.0 first.1;
                  changes = first.3;
                });
                shortest = λ other says.
                    let found = of other says in
                    let least = first-shortest sides l.rule outcomes change told.by_length is found.0 found.1 found.2 in
                    omega (arith, least, found.3);
              },
              first.2 ∙ ap (told_at sides l.rule) (sym same),
            )

    each-told : (ls : List LoneRule) → ((l : LoneRule) → Contains ls l → IsLone l) → AreToldOf sides ls (map (told_of sides (paths_of outcomes)) ls)
    each-told [] lone = tt
    each-told (l ∷ ls) lone = (refl, lone-told l (lone l (Contains-first l ls)), each-told ls (λ other at. lone other (Contains-later l ls other at)))

    so-decides : ChangedRulesDecide → (change : Change) → is_change change ≡ true → Decides (list_any (changes_so sides change) (paths_of outcomes)) (SomeChangeSo sides change)
    so-decides law change is = (
      (λ some.
          let found = exists (changes_so sides change) (paths_of outcomes) some in
          let o = Contains-map_cases (λ (o : Outcome). o.path.items) outcomes found.0 found.1 in (
            found.0,
            record {
              bytes = subst AreBytes o.2 (outcome-bytes o.0 o.1);
              asked = ap may_be_asked (sym o.2) ∙ outcome-may o.0 o.1;
              changes = found.2;
            },
          )),
      (λ some.
          let owned = either some.0 some.1.changes in
          let letter = one-so change is some.0 owned.0 owned.1 in
          let l = lone-matched law some.0 owned.0 letter.0 letter.1 in
          let found = standing l.0 l.1 some.0 some.1.bytes some.1.asked l.2 in
          there (changes_so sides change) (paths_of outcomes) found.0.path.items (Contains-map (λ (o : Outcome). o.path.items) outcomes found.0 found.1)
          (sym (so-alike some.0 found.0.path.items found.2 change) ∙ some.1.changes)),
    )
      where
        either : (path : List ℕ) → changes_so sides change path ≡ true → (owned : Bool) × (has_change change (changes_of sides path owned) ≡ true)
        either path some = by (has_change change (changes_of sides path false)) refl some
          where
            by : (b : Bool) → has_change change (changes_of sides path false) ≡ b → (b || has_change change (changes_of sides path true)) ≡ true
                → (owned : Bool) × (has_change change (changes_of sides path owned) ≡ true)
            by true is some = (false, is)
            by false is some = (true, some)

    pub right-by : ChangedRulesDecide → (changes : FileChanges) → AreToldBy sides (paths_of outcomes) (old_lone sides) (new_lone sides) changes → AreFileChanges sides changes
    right-by law changes by = record {
      old = subst (AreToldOf sides (old_lone sides)) (sym by.old) (each-told (old_lone sides) (λ l at. inl at));
      new = subst (AreToldOf sides (new_lone sides)) (sym by.new) (each-told (new_lone sides) (λ l at. inr at));
      gained = subst (λ b. Decides b (SomeChangeSo sides Gained)) (sym by.gained) (so-decides law Gained refl);
      lost = subst (λ b. Decides b (SomeChangeSo sides Lost)) (sym by.lost) (so-decides law Lost refl);
    }

  -- what is told by paths that stand for all
  pub standing-right : OutcomesStandForAll → ChangedRulesDecide → (outcomes : List Outcome) → TellAllPaths all classes outcomes
      → (changes : FileChanges) → AreToldBy sides (paths_of outcomes) (old_lone sides) (new_lone sides) changes → AreFileChanges sides changes
  standing-right stand law outcomes told changes by = right-by outcomes told (stand all classes outcomes told) law changes by

  -- what is told where no rule stands on one side alone
  pub nothing-right : ChangedRulesDecide → lone_patterns sides ≡ [] → (changes : FileChanges) → AreToldBy sides [] (old_lone sides) (new_lone sides) changes → AreFileChanges sides changes
  nothing-right law none changes tells = record {
    old = subst (AreToldOf sides (old_lone sides)) (sym tells.old) (of (old_lone sides) (λ l at. no-lone l (inl at)));
    new = subst (AreToldOf sides (new_lone sides)) (sym tells.new) (of (new_lone sides) (λ l at. no-lone l (inr at)));
    gained = subst (λ b. Decides b (SomeChangeSo sides Gained)) (sym tells.gained) (no-so Gained refl);
    lost = subst (λ b. Decides b (SomeChangeSo sides Lost)) (sym tells.lost) (no-so Lost refl);
  }
    where
      no-lone : (l : LoneRule) → IsLone l → ⊥
      no-lone l lone = elim lone [
        | inl at ↦ empty (patterns_of (old_lone sides)) (patterns_of (new_lone sides)) none l.rule.pattern (inl (Contains-map (λ (l : LoneRule). l.rule.pattern) (old_lone sides) l at))
        | inr at ↦ empty (patterns_of (old_lone sides)) (patterns_of (new_lone sides)) none l.rule.pattern (inr (Contains-map (λ (l : LoneRule). l.rule.pattern) (new_lone sides) l at))
      ]
        where
          empty : (ps qs : List (List ℕ)) → ps ++ qs ≡ [] → (p : List ℕ) → Contains ps p ⊎ Contains qs p → ⊥
          empty ps qs is p at =
              let long : length ps + length qs ≡ 0 = sym (length-append ps qs) ∙ ap length is in
              elim at [ inl first ↦ omega (arith, first.1, long) | inr last ↦ omega (arith, last.1, long) ]

      of : (ls : List LoneRule) → ((l : LoneRule) → Contains ls l → ⊥) → AreToldOf sides ls (map (told_of sides []) ls)
      of [] nobody = tt
      of (l ∷ ls) nobody = absurd (nobody l (Contains-first l ls))

      no-so : (change : Change) → is_change change ≡ true → Decides false (SomeChangeSo sides change)
      no-so change is = (
        (λ some. absurd cc),
        (λ some. absurd (by-owned some.0 some.1.changes)),
      )
        where
          by-owned : (path : List ℕ) → changes_so sides change path ≡ true → ⊥
          by-owned path some = by (has_change change (changes_of sides path false)) refl some
            where
              impossible : (owned : Bool) → has_change change (changes_of sides path owned) ≡ true → ⊥
              impossible owned some =
                  let letter = one-so change is path owned some in
                  let l = lone-matched law path owned letter.0 letter.1 in
                  no-lone l.0 l.1

              by : (b : Bool) → has_change change (changes_of sides path false) ≡ b → (b || has_change change (changes_of sides path true)) ≡ true → ⊥
              by true is some = impossible false is
              by false is some = impossible true some

-- each rule that one side alone has stands at its number
all-there : {X : Type 0} (P : X → Type 0) (xs : List X) → ((x : X) → Contains xs x → P x) → All P xs
all-there P xs each = λ k d within. each (slice_index_or xs k d) (Contains-get_or xs k d within)

old-stand : (sides : Sides) → AreLoneOf sides true (old_lone sides)
old-stand sides = all-there (IsLoneOf sides true) (old_lone sides) (λ l at. lone-at (all_count sides) sides.new.rules sides.old.rules l at)

new-stand : (sides : Sides) → AreLoneOf sides false (new_lone sides)
new-stand sides = all-there (IsLoneOf sides false) (new_lone sides) (λ l at. lone-at (all_count sides) sides.old.rules sides.new.rules l at)

-- the rules of each side that the other lacks stand there at their numbers, as the code holds them, too
pub old-held : (sides : Sides) (before : List LoneRule) → before ≡ old_lone sides → AreLoneOf sides true before
old-held sides before same = subst (AreLoneOf sides true) (sym same) (old-stand sides)

pub new-held : (sides : Sides) (now : List LoneRule) → now ≡ new_lone sides → AreLoneOf sides false now
new-held sides now same = subst (AreLoneOf sides false) (sym same) (new-stand sides)

module _ (law : ChangedRulesDecide) (sides : Sides) (before now : List LoneRule) (old : before ≡ old_lone sides) (new : now ≡ new_lone sides)
    (kinds : List Kind) (changes : FileChanges) (tells : AreToldBy sides (paths_of_kinds kinds) before now changes) where
  told-here : AreToldBy sides (paths_of_kinds kinds) (old_lone sides) (new_lone sides) changes
  told-here =
      subst (λ n. AreToldBy sides (paths_of_kinds kinds) (old_lone sides) n changes) new
      (subst (λ b. AreToldBy sides (paths_of_kinds kinds) b now changes) old tells)

  -- by kinds of paths that stand for all it is right
  pub told-standing : OutcomesStandForAll → (outcomes : List Outcome) → TellAllPaths (changing_patterns sides) (changing_classes sides) outcomes
      → paths_of_kinds kinds ≡ paths_of outcomes → AreFileChanges sides changes
  told-standing stand outcomes told same =
      standing-right sides stand law outcomes told changes (subst (λ p. AreToldBy sides p (old_lone sides) (new_lone sides) changes) same told-here)

  -- and by none, where no rule stands on one side alone
  pub told-empty : kinds ≡ [] → lone_patterns sides ≡ [] → AreFileChanges sides changes
  told-empty none empty =
      nothing-right sides law empty changes
      (subst (λ p. AreToldBy sides p (old_lone sides) (new_lone sides) changes) (ap paths_of_kinds none) told-here)

-- a list without elements
pub none-in : {X : Type 0} (xs : List X) → length xs ≡ 0 → xs ≡ []
none-in [] none = refl
none-in (x ∷ xs) none = absurd (omega (arith, none))
