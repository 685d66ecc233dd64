-- What is told by paths that stand for all is right of all paths.
use Rattle.std.proofs.Common.{◌≡◌, ℕ, Bool, true, false, not, ◌&&◌, if◌then◌else◌, List, [], ◌∷◌, ◌++◌, fold, refl, sym, ◌∙◌, ap, subst, inl, inr, arith, true≢false}
use Rattle.std.proofs.lemmas.Bool.{and_parts}
use Rattle.std.proofs.lemmas.List.Elements.{All-contains}
use Rattle.std.specs.List.{All, filter}
use Rattle.std.specs.Prelude.{Contains}
use Rattle.aa_decide_rules.specs.declared.judgement.Mediation.TheVariants.{Enforcing}
use Rattle.aa_explain_changes.proofs.LoneLemmas.{exists}
use Rattle.aa_explain_changes.specs.Sides.{Side}
use Rattle.aa_explain_paths.proofs.TellingLemmas.{at-matched, file-at, files-among, matched-told, outcome-asked}
use Rattle.aa_explain_paths.proofs.VerdictLemmas.{verdicts-alike}
use Rattle.aa_explain_paths.specs.Laws.{HavePatternsAmong}
use Rattle.aa_explain_paths.specs.Meant.{is_matched, may_be_asked, unasked_patterns}
use Rattle.aa_glob_nfa.proofs.ListLemmas.{Contains-cons_cases, Contains-first, Contains-later, Contains-map, Contains-map_cases}
use Rattle.aa_glob_nfa.specs.Graphs.{AreBytes}
use Rattle.aa_glob_paths.specs.AllPaths.{IsOutcome, TellAllPaths}
use Rattle.aa_glob_paths.specs.Laws.{AreMatchedAlike, OutcomesStandForAll, StandForAllPaths, paths_of}
use Rattle.aa_glob_paths.specs.declared.outcome.Outcome.{Outcome}
use Rattle.aa_profile_data.specs.FileRules.{file_patterns}
use Rattle.aa_profile_data.specs.Matching.{is_matching}
use Rattle.aa_profile_data.specs.declared.profile.Rule.{Rule}
use Rattle.aa_profile_data.specs.declared.profile.Rule.TheVariants.{Cap, File, Net, Other}
use Rattle.aa_explain_redundant.proofs.LeftLemmas.{filter-there, left-none, left-there, made-none, made-part, made-there, matching-left, none-any, rules-numbered, same-left, unspoken}
use Rattle.aa_explain_redundant.proofs.PathLemmas.{MatchAlike, choice-alike}
use Rattle.aa_explain_redundant.proofs.SameLemmas.{change-matching, otherwise-from, same-from, same-none}
use Rattle.aa_explain_redundant.specs.Left.{Numbered, WrittenRules, can_be_told, is_made_of, left, left_of, matching, numbered, rules_among, speaks}
use Rattle.aa_explain_redundant.specs.Redundant.{AnswersChange, AnswersStay, AreToldBehind, AreToldOf, IsNotToldNext, IsToldNext, SayTheSame, side_left, whole_side}
use Rattle.aa_explain_redundant.specs.Trying.{tried_patterns, trying_patterns}
use Rattle.aa_explain_redundant.specs.code.Comparing.{answers_change}
use Rattle.aa_explain_redundant.specs.code.Kinds.{IsOutcomeOf, changes_on, side_of, some_change, told_by, told_unless, told_with, trying_classes}

not-true : (b : Bool) → not b ≡ true → b ≡ false
not-true false h = refl
not-true true h = absurd cc

-- each number of one list is in another
abbrev Within : List ℕ → List ℕ → Type 0
Within part whole = (number : ℕ) → Contains part number → Contains whole number

within-first : (number : ℕ) (more whole : List ℕ) → Within (number ∷ more) whole → Contains whole number
within-first number more whole within = within number (Contains-first number more)

within-behind : (number : ℕ) (more whole : List ℕ) → Within (number ∷ more) whole → Within more whole
within-behind number more whole within other at = within other (Contains-later number more other at)

within-then : (part whole : List ℕ) (number : ℕ) → Within part whole → Contains whole number → Within (part ++ number ∷ []) whole
within-then [] whole number within there other at = elim (Contains-cons_cases number [] other at) [
  | inl same ↦ subst (Contains whole) same there
  | inr more ↦ absurd (omega (arith, more.1))
]
within-then (first ∷ part) whole number within there other at = elim (Contains-cons_cases first (part ++ number ∷ []) other at) [
  | inl same ↦ subst (Contains whole) same (within-first first part whole within)
  | inr more ↦ within-then part whole number (within-behind first part whole within) there other more
]

-- two sides that say the same as one
same-both : (one other third : Side) (path : List ℕ) → SayTheSame one other path → other ≡ third → SayTheSame one third path
same-both one other third path same is = subst (λ (s : Side). SayTheSame one s path) is same

-- a side says the same as itself
same-self : (one : Side) (path : List ℕ) → SayTheSame one one path
same-self one path = record { letters = λ owned letter at. refl; starts = λ owned. refl }

module _ (rules : WrittenRules) (tried : List ℕ) where
  abbrev each : List Numbered
  each = numbered rules

  abbrev wanted : List (List ℕ)
  wanted = tried_patterns tried each

  abbrev all : List (List ℕ)
  all = trying_patterns rules tried

  abbrev classes : List ℕ
  classes = trying_classes rules tried

  abbrev whole : Side
  whole = whole_side rules

  all-rules : rules_among each ≡ rules.rules
  all-rules = rules-numbered 0 rules.written rules.rules

  none-left : side_left rules [] ≡ whole
  none-left = ap (λ (l : List Rule). record { audit = rules.audit; rules = l }) (left-none each ∙ all-rules)

  -- the patterns of what is left are among those that tell paths apart
  left-among : (gone : List ℕ) → HavePatternsAmong (left rules gone) all
  left-among gone rule at = files-among rules.rules wanted unasked_patterns rule (subst (λ l. Contains l (File rule)) all-rules (left-there gone each (File rule) at))

  all-among : HavePatternsAmong rules.rules all
  all-among = files-among rules.rules wanted unasked_patterns

  module _ (path other : List ℕ) (alike : AreMatchedAlike all path other) where
    rule-alike : (own : List Rule) → HavePatternsAmong own all → (rule : Rule) → Contains own rule → MatchAlike path other rule
    rule-alike own among (File rule) at = let place = among rule at in alike place.0 rule.pattern place.1
    rule-alike own among (Cap rule) at = refl
    rule-alike own among (Net rule) at = refl
    rule-alike own among (Other rule) at = refl

    -- what is left says the same of both as all rules, if it does so of one
    same-alike : (gone : List ℕ) → SayTheSame whole (side_left rules gone) other → SayTheSame whole (side_left rules gone) path
    same-alike gone same = record {
      letters = λ owned letter at.
          verdicts-alike all rules.rules path other all-among alike Enforcing rules.audit letter owned
          ∙ same.letters owned letter at
          ∙ sym (verdicts-alike all (left rules gone) path other (left-among gone) alike Enforcing rules.audit letter owned);
      starts = λ owned.
          choice-alike rules.audit owned path other rules.rules (rule-alike rules.rules all-among)
          ∙ same.starts owned
          ∙ sym (choice-alike rules.audit owned path other (left rules gone) (rule-alike (left rules gone) (left-among gone)));
    }

  -- what is left of the rules that match a path says of it what all that is left says
  side-matching : (gone path : List ℕ) → side_of rules.audit gone (matching path each) ≡ record { audit = rules.audit; rules = filter (is_matching path) (left rules gone) }
  side-matching gone path = ap (λ (l : List Rule). record { audit = rules.audit; rules = l }) (matching-left gone path each)

  change-there : (gone path : List ℕ)
      → answers_change (side_of rules.audit [] (matching path each)) (side_of rules.audit gone (matching path each)) path ≡ answers_change whole (side_left rules gone) path
  change-there gone path =
      (λ i. answers_change (side-matching [] path i) (side-matching gone path i) path)
      ∙ change-matching rules.audit (left rules []) (left rules gone) path
      ∙ ap (λ (s : Side). answers_change s (side_left rules gone) path) none-left

  -- where the same is left of the rules that match a path, the same is said of it
  left-same : (gone other path : List ℕ) → left_of gone (matching path each) ≡ left_of other (matching path each)
      → SayTheSame whole (side_left rules other) path → SayTheSame whole (side_left rules gone) path
  left-same gone other path is same =
      same-from whole (side_left rules gone) path
      (sym (change-there gone path)
      ∙ ap (λ (l : List Rule). answers_change (side_of rules.audit [] (matching path each)) (record { audit = rules.audit; rules = l }) path) is
      ∙ change-there other path ∙ same-none whole (side_left rules other) path same)

  -- a pattern that is wanted matches the path of a rule that is tried
  made-wanted : (path : List ℕ) (one : Numbered) → Contains each one → is_made_of tried one ≡ true → is_matching path one.rule ≡ true → is_matched wanted path ≡ true
  made-wanted path one at made matched = by one.rule refl
    where
      there : Contains (rules_among (filter (is_made_of tried) each)) one.rule
      there = made-there tried each one at made

      by : (rule : Rule) → one.rule ≡ rule → is_matched wanted path ≡ true
      by (File rule) is =
          let place = file-at (rules_among (filter (is_made_of tried) each)) rule (subst (Contains (rules_among (filter (is_made_of tried) each))) is there) in
          at-matched wanted path place.0 rule.pattern place.1 (ap (is_matching path) (sym is) ∙ matched)
      by (Cap rule) is = absurd (true≢false (sym matched ∙ ap (is_matching path) is))
      by (Net rule) is = absurd (true≢false (sym matched ∙ ap (is_matching path) is))
      by (Other rule) is = absurd (true≢false (sym matched ∙ ap (is_matching path) is))

  -- on a path that none of these matches nothing is taken away
  untried-same : (gone path : List ℕ) → Within gone tried → is_matched wanted path ≡ false → SayTheSame whole (side_left rules gone) path
  untried-same gone path within none =
      left-same gone [] path (same-left gone [] (matching path each) (λ one at. by one at (is_made_of gone one) refl ∙ sym (made-none one)))
      (same-both whole whole (side_left rules []) path (same-self whole path) (sym none-left))
    where
      by : (one : Numbered) → Contains (matching path each) one → (b : Bool) → is_made_of gone one ≡ b → b ≡ false
      by one at false is = refl
      by one at true is =
          let both = filter-there (λ (one : Numbered). is_matching path one.rule) each one at in
          absurd (true≢false (sym (made-wanted path one both.0 (made-part gone tried within one is) both.1) ∙ none))

  module _ (outcomes : List Outcome) (told : TellAllPaths all classes outcomes) (stand : StandForAllPaths all classes (paths_of outcomes)) where
    outcome-bytes : (o : Outcome) → Contains outcomes o → AreBytes o.path.items
    outcome-bytes o at = (All-contains (IsOutcome all classes) outcomes o told.each_outcome at).bytes

    outcome-may : (o : Outcome) → Contains outcomes o → may_be_asked o.path.items ≡ true
    outcome-may o at =
        ap not (outcome-asked (file_patterns rules.rules) wanted unasked_patterns o (All-contains (IsOutcome all classes) outcomes o told.each_outcome at))

    -- a path that the kernel may ask about and that such a pattern matches has an outcome that stands for it
    standing : (path : List ℕ) → AreBytes path → may_be_asked path ≡ true → is_matched wanted path ≡ true
        → (o : Outcome) × Contains outcomes o × AreMatchedAlike all path o.path.items
    standing path bytes asked is =
        let found = stand path bytes (matched-told (file_patterns rules.rules) wanted unasked_patterns path is (not-true (is_matched unasked_patterns path) asked)) in
        let o = Contains-map_cases (λ (o : Outcome). o.path.items) outcomes found.0 found.1 in
        (o.0, o.1, subst (AreMatchedAlike all path) (sym o.2) found.2.alike)

    -- where nothing changes on these paths with one written rule more, nothing does on any
    next-stays : (gone : List ℕ) (number : ℕ) → Within (gone ++ number ∷ []) tried → AnswersStay rules gone
        → some_change rules.audit each (paths_of outcomes) (gone ++ number ∷ []) number ≡ false → AnswersStay rules (gone ++ number ∷ [])
    next-stays gone number within before none path bytes asked = by (is_matched wanted path) refl
      where
        now : List ℕ
        now = gone ++ number ∷ []

        here : (o : Outcome) → Contains outcomes o → SayTheSame whole (side_left rules now) o.path.items
        here o at =
            let there = Contains-map (λ (o : Outcome). o.path.items) outcomes o at in
            let still : changes_on rules.audit each now number o.path.items ≡ false =
            none-any (changes_on rules.audit each now number) (paths_of outcomes) none o.path.items there in
            of (speaks number (matching o.path.items each)) refl still
          where
            of : (b : Bool) → speaks number (matching o.path.items each) ≡ b
                → (b && answers_change (side_of rules.audit [] (matching o.path.items each)) (side_of rules.audit now (matching o.path.items each)) o.path.items) ≡ false
                → SayTheSame whole (side_left rules now) o.path.items
            of true is still = same-from whole (side_left rules now) o.path.items (sym (change-there now o.path.items) ∙ still)
            of false is still =
                left-same now gone o.path.items (unspoken gone number (matching o.path.items each) is) (before o.path.items (outcome-bytes o at) (outcome-may o at))

        by : (b : Bool) → is_matched wanted path ≡ b → SayTheSame whole (side_left rules now) path
        by false is = untried-same now path within is
        by true is = let found = standing path bytes asked is in same-alike path found.0.path.items found.2 now (here found.0 found.1)

    -- and where something does, it does
    next-changes : (gone : List ℕ) (number : ℕ) → some_change rules.audit each (paths_of outcomes) gone number ≡ true → AnswersChange rules gone
    next-changes gone number some =
        let found = exists (changes_on rules.audit each gone number) (paths_of outcomes) some in
        let o = Contains-map_cases (λ (o : Outcome). o.path.items) outcomes found.0 found.1 in
        let path = found.0 in
        let changes = and_parts (speaks number (matching path each)) (answers_change (side_of rules.audit [] (matching path each)) (side_of rules.audit gone (matching path each)) path) found.2 in (
          path,
          record {
            bytes = subst AreBytes o.2 (outcome-bytes o.0 o.1);
            asked = ap may_be_asked (sym o.2) ∙ outcome-may o.0 o.1;
            otherwise = otherwise-from whole (side_left rules gone) path (sym (change-there gone path) ∙ changes.1);
          },
        )

    abbrev step : List ℕ → ℕ → List ℕ
    step = told_with rules.audit each (paths_of outcomes)

    -- one that can't be told, or without which something changes, leaves what is told; any other is told
    abbrev some : List ℕ → ℕ → Bool
    some gone number = some_change rules.audit each (paths_of outcomes) (gone ++ number ∷ []) number

    step-changes : (gone : List ℕ) (number : ℕ) → can_be_told each gone number ≡ true → some gone number ≡ true → step gone number ≡ gone
    step-changes gone number can is =
        let now = gone ++ number ∷ [] in
        λ i. if can i then (if is i then gone else now) else gone

    step-stays : (gone : List ℕ) (number : ℕ) → can_be_told each gone number ≡ true → some gone number ≡ false → step gone number ≡ gone ++ number ∷ []
    step-stays gone number can is =
        let now = gone ++ number ∷ [] in
        λ i. if can i then (if is i then gone else now) else gone

    step-none : (gone : List ℕ) (number : ℕ) → can_be_told each gone number ≡ false → step gone number ≡ gone
    step-none gone number cannot =
        let now = told_unless rules.audit each (paths_of outcomes) gone number in
        λ i. if cannot i then now else gone

    -- what is told of those that are left to be tried
    pub record IsToldRight (gone more found : List ℕ) : Type 0 where
      pub behind : AreToldBehind rules gone more found
      pub stay : AnswersStay rules found

    told-behind : (gone more : List ℕ) → Within gone tried → Within more tried → AnswersStay rules gone → IsToldRight gone more (fold step gone more)
    told-behind gone [] before within stay = record { behind = refl; stay = stay }
    told-behind gone (number ∷ more) before within stay =
        by (can_be_told each gone number) (some gone number) refl refl
        (told-behind gone more before (within-behind number more tried within) stay)
        (λ stay. told-behind (gone ++ number ∷ []) more next (within-behind number more tried within) stay)
      where
        next : Within (gone ++ number ∷ []) tried
        next = within-then gone tried number before (within-first number more tried within)

        Rest : List ℕ → Type 0
        Rest told = IsToldRight told more (fold step told more)

        without_it : IsNotToldNext rules gone number → step gone number ≡ gone → Rest gone → IsToldRight gone (number ∷ more) (fold step gone (number ∷ more))
        without_it none here rest =
            subst (λ (l : List ℕ). IsToldRight gone (number ∷ more) (fold step l more)) (sym here)
            (record { behind = inr (none, rest.behind); stay = rest.stay })

        with_it : IsToldNext rules gone number → step gone number ≡ gone ++ number ∷ [] → Rest (gone ++ number ∷ [])
            → IsToldRight gone (number ∷ more) (fold step gone (number ∷ more))
        with_it told here rest =
            subst (λ (l : List ℕ). IsToldRight gone (number ∷ more) (fold step l more)) (sym here)
            (record { behind = inl (told, rest.behind); stay = rest.stay })

        by : (can change : Bool) → can_be_told each gone number ≡ can → some gone number ≡ change → Rest gone
            → (AnswersStay rules (gone ++ number ∷ []) → Rest (gone ++ number ∷ []))
            → IsToldRight gone (number ∷ more) (fold step gone (number ∷ more))
        by false change can is rest told = without_it (inr can) (step-none gone number can) rest
        by true true can is rest told = without_it (inl (next-changes (gone ++ number ∷ []) number is)) (step-changes gone number can is) rest
        by true false can is rest told =
            let stays = next-stays gone number next stay is in
            with_it (record { can = can; stay = stays }) (step-stays gone number can is) (told stays)

    told-right : AreToldOf rules tried (told_by rules.audit each (paths_of outcomes) tried)
    told-right =
        let none : Within [] tried = λ number at. absurd (omega (arith, at.1)) in
        let found = told-behind [] tried none (λ number at. at) (λ path bytes asked. same-both whole whole (side_left rules []) path (same-self whole path) (sym none-left)) in
        record { sound = found.stay; exact = found.behind }

-- what is told by the paths of outcomes is right
pub told-standing : OutcomesStandForAll → (rules : WrittenRules) (tried : List ℕ) (outcomes : List Outcome)
    → TellAllPaths (trying_patterns rules tried) (trying_classes rules tried) outcomes
    → AreToldOf rules tried (told_by rules.audit (numbered rules) (paths_of outcomes) tried)
told-standing law rules tried outcomes tells =
    told-right rules tried outcomes tells (law (trying_patterns rules tried) (trying_classes rules tried) outcomes tells)

-- outcomes of the patterns by which paths are told apart are of the rules' patterns, and others behind them
pub outcomes-of : (rules : WrittenRules) (tried : List ℕ) (outcomes : List Outcome)
    → TellAllPaths (trying_patterns rules tried) (trying_classes rules tried) outcomes → All (IsOutcomeOf rules.rules) outcomes
outcomes-of rules tried outcomes told = λ k d within. record {
  patterns = tried_patterns tried (numbered rules);
  unasked = unasked_patterns;
  classes = trying_classes rules tried;
  outcome = told.each_outcome k d within;
}
