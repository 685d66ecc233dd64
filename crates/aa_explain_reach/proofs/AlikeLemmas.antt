-- The start of programs whose paths the same patterns match.
use Rattle.std.proofs.Common.{◌≡◌, ℕ, ◌+◌, Bool, true, false, not, ◌&&◌, ◌||◌, if◌then◌else◌, List, [], ◌∷◌, ◌++◌, map, refl, sym, ◌∙◌, ap, subst, inl, inr, arith}
use Rattle.std.specs.Prelude.{Contains, None, Option, Some, fold, is_some, option_and_then, slice_get}
use Rattle.std.specs.List.{filter}
use Rattle.std.specs.Option.{option_map}
use Rattle.aa_decide.specs.Attachment.{attached, attached_child, entry_rank}
use Rattle.aa_decide.specs.Exec.{Asker, OnProfile, Started, Unconfined as Free, Under, are_in_force, base_of, by_choice, confined_start, exec_answer, fallback_base, led, led_by, led_by_word, missing, named_stack, own_start, place_of_child, profile_base, stacked_on, started, to_child, to_profile, to_stack, unconfined_start, under}
use Rattle.aa_decide_rules.specs.Ranks.{best_rank, exact_rank, greater, rank}
use Rattle.aa_decide_rules.specs.StandingOut.{standing_out}
use Rattle.aa_decide_rules.specs.Choices.{Choice, Denied, Leads, Missing, choice, choice_of}
use Rattle.aa_decide_rules.specs.ExecRules.{ExecRule, exec_rules, said_by, said_of}
use Rattle.aa_decide_rules.specs.declared.judgement.Mediation.{Mediation}
use Rattle.aa_decide_ready.specs.Confinement.{By, ByName, Confinement, Unconfined}
use Rattle.aa_decide_ready.specs.Entries.{Loaded, is_in_force}
use Rattle.aa_glob_nfa.proofs.ListLemmas.{Contains-cons_cases, Contains-first, Contains-later}
use Rattle.aa_glob_syntax.specs.Exactness.{is_exact, literal_prefix}
use Rattle.aa_glob_syntax.specs.Matching.{matches}
use Rattle.aa_glob_syntax.specs.Reading.{items_of}
use Rattle.aa_profile_data.specs.ExecWords.{row}
use Rattle.aa_profile_data.specs.Stacks.{Stack}
use Rattle.aa_profile_data.specs.declared.exec_word.Destination.{Destination}
use Rattle.aa_profile_data.specs.declared.exec_word.Destination.TheVariants as to
use Rattle.aa_profile_data.specs.declared.exec_word.ExecWord.{ExecWord}
use Rattle.aa_profile_data.specs.Cover.{covers_exec}
use Rattle.aa_profile_data.specs.declared.profile.Child.{Child}
use Rattle.aa_profile_data.specs.declared.profile.FileRule.{FileRule}
use Rattle.aa_profile_data.specs.declared.profile.Rule.{Rule}
use Rattle.aa_profile_data.specs.declared.profile.Rule.TheVariants.{Cap, File, Net, Other}
use Rattle.aa_profile_data.specs.declared.profile.Transition.{Transition}
use Rattle.aa_explain_reach.specs.Patterns.{attaching, attaching_patterns, children_patterns, confinement_of, own_patterns, rules_asked, speaks_of_starts, start_rules}

-- what stands in one of two lists stands in both together
pub in-front : {X : Type 0} (xs ys : List X) (x : X) → Contains xs x → Contains (xs ++ ys) x
in-front [] ys x at = absurd (omega (arith, at.1))
in-front (y ∷ xs) ys x at = elim (Contains-cons_cases y xs x at) [
  | inl same ↦ subst (Contains (y ∷ (xs ++ ys))) same (Contains-first y (xs ++ ys))
  | inr more ↦ Contains-later y (xs ++ ys) x (in-front xs ys x more)
]

pub in-back : {X : Type 0} (xs ys : List X) (x : X) → Contains ys x → Contains (xs ++ ys) x
in-back [] ys x at = at
in-back (y ∷ xs) ys x at = Contains-later y (xs ++ ys) x (in-back xs ys x at)

-- what passes a test is kept
pub kept-by : {X : Type 0} (test : X → Bool) (xs : List X) (x : X) → Contains xs x → test x ≡ true → Contains (filter test xs) x
kept-by test [] x at passes = absurd (omega (arith, at.1))
kept-by {X} test (y ∷ xs) x at passes = by (test y) refl (kept-by test xs x)
  where
    by : (b : Bool) → test y ≡ b → (Contains xs x → test x ≡ true → Contains (filter test xs) x) → Contains (filter test (y ∷ xs)) x
    by true is rest =
        let keeps : filter test (y ∷ xs) ≡ y ∷ filter test xs = rw is refl in
        subst (λ l. Contains l x) (sym keeps) (elim (Contains-cons_cases y xs x at) [
          | inl same ↦ subst (Contains (y ∷ filter test xs)) same (Contains-first y (filter test xs))
          | inr more ↦ Contains-later y (filter test xs) x (rest more passes)
        ])
    by false is rest =
        let drops : filter test (y ∷ xs) ≡ filter test xs = rw is refl in
        subst (λ l. Contains l x) (sym drops) (elim (Contains-cons_cases y xs x at) [
          | inl same ↦ absurd (no (sym passes ∙ ap test (sym same) ∙ is))
          | inr more ↦ rest more passes
        ])
      where
        no : true ≡ false → ⊥
        no h = absurd cc

module _ (path other : List ℕ) where
  -- each of some patterns matches both paths, or neither
  abbrev pub MatchedAlike : List (List ℕ) → Type 0
  MatchedAlike patterns = (pattern : List ℕ) → Contains patterns pattern → matches (items_of pattern) path ≡ matches (items_of pattern) other

  -- each of those rules does that speak of the start of programs
  abbrev pub RulesAlike : List Rule → Type 0
  RulesAlike rules =
      (rule : FileRule) → Contains rules (File rule) → speaks_of_starts (File rule) ≡ true
      → matches (items_of rule.pattern) path ≡ matches (items_of rule.pattern) other

  -- a pattern ranks alike
  rank-alike : (pattern : List ℕ) → matches (items_of pattern) path ≡ matches (items_of pattern) other → rank path pattern ≡ rank other pattern
  rank-alike pattern alike =
      ap (λ b. if b then (if is_exact (items_of pattern) then exact_rank else literal_prefix (items_of pattern) + 1) else 0) alike

  best-alike : (best : ℕ) (patterns : List (List ℕ)) → MatchedAlike patterns
      → fold (λ best pattern. greater best (rank path pattern)) best patterns ≡ fold (λ best pattern. greater best (rank other pattern)) best patterns
  best-alike best [] alike = refl
  best-alike best (p ∷ ps) alike =
      ap (λ r. fold (λ best pattern. greater best (rank path pattern)) (greater best r) ps) (rank-alike p (alike p (Contains-first p ps)))
      ∙ best-alike (greater best (rank other p)) ps (λ q at. alike q (Contains-later p ps q at))

  entry-alike : (entry : Loaded) → MatchedAlike (attaching entry) → entry_rank path entry ≡ entry_rank other entry
  entry-alike entry alike = by (is_in_force entry.state) alike
    where
      by : (b : Bool) → MatchedAlike (if b then entry.profile.attachments else [])
          → (if b then best_rank path entry.profile.attachments else 0) ≡ (if b then best_rank other entry.profile.attachments else 0)
      by true alike = best-alike 0 entry.profile.attachments alike
      by false alike = refl

  entries-alike : (entries : List Loaded) → MatchedAlike (attaching_patterns entries) → map (entry_rank path) entries ≡ map (entry_rank other) entries
  entries-alike [] alike = refl
  entries-alike (entry ∷ entries) alike =
      let first = entry-alike entry (λ p at. alike p (in-front (attaching entry) (attaching_patterns entries) p at)) in
      let rest = entries-alike entries (λ p at. alike p (in-back (attaching entry) (attaching_patterns entries) p at)) in
      λ i. first i ∷ rest i

  -- so a program is attached to the same profile
  attached-alike : (entries : List Loaded) → MatchedAlike (attaching_patterns entries) → attached path entries ≡ attached other entries
  attached-alike entries alike = ap (λ ranks. option_and_then (slice_get entries) (standing_out ranks)) (entries-alike entries alike)

  children-alike : (children : List Child) → MatchedAlike (children_patterns children)
      → map (λ child. best_rank path child.attachments) children ≡ map (λ child. best_rank other child.attachments) children
  children-alike [] alike = refl
  children-alike (child ∷ children) alike =
      let first = best-alike 0 child.attachments (λ p at. alike p (in-front child.attachments (children_patterns children) p at)) in
      let rest = children-alike children (λ p at. alike p (in-back child.attachments (children_patterns children) p at)) in
      λ i. first i ∷ rest i

  -- and to the same child
  attached_child-alike : (children : List Child) → MatchedAlike (children_patterns children) → attached_child path children ≡ attached_child other children
  attached_child-alike children alike = ap standing_out (children-alike children alike)

  module _ (flag owned : Bool) where
    -- what a rule doesn't say that doesn't speak of starts
    pub none-said : (rule : FileRule) → speaks_of_starts (File rule) ≡ false → said_by flag rule ≡ None
    none-said rule silent = by rule.deny (covers_exec rule) rule.exec silent
      where
        by : (deny covers : Bool) (exec : Option Transition) → (if deny then covers else is_some exec) ≡ false
            → (if deny then (if covers then Some (ExecRule.Denying (flag || rule.audit)) else None)
            else elim exec [ None ↦ None | Some transition ↦ Some (ExecRule.Leading transition rule.rank (flag || rule.audit)) ]) ≡ None
        by true true exec silent = absurd cc
        by true false exec silent = refl
        by false covers None silent = refl
        by false covers (Some transition) silent = absurd cc

    -- so it says nothing of either path
    neither : (b c : Bool) (said : Option ExecRule) → said ≡ None → (if b then said else None) ≡ (if c then said else None)
    neither true true said silent = refl
    neither true false said silent = silent
    neither false true said silent = sym silent
    neither false false said silent = refl

    said-alike : (rule : FileRule) → (speaks_of_starts (File rule) ≡ true → matches (items_of rule.pattern) path ≡ matches (items_of rule.pattern) other)
        → said_of flag owned path (File rule) ≡ said_of flag owned other (File rule)
    said-alike rule alike = by (speaks_of_starts (File rule)) refl
      where
        by : (b : Bool) → speaks_of_starts (File rule) ≡ b → said_of flag owned path (File rule) ≡ said_of flag owned other (File rule)
        by true is = ap (λ m. if m && (not rule.owner || owned) then said_by flag rule else None) (alike is)
        by false is =
            neither (matches (items_of rule.pattern) path && (not rule.owner || owned)) (matches (items_of rule.pattern) other && (not rule.owner || owned))
            (said_by flag rule) (none-said rule is)

    rules-said : (rules : List Rule) → RulesAlike rules → exec_rules flag owned path rules ≡ exec_rules flag owned other rules
    rules-said [] alike = refl
    rules-said (File rule ∷ rules) alike =
        let said = said-alike rule (alike rule (Contains-first (File rule) rules)) in
        let rest = rules-said rules (λ r at. alike r (Contains-later (File rule) rules (File r) at)) in
        λ i. elim (said i) [ None ↦ rest i | Some one ↦ one ∷ rest i ]
    rules-said (Cap rule ∷ rules) alike = rules-said rules (λ r at. alike r (Contains-later (Cap rule) rules (File r) at))
    rules-said (Net rule ∷ rules) alike = rules-said rules (λ r at. alike r (Contains-later (Net rule) rules (File r) at))
    rules-said (Other rule ∷ rules) alike = rules-said rules (λ r at. alike r (Contains-later (Other rule) rules (File r) at))

    choice-alike : (rules : List Rule) → RulesAlike rules → choice flag owned path rules ≡ choice flag owned other rules
    choice-alike rules alike = ap choice_of (rules-said rules alike)

  -- where who asks is led
  module _ (entries : List Loaded) (attaches : attached path entries ≡ attached other entries) where
    profile-alike : (target : Option (List ℕ)) → to_profile path target entries ≡ to_profile other target entries
    profile-alike None = ap (option_map (λ entry. Under entry None)) attaches
    profile-alike (Some name) = refl

    unconfined-alike : unconfined_start path entries ≡ unconfined_start other entries
    unconfined-alike = ap (λ found. elim found [ None ↦ started false Free false | Some entry ↦ started false (Under entry None) false ]) attaches

    own-alike : (asker : Asker) → own_start path entries asker ≡ own_start other entries asker
    own-alike asker = ap (λ found. elim found [ None ↦ started false (under asker) false | Some entry ↦ started false (Under entry None) false ]) attaches

    base-alike : (asker : Asker) (fallback : Option Destination) → profile_base path entries asker fallback ≡ profile_base other entries asker fallback
    base-alike asker fallback =
        ap (λ found. elim found [ Some entry ↦ Some (OnProfile entry None) | None ↦ option_and_then (fallback_base asker) fallback ]) attaches

    base_of-alike : (asker : Asker) (destination : Destination) (fallback : Option Destination)
        → base_of path entries asker destination fallback ≡ base_of other entries asker destination fallback
    base_of-alike asker to.Profile fallback = base-alike asker fallback
    base_of-alike asker to.Child fallback = refl
    base_of-alike asker to.Inherit fallback = refl
    base_of-alike asker to.Unconfined fallback = refl

    stack-alike : (asker : Asker) (word : ExecWord) (stack : Stack) → to_stack path entries asker word stack ≡ to_stack other entries asker word stack
    stack-alike asker word stack =
        ap (λ base. if are_in_force stack.members entries then stacked_on stack base else None) (base_of-alike asker (row word).destination (row word).fallback)

    module _ (asker : Asker) (own : MatchedAlike (own_patterns (Some asker))) where
      child-alike : (target : Option (List ℕ)) → to_child path target asker ≡ to_child other target asker
      child-alike target = by asker.child own
        where
          place : (target : Option (List ℕ)) → MatchedAlike (children_patterns asker.entry.profile.children)
              → place_of_child path target asker.entry.profile ≡ place_of_child other target asker.entry.profile
          place None alike = attached_child-alike asker.entry.profile.children alike
          place (Some name) alike = refl

          by : (child : Option ℕ) → MatchedAlike (elim child [ None ↦ children_patterns asker.entry.profile.children | Some place ↦ [] ])
              → (elim child as (λ _. Option Started) [ Some place ↦ None | None ↦ option_map (λ place. Under asker.entry (Some place)) (place_of_child path target asker.entry.profile) ])
              ≡ (elim child as (λ _. Option Started) [ Some place ↦ None | None ↦ option_map (λ place. Under asker.entry (Some place)) (place_of_child other target asker.entry.profile) ])
          by None alike = ap (option_map (λ place. Under asker.entry (Some place))) (place target alike)
          by (Some own) alike = refl

      led-alike : (target : Option (List ℕ)) (destination : Destination) → led path target entries asker destination ≡ led other target entries asker destination
      led-alike target to.Profile = profile-alike target
      led-alike target to.Child = child-alike target
      led-alike target to.Inherit = refl
      led-alike target to.Unconfined = refl

      word-alike : (transition : Transition) → led_by_word path entries asker transition ≡ led_by_word other entries asker transition
      word-alike transition = by (named_stack transition)
        where
          by : (stack : Option Stack)
              → (elim stack as (λ _. Option Started) [ Some stack ↦ to_stack path entries asker transition.word stack | None ↦ led path transition.target entries asker (row transition.word).destination ])
              ≡ (elim stack as (λ _. Option Started) [ Some stack ↦ to_stack other entries asker transition.word stack | None ↦ led other transition.target entries asker (row transition.word).destination ])
          by (Some stack) = stack-alike asker transition.word stack
          by None = led-alike transition.target (row transition.word).destination

      fallback-alike : (target : Option (List ℕ)) (fallback : Option Destination)
          → option_and_then (led path target entries asker) fallback ≡ option_and_then (led other target entries asker) fallback
      fallback-alike target None = refl
      fallback-alike target (Some destination) = led-alike target destination

      led_by-alike : (transition : Transition) → led_by path entries asker transition ≡ led_by other entries asker transition
      led_by-alike transition =
          let word = word-alike transition in
          let fallback = fallback-alike transition.target (row transition.word).fallback in
          λ i. elim (word i) [ Some to ↦ Some to | None ↦ fallback i ]

      by_choice-alike : (mediation : Mediation) (choice : Choice) → by_choice path entries asker mediation choice ≡ by_choice other entries asker mediation choice
      by_choice-alike mediation (Denied audited) = refl
      by_choice-alike mediation Missing = refl
      by_choice-alike mediation (Leads transition audited) =
          ap (λ led. elim led [ None ↦ missing mediation | Some to ↦ started audited to (row transition.word).scrubs ]) (led_by-alike transition)

      confined-alike : (owned : Bool) (confinement : Confinement) → RulesAlike (rules_asked confinement)
          → confined_start owned path entries asker confinement ≡ confined_start owned other entries asker confinement
      confined-alike owned Unconfined alike = unconfined-alike
      confined-alike owned ByName alike = own-alike asker
      confined-alike owned (By section mediation) alike =
          ap (by_choice path entries asker mediation) (choice-alike section.audit owned section.rules alike)
          ∙ by_choice-alike mediation (choice section.audit owned other section.rules)

  -- by what matches both paths alike
  pub answer-alike : (entries : List Loaded) (asker : Option Asker) (owned : Bool)
      → MatchedAlike (attaching_patterns entries) → MatchedAlike (own_patterns asker)
      → ((rule : FileRule) → Contains (start_rules asker) (File rule) → matches (items_of rule.pattern) path ≡ matches (items_of rule.pattern) other)
      → exec_answer entries asker owned path ≡ exec_answer entries asker owned other
  answer-alike entries None owned attaching own rules = unconfined-alike entries (attached-alike entries attaching)
  answer-alike entries (Some asker) owned attaching own rules =
      confined-alike entries (attached-alike entries attaching) asker own owned (confinement_of asker)
      (λ rule at speaks. rules rule (kept-by speaks_of_starts (rules_asked (confinement_of asker)) (File rule) at speaks))
