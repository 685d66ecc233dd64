-- The starts by paths that stand for all are those over all paths.
use Rattle.std.proofs.Common.{◌≡◌, ℕ, ◌≤◌, Bool, true, false, not, ◌&&◌, ◌||◌, if◌then◌else◌, List, [], ◌∷◌, ◌++◌, length, refl, sym, ◌∙◌, ap, subst, arith}
use Rattle.std.specs.Prelude.{Contains, None, Option, Some, slice_index_or}
use Rattle.std.proofs.lemmas.Bool.{and_from, and_parts, true≢false}
use Rattle.std.proofs.lemmas.List.Elements.{All-contains, Contains-get_or}
use Rattle.aa_decide.specs.Exec.{Asker, Started, by_choice, confined_start}
use Rattle.aa_decide_rules.specs.Choices.{choice_of}
use Rattle.aa_decide_rules.specs.ExecRules.{ExecRule, exec_rules, said_by, said_of}
use Rattle.aa_decide_rules.specs.declared.judgement.Mediation.TheVariants.{Complaining, Enforcing}
use Rattle.aa_decide_ready.specs.Confinement.{By, ByName, Confinement, Unconfined}
use Rattle.aa_decide_ready.specs.Entries.{Loaded}
use Rattle.aa_decide_ready.specs.Slots.{filled}
use Rattle.aa_explain_paths.specs.Meant.{is_matched, may_be_asked, unasked_patterns}
use Rattle.aa_explain_paths.proofs.TellingLemmas.{at-matched, file-at, matched-told, outcome-asked}
use Rattle.aa_glob_nfa.specs.Graphs.{AreBytes}
use Rattle.aa_glob_nfa.proofs.ListLemmas.{Contains-first, Contains-later, Contains-map_cases}
use Rattle.aa_glob_paths.specs.AllPaths.{IsOutcome, TellAllPaths}
use Rattle.aa_glob_paths.specs.Laws.{OutcomesStandForAll, paths_of}
use Rattle.aa_glob_paths.specs.declared.outcome.Outcome.{Outcome}
use Rattle.aa_glob_syntax.specs.Matching.{matches}
use Rattle.aa_glob_syntax.specs.Patterns.{IsPatternAt}
use Rattle.aa_glob_syntax.specs.Reading.{items_of}
use Rattle.aa_profile_data.proofs.PlaceLemmas.{Contains-from_get, Contains-to_get}
use Rattle.aa_profile_data.specs.FileRules.{file_patterns}
use Rattle.aa_profile_data.specs.declared.profile.FileRule.{FileRule}
use Rattle.aa_profile_data.specs.declared.profile.Rule.{Rule}
use Rattle.aa_profile_data.specs.declared.profile.Rule.TheVariants.{Cap, File, Net, Other}
use Rattle.aa_explain_reach.specs.Patterns.{attaching_patterns, attachment_patterns, every_pattern, confinement_of, other_patterns, own_patterns, refuses_by, rules_asked, speaks_of_starts, start_classes, start_patterns, start_rules, starting_rules, wanted_patterns}
use Rattle.aa_explain_reach.specs.Places.{is_somewhere}
use Rattle.aa_explain_reach.specs.StartLaws.{HaveStartPatterns}
use Rattle.aa_explain_reach.specs.Starts.{AreStartsOf, LeadsTo, MayStart, place_to_go}
use Rattle.aa_explain_reach.specs.code.Telling.{AreStartsBy, is_absolute}
use Rattle.aa_explain_reach.specs.declared.start.Start.{Start}
use Rattle.aa_explain_reach.proofs.AlikeLemmas.{in-back, in-front, kept-by, none-said}
use Rattle.aa_explain_reach.proofs.StartLemmas.{starts-alike}

-- all patterns that starts depend on are among those that tell paths apart
module _ (entries : List Loaded) (asker : Option Asker) where
  abbrev all : List (List ℕ)
  all = start_patterns entries asker

  in-all : (pattern : List ℕ) → Contains (other_patterns entries asker) pattern → (place : ℕ) × IsPatternAt all place pattern
  in-all pattern at =
      let others = other_patterns entries asker in
      let wanted = wanted_patterns asker in
      Contains-to_get all pattern (in-front (others ++ wanted) unasked_patterns pattern (in-front others wanted pattern at))

  in-attachments : (pattern : List ℕ) → Contains (attachment_patterns entries asker) pattern → (place : ℕ) × IsPatternAt all place pattern
  in-attachments pattern at = in-all pattern (in-back (file_patterns (start_rules asker)) (attachment_patterns entries asker) pattern at)

  every-in : (place : ℕ) × IsPatternAt all place every_pattern
  every-in =
      in-attachments every_pattern
      (in-front (every_pattern ∷ attaching_patterns entries) (own_patterns asker) every_pattern (Contains-first every_pattern (attaching_patterns entries)))

  have-all : HaveStartPatterns entries asker all
  have-all = record {
    rules = λ rule at.
        let files = file_patterns (start_rules asker) in
        let there = file-at (start_rules asker) rule at in
        in-all rule.pattern (in-front files (attachment_patterns entries asker) rule.pattern (Contains-from_get files there.0 rule.pattern there.1));
    attachments = λ pattern at.
        in-attachments pattern
        (in-front (every_pattern ∷ attaching_patterns entries) (own_patterns asker) pattern
        (Contains-later every_pattern (attaching_patterns entries) pattern at));
    children = λ pattern at. in-attachments pattern (in-back (every_pattern ∷ attaching_patterns entries) (own_patterns asker) pattern at);
  }

-- where no rule that speaks of starts matches a path, none says anything of it
module _ (flag owned : Bool) (path : List ℕ) where
  nothing : (b : Bool) (said : Option ExecRule) → said ≡ None → (if b then said else None) ≡ None
  nothing true said none = none
  nothing false said none = refl

  said-none : (rule : FileRule) → (speaks_of_starts (File rule) ≡ true → matches (items_of rule.pattern) path ≡ false) → said_of flag owned path (File rule) ≡ None
  said-none rule unmatched = by (speaks_of_starts (File rule)) refl
    where
      by : (b : Bool) → speaks_of_starts (File rule) ≡ b → said_of flag owned path (File rule) ≡ None
      by true is = ap (λ m. if m && (not rule.owner || owned) then said_by flag rule else None) (unmatched is)
      by false is = nothing (matches (items_of rule.pattern) path && (not rule.owner || owned)) (said_by flag rule) (none-said path path flag owned rule is)

  none-speaks : (rules : List Rule)
      → ((rule : FileRule) → Contains rules (File rule) → speaks_of_starts (File rule) ≡ true → matches (items_of rule.pattern) path ≡ false)
      → exec_rules flag owned path rules ≡ []
  none-speaks [] unmatched = refl
  none-speaks (File rule ∷ rules) unmatched =
      let rest = none-speaks rules (λ r at. unmatched r (Contains-later (File rule) rules (File r) at)) in
      ap (λ said. elim said [ None ↦ exec_rules flag owned path rules | Some one ↦ one ∷ exec_rules flag owned path rules ])
      (said-none rule (unmatched rule (Contains-first (File rule) rules)))
      ∙ rest
  none-speaks (Cap rule ∷ rules) unmatched = none-speaks rules (λ r at. unmatched r (Contains-later (Cap rule) rules (File r) at))
  none-speaks (Net rule ∷ rules) unmatched = none-speaks rules (λ r at. unmatched r (Contains-later (Net rule) rules (File r) at))
  none-speaks (Other rule ∷ rules) unmatched = none-speaks rules (λ r at. unmatched r (Contains-later (Other rule) rules (File r) at))

-- a pattern that isn't among those that match doesn't
unmatched-file : (rules : List Rule) (path : List ℕ) → is_matched (file_patterns rules) path ≡ false → (rule : FileRule) → Contains rules (File rule)
    → matches (items_of rule.pattern) path ≡ false
unmatched-file rules path none rule at = by (matches (items_of rule.pattern) path) refl
  where
    by : (b : Bool) → matches (items_of rule.pattern) path ≡ b → b ≡ false
    by true is =
        let there = file-at rules rule at in
        absurd (true≢false (sym (at-matched (file_patterns rules) path there.0 rule.pattern there.1 is) ∙ none))
    by false is = refl

-- a wanted pattern matches the path of each program that is started
wanted-by : (owned : Bool) (path : List ℕ) (entries : List Loaded) (asker : Asker) (confinement : Confinement)
    → is_somewhere (confined_start owned path entries asker confinement).to ≡ true → is_matched (every_pattern ∷ []) path ≡ true
    → is_matched (if refuses_by confinement then file_patterns (starting_rules (rules_asked confinement)) else every_pattern ∷ []) path ≡ true
wanted-by owned path entries asker Unconfined goes absolute = absolute
wanted-by owned path entries asker ByName goes absolute = absolute
wanted-by owned path entries asker (By section Complaining) goes absolute = absolute
wanted-by owned path entries asker (By section Enforcing) goes absolute = by (is_matched (file_patterns (starting_rules section.rules)) path) refl
  where
    by : (b : Bool) → is_matched (file_patterns (starting_rules section.rules)) path ≡ b → b ≡ true
    by true is = refl
    by false is =
        let silent : exec_rules section.audit owned path section.rules ≡ [] =
        none-speaks section.audit owned path section.rules
        (λ rule at speaks. unmatched-file (starting_rules section.rules) path is rule (kept-by speaks_of_starts section.rules (File rule) at speaks)) in
        let nowhere : is_somewhere (by_choice path entries asker Enforcing (choice_of (exec_rules section.audit owned path section.rules))).to ≡ false =
        ap (λ rules. is_somewhere (by_choice path entries asker Enforcing (choice_of rules)).to) silent in
        absurd (true≢false (sym goes ∙ nowhere))

pub wanted-matched : (owned : Bool) (path : List ℕ) (entries : List Loaded) (asker : Option Asker)
    → is_somewhere (place_to_go entries asker owned path) ≡ true → is_matched (every_pattern ∷ []) path ≡ true → is_matched (wanted_patterns asker) path ≡ true
wanted-matched owned path entries None goes absolute = absolute
wanted-matched owned path entries (Some asker) goes absolute = wanted-by owned path entries asker (confinement_of asker) goes absolute

pub not-true : (b : Bool) → not b ≡ true → b ≡ false
not-true false h = refl
not-true true h = absurd cc

pub or-false : (b : Bool) → (b || false) ≡ true → b ≡ true
or-false true h = refl
or-false false h = absurd cc

module _ (slots : List (Option Loaded)) (asker : Option Asker) (outcomes : List Outcome) (law : OutcomesStandForAll)
    (told : TellAllPaths (start_patterns (filled slots) asker) (start_classes (filled slots) asker) outcomes) where
  abbrev entries : List Loaded
  entries = filled slots

  abbrev classes : List ℕ
  classes = start_classes entries asker

  -- a path whose program is started has one that stands for it, is no longer, and is answered the same
  standing : (path : List ℕ) (owned : Bool) (to : Started) → LeadsTo entries asker owned path to
      → (other : List ℕ) × Contains (paths_of outcomes) other × (is_absolute other ≡ true) × (place_to_go entries asker owned other ≡ to) × (length other ≤ length path)
  standing path owned to leads =
      let meant = and_parts (is_matched (every_pattern ∷ []) path) (not (is_matched unasked_patterns path)) leads.may.meant in
      let goes : is_somewhere (place_to_go entries asker owned path) ≡ true = ap is_somewhere leads.there ∙ leads.somewhere in
      let wanted = wanted-matched owned path entries asker goes meant.0 in
      let is = matched-told (other_patterns entries asker) (wanted_patterns asker) unasked_patterns path wanted (not-true (is_matched unasked_patterns path) meant.1) in
      let found = law (start_patterns entries asker) classes outcomes told path leads.may.bytes is in
      let same = starts-alike entries asker (start_patterns entries asker) path found.0 (have-all entries asker) found.2.alike owned in
      let every = every-in entries asker in (
        found.0,
        found.1,
        sym (found.2.alike every.0 every_pattern every.1) ∙ or-false (is_absolute path) meant.0,
        sym (λ i. (same i).to) ∙ leads.there,
        found.2.no_longer,
      )

  -- the path of an outcome, if it is absolute, may be asked about
  may-start : (path : List ℕ) → Contains (paths_of outcomes) path → is_absolute path ≡ true → MayStart path
  may-start path at absolute =
      let found = Contains-map_cases (λ (o : Outcome). o.path.items) outcomes path at in
      let is = All-contains (IsOutcome (start_patterns entries asker) classes) outcomes found.0 told.each_outcome found.1 in
      record {
        bytes = subst AreBytes found.2 is.bytes;
        meant =
            and_from (is_matched (every_pattern ∷ []) path) (may_be_asked path) (ap (λ b. b || false) absolute)
            (ap may_be_asked (sym found.2) ∙ ap not (outcome-asked (other_patterns entries asker) (wanted_patterns asker) unasked_patterns found.0 is));
      }

  -- so the starts by these paths are those over all
  pub starts-standing : (starts : List Start) → AreStartsBy slots asker (paths_of outcomes) starts → AreStartsOf slots asker starts
  starts-standing starts by = record {
    each_start = λ k d within.
        let start = slice_index_or starts k d in
        let is = by.each start (Contains-get_or starts k d within) in
        record {
          to = place_to_go entries asker start.owned start.path.items;
          seen = is.1.0;
          leads = record { may = may-start start.path.items is.0 is.2; there = refl; somewhere = is.1.1 };
        };
    each_place = λ path owned to leads.
        let other = standing path owned to leads in
        let has = by.told other.0 other.1 other.2 owned (ap is_somewhere other.3 ∙ leads.somewhere) in
        record {
          start = has.start;
          among = has.among;
          seen = has.seen ∙ ap Some other.3;
          no_longer = omega (arith, has.no_longer, other.4);
        };
    apart = by.apart;
  }
