-- The starts that lead elsewhere by paths that stand for all are those over all paths.
use Rattle.std.proofs.Common.{◌≡◌, ℕ, ◌≤◌, Bool, true, false, not, ◌||◌, List, [], ◌∷◌, ◌++◌, length, None, refl, sym, ◌∙◌, ap, subst, arith}
use Rattle.std.specs.Prelude.{Contains, slice_index_or}
use Rattle.std.specs.Option.{option_map}
use Rattle.std.proofs.lemmas.Bool.{and_from, and_parts}
use Rattle.std.proofs.lemmas.List.Elements.{All-contains, Contains-get_or}
use Rattle.aa_decide.specs.Exec.{ExecAnswer, Nowhere, Null, Stacked, Started, Unconfined, Under}
use Rattle.aa_decide_ready.specs.Slots.{filled}
use Rattle.aa_explain_paths.specs.Meant.{is_matched, may_be_asked, unasked_patterns}
use Rattle.aa_explain_paths.proofs.TellingLemmas.{file-at, matched-told, outcome-asked}
use Rattle.aa_explain_reach.specs.Patterns.{attaching_patterns, attachment_patterns, every_pattern, own_patterns, start_rules, wanted_patterns}
use Rattle.aa_explain_reach.specs.Places.{is_somewhere}
use Rattle.aa_explain_reach.specs.StartLaws.{HaveStartPatterns, StartsAreAlike, StartsAreWanted}
use Rattle.aa_explain_reach.specs.Starts.{MayStart}
use Rattle.aa_explain_reach.proofs.AlikeLemmas.{in-back, in-front}
use Rattle.aa_explain_reach.proofs.WholeLemmas.{not-true, or-false}
use Rattle.aa_explain_start_changes.specs.Patterns.{both_others, both_rules, both_wanted, change_classes, change_patterns}
use Rattle.aa_explain_start_changes.specs.Places.{Lead, lead_by, place_of}
use Rattle.aa_explain_start_changes.specs.StartChanges.{AreStartChanges, LeadElsewhere, leads_of}
use Rattle.aa_explain_start_changes.specs.Starters.{Starter, Starters, answer_of}
use Rattle.aa_explain_start_changes.specs.code.Telling.{AreChangesBy, is_absolute}
use Rattle.aa_explain_start_changes.specs.declared.changes.StartChange.{StartChange}
use Rattle.aa_glob_nfa.specs.Graphs.{AreBytes}
use Rattle.aa_glob_nfa.proofs.ListLemmas.{Contains-first, Contains-later, Contains-map_cases}
use Rattle.aa_glob_paths.specs.AllPaths.{IsOutcome, TellAllPaths}
use Rattle.aa_glob_paths.specs.Laws.{AreMatchedAlike, OutcomesStandForAll, paths_of}
use Rattle.aa_glob_paths.specs.declared.outcome.Outcome.{Outcome}
use Rattle.aa_glob_syntax.specs.Matching.{matches}
use Rattle.aa_glob_syntax.specs.Patterns.{IsPatternAt}
use Rattle.aa_glob_syntax.specs.Reading.{items_of}
use Rattle.aa_profile_data.proofs.PlaceLemmas.{Contains-from_get, Contains-to_get}
use Rattle.aa_profile_data.specs.FileRules.{file_patterns}
use Rattle.aa_profile_data.specs.declared.profile.FileRule.{FileRule}
use Rattle.aa_profile_data.specs.declared.profile.Rule.{Rule}
use Rattle.aa_profile_data.specs.declared.profile.Rule.TheVariants.{File}

-- what isn't started leads nowhere
nowhere-leads : (answer : ExecAnswer) → is_somewhere answer.to ≡ false → lead_by answer ≡ None
nowhere-leads answer none = by answer.to none
  where
    by : (to : Started) → is_somewhere to ≡ false → option_map {U = Lead} (λ place. record { place = place; scrub = answer.scrub }) (place_of to) ≡ None
    by (Under entry child) none = absurd cc
    by Unconfined none = absurd cc
    by (Stacked base members) none = absurd cc
    by Null none = absurd cc
    by Nowhere none = refl

-- what one of some patterns matches, one of more does
matched-front : (front back : List (List ℕ)) (path : List ℕ) → is_matched front path ≡ true → is_matched (front ++ back) path ≡ true
matched-front [] back path some = absurd cc
matched-front (pattern ∷ front) back path some = by (matches (items_of pattern) path) some (matched-front front back path)
  where
    by : (b : Bool) → (b || is_matched front path) ≡ true → (is_matched front path ≡ true → is_matched (front ++ back) path ≡ true)
        → (b || is_matched (front ++ back) path) ≡ true
    by true some rest = refl
    by false some rest = rest some

matched-back : (front back : List (List ℕ)) (path : List ℕ) → is_matched back path ≡ true → is_matched (front ++ back) path ≡ true
matched-back [] back path some = some
matched-back (pattern ∷ front) back path some = by (matches (items_of pattern) path) (matched-back front back path some)
  where
    by : (b : Bool) → is_matched (front ++ back) path ≡ true → (b || is_matched (front ++ back) path) ≡ true
    by true rest = refl
    by false rest = rest

module _ (starters : Starters) where
  abbrev all : List (List ℕ)
  all = change_patterns starters

  abbrev files : List (List ℕ)
  files = file_patterns (both_rules starters)

  abbrev others : List (List ℕ)
  others = files ++ both_others starters

  abbrev classes : List ℕ
  classes = change_classes starters

  -- all patterns that the starts of either depend on are among those that tell paths apart
  in-all : (pattern : List ℕ) → Contains others pattern → (place : ℕ) × IsPatternAt all place pattern
  in-all pattern at =
      Contains-to_get all pattern (in-front (others ++ both_wanted starters) unasked_patterns pattern (in-front others (both_wanted starters) pattern at))

  rule-in : (rule : FileRule) → Contains (both_rules starters) (File rule) → (place : ℕ) × IsPatternAt all place rule.pattern
  rule-in rule at =
      let there = file-at (both_rules starters) rule at in
      in-all rule.pattern (in-front files (both_others starters) rule.pattern (Contains-from_get files there.0 rule.pattern there.1))

  attachment-in : (pattern : List ℕ) → Contains (both_others starters) pattern → (place : ℕ) × IsPatternAt all place pattern
  attachment-in pattern at = in-all pattern (in-back files (both_others starters) pattern at)

  abbrev own_attachments : Starter → List (List ℕ)
  own_attachments starter = attachment_patterns (filled starter.slots) starter.asker

  -- those of one of the two
  have-of : (starter : Starter) → ((rule : Rule) → Contains (start_rules starter.asker) rule → Contains (both_rules starters) rule)
      → ((pattern : List ℕ) → Contains (own_attachments starter) pattern → Contains (both_others starters) pattern)
      → HaveStartPatterns (filled starter.slots) starter.asker all
  have-of starter rules attachments = record {
    rules = λ rule at. rule-in rule (rules (File rule) at);
    attachments = λ pattern at.
        attachment-in pattern (attachments pattern
        (in-front (every_pattern ∷ attaching_patterns (filled starter.slots)) (own_patterns starter.asker) pattern
        (Contains-later every_pattern (attaching_patterns (filled starter.slots)) pattern at)));
    children = λ pattern at.
        attachment-in pattern (attachments pattern
        (in-back (every_pattern ∷ attaching_patterns (filled starter.slots)) (own_patterns starter.asker) pattern at));
  }

  have-old : HaveStartPatterns (filled starters.old.slots) starters.old.asker all
  have-old =
      have-of starters.old (λ rule at. in-front (start_rules starters.old.asker) (start_rules starters.new.asker) rule at)
      (λ pattern at. in-front (own_attachments starters.old) (own_attachments starters.new) pattern at)

  have-new : HaveStartPatterns (filled starters.new.slots) starters.new.asker all
  have-new =
      have-of starters.new (λ rule at. in-back (start_rules starters.old.asker) (start_rules starters.new.asker) rule at)
      (λ pattern at. in-back (own_attachments starters.old) (own_attachments starters.new) pattern at)

  every-in : (place : ℕ) × IsPatternAt all place every_pattern
  every-in =
      attachment-in every_pattern
      (in-front (own_attachments starters.old) (own_attachments starters.new) every_pattern
      (in-front (every_pattern ∷ attaching_patterns (filled starters.old.slots)) (own_patterns starters.old.asker) every_pattern
      (Contains-first every_pattern (attaching_patterns (filled starters.old.slots)))))

  -- so what the starts of two paths lead to is the same that are matched alike
  leads-alike : StartsAreAlike → (path other : List ℕ) (owned : Bool) → AreMatchedAlike all path other → leads_of starters owned path ≡ leads_of starters owned other
  leads-alike starts path other owned alike =
      let before = starts (filled starters.old.slots) starters.old.asker all path other have-old alike owned in
      let after = starts (filled starters.new.slots) starters.new.asker all path other have-new alike owned in
      λ i. record { before = lead_by (before i); after = lead_by (after i) }

  -- what is wanted of either matches a path whose program is started elsewhere
  wanted-either : StartsAreWanted → (path : List ℕ) (owned : Bool) → is_matched (every_pattern ∷ []) path ≡ true → LeadElsewhere (leads_of starters owned path)
      → is_matched (both_wanted starters) path ≡ true
  wanted-either wanted path owned absolute other =
      by (is_somewhere (answer_of starters.old owned path).to) (is_somewhere (answer_of starters.new owned path).to) refl refl
    where
      by : (b c : Bool) → is_somewhere (answer_of starters.old owned path).to ≡ b → is_somewhere (answer_of starters.new owned path).to ≡ c
          → is_matched (both_wanted starters) path ≡ true
      by true c before after =
          matched-front (wanted_patterns starters.old.asker) (wanted_patterns starters.new.asker) path
          (wanted (filled starters.old.slots) starters.old.asker owned path before absolute)
      by false true before after =
          matched-back (wanted_patterns starters.old.asker) (wanted_patterns starters.new.asker) path
          (wanted (filled starters.new.slots) starters.new.asker owned path after absolute)
      by false false before after =
          absurd (other (nowhere-leads (answer_of starters.old owned path) before ∙ sym (nowhere-leads (answer_of starters.new owned path) after)))

  module _ (outcomes : List Outcome) (law : OutcomesStandForAll) (starts : StartsAreAlike) (wanted : StartsAreWanted) (told : TellAllPaths all classes outcomes) where
    -- a path whose start leads elsewhere has one that stands for it, is no longer, and leads to the same
    standing : (path : List ℕ) (owned : Bool) → MayStart path → LeadElsewhere (leads_of starters owned path)
        → (other : List ℕ) × Contains (paths_of outcomes) other × (is_absolute other ≡ true) × (leads_of starters owned path ≡ leads_of starters owned other)
        × (length other ≤ length path)
    standing path owned may elsewhere =
        let meant = and_parts (is_matched (every_pattern ∷ []) path) (not (is_matched unasked_patterns path)) may.meant in
        let some = wanted-either wanted path owned meant.0 elsewhere in
        let is = matched-told others (both_wanted starters) unasked_patterns path some (not-true (is_matched unasked_patterns path) meant.1) in
        let found = law all classes outcomes told path may.bytes is in
        let every = every-in in (
          found.0,
          found.1,
          sym (found.2.alike every.0 every_pattern every.1) ∙ or-false (is_absolute path) meant.0,
          leads-alike starts path found.0 owned found.2.alike,
          found.2.no_longer,
        )

    -- the path of an outcome, if it is absolute, may be asked about
    may-start : (path : List ℕ) → Contains (paths_of outcomes) path → is_absolute path ≡ true → MayStart path
    may-start path at absolute =
        let found = Contains-map_cases (λ (o : Outcome). o.path.items) outcomes path at in
        let is = All-contains (IsOutcome all classes) outcomes found.0 told.each_outcome found.1 in
        record {
          bytes = subst AreBytes found.2 is.bytes;
          meant =
              and_from (is_matched (every_pattern ∷ []) path) (may_be_asked path) (ap (λ b. b || false) absolute)
              (ap may_be_asked (sym found.2) ∙ ap not (outcome-asked others (both_wanted starters) unasked_patterns found.0 is));
        }

    -- so the starts by these paths are those over all
    pub changes-standing : (changes : List StartChange) → AreChangesBy starters (paths_of outcomes) changes → AreStartChanges starters changes
    changes-standing changes by = record {
      each_change = λ k d within.
          let change = slice_index_or changes k d in
          let is = by.each change (Contains-get_or changes k d within) in
          record { may = may-start change.path.items is.0 is.2; before = is.1.before; after = is.1.after; elsewhere = is.1.elsewhere };
      each_path = λ path owned may elsewhere.
          let other = standing path owned may elsewhere in
          let tells = by.told other.0 other.1 other.2 owned (subst LeadElsewhere other.3 elsewhere) in
          record {
            change = tells.change;
            among = tells.among;
            same = tells.same ∙ sym other.3;
            no_longer = omega (arith, tells.no_longer, other.4);
          };
      apart = by.apart;
    }
