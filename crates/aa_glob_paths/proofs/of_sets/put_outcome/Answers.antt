use Rattle.std.proofs.Common.{◌≡◌, ◌+◌, ◌<◌, false, length, subst, sym, true, ◌∙◌}
use Rattle.std.proofs.lemmas.List.Elements.{All-get_or}
use Rattle.std.proofs.lemmas.List.Kept.{AllPairs-from_increasing}
use Rattle.std.specs.Option.{is_some}
use Rattle.std.specs.Prelude.{All}
use Rattle.indexmap.proofs.CallerLemmas.{insert_entry-new}
use Rattle.aa_glob_nfa.specs.OfTables.{graph_of}
use Rattle.aa_glob_run.proofs.PatternLemmas.{found_all}
use Rattle.aa_glob_run.specs.Ends.{AreEndsOf}
use Rattle.aa_glob_paths.specs.Found.{FoundSet, IsStateSet, no_set, set_at}
use Rattle.aa_glob_paths.proofs.PlaceLemmas.{kept_at, not_some}
use Rattle.aa_glob_paths.specs.code.AllTexts.{AreOutcomesBefore, are_told}
use Rattle.aa_glob_paths.specs.code.Kept.{Entry, kept_outcomes, outcome_of}
use Rattle.aa_glob_paths.proofs.OutcomeLemmas.{are-told, ends-classed, kept-more, kept-none, kept-there, outcome-more, outcome-none, outcome-there}
use Rattle.aa_glob_paths.proofs.PathLemmas.{ends-in}
use Rattle.aa_glob_paths.proofs.of_sets.put_outcome.Goals as goal

pub patterns_of-requires-clause-are_states : goal.patterns_of-requires-clause-are_states
patterns_of-requires-clause-are_states c =
    let room = length c.args.tables.now.states in
    subst (All (λ r. r < room)) (sym c.set.ensures) (All-get_or (λ (f : FoundSet). IsStateSet room f.set) c.args.sets.now c.args.number no_set c.requires.within c.requires.found.sets).live.1

pub are_told-requires : goal.are_told-requires
are_told-requires c =
    let g = graph_of c.args.tables.now in
    let classes = c.args.classes.now in
    let places = c.in_ok-places.places.items in
    let ends = ends-in g (set_at c.args.sets.now c.args.number) places (subst (λ live. AreEndsOf g live places) c.set.ensures c.in_ok-places.ensures.found) in
    subst (All (λ p. p < length classes)) (sym c.deref.ensures.value) (ends-classed c.args.tables.now classes (set_at c.args.sets.now c.args.number) places c.requires.classed ends)

pub returns-then-not-are_told : goal.returns-then-not-are_told
returns-then-not-are_told c =
    let g = graph_of c.args.tables.now in
    let classes = c.args.classes.now in
    let places = c.in_ok-places.places.items in
    let ends = ends-in g (set_at c.args.sets.now c.args.number) places (subst (λ live. AreEndsOf g live places) c.set.ensures c.in_ok-places.ensures.found) in
    let none = subst (λ l. are_told classes l ≡ false) c.deref.ensures.value (sym c.are_told.ensures ∙ c.if-not-are_told.true) in
    outcome-none g classes c.args.sets.now c.args.number (kept_outcomes c.args.kept.now.entries) places c.requires.before ends none

pub returns-then-contains_key : goal.returns-then-contains_key
returns-then-contains_key c =
    let g = graph_of c.args.tables.now in
    let set = set_at c.args.sets.now c.args.number in
    let entries = c.args.kept.now.entries in
    let places = c.in_ok-places.places.items in
    let ends = ends-in g set places (subst (λ live. AreEndsOf g live places) c.set.ensures c.in_ok-places.ensures.found) in
    let is = subst (λ key. is_some (kept_at key entries) ≡ true) c.as_slice.ensures.value (sym c.contains_key.ensures ∙ c.if-contains_key.true) in
    let there = kept-there places entries is in
    outcome-there g c.args.classes.now c.args.sets.now c.args.number (kept_outcomes entries) there.0 places c.requires.by_length c.requires.within c.requires.before ends there.1 there.2

pub returns : goal.returns
returns c =
    let g = graph_of c.args.tables.now in
    let classes = c.args.classes.now in
    let room = length c.args.tables.now.states in
    let sets = c.args.sets.now in
    let number = c.args.number in
    let entries = c.args.kept.now.entries in
    let places = c.in_ok-places.places.items in
    let path = c.in_ok-path.path.items in
    let told = subst (λ live. AreEndsOf g live places) c.set.ensures c.in_ok-places.ensures.found in
    let has = subst (λ l. are_told classes l ≡ true) c.deref.ensures.value (sym c.are_told.ensures ∙ c.if-not-are_told.false) in
    let none = subst (λ key. is_some (kept_at key entries) ≡ false) c.as_slice.ensures.value (sym c.contains_key.ensures ∙ c.if-contains_key.false) in
    let last = insert_entry-new _ c.args.kept.now c.in_ok-places.places c.in_ok-path.path (not_some (kept_at places entries) none) in
    let entry : Entry = (c.in_ok-places.places, c.in_ok-path.path) in
    subst (AreOutcomesBefore g classes sets (number + 1)) (sym (kept-more entries c.insert.new.self.entries entry (c.in_ok-insert.ensures.entries ∙ last)))
    (outcome-more g classes sets number (kept_outcomes entries) (outcome_of entry) c.requires.by_length c.requires.within c.requires.before
    (ends-in g (set_at sets number) places told)
    (record {
      bytes = c.in_ok-path.ensures.bytes;
      found = found_all g path (set_at sets number) places (c.in_ok-path.ensures.leads g room c.requires.found) told;
      rise = AllPairs-from_increasing places c.in_ok-places.ensures.rise;
      told = are-told classes places has;
    })
    c.in_ok-path.ensures.behind
    (kept-none places entries none))
