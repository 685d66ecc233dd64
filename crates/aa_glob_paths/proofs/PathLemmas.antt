-- From the sets of a graph to its texts, and from these to paths.
use Rattle.std.proofs.Common.{◌≡◌, ◌↔◌, ℕ, ◌<◌, Bool, List, [], length, reverse, refl, ◌∙◌, ap, arith}
use Rattle.std.proofs.lemmas.List.{get_or_default, length-reverse}
use Rattle.std.proofs.lemmas.Option.{slice_get-get_or}
use Rattle.std.proofs.lemmas.List.Elements.{All-contains, All-nil, All-weaker, Contains-get_or}
use Rattle.std.specs.Prelude.{Contains, IfSome, None, Ok, Option, Some}
use Rattle.aa_glob_nfa.specs.Graphs.{AreBytes, EndsAt, Graph, IsFound, Reaches}
use Rattle.aa_glob_nfa.specs.Runs.{IsWhole}
use Rattle.aa_glob_nfa.proofs.RunLemmas.{Contains-slice_get}
use Rattle.aa_glob_pairs.specs.Graphs.{IsLaid}
use Rattle.aa_glob_pairs.proofs.MeetLemmas.{there}
use Rattle.aa_glob_run.specs.Ends.{IsEndIn}
use Rattle.aa_glob.proofs.ClashLemmas.{bytes-reverse, graph-laid}
use Rattle.aa_glob_paths.specs.Found.{FoundSet, set_at}
use Rattle.aa_glob_paths.specs.SetLaws.{EndIn, NotPassedOverIsUnsettled}
use Rattle.aa_glob_paths.specs.Reachable.{AreMoreThan, AreReachable}
use Rattle.aa_glob_paths.specs.Settled.{IsPassedOver, MarksSettled}
use Rattle.aa_glob_paths.specs.Wanted.{MarksWanted}
use Rattle.aa_glob.specs.Automata.{IsGraphOf}
use Rattle.aa_glob.proofs.BuiltLemmas.{matching-found}
use Rattle.aa_glob.proofs.GrowthLemmas.{patterns-contain}
use Rattle.aa_glob.specs.Drawn.{trail_at}
use Rattle.aa_glob.specs.GraphLaws.{ReachingIsReading, ReachingTheEndIsMatching}
use Rattle.aa_glob.specs.Visits.{IsReadOf}
use Rattle.aa_glob_pattern.specs.Trails.{Trail, trail_of}
use Rattle.aa_glob_syntax.specs.Reading.{items_of, reading}
use Rattle.aa_glob_syntax.specs.Patterns.{AreMatching, IsPatternAt}
use Rattle.aa_glob_paths.specs.AllPaths.{AreTold, IsOutcome, SamePlaces, TellAllPaths}
use Rattle.aa_glob_paths.specs.TooMany.{AreMoreTextsThan}
use Rattle.aa_glob_paths.proofs.RisingLemmas.{rise-same}
use Rattle.aa_glob_paths.specs.code.AllTexts.{AreOutcomesBefore, IsFoundBy, TellAllTexts}
use Rattle.aa_glob_paths.specs.declared.outcome.Outcome.{Outcome}

-- the patterns of a set, as they are gathered
pub ends-in : (g : Graph) (set places : List ℕ) → ((p : ℕ) → Contains places p ↔ IsEndIn g (length set) set p) → EndIn g set places
ends-in g set places got p = (
  (λ h. let known = (got p).0 h in (known.1, known.4, Contains-slice_get set known.0 known.1 known.2 known.3)),
  (λ end. (got p).1 (end.2.0, end.0, end.2.1, slice_get-get_or set end.2.0 end.0 end.2.1 ∙ ap Some end.2.2, end.1)),
)

-- two lists of the patterns of one set
pub same-ends : (g : Graph) (set places others : List ℕ) → EndIn g set places → EndIn g set others → SamePlaces places others
same-ends g set places others first second p = ((λ h. (second p).1 ((first p).0 h)), (λ h. (first p).1 ((second p).0 h)))

-- the patterns of a text that leads to a set
found-in : (g : Graph) (text set places : List ℕ) → IsWhole g (reverse text) set → IsFound g text places → EndIn g set places
found-in g text set places whole found p = (
  (λ h. let end = (found p).0 h in (end.0, end.1, whole.each end.0 end.2)),
  (λ end. (found p).1 (end.0, end.1, All-contains (Reaches g (reverse text)) set end.0 whole.reached end.2)),
)

-- what a text is passed over for is a pattern that is told of it
none-passed : (g : Graph) (classes text places : List ℕ) → IsFound g text places → AreTold classes places → IsPassedOver g classes (reverse text) → ⊥
none-passed g classes text places told want passed = want.none_passed_over (passed.0, (told passed.0).1 passed.2, passed.1)

-- the outcomes of all sets tell of all texts
pub texts-told : NotPassedOverIsUnsettled → (g : Graph) (classes : List ℕ) (wanted settled : List Bool) (found : List FoundSet) (outcomes : List Outcome) → IsLaid g
    → MarksWanted g classes wanted → MarksSettled g classes settled → AreReachable g wanted settled found → AreOutcomesBefore g classes found (length found) outcomes
    → TellAllTexts g classes outcomes
texts-told law g classes wanted settled found outcomes laid marks settles reachable are = record {
  each_text = λ text places bytes told want.
      let one = want.wanted in
      let end = (told one.0).0 one.1 in
      let it = marks end.0 one.0 (there g laid end.2) end.1 one.2 in
      let unsettled = law g classes settled (reverse text) settles (end.0, end.2) (none-passed g classes text places told want) in
      let set = reachable.each_text (reverse text) (bytes-reverse text bytes) (end.0, end.2, it) unsettled in
      let own = reachable.each_set set.0 set.1 in
      let ends = found-in g text (set_at found set.0) places set.2 told in
      let outcome = are.each set.0 places set.1 ends want in
      let short = outcome.3 own.0 own.3 in
      let most = set.3 own.0 own.3 in (
        outcome.0,
        outcome.1,
        same-ends g (set_at found set.0) outcome.0.places.items places outcome.2 ends,
        omega (arith, short, most, length-reverse text),
      );
  each_outcome = are.only;
  order = are.order;
}

-- a path's patterns are those whose ends it leads to, by the law of drawn graphs
found-matching : ReachingTheEndIsMatching → (g : Graph) (patterns : List (List ℕ)) (path places : List ℕ) → AreBytes path → IsGraphOf g patterns
    → AreMatching patterns path places → IsFound g path places
found-matching law g patterns path places bytes graph matching place = (there', back)
  where
    read : (pattern : List ℕ) → IsPatternAt patterns place pattern → reading pattern ≡ Ok (items_of pattern)
    read pattern at = All-contains (λ text. reading text ≡ Ok (items_of text)) patterns pattern graph.read (patterns-contain patterns place pattern at)

    there' : Contains places place → (r : ℕ) × EndsAt g r place × Reaches g (reverse path) r
    there' h =
        let known = (matching place).0 h in
        let state = (graph.beginnings.members (trail_of known.0)).1 (known.0, patterns-contain patterns place known.0 known.1, ([], refl)) in
        let is : trail_at graph.trails state.0 ≡ trail_of known.0 = get_or_default graph.trails state.0 [] (trail_of known.0) state.1 ∙ state.2 in (
          state.0,
          (graph.ends state.0 place).1 (known.0, known.1, state.1, is),
          (law g graph.trails graph.drawn known.0 path state.0 (read known.0 known.1) state.1 is bytes).1 known.2,
        )

    back : (r : ℕ) × EndsAt g r place × Reaches g (reverse path) r → Contains places place
    back end =
        let whole = (graph.ends end.0 place).0 end.1 in
        (matching place).1 (whole.0, whole.1, (law g graph.trails graph.drawn whole.0 path end.0 (read whole.0 whole.1) whole.2 whole.3 bytes).0 end.2)

-- what is told of all texts is told of all paths
pub paths-told : ReachingTheEndIsMatching → (g : Graph) (patterns : List (List ℕ)) (classes : List ℕ) (outcomes : List Outcome) → IsGraphOf g patterns
    → TellAllTexts g classes outcomes → TellAllPaths patterns classes outcomes
paths-told law g patterns classes outcomes graph told = record {
  each_path = λ path places bytes matching want. told.each_text path places bytes (found-matching law g patterns path places bytes graph matching) want;
  each_outcome = All-weaker (IsFoundBy g classes) (IsOutcome patterns classes) (λ o by. record {
    bytes = by.bytes;
    matching = matching-found law g patterns o.path.items o.places.items by.bytes by.found graph;
    rise = by.rise;
    told = by.told;
  }) outcomes told.each_outcome;
  by_length = told.order.by_length;
  apart = λ i j d before within same.
      let one = told.each_outcome i d (omega (arith, before, within)) in
      let later = told.each_outcome j d within in
      told.order.apart i j d before within (rise-same _ _ one.rise later.rise same);
}

-- no patterns, no paths
pub none-told : (classes : List ℕ) → TellAllPaths [] classes []
none-told classes = record {
  each_path = λ path places bytes matching want. absurd (let known = (matching want.wanted.0).0 want.wanted.1 in let at = known.1 in cc);
  each_outcome = All-nil (IsOutcome [] classes);
  by_length = λ i j d before within. absurd (omega (arith, within));
  apart = λ i j d before within. absurd (omega (arith, within));
}

-- texts that the patterns read alike lead to the same states
lead-on : ReachingIsReading → (g : Graph) (patterns : List (List ℕ)) → IsGraphOf g patterns → (past other : List ℕ) → AreBytes past → AreBytes other
    → ((trail : Trail) → IsReadOf patterns past trail → IsReadOf patterns other trail) → (r : ℕ) → Reaches g past r → Reaches g other r
lead-on law g patterns graph past other bytes others read r at =
    let within : r < length graph.trails = omega (arith, there g (graph-laid g patterns graph) at, graph.drawn.states) in
    let trail = trail_at graph.trails r in
    let begins = (graph.beginnings.members trail).0 (Contains-get_or graph.trails r [] within) in
    (law g graph.trails graph.drawn r other within others).1 (read trail (begins, (law g graph.trails graph.drawn r past within bytes).0 at)).1

pub more-texts : ReachingIsReading → (g : Graph) (patterns : List (List ℕ)) (limit : ℕ) → IsGraphOf g patterns → AreMoreThan g limit → AreMoreTextsThan patterns limit
more-texts law g patterns limit graph are = record {
  texts = are.texts;
  more = are.more;
  bytes = are.bytes;
  apart = λ i j d before within alike.
      let one = are.bytes i d (omega (arith, before, within)) in
      let later = are.bytes j d within in
      are.apart i j d before within (λ r. (
        lead-on law g patterns graph _ _ one later (λ trail. (alike trail).0) r,
        lead-on law g patterns graph _ _ later one (λ trail. (alike trail).1) r,
      ));
}

-- what is there is so, if at all
pub some_weaker : {X : Type 0} (P Q : X → Type 0) → ((x : X) → P x → Q x) → (found : Option X) → IfSome found P → IfSome found Q
some_weaker P Q f None h = tt
some_weaker P Q f (Some x) h = f x h
