-- Automata are made pattern by pattern.
use Rattle.std.proofs.Common.{◌≡◌, ◌↔◌, ℕ, zero, suc, ◌+◌, ◌<◌, ◌≤◌, ◌^◌, Fits, w8, true, List, [], ◌∷◌, ◌++◌, length, refl, sym, ap, ◌∙◌, subst, inl, inr, ◌⊎◌, arith}
use Rattle.std.specs.Prelude.{Contains, None, Ok, Some, slice_get, slice_index_or}
use Rattle.std.proofs.lemmas.Bool.{cases_lt}
use Rattle.std.proofs.lemmas.List.{append-nil, get_or_default, length-append}
use Rattle.std.proofs.lemmas.List.Elements.{All-contains, All-nil, All-push, Contains-push}
use Rattle.std.proofs.lemmas.Option.{slice_get_within}
use Rattle.aa_glob.specs.Automata.{EndWhole, IsGraphOf}
use Rattle.aa_glob_syntax.specs.Patterns.{AreMatching, IsPatternAt}
use Rattle.aa_glob.specs.Grown.{Finds}
use Rattle.aa_glob.specs.Built.{IsBuilt}
use Rattle.aa_glob.specs.code.Followed.{EndsWhole}
use Rattle.aa_glob.specs.declared.growing.Growing.{Growing}
use Rattle.aa_glob.proofs.GrowthLemmas.{patterns-contain}
use Rattle.aa_glob.specs.Drawn.{trail_at}
use Rattle.aa_glob.specs.GraphLaws.{ReachingTheEndIsMatching, SameIsDrawn, StartIsDrawn}
use Rattle.aa_glob_syntax.specs.Elements.{Element}
use Rattle.aa_glob_syntax.specs.Matching.{matches}
use Rattle.aa_glob_syntax.specs.Reading.{items_of, reading}
use Rattle.aa_glob_nfa.specs.Graphs.{AddsEnd, AreBytes, EndsAt, Graph, IsFound, SameGraph, start_alone}
use Rattle.aa_glob_pattern.specs.Beginnings.{AreBeginnings, Begun, HasStates, IsBeginning, IsSuffixOf}
use Rattle.aa_glob_pattern.specs.Laws.{FirstTextIsBegun, NextTextIsBegun, WholeTextIsThere}
use Rattle.aa_glob_pattern.specs.Trails.{Trail, trail_of}
use Rattle.aa_glob.specs.Tree.{HasNoWay, Ways, next, places}

-- no pattern yet

none-found : (ways : Ways) (keys : List (List ℕ)) → places ways ≡ 1 → HasNoWay ways → Finds ways keys ([] ∷ [])
none-found ways keys one none = record {
  places = one;
  found = λ p n q small found. let never : None ≡ Some q = sym (none p n small) ∙ found in absurd cc;
  all = λ q e trail within is. let first : q ≡ 0 = omega arith in absurd (apart e trail (sym (ap (trail_at ([] ∷ [])) first) ∙ is));
}
  where
    apart : (e : Element) (trail : Trail) → [] ≡ e ∷ trail → ⊥
    apart e trail is = absurd cc

nothing-there : (x : ℕ × ℕ) → Contains [] x → ⊥
nothing-there x h = All-contains (λ _. ⊥) [] x (All-nil (λ _. ⊥)) h

no-ends : (g : Graph) → g ≡ start_alone → EndWhole g ([] ∷ []) []
no-ends g is state place = (
  λ h. absurd (nothing-there (state, place) (subst (λ (x : Graph). EndsAt x state place) is h)),
  λ told. let within = slice_get_within [] place told.0 told.1 in absurd (omega (arith, within)),
)

pub built-none : StartIsDrawn → FirstTextIsBegun → (g : Growing) → g.drawing ≡ start_alone → places g.tree ≡ 1 → HasNoWay g.tree → IsBuilt (g, 0) []
built-none start first g alone one none = record {
  between = (
    [] ∷ [],
    record {
      drawn = start g.drawing (ap (λ (x : Graph). x.entries) alone) (λ q r h. nothing-there (q, r) (subst (λ (x : Graph). Contains x.ways (q, r)) alone h));
      finds = none-found g.tree g.numbers one none;
      begun = first;
      ends = no-ends g.drawing alone;
    },
  );
  read = All-nil (λ text. reading text ≡ Ok (items_of text));
  count = refl;
}

-- one pattern more

last-at : (patterns : List (List ℕ)) (text : List ℕ) → slice_get (patterns ++ text ∷ []) (length patterns) ≡ Some text
last-at [] text = refl
last-at (p ∷ ps) text = last-at ps text

before-at : (patterns : List (List ℕ)) (text pattern : List ℕ) (place : ℕ) → place < length patterns → slice_get (patterns ++ text ∷ []) place ≡ slice_get patterns place
before-at [] text pattern place within = absurd (omega (arith, within))
before-at (p ∷ ps) text pattern zero within = refl
before-at (p ∷ ps) text pattern (suc place) within = before-at ps text pattern place (omega (arith, within))

module _ (patterns : List (List ℕ)) (text : List ℕ) (old new : Graph) (state count : ℕ) (trails : List Trail)
    (adds : AddsEnd old new state count) (is : count ≡ length patterns) (ends : EndWhole old trails patterns)
    (there : state < length trails) (whole : trail_at trails state ≡ trail_of text)
    (apart : (q r : ℕ) → q < length trails → r < length trails → trail_at trails q ≡ trail_at trails r → q ≡ r) where
  abbrev Ended : ℕ → ℕ → Type 0
  Ended s place = (pattern : List ℕ) × IsPatternAt (patterns ++ text ∷ []) place pattern × (s < length trails) × (trail_at trails s ≡ trail_of pattern)

  ended-there : (s place : ℕ) → EndsAt old s place ⊎ ((s ≡ state) × (place ≡ count)) → Ended s place
  ended-there s place (inl before) =
      let told = (ends s place).0 before in
      (told.0, before-at patterns text told.0 place (slice_get_within patterns place told.0 told.1) ∙ told.1, told.2, told.3)
  ended-there s place (inr last) =
      let at : place ≡ length patterns = last.1 ∙ is in (
        text,
        ap (slice_get (patterns ++ text ∷ [])) at ∙ last-at patterns text,
        omega (arith, last.0, there),
        ap (trail_at trails) last.0 ∙ whole,
      )

  ended-back : (s place : ℕ) → Ended s place → EndsAt old s place ⊎ ((s ≡ state) × (place ≡ count))
  ended-back s place told = elim (cases_lt place (length patterns)) [
    | inl before ↦ inl ((ends s place).1 (told.0, sym (before-at patterns text told.0 place before) ∙ told.1, told.2, told.3))
    | inr above ↦ inr (last above)
  ]
    where
      last : length patterns ≤ place → (s ≡ state) × (place ≡ count)
      last above =
          let within = slice_get_within (patterns ++ text ∷ []) place told.0 told.1 in
          let long = length-append patterns (text ∷ []) in
          let at : place ≡ length patterns = omega (arith, above, within, long) in
          let some : Some text ≡ Some told.0 = sym (last-at patterns text) ∙ sym (ap (slice_get (patterns ++ text ∷ [])) at) ∙ told.1 in
          let same : text ≡ told.0 = cc in
          (apart s state told.2 there (told.3 ∙ ap trail_of (sym same) ∙ sym whole), at ∙ sym is)

  pub one-end-more : EndWhole new trails (patterns ++ text ∷ [])
  one-end-more s place = (λ h. ended-there s place ((adds.ends s place).0 h), λ told. (adds.ends s place).1 (ended-back s place told))

pub built-more : SameIsDrawn → WholeTextIsThere → NextTextIsBegun → (patterns : List (List ℕ)) (text : List ℕ) (old mid : Growing) (drawing : Graph) (count state : ℕ)
    → reading text ≡ Ok (items_of text) → EndsWhole patterns text mid state → AddsEnd mid.drawing drawing state count
    → IsBuilt (old, count) patterns → IsBuilt (record mid { drawing = drawing }, count + 1) (patterns ++ text ∷ [])
built-more same whole next patterns text old mid drawing count state reads ends adds built = record {
  between = (
    ends.trails,
    record {
      drawn = same mid.drawing drawing ends.trails (sym adds.entries) ways ends.growing.drawn;
      finds = ends.growing.finds;
      begun = next (patterns ++ text ∷ []) ends.trails text (whole patterns text ends.trails ends.growing.begun) (Contains-push patterns text);
      ends = one-end-more patterns text mid.drawing drawing state count ends.trails adds built.count ends.growing.ends ends.there ends.is ends.growing.drawn.apart;
    },
  );
  read = All-push (λ text. reading text ≡ Ok (items_of text)) patterns text built.read reads;
  count = ap (λ n. n + 1) built.count ∙ sym (length-append patterns (text ∷ []));
}
  where
    ways : (q r : ℕ) → (Contains mid.drawing.ways (q, r) ↔ Contains drawing.ways (q, r))
    ways q r = (
      subst (λ (w : List (ℕ × ℕ)). Contains w (q, r)) (sym adds.ways),
      subst (λ (w : List (ℕ × ℕ)). Contains w (q, r)) adds.ways,
    )

-- the automaton of these patterns

no-front : (more part : Trail) → more ++ part ≡ [] → part ≡ []
no-front [] part h = h
no-front (x ∷ xs) part h = absurd cc

first-there : (patterns : List (List ℕ)) → (length patterns ≡ 0 → ⊥) → (text : List ℕ) × Contains patterns text
first-there [] some = absurd (some refl)
first-there (p ∷ ps) some = (p, (0, omega arith, refl))

pub all-begun : (patterns : List (List ℕ)) (trails : List Trail) (text : List ℕ) → Contains patterns text → Begun patterns [] trails → AreBeginnings patterns trails
all-begun patterns trails text there begun = record {
  members = λ part. (λ h. by part ((begun.members part).0 h), λ h. (begun.members part).1 (inl h));
  apart = begun.apart;
}
  where
    by : (part : Trail) → IsBeginning patterns part ⊎ IsSuffixOf part [] → IsBeginning patterns part
    by part (inl begins) = begins
    by part (inr suffix) = (text, there, (trail_of text, ap (λ t. trail_of text ++ t) (no-front suffix.0 part suffix.1) ∙ append-nil (trail_of text)))

pub graph-of-built : SameIsDrawn → (g : Growing) (count : ℕ) (graph : Graph) (patterns : List (List ℕ)) → (count ≡ 0 → ⊥) → SameGraph g.drawing graph
    → IsBuilt (g, count) patterns → IsGraphOf graph patterns
graph-of-built law g count graph patterns some same built =
    let first = first-there patterns (λ none. some (built.count ∙ none)) in
    record {
      trails = built.between.0;
      drawn = law g.drawing graph built.between.0 same.entries same.ways built.between.1.drawn;
      beginnings = all-begun patterns built.between.0 first.0 first.1 built.between.1.begun;
      ends = λ state place. (
        λ h. (built.between.1.ends state place).0 ((same.ends state place).1 h),
        λ told. (same.ends state place).0 ((built.between.1.ends state place).1 told),
      );
      read = built.read;
    }

-- what it tells

pub matching-found : ReachingTheEndIsMatching → (g : Graph) (patterns : List (List ℕ)) (path found : List ℕ) → AreBytes path → IsFound g path found → IsGraphOf g patterns
    → AreMatching patterns path found
matching-found law g patterns path found bytes told graph place = (there, back)
  where
    read : (pattern : List ℕ) → IsPatternAt patterns place pattern → reading pattern ≡ Ok (items_of pattern)
    read pattern at = All-contains (λ text. reading text ≡ Ok (items_of text)) patterns pattern graph.read (patterns-contain patterns place pattern at)

    there : Contains found place → (pattern : List ℕ) × IsPatternAt patterns place pattern × (matches (items_of pattern) path ≡ true)
    there h =
        let end = (told place).0 h in
        let whole = (graph.ends end.0 place).0 end.1 in
        (whole.0, whole.1, (law g graph.trails graph.drawn whole.0 path end.0 (read whole.0 whole.1) whole.2 whole.3 bytes).0 end.2)

    back : (pattern : List ℕ) × IsPatternAt patterns place pattern × (matches (items_of pattern) path ≡ true) → Contains found place
    back (pattern, at, match) =
        let state = (graph.beginnings.members (trail_of pattern)).1 (pattern, patterns-contain patterns place pattern at, ([], refl)) in
        let is : trail_at graph.trails state.0 ≡ trail_of pattern = get_or_default graph.trails state.0 [] (trail_of pattern) state.1 ∙ state.2 in
        (told place).1 (
          state.0,
          (graph.ends state.0 place).1 (pattern, at, state.1, is),
          (law g graph.trails graph.drawn pattern path state.0 (read pattern at) state.1 is bytes).1 match,
        )

pub graph-states : (g : Graph) (patterns : List (List ℕ)) → IsGraphOf g patterns → HasStates patterns (length g.entries)
graph-states g patterns graph = (graph.trails, graph.beginnings, graph.drawn.states)

pub bytes-of : (path : List ℕ) → ((i : ℕ) → Fits w8 (slice_index_or path i 0)) → AreBytes path
bytes-of path fits k d within = subst (λ (n : ℕ). n < 2 ^ 8) (get_or_default path k 0 d within) (let small = fits k in omega arith)
