-- A drawn graph stays drawn when a state is added with the ways from its sources.
use Rattle.std.proofs.Common.{◌≡◌, ◌↔◌, ℕ, zero, suc, ◌+◌, ◌<◌, List, [], ◌∷◌, ◌++◌, length, map, slice_index_or, Contains, refl, sym, ap, ◌∙◌, subst, inl, inr, ◌⊎◌, arith}
use Rattle.std.proofs.lemmas.Bool.{cases_lt}
use Rattle.std.proofs.lemmas.List.{get_or_append_left, get_or_at, get_or_default, length-append}
use Rattle.std.proofs.lemmas.List.Elements.{All-contains, Contains-append_left}
use Rattle.aa_glob_syntax.specs.Elements.{Element}
use Rattle.aa_glob.specs.Drawn.{AddsState, HaveSources, IsDrawn, Suits, SuitsLast, trail_at}
use Rattle.aa_glob_nfa.specs.Graphs.{entry_of, Graph, Leads}
use Rattle.aa_glob_nfa.specs.declared.entry.Entry.{Entry}
use Rattle.aa_glob_nfa.specs.declared.entry.Entry.TheVariants.{Free}
use Rattle.aa_glob_pattern.specs.Laws.{SourcesAreShorter}
use Rattle.aa_glob_pattern.specs.Trails.{sources, Trail}

-- a list with nothing in it
none_within : {X : Type 0} (x : X) → Contains [] x → ⊥
none_within x h = omega arith

-- what a function makes of the elements of a list
Contains-map : (f : ℕ → Trail) (xs : List ℕ) (x : ℕ) → Contains xs x → Contains (map f xs) (f x)
Contains-map f xs x h = at_place xs h.0 h.1 h.2
  where
    at_place : (xs : List ℕ) (k : ℕ) → k < length xs → slice_index_or xs k x ≡ x → Contains (map f xs) (f x)
    at_place [] k within is = absurd (omega arith)
    at_place (y ∷ xs) zero within is = (0, omega arith, ap f is)
    at_place (y ∷ xs) (suc k) within is = let rest = at_place xs k (omega arith) is in (suc rest.0, omega arith, rest.2)

map_contains : (f : ℕ → Trail) (xs : List ℕ) (y : Trail) → Contains (map f xs) y → (x : ℕ) × Contains xs x × (f x ≡ y)
map_contains f xs y h = at_place xs h.0 h.1 h.2
  where
    at_place : (xs : List ℕ) (k : ℕ) → k < length (map f xs) → slice_index_or (map f xs) k y ≡ y → (x : ℕ) × Contains xs x × (f x ≡ y)
    at_place [] k within is = absurd (omega arith)
    at_place (x ∷ xs) zero within is = (x, (0, omega arith, refl), is)
    at_place (x ∷ xs) (suc k) within is = let rest = at_place xs k (omega arith) is in (rest.0, (suc rest.1.0, omega arith, rest.1.2), rest.2)

-- the trail of a state is one of the trails
trail_within : (trails : List Trail) (q : ℕ) (trail : Trail) → q < length trails → trail_at trails q ≡ trail → Contains trails trail
trail_within trails q trail within is = (q, within, get_or_default trails q trail [] within ∙ is)

-- one trail more: that of an old state is as it was, or the state is the new one
abbrev Lies : List Trail → Trail → ℕ → Type 0
Lies trails trail q =
    (q < length trails) × (trail_at (trails ++ trail ∷ []) q ≡ trail_at trails q)
    ⊎ (q ≡ length trails) × (trail_at (trails ++ trail ∷ []) q ≡ trail)

lies : (trails : List Trail) (trail : Trail) (q : ℕ) → q < length (trails ++ trail ∷ []) → Lies trails trail q
lies trails trail q within =
    let long = length-append trails (trail ∷ []) in
    elim (cases_lt q (length trails)) [
      | inl old ↦ inl (old, get_or_append_left trails (trail ∷ []) [] q old)
      | inr above ↦
          let last : q ≡ length trails = omega arith in
          inr (last, ap (trail_at (trails ++ trail ∷ [])) last ∙ get_or_at trails trail [] [] (length trails) refl)
    ]

-- one of the sources, of equal trails
same_source : (s s' t t' : Trail) → s ≡ s' → t ≡ t' → Contains (sources s) t → Contains (sources s') t'
same_source s s' t t' p q h = subst (λ (x : Trail). Contains (sources x) t') p (subst (λ (x : Trail). Contains (sources s) x) q h)

-- the entries of equal trails and equal entries
same_suits : (s s' : Trail) (x x' : Entry) → s ≡ s' → x ≡ x' → SuitsLast s x → SuitsLast s' x'
same_suits s s' x x' p q h = subst (λ (y : Entry). SuitsLast s' y) q (subst (λ (t : Trail). SuitsLast t x) p h)

-- A state that is added with ways from those that have its sources is drawn too.
module _ (shorter : SourcesAreShorter) (old new : Graph) (trails : List Trail) (e : Element) (behind : Trail) (entry : Entry) (from : List ℕ)
    (drawn : IsDrawn old trails) (fresh : Contains trails (e ∷ behind) → ⊥) (suits : Suits e entry)
    (have : HaveSources trails from (e ∷ behind)) (adds : AddsState old new entry from) where
  abbrev now : List Trail
  now = trails ++ (e ∷ behind) ∷ []

  longer : length now ≡ length trails + 1
  longer = length-append trails ((e ∷ behind) ∷ [])

  -- a source of the new trail is the trail of a state from which a way leads
  source-from : (source : Trail) → Contains (sources (e ∷ behind)) source → (q : ℕ) × (q < length trails) × Contains from q × (trail_at trails q ≡ source)
  source-from source h =
      let found = map_contains (trail_at trails) from source ((have.1 source).1 h) in
      (found.0, All-contains (λ q. q < length trails) from found.0 have.0 found.1, found.1, found.2)

  added-apart : (q r : ℕ) → Lies trails (e ∷ behind) q → Lies trails (e ∷ behind) r → trail_at now q ≡ trail_at now r → q ≡ r
  added-apart q r (inl first) (inl second) same = drawn.apart q r first.0 second.0 (sym first.1 ∙ same ∙ second.1)
  added-apart q r (inl first) (inr second) same = absurd (fresh (trail_within trails q (e ∷ behind) first.0 (sym first.1 ∙ same ∙ second.1)))
  added-apart q r (inr first) (inl second) same = absurd (fresh (trail_within trails r (e ∷ behind) second.0 (sym second.1 ∙ sym same ∙ first.1)))
  added-apart q r (inr first) (inr second) same = first.0 ∙ sym second.0

  added-entry : (q : ℕ) → Lies trails (e ∷ behind) q → SuitsLast (trail_at now q) (entry_of new q)
  added-entry q (inl first) =
      let all = ap (λ (es : List Entry). slice_index_or es q Free) adds.entries in
      let counted = drawn.states in
      let same : entry_of new q ≡ entry_of old q = all ∙ get_or_append_left old.entries (entry ∷ []) Free q (omega arith) in
      same_suits (trail_at trails q) (trail_at now q) (entry_of old q) (entry_of new q) (sym first.1) (sym same) (drawn.entries q first.0)
  added-entry q (inr last) =
      let all = ap (λ (es : List Entry). slice_index_or es q Free) adds.entries in
      let same : entry_of new q ≡ entry = all ∙ get_or_at old.entries entry [] Free q (sym drawn.states ∙ sym last.0) in
      same_suits (e ∷ behind) (trail_at now q) entry (entry_of new q) (sym last.1) (sym same) suits

  added-there : (q : ℕ) (source : Trail) → Lies trails (e ∷ behind) q → Contains (sources (trail_at now q)) source → Contains now source
  added-there q source (inl first) h =
      Contains-append_left trails ((e ∷ behind) ∷ []) source (drawn.all_there q source first.0 (same_source (trail_at now q) (trail_at trails q) source source first.1 refl h))
  added-there q source (inr last) h =
      let found = source-from source (same_source (trail_at now q) (e ∷ behind) source source last.1 refl h) in
      Contains-append_left trails ((e ∷ behind) ∷ []) source (trail_within trails found.0 source found.1 found.3)

  added-within : (q r : ℕ) → Leads new q r → (q < length now) × (r < length now)
  added-within q r leads = by_way ((adds.ways q r).0 leads)
    where
      by_way : Leads old q r ⊎ ((r ≡ length old.entries) × Contains from q) → (q < length now) × (r < length now)
      by_way (inl before) = let within = drawn.within q r before in let long = longer in (omega arith, omega arith)
      by_way (inr link) =
          let first = All-contains (λ q. q < length trails) from q have.0 link.1 in
          let counted = drawn.states in
          let long = longer in
          (omega arith, omega arith)

  -- a way leads to a later state
  added-later : (q r : ℕ) → Leads new q r → q < r
  added-later q r leads = by_way ((adds.ways q r).0 leads)
    where
      by_way : Leads old q r ⊎ ((r ≡ length old.entries) × Contains from q) → q < r
      by_way (inl before) = drawn.later q r before
      by_way (inr link) =
          let first = All-contains (λ q. q < length trails) from q have.0 link.1 in
          let counted = drawn.states in
          omega (arith, first, counted, link.0)

  -- a way leads from one that has a source
  added-leads : (q r : ℕ) → Lies trails (e ∷ behind) q → Lies trails (e ∷ behind) r → Leads old q r ⊎ ((r ≡ length old.entries) × Contains from q) → Contains (sources (trail_at now r)) (trail_at now q)
  added-leads q r first second (inl before) =
      let within = drawn.within q r before in
      same_source (trail_at trails r) (trail_at now r) (trail_at trails q) (trail_at now q) (sym (get_or_append_left trails ((e ∷ behind) ∷ []) [] r within.1)) (sym (get_or_append_left trails ((e ∷ behind) ∷ []) [] q within.0)) ((drawn.ways q r within.0 within.1).0 before)
  added-leads q r first (inl second) (inr link) = absurd (let counted = drawn.states in omega arith)
  added-leads q r first (inr second) (inr link) =
      let within = All-contains (λ q. q < length trails) from q have.0 link.1 in
      let source = (have.1 (trail_at trails q)).0 (Contains-map (trail_at trails) from q link.1) in
      same_source (e ∷ behind) (trail_at now r) (trail_at trails q) (trail_at now q) (sym second.1) (sym (get_or_append_left trails ((e ∷ behind) ∷ []) [] q within)) source

  -- where one has a source, a way leads from it
  added-has : (q r : ℕ) → Lies trails (e ∷ behind) q → Lies trails (e ∷ behind) r → Contains (sources (trail_at now r)) (trail_at now q) → Leads old q r ⊎ ((r ≡ length old.entries) × Contains from q)
  added-has q r (inl first) (inl second) h =
      inl ((drawn.ways q r first.0 second.0).1 (same_source (trail_at now r) (trail_at trails r) (trail_at now q) (trail_at trails q) second.1 first.1 h))
  added-has q r (inr first) (inl second) h =
      absurd (fresh (drawn.all_there r (e ∷ behind) second.0 (same_source (trail_at now r) (trail_at trails r) (trail_at now q) (e ∷ behind) second.1 first.1 h)))
  added-has q r (inl first) (inr second) h =
      let found = source-from (trail_at trails q) (same_source (trail_at now r) (e ∷ behind) (trail_at now q) (trail_at trails q) second.1 first.1 h) in
      let same : found.0 ≡ q = drawn.apart found.0 q found.1 first.0 found.3 in
      inr (second.0 ∙ drawn.states, subst (λ (n : ℕ). Contains from n) same found.2)
  added-has q r (inr first) (inr second) h =
      absurd (let less = (shorter (e ∷ behind) (e ∷ behind) (same_source (trail_at now r) (e ∷ behind) (trail_at now q) (e ∷ behind) second.1 first.1 h)).2 in omega arith)

  pub drawn-added : IsDrawn new now
  drawn-added = record {
    states = let long = longer in let counted = drawn.states in let more = ap length adds.entries in let one = length-append old.entries (entry ∷ []) in omega arith;
    begins = let long = longer in omega arith;
    start = get_or_append_left trails ((e ∷ behind) ∷ []) [] 0 drawn.begins ∙ drawn.start;
    apart = λ q r within also same. added-apart q r (lies trails (e ∷ behind) q within) (lies trails (e ∷ behind) r also) same;
    entries = λ q within. added-entry q (lies trails (e ∷ behind) q within);
    all_there = λ q source within h. added-there q source (lies trails (e ∷ behind) q within) h;
    within = added-within;
    later = added-later;
    ways = λ q r within also. (
      λ leads. added-leads q r (lies trails (e ∷ behind) q within) (lies trails (e ∷ behind) r also) ((adds.ways q r).0 leads),
      λ h. (adds.ways q r).1 (added-has q r (lies trails (e ∷ behind) q within) (lies trails (e ∷ behind) r also) h),
    );
  }

-- The start alone is drawn of the empty trail.
pub drawn-start : (g : Graph) → g.entries ≡ Free ∷ [] → ((q r : ℕ) → Leads g q r → ⊥) → IsDrawn g ([] ∷ [])
drawn-start g entries none = record {
  states = ap length (sym entries);
  begins = omega arith;
  start = refl;
  apart = λ q r within also same. omega arith;
  entries = λ q within. let first : q ≡ 0 = omega arith in rw first (ap (λ (es : List Entry). slice_index_or es 0 Free) entries);
  all_there = λ q source within h. let first : q ≡ 0 = omega arith in absurd (none_within source (subst (λ (n : ℕ). Contains (sources (trail_at ([] ∷ []) n)) source) first h));
  within = λ q r leads. absurd (none q r leads);
  later = λ q r leads. absurd (none q r leads);
  ways = λ q r within also. (
    λ leads. absurd (none q r leads),
    λ h. let first : r ≡ 0 = omega arith in absurd (none_within (trail_at ([] ∷ []) q) (subst (λ (n : ℕ). Contains (sources (trail_at ([] ∷ []) n)) (trail_at ([] ∷ []) q)) first h)),
  );
}

-- which ways and entries there are is all that counts
pub drawn-same : (g h : Graph) (trails : List Trail) → g.entries ≡ h.entries → ((q r : ℕ) → (Leads g q r ↔ Leads h q r)) → IsDrawn g trails → IsDrawn h trails
drawn-same g h trails entries ways drawn = record {
  states = drawn.states ∙ ap length entries;
  begins = drawn.begins;
  start = drawn.start;
  apart = drawn.apart;
  entries = λ q within. subst (λ (es : List Entry). SuitsLast (trail_at trails q) (slice_index_or es q Free)) entries (drawn.entries q within);
  all_there = drawn.all_there;
  within = λ q r leads. drawn.within q r ((ways q r).1 leads);
  later = λ q r leads. drawn.later q r ((ways q r).1 leads);
  ways = λ q r within also. (
    λ leads. (drawn.ways q r within also).0 ((ways q r).1 leads),
    λ source. (ways q r).0 ((drawn.ways q r within also).1 source),
  );
}
