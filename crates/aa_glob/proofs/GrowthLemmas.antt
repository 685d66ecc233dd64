-- What has grown stands for one more beginning where an element leads to it.
use Rattle.std.proofs.Common.{◌≡◌, ℕ, ◌+◌, ◌<◌, ◌≤◌, List, [], ◌∷◌, ◌++◌, map, length, refl, sym, ap, ◌∙◌, subst, inl, inr, arith}
use Rattle.std.specs.Prelude.{Contains, Err, IfOk, None, Ok, Result, Some, slice_index_or}
use Rattle.std.specs.List.{All}
use Rattle.std.proofs.lemmas.Bool.{cases_lt}
use Rattle.std.proofs.lemmas.List.{get_or_default, length-append}
use Rattle.std.proofs.lemmas.Option.{get_or_from_slice_get, slice_get_within}
use Rattle.aa_glob_syntax.specs.Patterns.{IsPatternAt}
use Rattle.aa_glob.specs.Grown.{Finds, GoesOn, IsThere, StandsAt}
use Rattle.aa_glob.specs.Numbers.{AreKept, most_number, number_of}
use Rattle.aa_glob.specs.Walks.{Standing, entered, source_states}
use Rattle.aa_glob.specs.Ways.{AddsWays}
use Rattle.aa_glob.specs.code.Growths.{Follows, FollowsTo, GrowsBy, IsGrowing}
use Rattle.aa_glob.specs.declared.growing.Growing.{Growing}
use Rattle.aa_glob.proofs.FindLemmas.{finds_more, finds_numbered, found_is, goes_on-push, goes_on-same, last_trail, none_is}
use Rattle.aa_glob.proofs.StandLemmas.{sources_named, sources_there, stands_entered, stands_kept}
use Rattle.aa_glob.specs.Drawn.{AddsState, HaveSources, trail_at}
use Rattle.aa_glob.specs.GraphLaws.{AddedIsDrawn}
use Rattle.aa_glob_syntax.specs.Elements.{Element}
use Rattle.aa_glob_nfa.specs.Graphs.{EndsAt, Graph, with_entry}
use Rattle.aa_glob_nfa.specs.declared.entry.Entry.{Entry}
use Rattle.aa_glob_pattern.specs.Beginnings.{Begun}
use Rattle.aa_glob_pattern.specs.Laws.{KnownTrailIsMet, NewTrailIsAdded}
use Rattle.aa_glob_pattern.specs.Trails.{sources, Trail, trail_of}
use Rattle.aa_glob.specs.Tree.{next}

-- the ways to a state that is new are drawn between states
pub ways_fit : (old new : Graph) (entry : Entry) (e : Element) (walk : Standing)
    → walk.state < length old.entries → All (IsThere (length old.entries)) walk.groups → new ≡ with_entry entry old
    → All (λ q. q < length new.entries) (source_states e walk)
ways_fit old new entry e walk state groups more k d within =
    let long : length new.entries ≡ length old.entries + 1 = ap (λ (g : Graph). length g.entries) more ∙ length-append old.entries (entry ∷ []) in
    let there = sources_there (length old.entries) e walk state groups k d within in
    omega (arith, long, there)

-- a state that is added with its ways
pub adds_state : (old mid new : Graph) (entry : Entry) (from : List ℕ) (to : ℕ) → mid ≡ with_entry entry old → to ≡ length old.entries → AddsWays mid new from to
    → AddsState old new entry from
adds_state old mid new entry from to more is adds =
    by (subst (λ (g : Graph). AddsWays g new from (length old.entries)) more (subst (λ (q : ℕ). AddsWays mid new from q) is adds))
  where
    by : AddsWays (with_entry entry old) new from (length old.entries) → AddsState old new entry from
    by drawn = record {
      entries = drawn.entries;
      ways = λ q r. (
        λ h. elim ((drawn.ways q r).0 h) [ inl older ↦ inl older | inr way ↦ inr (way.1, way.0) ],
        λ h. elim h [ inl older ↦ (drawn.ways q r).1 (inl older) | inr way ↦ (drawn.ways q r).1 (inr (way.1, way.0)) ],
      );
    }

pub patterns-contain : (patterns : List (List ℕ)) (place : ℕ) (pattern : List ℕ) → IsPatternAt patterns place pattern → Contains patterns pattern
patterns-contain patterns place pattern is = (place, slice_get_within patterns place pattern is, get_or_from_slice_get patterns place pattern pattern is)

-- the whole trail of a pattern is there
pub whole-contained : (patterns : List (List ℕ)) (trail : Trail) (trails : List Trail) (place : ℕ) (pattern : List ℕ)
    → Begun patterns trail trails → IsPatternAt patterns place pattern → Contains trails (trail_of pattern)
whole-contained patterns trail trails place pattern begun is =
    (begun.members (trail_of pattern)).1 (inl (pattern, patterns-contain patterns place pattern is, ([], refl)))

-- more numbers change nothing
pub follows-numbered : (patterns : List (List ℕ)) (trail : Trail) (g : Growing) (keys : List (List ℕ)) (walk : Standing) → AreKept g.numbers keys
    → Follows patterns trail g walk → Follows patterns trail (record g { numbers = keys }) walk
follows-numbered patterns trail g keys walk kept follows = record {
  trails = follows.trails;
  growing = record {
    drawn = follows.growing.drawn;
    finds = finds_numbered g.tree g.numbers keys follows.trails follows.growing.finds kept;
    begun = follows.growing.begun;
    ends = follows.growing.ends;
  };
  stands = follows.stands;
}

-- a state that is found
pub follows-met : KnownTrailIsMet → (patterns : List (List ℕ)) (trail : Trail) (g : Growing) (walk : Standing) (e : Element) (n q : ℕ)
    → n < most_number → number_of g.numbers e ≡ Some n → next g.tree walk.state n ≡ Some q
    → Follows patterns trail g walk → FollowsTo patterns e trail g walk q
follows-met law patterns trail g walk e n q small number found follows =
    let told = found_is g.tree g.numbers follows.trails follows.growing.finds e walk.state n q small number found in
    let is : trail_at follows.trails q ≡ e ∷ trail = told.1 ∙ ap (λ (t : Trail). e ∷ t) follows.stands.here in
    record {
      trails = follows.trails;
      growing = record {
        drawn = follows.growing.drawn;
        finds = follows.growing.finds;
        begun = law patterns trail follows.trails e follows.growing.begun (q, told.0, default told.0 ∙ is);
        ends = follows.growing.ends;
      };
      stands = follows.stands;
      there = told.0;
      is = is;
    }
  where
    default : q < length follows.trails → slice_index_or follows.trails q (e ∷ trail) ≡ trail_at follows.trails q
    default within = get_or_default follows.trails q (e ∷ trail) [] within

-- a state that is new
pub follows-grown : NewTrailIsAdded → AddedIsDrawn → (patterns : List (List ℕ)) (trail : Trail) (old new : Growing) (walk : Standing) (e : Element) (n : ℕ)
    → n < most_number → number_of old.numbers e ≡ Some n → next old.tree walk.state n ≡ None → GrowsBy old walk e n new
    → Follows patterns trail old walk → FollowsTo patterns e trail new walk (length old.drawing.entries)
follows-grown added drawn patterns trail old new walk e n small number free grows follows = record {
  trails = more;
  growing = record {
    drawn = drawn old.drawing new.drawing trails e trail grows.entry (source_states e walk) growing.drawn absent grows.suits have grows.adds;
    finds = finds;
    begun = added patterns trail trails e growing.begun absent;
    ends = λ state place. (ends-there state place, ends-back state place);
  };
  stands = stands_kept trails more walk trail on follows.stands;
  there = omega (arith, count, long);
  is = ap (trail_at more) (sym count) ∙ last_trail trails (e ∷ trail);
}
  where
    trails : List Trail
    trails = follows.trails

    growing : IsGrowing patterns trail old trails
    growing = follows.growing

    more : List Trail
    more = trails ++ (e ∷ trail) ∷ []

    on : GoesOn trails more
    on = goes_on-push trails (e ∷ trail)

    count : length trails ≡ length old.drawing.entries
    count = growing.drawn.states

    long : length more ≡ length trails + 1
    long = length-append trails ((e ∷ trail) ∷ [])

    absent : Contains trails (e ∷ trail) → ⊥
    absent h =
        none_is old.tree old.numbers trails growing.finds growing.drawn.apart e walk.state n follows.stands.there number free
        (subst (λ (t : Trail). Contains trails (e ∷ t)) (sym follows.stands.here) h)

    named : map (trail_at trails) (source_states e walk) ≡ sources (e ∷ trail)
    named = sources_named trails e trail walk follows.stands

    have : HaveSources trails (source_states e walk) (e ∷ trail)
    have = (
      sources_there (length trails) e walk follows.stands.there follows.stands.groups_there,
      λ source. (subst (λ (ts : List Trail). Contains ts source) named, subst (λ (ts : List Trail). Contains ts source) (sym named)),
    )

    finds : Finds new.tree new.numbers more
    finds =
        subst (λ (keys : List (List ℕ)). Finds new.tree keys more) (sym grows.numbers)
        (subst (λ (t : Trail). Finds new.tree old.numbers (trails ++ (e ∷ t) ∷ [])) follows.stands.here
        (finds_more old.tree new.tree old.numbers trails e walk.state n growing.finds grows.more grows.places_more small number follows.stands.there free))

    ends-there : (state place : ℕ) → EndsAt new.drawing state place
        → (pattern : List ℕ) × IsPatternAt patterns place pattern × (state < length more) × (trail_at more state ≡ trail_of pattern)
    ends-there state place h =
        let told = (growing.ends state place).0 (subst (λ (ends : List (ℕ × ℕ)). Contains ends (state, place)) grows.ends h) in
        (told.0, told.1, on.longer state told.2, on.same state told.2 ∙ told.3)

    ends-back : (state place : ℕ) → (pattern : List ℕ) × IsPatternAt patterns place pattern × (state < length more) × (trail_at more state ≡ trail_of pattern)
        → EndsAt new.drawing state place
    ends-back state place told = elim (cases_lt state (length trails)) [
      | inl there ↦ subst (λ (ends : List (ℕ × ℕ)). Contains ends (state, place)) (sym grows.ends)
          ((growing.ends state place).1 (told.0, told.1, there, sym (on.same state there) ∙ told.3))
      | inr above ↦ absurd (absent (last above))
    ]
      where
        last : length trails ≤ state → Contains trails (e ∷ trail)
        last above =
            let is : state ≡ length trails = omega (arith, above, told.2, long) in
            let same : trail_of told.0 ≡ e ∷ trail = sym told.3 ∙ ap (trail_at more) is ∙ last_trail trails (e ∷ trail) in
            subst (λ (t : Trail). Contains trails t) same (whole-contained patterns trail trails place told.0 growing.begun told.1)

-- the walk goes on to the state
pub follows-entered : (patterns : List (List ℕ)) (trail : Trail) (g : Growing) (before after : Standing) (e : Element) (q : ℕ)
    → after ≡ entered e q before → FollowsTo patterns e trail g before q → Follows patterns (e ∷ trail) g after
follows-entered patterns trail g before after e q goes to = record {
  trails = to.trails;
  growing = to.growing;
  stands =
      subst (λ (walk : Standing). StandsAt to.trails walk (e ∷ trail)) (sym goes)
      (stands_entered to.trails to.trails e trail before q (goes_on-same to.trails) to.stands to.there to.is);
}

-- what two facts of an Ok make together
pub IfOk-both : {X Y : Type 0} {P Q R : X → Type 0} → (r : Result X Y) → IfOk r P → IfOk r Q → ((x : X) → P x → Q x → R x) → IfOk r R
IfOk-both (Ok x) p q f = f x p q
IfOk-both (Err y) p q f = tt
