-- Where a walk stands as it goes on.
use Rattle.std.proofs.Common.{◌≡◌, ℕ, ◌<◌, List, [], ◌∷◌, map, length, refl, ap, ◌∙◌}
use Rattle.std.specs.List.{All}
use Rattle.std.proofs.lemmas.List.Elements.{All-cons, All-head, All-nil, All-tail}
use Rattle.aa_glob.specs.Grown.{GoesOn, IsThere, StandsAt, group_at}
use Rattle.aa_glob.specs.Walks.{OpenStates, Standing, entered, source_states, standing_at}
use Rattle.aa_glob.specs.Drawn.{trail_at}
use Rattle.aa_glob_syntax.specs.Elements.{Element, Single, Open, Comma, Close, Fault}
use Rattle.aa_glob_syntax.specs.OpenGroups.{groups_behind, sources_behind}
use Rattle.aa_glob_pattern.specs.Trails.{sources, Trail, TrailGroup}

-- the sources of a trail are those of the states from which its last element is reached

behind_named : (trails : List Trail) (e : Element) (state : ℕ) (gs : List OpenStates) → map (trail_at trails) (sources_behind e state gs) ≡ sources_behind e (trail_at trails state) (map (group_at trails) gs)
behind_named trails (Single item) state gs = refl
behind_named trails Open state gs = refl
behind_named trails Comma state [] = refl
behind_named trails Comma state (g ∷ gs) = refl
behind_named trails Close state [] = refl
behind_named trails Close state (g ∷ gs) = refl
behind_named trails (Fault error) state gs = refl

pub sources_named : (trails : List Trail) (e : Element) (trail : Trail) (walk : Standing) → StandsAt trails walk trail → map (trail_at trails) (source_states e walk) ≡ sources (e ∷ trail)
sources_named trails e trail walk stands =
    behind_named trails e walk.state walk.groups ∙ ap (λ t. sources_behind e t (map (group_at trails) walk.groups)) stands.here ∙ ap (sources_behind e trail) stands.groups

-- and they are there

one_there : (states state : ℕ) → state < states → All (λ q. q < states) (state ∷ [])
one_there states state within = All-cons (λ q. q < states) state [] within (All-nil (λ q. q < states))

behind_sources : (states : ℕ) (e : Element) (state : ℕ) (gs : List OpenStates) → state < states → All (IsThere states) gs → All (λ q. q < states) (sources_behind e state gs)
behind_sources states (Single item) state gs within there = one_there states state within
behind_sources states Open state gs within there = one_there states state within
behind_sources states Comma state [] within there = one_there states state within
behind_sources states Comma state (g ∷ gs) within there = one_there states g.beginning (All-head (IsThere states) g gs there).0
behind_sources states Close state [] within there = one_there states state within
behind_sources states Close state (g ∷ gs) within there = All-cons (λ q. q < states) state g.ends within (All-head (IsThere states) g gs there).1
behind_sources states (Fault error) state gs within there = one_there states state within

pub sources_there : (states : ℕ) (e : Element) (walk : Standing) → walk.state < states → All (IsThere states) walk.groups → All (λ q. q < states) (source_states e walk)
sources_there states e walk within there = behind_sources states e walk.state walk.groups within there

-- where the trails go on, each state that was there keeps its trail

states_kept : (trails more : List Trail) → GoesOn trails more → (qs : List ℕ) → All (λ q. q < length trails) qs → map (trail_at more) qs ≡ map (trail_at trails) qs
states_kept trails more on [] there = refl
states_kept trails more on (q ∷ qs) there =
    ap (λ t. t ∷ map (trail_at more) qs) (on.same q (All-head (λ q. q < length trails) q qs there))
    ∙ ap (λ ts. trail_at trails q ∷ ts) (states_kept trails more on qs (All-tail (λ q. q < length trails) q qs there))

abbrev group_with : Trail → List Trail → TrailGroup
group_with beginning ends = record { beginning = beginning; ends = ends }

group_kept : (trails more : List Trail) → GoesOn trails more → (g : OpenStates) → IsThere (length trails) g → group_at more g ≡ group_at trails g
group_kept trails more on g there =
    ap (λ beginning. group_with beginning (map (trail_at more) g.ends)) (on.same g.beginning there.0)
    ∙ ap (group_with (trail_at trails g.beginning)) (states_kept trails more on g.ends there.1)

groups_kept : (trails more : List Trail) → GoesOn trails more → (gs : List OpenStates) → All (IsThere (length trails)) gs → map (group_at more) gs ≡ map (group_at trails) gs
groups_kept trails more on [] there = refl
groups_kept trails more on (g ∷ gs) there =
    ap (λ first. first ∷ map (group_at more) gs) (group_kept trails more on g (All-head (IsThere (length trails)) g gs there))
    ∙ ap (λ rest. group_at trails g ∷ rest) (groups_kept trails more on gs (All-tail (IsThere (length trails)) g gs there))

there_kept : (trails more : List Trail) → GoesOn trails more → (gs : List OpenStates) → All (IsThere (length trails)) gs → All (IsThere (length more)) gs
there_kept trails more on gs there k d within =
    let here = there k d within in
    (on.longer _ here.0, λ j e inside. on.longer _ (here.1 j e inside))

-- what stands stays
pub stands_kept : (trails more : List Trail) (walk : Standing) (trail : Trail) → GoesOn trails more → StandsAt trails walk trail → StandsAt more walk trail
stands_kept trails more walk trail on stands = record {
  there = on.longer walk.state stands.there;
  here = on.same walk.state stands.there ∙ stands.here;
  groups_there = there_kept trails more on walk.groups stands.groups_there;
  groups = groups_kept trails more on walk.groups stands.groups_there ∙ stands.groups;
}

-- the groups behind an element

behind_there : (states : ℕ) (e : Element) (from to : ℕ) (gs : List OpenStates) → from < states → to < states → All (IsThere states) gs → All (IsThere states) (groups_behind e from to gs)
behind_there states (Single item) from to gs f t there = there
behind_there states Open from to gs f t there = All-cons (IsThere states) (record { beginning = to; ends = [] }) gs (t, All-nil (λ q. q < states)) there
behind_there states Comma from to [] f t there = there
behind_there states Comma from to (g ∷ gs) f t there =
    let first = All-head (IsThere states) g gs there in
    All-cons (IsThere states) (record { beginning = g.beginning; ends = from ∷ g.ends }) gs
    (first.0, All-cons (λ q. q < states) from g.ends f first.1) (All-tail (IsThere states) g gs there)
behind_there states Close from to [] f t there = there
behind_there states Close from to (g ∷ gs) f t there = All-tail (IsThere states) g gs there
behind_there states (Fault error) from to gs f t there = there

groups_named : (trails : List Trail) (e : Element) (trail : Trail) (from to : ℕ) (gs : List OpenStates) → trail_at trails from ≡ trail → trail_at trails to ≡ e ∷ trail
    → map (group_at trails) (groups_behind e from to gs) ≡ groups_behind e trail (e ∷ trail) (map (group_at trails) gs)
groups_named trails (Single item) trail from to gs here is = refl
groups_named trails Open trail from to gs here is = ap (λ (t : Trail). group_with t [] ∷ map (group_at trails) gs) is
groups_named trails Comma trail from to [] here is = refl
groups_named trails Comma trail from to (g ∷ gs) here is =
    ap (λ (t : Trail). group_with (trail_at trails g.beginning) (t ∷ map (trail_at trails) g.ends) ∷ map (group_at trails) gs) here
groups_named trails Close trail from to [] here is = refl
groups_named trails Close trail from to (g ∷ gs) here is = refl
groups_named trails (Fault error) trail from to gs here is = refl

-- the walk goes on
pub stands_entered : (trails more : List Trail) (e : Element) (trail : Trail) (walk : Standing) (to : ℕ) → GoesOn trails more → StandsAt trails walk trail
    → to < length more → trail_at more to ≡ e ∷ trail → StandsAt more (entered e to walk) (e ∷ trail)
stands_entered trails more e trail walk to on stood within is =
    let stands = stands_kept trails more walk trail on stood in
    record {
      there = within;
      here = is;
      groups_there = behind_there (length more) e walk.state to walk.groups stands.there within stands.groups_there;
      groups = groups_named more e trail walk.state to walk.groups stands.here is ∙ ap (groups_behind e trail (e ∷ trail)) stands.groups;
    }

-- a walk begins where nothing is open
pub stands_start : (trails : List Trail) → 0 < length trails → trail_at trails 0 ≡ [] → StandsAt trails (standing_at 0 []) []
stands_start trails some start = record { there = some; here = start; groups_there = All-nil (IsThere (length trails)); groups = refl }
