-- The innermost group of a walk is the last that it keeps.
use Rattle.std.proofs.Common.{◌≡◌, ℕ, ◌+◌, ◌-◌, ◌<◌, List, [], ◌∷◌, ◌++◌, length, map, reverse, take, get_or, sym, ap, ◌∙◌, subst, arith}
use Rattle.std.specs.List.{All}
use Rattle.std.proofs.lemmas.List.{reverse-append, take_all, take_more}
use Rattle.std.proofs.lemmas.List.Elements.{All-contains, All-head, All-tail, Contains-get_or}
use Rattle.aa_glob.specs.code.SeenGroups.{seen_group, seen_groups}
use Rattle.aa_glob.specs.declared.walk.Group.{Group}
use Rattle.aa_glob.specs.Walks.{OpenStates}
use Rattle.aa_glob_syntax.specs.Elements.{Close, Comma}
use Rattle.aa_glob_syntax.specs.OpenGroups.{sources_behind}
use Rattle.aa_glob.specs.Ways.{AddsWays}
use Rattle.aa_glob.proofs.WayLemmas.{reversed_has, ways-append, ways-reverse}
use Rattle.aa_glob_nfa.specs.Graphs.{Graph}

-- the last one that is kept is the innermost
last_seen : (gs : List Group) (g : Group) → 0 < length gs → ((d : Group) → g ≡ get_or gs (length gs - 1) d) → (rest : List OpenStates) × (seen_groups gs ≡ seen_group g ∷ rest)
last_seen gs g some last =
    let before : List Group = take (length gs - 1) gs in
    let count : length gs - 1 + 1 ≡ length gs = omega (arith, some) in
    let whole : gs ≡ before ++ g ∷ [] =
    sym (take_all (length gs) gs (omega arith)) ∙ ap (λ n. take n gs) (sym count) ∙ take_more gs (length gs - 1) g (omega (arith, some)) ∙ ap (λ h. before ++ h ∷ []) (sym (last g)) in
    (map seen_group (reverse before), ap seen_groups whole ∙ ap (map seen_group) (reverse-append before (g ∷ [])))

-- its beginning is there
pub beginning_there : (states state : ℕ) (gs : List Group) (g : Group) → 0 < length gs → ((d : Group) → g ≡ get_or gs (length gs - 1) d)
    → All (λ q. q < states) (sources_behind Comma state (seen_groups gs)) → g.beginning < states
beginning_there states state gs g some last there =
    let seen = last_seen gs g some last in
    All-head (λ q. q < states) g.beginning [] (subst (λ (groups : List OpenStates). All (λ q. q < states) (sources_behind Comma state groups)) seen.1 there)

-- and its ends are
pub ends_there : (states state : ℕ) (gs : List Group) (g : Group) → 0 < length gs → ((d : Group) → g ≡ get_or gs (length gs - 1) d)
    → All (λ q. q < states) (sources_behind Close state (seen_groups gs)) → All (λ q. q < states) g.ends.items
ends_there states state gs g some last there k d within =
    let seen = last_seen gs g some last in
    let all = subst (λ (groups : List OpenStates). All (λ q. q < states) (sources_behind Close state groups)) seen.1 there in
    All-contains (λ q. q < states) (reverse g.ends.items) (get_or g.ends.items k d) (All-tail (λ q. q < states) state (reverse g.ends.items) all)
    (reversed_has g.ends.items (get_or g.ends.items k d) (Contains-get_or g.ends.items k d within))

-- the ways from where the walk is and from these ends are all
pub ends_drawn : (state to : ℕ) (gs : List Group) (g : Group) (old mid new : Graph) → 0 < length gs → ((d : Group) → g ≡ get_or gs (length gs - 1) d)
    → AddsWays old mid (state ∷ []) to → AddsWays mid new g.ends.items to → AddsWays old new (sources_behind Close state (seen_groups gs)) to
ends_drawn state to gs g old mid new some last one others =
    let seen = last_seen gs g some last in
    subst (λ (groups : List OpenStates). AddsWays old new (sources_behind Close state groups) to) (sym seen.1)
    (ways-append old mid new (state ∷ []) (reverse g.ends.items) to one (ways-reverse mid new g.ends.items to others))
