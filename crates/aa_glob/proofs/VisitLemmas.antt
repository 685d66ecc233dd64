-- The states that are visited are the beginnings that are read.
use Rattle.std.proofs.Common.{◌≡◌, ◌≢◌, ℕ, zero, suc, ◌+◌, ◌^◌, ◌<◌, List, [], ◌∷◌, length, map, reverse, take, refl, sym, ap, ◌∙◌, subst, arith}
use Rattle.std.specs.Prelude.{AllPairs, Contains, slice_index_or}
use Rattle.std.proofs.lemmas.List.{get_or-map, get_or_default, length-map}
use Rattle.std.proofs.lemmas.List.Elements.{All-take, Contains-get_or}
use Rattle.aa_glob.proofs.ClashLemmas.{bytes-reverse}
use Rattle.aa_glob.specs.Automata.{IsGraphOf}
use Rattle.aa_glob.specs.Visits.{IsReadOf}
use Rattle.aa_glob_nfa.proofs.ListLemmas.{Contains-map, Contains-map_cases}
use Rattle.aa_glob_nfa.specs.Graphs.{AreBytes, begins, comes, Graph, Reaches, stays, takes}
use Rattle.aa_glob.specs.Drawn.{IsDrawn, trail_at}
use Rattle.aa_glob.specs.GraphLaws.{ReachingIsReading}
use Rattle.aa_glob_pattern.specs.Reads.{reads}
use Rattle.aa_glob_pattern.specs.Trails.{Trail}
use Rattle.aa_glob_nfa.specs.Visits.{AreEach, AreVisits, CountsAllVisits, CountsFirstVisits}

-- a state that is reached has a trail
reached-within : (g : Graph) (trails : List Trail) → IsDrawn g trails → {past : List ℕ} {r : ℕ} → Reaches g past r → r < length trails
reached-within g trails drawn begins = drawn.begins
reached-within g trails drawn (comes {q = q} {r = r} reached leads free) = (drawn.within q r leads).1
reached-within g trails drawn (takes {q = q} {r = r} reached leads taken) = (drawn.within q r leads).1
reached-within g trails drawn (stays reached stayed) = reached-within g trails drawn reached

-- the trails of the states that are reached behind a text are the beginnings that it reads
module _ (law : ReachingIsReading) (g : Graph) (patterns : List (List ℕ)) (graph : IsGraphOf g patterns) where
  abbrev trail : ℕ → Trail
  trail = trail_at graph.trails

  each-read : (past states : List ℕ) → AreBytes past → AreEach (Reaches g past) states → AreEach (IsReadOf patterns past) (map trail states)
  each-read past states bytes each = record { members = λ t. (there t, back t); apart = apart }
    where
      within : (q : ℕ) → Contains states q → q < length graph.trails
      within q h = reached-within g graph.trails graph.drawn ((each.members q).0 h)

      there : (t : Trail) → Contains (map trail states) t → IsReadOf patterns past t
      there t h =
          let from = Contains-map_cases trail states t h in
          let small : from.0 < length graph.trails = within from.0 from.1 in
          let among : Contains graph.trails t = (from.0, small, get_or_default graph.trails from.0 t [] small ∙ from.2) in
          let read = (law g graph.trails graph.drawn from.0 past small bytes).0 ((each.members from.0).0 from.1) in
          ((graph.beginnings.members t).0 among, ap (λ (l : Trail). reads l past) (sym from.2) ∙ read)

      back : (t : Trail) → IsReadOf patterns past t → Contains (map trail states) t
      back t h =
          let at = (graph.beginnings.members t).1 h.0 in
          let is : trail at.0 ≡ t = get_or_default graph.trails at.0 [] t at.1 ∙ at.2 in
          let reached = (law g graph.trails graph.drawn at.0 past at.1 bytes).1 (ap (λ (l : Trail). reads l past) is ∙ h.1) in
          subst (λ (l : Trail). Contains (map trail states) l) is (Contains-map trail states at.0 ((each.members at.0).1 reached))

      apart : AllPairs (λ x y. x ≢ y) (map trail states)
      apart i j d before low same =
          let long = length-map states trail in
          let low_j : j < length states = omega (arith, low, long) in
          let low_i : i < length states = omega (arith, before, low_j) in
          let one = get_or-map trail states i 0 d low_i in
          let other = get_or-map trail states j 0 d low_j in
          each.apart i j 0 before low_j
          (graph.drawn.apart (slice_index_or states i 0) (slice_index_or states j 0) (within (slice_index_or states i 0) (Contains-get_or states i 0 low_i))
          (within (slice_index_or states j 0) (Contains-get_or states j 0 low_j)) (sym one ∙ same ∙ other))

  visits-read : (path : List ℕ) → AreBytes path → (places visits : ℕ) → AreVisits (Reaches g) path places visits → AreVisits (IsReadOf patterns) path places visits
  visits-read path bytes zero visits h = h
  visits-read path bytes (suc place) visits h = (
    h.0,
    visits-read path bytes place h.0 h.1,
    map trail h.2,
    each-read (reverse (take place path)) h.2 (bytes-reverse (take place path) (All-take (λ c. c < 2 ^ 8) place path bytes)) h.3,
    h.4 ∙ ap (λ n. h.0 + n) (sym (length-map h.2 trail)),
  )

  pub all-read : (path : List ℕ) (old new : ℕ) → AreBytes path → CountsAllVisits (Reaches g) path old new → CountsAllVisits (IsReadOf patterns) path old new
  all-read path old new bytes counts = (counts.0, visits-read path bytes (suc (length path)) counts.0 counts.1, counts.2)

  pub first-read : (path : List ℕ) (old new : ℕ) → AreBytes path → CountsFirstVisits (Reaches g) path old new → CountsFirstVisits (IsReadOf patterns) path old new
  first-read path old new bytes counts =
      let at = counts.2 in
      (counts.0, counts.1, (at.0, visits-read path bytes counts.0 at.0 at.1, at.2))

-- where there is no pattern, there is no beginning
none-read : (past : List ℕ) → AreEach (IsReadOf [] past) []
none-read past = record {
  members = λ t. (λ h. absurd (omega (arith, h.1)), λ h. absurd (omega (arith, h.0.1.1)));
  apart = λ i j d before low. absurd (omega (arith, low));
}

no-visits : (path : List ℕ) (places : ℕ) → AreVisits (IsReadOf []) path places 0
no-visits path zero = refl
no-visits path (suc place) = (0, no-visits path place, [], none-read (reverse (take place path)), refl)

pub none-counted : (patterns : List (List ℕ)) (path : List ℕ) (old : ℕ) → patterns ≡ [] → CountsAllVisits (IsReadOf patterns) path old old
none-counted [] path old none = (0, no-visits path (suc (length path)), refl)
none-counted (p ∷ ps) path old none = absurd cc

pub none-first : (patterns : List (List ℕ)) (path : List ℕ) (old : ℕ) → patterns ≡ [] → CountsFirstVisits (IsReadOf patterns) path old old
none-first patterns path old none = (suc (length path), omega arith, none-counted patterns path old none)
