-- What reads a trail is what reads its last element behind one of its sources.
use Rattle.std.proofs.Common.{◌≡◌, List, [], ◌∷◌, ℕ, map, refl, sym, ap, ◌∙◌}
use Rattle.std.proofs.Math.Bool.{or-false}
use Rattle.aa_glob_syntax.specs.Elements.{Element, Single, Open, Comma, Close, Fault}
use Rattle.aa_glob_syntax.specs.OpenGroups.{groups_behind, sources_behind}
use Rattle.aa_glob_pattern.specs.Reads.{element_behind, known, known_groups, KnownGroup, leading, reads, some_reads, Texts}
use Rattle.aa_glob_pattern.specs.Trails.{groups_of, sources, Trail, TrailGroup}

-- tests that agree on each text are one
pub same_texts : (first second : Texts) → ((past : List ℕ) → first past ≡ second past) → first ≡ second
same_texts first second h = λ i past. h past i

-- what reads a group's beginning and its ends
abbrev read_group : TrailGroup → KnownGroup
read_group g = record { beginning = reads g.beginning; ends = some_reads g.ends }

-- the groups that are known are those that are open
groups_step : (e : Element) (trail : Trail) (gs : List TrailGroup) → known_groups e (reads trail) (map read_group gs) ≡ map read_group (groups_behind e trail (e ∷ trail) gs)
groups_step (Single item) trail gs = refl
groups_step Open trail gs = refl
groups_step Comma trail [] = refl
groups_step Comma trail (g ∷ gs) = refl
groups_step Close trail [] = refl
groups_step Close trail (g ∷ gs) = refl
groups_step (Fault error) trail gs = refl

known_groups-of : (trail : Trail) → (known trail).groups ≡ map read_group (groups_of trail)
known_groups-of [] = refl
known_groups-of (e ∷ trail) = ap (known_groups e (reads trail)) (known_groups-of trail) ∙ groups_step e trail (groups_of trail)

-- one trail alone
one_reads : (trail : Trail) → reads trail ≡ some_reads (trail ∷ [])
one_reads trail = same_texts (reads trail) (some_reads (trail ∷ [])) (λ past. sym (or-false (reads trail past)))

leading_step : (e : Element) (trail : Trail) (gs : List TrailGroup) → leading e (reads trail) (map read_group gs) ≡ some_reads (sources_behind e trail gs)
leading_step (Single item) trail gs = one_reads trail
leading_step Open trail gs = one_reads trail
leading_step Comma trail [] = one_reads trail
leading_step Comma trail (g ∷ gs) = one_reads g.beginning
leading_step Close trail [] = one_reads trail
leading_step Close trail (g ∷ gs) = refl
leading_step (Fault error) trail gs = one_reads trail

-- A trail is read by what reads its last element behind what reads one of its sources.
pub reads-sources : (e : Element) (trail : Trail) → reads (e ∷ trail) ≡ element_behind e (some_reads (sources (e ∷ trail)))
reads-sources e trail = ap (element_behind e) (ap (leading e (reads trail)) (known_groups-of trail) ∙ leading_step e trail (groups_of trail))
