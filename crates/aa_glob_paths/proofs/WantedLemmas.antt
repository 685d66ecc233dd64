-- Which states matter, by the classes below them.
use Rattle.std.proofs.Common.{◌≡◌, ℕ, zero, suc, ◌<◌, Bool, true, List, [], ◌∷◌, length, map, refl, sym, ◌∙◌, ap, subst, arith, eq-eqb, eqb-true}
use Rattle.std.specs.Prelude.{slice_index_or}
use Rattle.aa_glob_nfa.specs.Graphs.{Graph}
use Rattle.aa_glob_pairs.specs.Below.{Covers}
use Rattle.aa_glob_pairs.specs.Graphs.{AreBelow, class_at, IsLaid}
use Rattle.aa_glob_pairs.specs.declared.below.Below.{Below}
use Rattle.aa_glob_pairs.specs.declared.below.Below.TheVariants.{Nothing, One, Several}
use Rattle.aa_glob_paths.specs.Reachable.{IsKeptBack, matters}
use Rattle.aa_glob_paths.specs.Wanted.{has_wanted, MarksWanted, wanted_class, wanted_or_other}

covers-wanted : (below : Below) → Covers below wanted_class → has_wanted below ≡ true
covers-wanted Nothing covers = absurd covers
covers-wanted (One own) covers = eq-eqb own wanted_class (sym covers)
covers-wanted Several covers = refl

wanted-covers : (below : Below) → has_wanted below ≡ true → Covers below wanted_class
wanted-covers Nothing has = absurd (cc)
wanted-covers (One own) has = sym (eqb-true own wanted_class has)
wanted-covers Several has = tt

-- what is told of each state
matters-map : (belows : List Below) (q : ℕ) → matters (map has_wanted belows) q ≡ has_wanted (slice_index_or belows q Nothing)
matters-map [] q = refl
matters-map (below ∷ belows) zero = refl
matters-map (below ∷ belows) (suc q) = matters-map belows q

pub kept-back : (g : Graph) (classes : List ℕ) (belows : List Below) → IsLaid g → AreBelow g classes belows → IsKeptBack g (map has_wanted belows)
kept-back g classes belows laid are q r leads it =
    let within : q < length g.entries = omega (arith, laid.within q r leads, laid.later q r leads) in
    let on = (are.each q within).on r leads in
    matters-map belows q
    ∙ covers-wanted (slice_index_or belows q Nothing) (on wanted_class (wanted-covers (slice_index_or belows r Nothing) (sym (matters-map belows r) ∙ it)))

-- the class of a pattern that is wanted, where all others have one
other-at : (classes : List ℕ) (p : ℕ) → class_at classes p ≡ wanted_class → class_at (map wanted_or_other classes) p ≡ wanted_class
other-at [] p is = absurd (cc)
other-at (class ∷ classes) zero is = ap wanted_or_other is
other-at (class ∷ classes) (suc p) is = other-at classes p is

-- what is marked by these classes is by the own ones
pub marks-own : (g : Graph) (classes : List ℕ) (wanted : List Bool) → MarksWanted g (map wanted_or_other classes) wanted → MarksWanted g classes wanted
marks-own g classes wanted marks q p within ends is = marks q p within ends (other-at classes p is)

pub marks-wanted : (g : Graph) (classes : List ℕ) (belows : List Below) → AreBelow g classes belows → MarksWanted g classes (map has_wanted belows)
marks-wanted g classes belows are q p within ends is =
    matters-map belows q
    ∙ covers-wanted (slice_index_or belows q Nothing) (subst (Covers (slice_index_or belows q Nothing)) is ((are.each q within).own p ends))
