-- Patterns clash exactly where one text reaches the ends of both.
use Rattle.std.proofs.Common.{◌≡◌, ◌↔◌, ℕ, ◌<◌, ◌^◌, true, List, [], ◌∷◌, length, reverse, refl, sym, ap, ◌∙◌, subst, arith}
use Rattle.std.specs.Prelude.{None, Ok, Option, Some, Decides, is_some, slice_get}
use Rattle.std.proofs.lemmas.List.{get_or_default, reverse-append, reverse-reverse}
use Rattle.std.proofs.lemmas.List.Elements.{All-append, All-cons, All-contains, All-head, All-nil, All-tail}
use Rattle.std.proofs.lemmas.Option.{slice_get_within}
use Rattle.aa_glob.proofs.GrowthLemmas.{patterns-contain}
use Rattle.aa_glob.specs.Automata.{IsGraphOf}
use Rattle.aa_glob_nfa.specs.Graphs.{AreBytes, EndsAt, Graph, Reaches}
use Rattle.aa_glob.specs.Drawn.{IsDrawn, trail_at}
use Rattle.aa_glob.specs.GraphLaws.{ReachingTheEndIsMatching}
use Rattle.aa_glob_pairs.specs.Clashes.{IsLeast}
use Rattle.aa_glob_pairs.specs.Graphs.{ClashesAt, IsLaid}
use Rattle.aa_glob_pattern.specs.Trails.{Trail, trail_of}
use Rattle.aa_glob_syntax.specs.Matching.{matches}
use Rattle.aa_glob_syntax.specs.Overlap.{ClashesAmong, Overlap}
use Rattle.aa_glob_syntax.specs.Patterns.{IsPatternAt}
use Rattle.aa_glob_syntax.specs.Reading.{items_of, reading}

-- the ways of a drawn graph lead to later states of it
drawn-laid : (g : Graph) (trails : List Trail) → IsDrawn g trails → IsLaid g
drawn-laid g trails drawn = record {
  some = omega (arith, drawn.states, drawn.begins);
  within = λ q r leads. omega (arith, drawn.states, (drawn.within q r leads).1);
  later = drawn.later;
}

pub graph-laid : (g : Graph) (patterns : List (List ℕ)) → IsGraphOf g patterns → IsLaid g
graph-laid g patterns graph = drawn-laid g graph.trails graph.drawn

-- the number of an end is a pattern's place
pub end-within : (g : Graph) (patterns : List (List ℕ)) → IsGraphOf g patterns → (q p : ℕ) → EndsAt g q p → p < length patterns
end-within g patterns graph q p ends = let at = (graph.ends q p).0 ends in slice_get_within patterns p at.0 at.1

-- a text that is turned around
pub bytes-reverse : (text : List ℕ) → AreBytes text → AreBytes (reverse text)
bytes-reverse [] bytes = bytes
bytes-reverse (c ∷ text) bytes =
    subst (λ (l : List ℕ). AreBytes l) (sym (reverse-append (c ∷ []) text))
    (All-append (λ c. c < 2 ^ 8) (reverse text) (c ∷ []) (bytes-reverse text (All-tail (λ c. c < 2 ^ 8) c text bytes))
    (All-cons (λ c. c < 2 ^ 8) c [] (All-head (λ c. c < 2 ^ 8) c text bytes) (All-nil (λ c. c < 2 ^ 8))))

module _ (law : ReachingTheEndIsMatching) (g : Graph) (patterns : List (List ℕ)) (classes : List ℕ) (graph : IsGraphOf g patterns) where
  read : (place : ℕ) (pattern : List ℕ) → IsPatternAt patterns place pattern → reading pattern ≡ Ok (items_of pattern)
  read place pattern at = All-contains (λ text. reading text ≡ Ok (items_of text)) patterns pattern graph.read (patterns-contain patterns place pattern at)

  -- the state of a whole pattern
  end-of : (place : ℕ) (pattern : List ℕ) → IsPatternAt patterns place pattern
      → (q : ℕ) × (q < length graph.trails) × (trail_at graph.trails q ≡ trail_of pattern) × EndsAt g q place
  end-of place pattern at =
      let state = (graph.beginnings.members (trail_of pattern)).1 (pattern, patterns-contain patterns place pattern at, ([], refl)) in
      let is : trail_at graph.trails state.0 ≡ trail_of pattern = get_or_default graph.trails state.0 [] (trail_of pattern) state.1 ∙ state.2 in
      (state.0, state.1, is, (graph.ends state.0 place).1 (pattern, at, state.1, is))

  -- it is reached behind the texts that match the pattern
  reached : (place : ℕ) (pattern : List ℕ) (q : ℕ) (path : List ℕ) → IsPatternAt patterns place pattern → q < length graph.trails
      → trail_at graph.trails q ≡ trail_of pattern → AreBytes path → (Reaches g (reverse path) q ↔ (matches (items_of pattern) path ≡ true))
  reached place pattern q path at within is bytes = law g graph.trails graph.drawn pattern path q (read place pattern at) within is bytes

  pub clashes-are : (k : ℕ) → (ClashesAt g classes k ↔ ClashesAmong patterns classes k)
  clashes-are k = (to, from)
    where
      to : ClashesAt g classes k → ClashesAmong patterns classes k
      to h =
          let one = (graph.ends h.first h.other).0 h.first_ends in
          let other = (graph.ends h.second k).0 h.second_ends in
          let path : List ℕ = reverse (h.reached).0 in
          let same : reverse path ≡ (h.reached).0 = reverse-reverse (h.reached).0 in
          let bytes = bytes-reverse (h.reached).0 (h.reached).1 in
          record {
            before = h.other;
            earlier = h.earlier;
            one = one.0;
            one_there = one.1;
            other = other.0;
            other_there = other.1;
            classes_differ = h.classes_differ;
            overlap = (
              path,
              bytes,
              (reached h.other one.0 h.first path one.1 one.2 one.3 bytes).0 (subst (λ (past : List ℕ). Reaches g past h.first) (sym same) (h.reached).2),
              (reached k other.0 h.second path other.1 other.2 other.3 bytes).0 (subst (λ (past : List ℕ). Reaches g past h.second) (sym same) (h.reached).3),
            );
          }

      from : ClashesAmong patterns classes k → ClashesAt g classes k
      from h =
          let one = end-of h.before h.one h.one_there in
          let other = end-of k h.other h.other_there in
          let path = (h.overlap).0 in
          let bytes = (h.overlap).1 in
          record {
            other = h.before;
            earlier = h.earlier;
            classes_differ = h.classes_differ;
            first = one.0;
            second = other.0;
            first_ends = one.3;
            second_ends = other.3;
            reached = (
              reverse path,
              bytes-reverse path bytes,
              (reached h.before h.one one.0 path h.one_there one.1 one.2 bytes).1 (h.overlap).2,
              (reached k h.other other.0 path h.other_there other.1 other.2 bytes).1 (h.overlap).3,
            );
          }

-- Of two patterns of different classes the second clashes where they overlap.
pub two-overlap : (one other : List ℕ) → Overlap one other → ClashesAmong (one ∷ other ∷ []) (0 ∷ 1 ∷ []) 1
two-overlap one other overlap = record {
  before = 0;
  earlier = omega arith;
  one = one;
  one_there = refl;
  other = other;
  other_there = refl;
  classes_differ = λ same. absurd (omega (arith, same));
  overlap = overlap;
}

pub two-clash : (one other : List ℕ) (k : ℕ) → ClashesAmong (one ∷ other ∷ []) (0 ∷ 1 ∷ []) k → Overlap one other
two-clash one other k h =
    let within = slice_get_within (one ∷ other ∷ []) k h.other h.other_there in
    let first : h.before ≡ 0 = omega (arith, within, h.earlier) in
    let second : k ≡ 1 = omega (arith, within, h.earlier) in
    let one_is : Some one ≡ Some h.one = sym (ap (slice_get (one ∷ other ∷ [])) first) ∙ h.one_there in
    let other_is : Some other ≡ Some h.other = sym (ap (slice_get (one ∷ other ∷ [])) second) ∙ h.other_there in
    let a : h.one ≡ one = cc in
    let b : h.other ≡ other = cc in
    subst (λ (t : List ℕ). Overlap t other) a (subst (λ (t : List ℕ). Overlap h.one t) b h.overlap)

-- so whether one was found tells whether they overlap
pub found-decides : (one other : List ℕ) (found : Option ℕ) → IsLeast found (ClashesAmong (one ∷ other ∷ []) (0 ∷ 1 ∷ [])) → Decides (is_some found) (Overlap one other)
found-decides one other None least = ((λ never. absurd cc), λ overlap. absurd (least 1 (two-overlap one other overlap)))
found-decides one other (Some k) least = ((λ yes. two-clash one other k least.0), λ overlap. refl)
