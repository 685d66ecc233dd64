-- The exec rules of a block have few states where their patterns have few bytes.
use Rattle.std.proofs.Common.{◌≡◌, ◌∙◌, ℕ, ◌+◌, ◌*◌, ◌<◌, ◌≤◌, true, false, List, [], ◌∷◌, ◌++◌, ap, arith, inl, inr, length, refl, sym}
use Rattle.std.specs.Prelude.{None, Some, drop, get_or, nat_lt, take}
use Rattle.std.specs.List.{filter_map, list_any}
use Rattle.std.proofs.lemmas.Bool.{cases_Bool, lt-ltb, ltb-true}
use Rattle.std.proofs.lemmas.List.{length-append, length-reverse, take-append-drop, take_more}
use Rattle.std.proofs.lemmas.List.Elements.{filter_map-append}
use Rattle.std.proofs.lemmas.List.Sums.{sum_by-append, sum_by-cons}
use Rattle.aa_glob.proofs.StateLemmas.{more-states}
use Rattle.aa_glob.specs.States.{same_trail, state_count, with_beginning, with_beginnings, with_texts}
use Rattle.aa_glob_pattern.proofs.BoundLemmas.{length-elements_of}
use Rattle.aa_glob_pattern.specs.Beginnings.{most_states}
use Rattle.aa_glob_pattern.specs.Elements.{elements_of}
use Rattle.aa_glob_pattern.specs.Trails.{Trail, trail_of}
use Rattle.aa_profile_conflicts.specs.States.{exec_pattern, exec_patterns, has_many_states, most_exec_states}
use Rattle.aa_profile_data.specs.declared.profile.Rule.{Rule}

few-one : (trails : List Trail) (trail : Trail) → length (with_beginning trails trail) ≤ length trails + 1
few-one trails trail = elim (cases_Bool (list_any (same_trail trail) trails)) [
  | inl there ↦ rw there (omega arith)
  | inr none ↦ rw none (let long = length-append trails (trail ∷ []) in omega (arith, long))
]

few-all : (trails : List Trail) (trail : Trail) → length (with_beginnings trails trail) ≤ length trails + length trail
few-all trails [] = omega arith
few-all trails (e ∷ trail) = omega (arith, few-all trails trail, few-one (with_beginnings trails trail) (e ∷ trail))

few-elements : (text : List ℕ) → length (trail_of text) ≤ 2 * length text
few-elements text = let turned = length-reverse (elements_of text) in let few = length-elements_of text in omega (arith, turned, few)

few-texts : (trails : List Trail) (texts : List (List ℕ)) → length (with_texts trails texts) ≤ length trails + most_states texts
few-texts trails [] = omega arith
few-texts trails (text ∷ texts) =
    let here = few-all trails (trail_of text) in
    let own = few-elements text in
    let rest = few-texts (with_beginnings trails (trail_of text)) texts in
    let summed = sum_by-cons (λ (t : List ℕ). 2 * length t + 2) text texts in
    omega (arith, here, own, rest, summed)

-- texts have no more beginnings than two for each byte, and two for each text
few-states : (texts : List (List ℕ)) → state_count texts ≤ most_states texts
few-states [] = omega arith
few-states (text ∷ texts) =
    let here = few-all ([] ∷ []) (trail_of text) in
    let own = few-elements text in
    let rest = few-texts (with_beginnings ([] ∷ []) (trail_of text)) texts in
    let summed = sum_by-cons (λ (t : List ℕ). 2 * length t + 2) text texts in
    omega (arith, here, own, rest, summed)

-- where they may not have too many they don't
pub not-many : (rules : List Rule) → nat_lt most_exec_states (most_states (exec_patterns rules)) ≡ false → has_many_states rules ≡ false
not-many rules may = elim (cases_Bool (has_many_states rules)) [
  | inr not ↦ not
  | inl many ↦
      let above = ltb-true most_exec_states (state_count (exec_patterns rules)) many in
      let few = few-states (exec_patterns rules) in
      let more = lt-ltb most_exec_states (most_states (exec_patterns rules)) (omega (arith, above, few)) in
      let never : false ≡ true = sym may ∙ more in
      absurd cc
]

-- the patterns of rules and of others behind them
pub exec_patterns-append : (rules others : List Rule) → exec_patterns (rules ++ others) ≡ exec_patterns rules ++ exec_patterns others
exec_patterns-append rules others = filter_map-append exec_pattern rules others

-- those of one rule more
pub exec_patterns-more : (rules : List Rule) (at : ℕ) (rule : Rule) → at < length rules → rule ≡ get_or rules at rule
    → exec_patterns (take at rules) ++ exec_patterns (rule ∷ []) ≡ exec_patterns (take (at + 1) rules)
exec_patterns-more rules at rule within is =
    ap (λ r. exec_patterns (take at rules) ++ exec_patterns (r ∷ [])) is
    ∙ sym (exec_patterns-append (take at rules) (get_or rules at rule ∷ []))
    ∙ ap exec_patterns (sym (take_more rules at rule within))

-- what has more states already has more with others behind it
pub many-already : (rules : List Rule) (at : ℕ) → most_exec_states < state_count (exec_patterns (take at rules)) → has_many_states rules ≡ true
many-already rules at many =
    let before = take at rules in
    let behind = drop at rules in
    let all = ap exec_patterns (sym (take-append-drop at rules)) ∙ exec_patterns-append before behind in
    let grown = more-states (exec_patterns before) (exec_patterns behind) in
    lt-ltb most_exec_states (state_count (exec_patterns rules)) (let same = ap state_count all in omega (arith, many, grown, same))

-- the same of the bytes of their patterns
pub most-already : (rules : List Rule) (at : ℕ) → most_exec_states < most_states (exec_patterns (take at rules)) → nat_lt most_exec_states (most_states (exec_patterns rules)) ≡ true
most-already rules at many =
    let before = take at rules in
    let behind = drop at rules in
    let all = ap exec_patterns (sym (take-append-drop at rules)) ∙ exec_patterns-append before behind in
    let both = sum_by-append (λ (t : List ℕ). 2 * length t + 2) (exec_patterns before) (exec_patterns behind) in
    lt-ltb most_exec_states (most_states (exec_patterns rules)) (let same = ap most_states all in omega (arith, many, both, same))

-- and with one rule more there are as many as before and its own
pub most-more : (rules : List Rule) (at : ℕ) (rule : Rule) → at < length rules → rule ≡ get_or rules at rule
    → most_states (exec_patterns (take (at + 1) rules)) ≡ most_states (exec_patterns (take at rules)) + most_states (exec_patterns (rule ∷ []))
most-more rules at rule within is =
    sym (ap most_states (exec_patterns-more rules at rule within is))
    ∙ sum_by-append (λ (t : List ℕ). 2 * length t + 2) (exec_patterns (take at rules)) (exec_patterns (rule ∷ []))

-- one rule has those of its pattern, if it covers the start of programs
pub own-states : (rule : Rule) (text : List ℕ) → exec_pattern rule ≡ Some text → most_states (exec_patterns (rule ∷ [])) ≡ 2 * length text + 2
own-states rule text is =
    let one : exec_patterns (rule ∷ []) ≡ text ∷ [] = rw (exec_patterns, filter_map, is) refl in
    let summed = sum_by-cons (λ (t : List ℕ). 2 * length t + 2) text [] in
    ap most_states one ∙ (omega (arith, summed))

pub none-states : (rule : Rule) → exec_pattern rule ≡ None → most_states (exec_patterns (rule ∷ [])) ≡ 0
none-states rule is =
    let none : exec_patterns (rule ∷ []) ≡ [] = rw (exec_patterns, filter_map, is) refl in
    ap most_states none
