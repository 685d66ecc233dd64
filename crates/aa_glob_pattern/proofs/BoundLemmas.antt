-- How many beginnings a text has: its trail has at most two elements for each byte.
use Rattle.std.proofs.Common.{◌≡◌, ℕ, zero, suc, ◌+◌, ◌*◌, ◌<◌, ◌≤◌, Bool, true, false, ◌==◌, if◌then◌else◌, List, [], ◌∷◌, ◌++◌, length, slice_index_or, Contains, refl, sym, subst, arith}
use Rattle.std.proofs.lemmas.List.{length-append, length-reverse}
use Rattle.std.proofs.lemmas.List.Elements.{Contains-append_left, Contains-append_right}
use Rattle.std.proofs.lemmas.List.Sums.{sum_by-cons}
use Rattle.aa_bytes.specs.Bytes.{backslash, closing_brace, closing_bracket, comma, opening_brace, opening_bracket, question_mark, star, is_letter_or_digit}
use Rattle.aa_glob_syntax.specs.Elements.{Element, behind_class, context_after, elements, is_whole_segment, run}
use Rattle.aa_glob_syntax.specs.Symbols.{is_plain, symbols}
use Rattle.aa_glob_syntax.specs.declared.context.Context.{Context}
use Rattle.aa_glob_syntax.specs.declared.context.Context.TheVariants.{AfterSlash, AfterStar, Elsewhere}
use Rattle.aa_glob_syntax.specs.declared.symbol.Symbol.{Symbol}
use Rattle.aa_glob_syntax.specs.declared.symbol.Symbol.TheVariants.{Plain, Escaped, Broken}
use Rattle.aa_glob_pattern.proofs.BeginningLemmas.{later, length-among}
use Rattle.aa_glob_pattern.specs.Beginnings.{HasStates, IsSuffixOf, most_states}
use Rattle.aa_glob_pattern.specs.Elements.{elements_of}
use Rattle.aa_glob_pattern.specs.Trails.{depth_behind, grouped, Trail, trail_of}

-- either branch is small enough
few-if : {A : Type 0} {x y : A} → (count : A → ℕ) (most : ℕ) (c : Bool) → count x ≤ most → count y ≤ most → count (if c then x else y) ≤ most
few-if count most true first second = first
few-if count most false first second = second

-- a run of stars comes to two elements at most
length-run : (context : Context) (ls : List Symbol) → length (run context ls) ≤ 2
length-run AfterStar ls = omega arith
length-run AfterSlash ls = few-if length 2 (is_whole_segment AfterSlash ls) (omega arith) (omega arith)
length-run Elsewhere ls = omega arith

-- each symbol comes to two elements at most
mutual
  length-elements : (context : Context) (ls : List Symbol) → length (elements context ls) ≤ 2 * length ls
  length-elements context [] = omega arith
  length-elements context (Broken ∷ ls) = omega arith
  length-elements context (Escaped b ∷ ls) = let behind = length-elements (context_after b) ls in omega arith
  length-elements context (Plain b ∷ ls) =
      let most = 2 * length (Plain b ∷ ls) in
      let stars_behind = length-elements AfterStar ls in
      let stars_here = length-run context ls in
      let stars_both = length-append (run context ls) (elements AfterStar ls) in
      let class_behind = length-behind_class ls in
      let behind = length-elements Elsewhere ls in
      let byte_behind = length-elements (context_after b) ls in
      few-if length most (b == star) (omega arith)
      (few-if length most (b == opening_bracket) (omega arith)
      (few-if length most (b == question_mark) (omega arith)
      (few-if length most (b == opening_brace) (omega arith)
      (few-if length most (b == comma) (omega arith)
      (few-if length most (b == closing_brace) (omega arith) (omega arith))))))

  length-behind_class : (ls : List Symbol) → length (behind_class ls) ≤ 2 * length ls
  length-behind_class [] = omega arith
  length-behind_class (l ∷ ls) =
      let closed = length-elements Elsewhere ls in
      let goes_on = length-behind_class ls in
      few-if length (2 * length (l ∷ ls)) (is_plain closing_bracket l) (omega arith) (omega arith)

-- a symbol takes a byte or two
length-symbols : (text : List ℕ) → length (symbols text) ≤ length text
length-symbols [] = omega arith
length-symbols (b ∷ []) = omega arith
length-symbols (b ∷ c ∷ bs) =
    let most = length (b ∷ c ∷ bs) in
    let escaped = length-symbols bs in
    let plain = length-symbols (c ∷ bs) in
    few-if length most (b == backslash) (few-if length most (is_letter_or_digit c) (omega arith) (omega arith)) (omega arith)

length-grouped : (depth : ℕ) (es : List Element) → length (grouped depth es) ≡ length es
length-grouped depth [] = refl
length-grouped depth (e ∷ es) = let rest = length-grouped (depth_behind depth e) es in omega arith

pub length-elements_of : (text : List ℕ) → length (elements_of text) ≤ 2 * length text
length-elements_of text =
    let same = length-grouped 0 (elements Elsewhere (symbols text)) in
    let of_elements = length-elements Elsewhere (symbols text) in
    let of_symbols = length-symbols text in
    omega arith

length-trail_of : (text : List ℕ) → length (trail_of text) ≤ 2 * length text
length-trail_of text =
    let turned = length-reverse (elements_of text) in
    let few = length-elements_of text in
    omega arith

-- a trail and all its beginnings
abbrev beginnings_of : Trail → List Trail
beginnings_of [] = [] ∷ []
beginnings_of (e ∷ trail) = (e ∷ trail) ∷ beginnings_of trail

length-beginnings_of : (trail : Trail) → length (beginnings_of trail) ≡ length trail + 1
length-beginnings_of [] = refl
length-beginnings_of (e ∷ trail) = let rest = length-beginnings_of trail in omega arith

beginnings_of-itself : (trail : Trail) → Contains (beginnings_of trail) trail
beginnings_of-itself [] = (0, omega arith, refl)
beginnings_of-itself (e ∷ trail) = (0, omega arith, refl)

beginnings_of-suffix : (more : List Element) (part : Trail) → Contains (beginnings_of (more ++ part)) part
beginnings_of-suffix [] part = beginnings_of-itself part
beginnings_of-suffix (e ∷ more) part = later part (e ∷ more ++ part) (beginnings_of (more ++ part)) (beginnings_of-suffix more part)

-- the beginnings of texts, some of them more than once
abbrev beginnings_of_each : List (List ℕ) → List Trail
beginnings_of_each [] = []
beginnings_of_each (text ∷ texts) = beginnings_of (trail_of text) ++ beginnings_of_each texts

length-beginnings_of_each : (texts : List (List ℕ)) → length (beginnings_of_each texts) ≤ most_states texts
length-beginnings_of_each [] = omega arith
length-beginnings_of_each (text ∷ texts) =
    let both = length-append (beginnings_of (trail_of text)) (beginnings_of_each texts) in
    let first = length-beginnings_of (trail_of text) in
    let few = length-trail_of text in
    let rest = length-beginnings_of_each texts in
    let summed = sum_by-cons (λ (t : List ℕ). 2 * length t + 2) text texts in
    omega arith

-- a beginning of a text is among the beginnings of each
among-each : (texts : List (List ℕ)) (text : List ℕ) (trail : Trail) → Contains texts text → IsSuffixOf trail (trail_of text) → Contains (beginnings_of_each texts) trail
among-each texts text trail h part = at_place texts h.0 h.1 h.2
  where
    at_place : (texts : List (List ℕ)) (k : ℕ) → k < length texts → slice_index_or texts k text ≡ text → Contains (beginnings_of_each texts) trail
    at_place [] k within is = absurd (omega arith)
    at_place (t ∷ ts) zero within is =
        let here = subst (λ (s : Trail). Contains (beginnings_of s) trail) part.1 (beginnings_of-suffix part.0 trail) in
        let first = subst (λ (s : List ℕ). Contains (beginnings_of (trail_of s)) trail) (sym is) here in
        Contains-append_left (beginnings_of (trail_of t)) (beginnings_of_each ts) trail first
    at_place (t ∷ ts) (suc k) within is = Contains-append_right (beginnings_of (trail_of t)) (beginnings_of_each ts) trail (at_place ts k (omega arith) is)

-- Texts have at most so many different beginnings.
pub few_states : (texts : List (List ℕ)) (n : ℕ) → HasStates texts n → n ≤ most_states texts
few_states texts n states =
    let fewer = length-among states.0 (beginnings_of_each texts) states.1.apart (λ trail h. let begins = (states.1.members trail).0 h in among-each texts begins.0 trail begins.1 begins.2) in
    let all = length-beginnings_of_each texts in
    let counted = states.2 in
    omega arith
