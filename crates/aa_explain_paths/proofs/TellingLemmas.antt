-- The patterns that tell paths apart, by their places and classes.
use Rattle.std.proofs.Common.{◌≡◌, ◌⊎◌, ◌||◌, ℕ, zero, suc, ◌+◌, ◌-◌, ◌<◌, ◌≤◌, Bool, true, false, List, [], ◌∷◌, ◌++◌, length, refl, sym, ◌∙◌, ap, inl, inr, arith, length-append}
use Rattle.std.proofs.lemmas.Bool.{cases_lt, or_left, or_right, true≢false}
use Rattle.std.proofs.lemmas.List.{get_or-append_right, get_or-replicate, get_or_append_left, get_or_past, length-replicate}
use Rattle.std.proofs.lemmas.Option.{slice_get_within}
use Rattle.std.specs.Prelude.{Contains, Some, replicate, slice_get}
use Rattle.aa_glob_nfa.proofs.RunLemmas.{slice_get-append}
use Rattle.aa_glob_nfa.proofs.ListLemmas.{Contains-cons_cases}
use Rattle.aa_glob_pairs.specs.Graphs.{class_at}
use Rattle.aa_glob_paths.specs.AllPaths.{IsOutcome}
use Rattle.aa_glob_paths.specs.Laws.{IsMatchedByClass, IsToldOf}
use Rattle.aa_glob_paths.specs.declared.outcome.Outcome.{Outcome}
use Rattle.aa_glob_paths.specs.Settled.{passed_over_class}
use Rattle.aa_glob_paths.specs.Wanted.{wanted_class}
use Rattle.aa_glob_syntax.specs.Matching.{matches}
use Rattle.aa_glob_syntax.specs.Patterns.{IsPatternAt}
use Rattle.aa_glob_syntax.specs.Reading.{items_of}
use Rattle.aa_profile_data.specs.FileRules.{file_patterns}
use Rattle.aa_profile_data.specs.declared.profile.FileRule.{FileRule}
use Rattle.aa_profile_data.specs.declared.profile.Rule.{Rule}
use Rattle.aa_profile_data.specs.declared.profile.Rule.TheVariants.{Cap, File, Net, Other}
use Rattle.aa_explain_paths.specs.Laws.{HavePatternsAmong}
use Rattle.aa_explain_paths.specs.Meant.{is_matched}
use Rattle.aa_explain_paths.specs.Telling.{classes_among, classes_of, other_class, telling_among, telling_patterns}

-- a pattern at a place behind others
pub behind-at : (ps qs : List (List ℕ)) (place : ℕ) → slice_get (ps ++ qs) (length ps + place) ≡ slice_get qs place
behind-at [] qs place =
    let same : length {A = List ℕ} [] + place ≡ place = omega arith in
    ap (slice_get qs) same
behind-at (p ∷ ps) qs place =
    let same : length (p ∷ ps) + place ≡ suc (length ps + place) = omega arith in
    ap (slice_get (p ∷ (ps ++ qs))) same ∙ behind-at ps qs place

-- the pattern of each rule on files stands among theirs
pub file-at : (rules : List Rule) (rule : FileRule) → Contains rules (File rule) → (place : ℕ) × IsPatternAt (file_patterns rules) place rule.pattern
file-at [] rule at = absurd (omega (arith, at.1))
file-at (one ∷ rules) rule at = by one (Contains-cons_cases one rules (File rule) at) (file-at rules rule)
  where
    by : (one : Rule) → (one ≡ File rule) ⊎ Contains rules (File rule) → (Contains rules (File rule) → (place : ℕ) × IsPatternAt (file_patterns rules) place rule.pattern)
        → (place : ℕ) × IsPatternAt (file_patterns (one ∷ rules)) place rule.pattern
    by (File own) (inl same) later = let equal : own ≡ rule = cc in (0, ap (λ (r : FileRule). Some r.pattern) equal)
    by (File own) (inr more) later = let there = later more in (suc there.0, there.1)
    by (Cap own) (inl same) later = absurd cc
    by (Cap own) (inr more) later = later more
    by (Net own) (inl same) later = absurd cc
    by (Net own) (inr more) later = later more
    by (Other own) (inl same) later = absurd cc
    by (Other own) (inr more) later = later more

-- patterns that stand among some stand among those that tell paths apart
pub among-telling : (rules : List Rule) (others patterns unasked : List (List ℕ)) → HavePatternsAmong rules others
    → HavePatternsAmong rules (telling_among others patterns unasked)
among-telling rules others patterns unasked among rule at =
    let there = among rule at in
    let low = slice_get_within others there.0 rule.pattern there.1 in
    let wide : there.0 < length (others ++ patterns) = omega (arith, low, length-append others patterns) in (
      there.0,
      slice_get-append (others ++ patterns) unasked there.0 wide ∙ slice_get-append others patterns there.0 low ∙ there.1,
    )

-- so those of rules on files do
pub files-among : (rules : List Rule) (patterns unasked : List (List ℕ)) → HavePatternsAmong rules (telling_patterns rules patterns unasked)
files-among rules patterns unasked = among-telling rules (file_patterns rules) patterns unasked (file-at rules)

-- patterns of which one matches a path, and one at a place that does
pub matched-at : (patterns : List (List ℕ)) (path : List ℕ) → is_matched patterns path ≡ true
    → (place : ℕ) × (pattern : List ℕ) × IsPatternAt patterns place pattern × (matches (items_of pattern) path ≡ true)
matched-at [] path none = absurd (true≢false (sym none))
matched-at (p ∷ ps) path some = by (matches (items_of p) path) refl some (matched-at ps path)
  where
    by : (b : Bool) → matches (items_of p) path ≡ b → (b || is_matched ps path) ≡ true
        → (is_matched ps path ≡ true → (place : ℕ) × (pattern : List ℕ) × IsPatternAt ps place pattern × (matches (items_of pattern) path ≡ true))
        → (place : ℕ) × (pattern : List ℕ) × IsPatternAt (p ∷ ps) place pattern × (matches (items_of pattern) path ≡ true)
    by true is some later = (0, p, refl, is)
    by false is some later = let there = later some in (suc there.0, there.1, there.2, there.3)

pub at-matched : (patterns : List (List ℕ)) (path : List ℕ) (place : ℕ) (pattern : List ℕ) → IsPatternAt patterns place pattern
    → matches (items_of pattern) path ≡ true → is_matched patterns path ≡ true
at-matched [] path place pattern at is = absurd cc
at-matched (p ∷ ps) path zero pattern at is =
    let same : p ≡ pattern = cc in
    or_left (matches (items_of p) path) (is_matched ps path) (ap (λ l. matches (items_of l) path) same ∙ is)
at-matched (p ∷ ps) path (suc place) pattern at is =
    or_right (matches (items_of p) path) (is_matched ps path) (at-matched ps path place pattern at is)

-- the class of a pattern that is wanted
pub wanted-class : (n w u k : ℕ) → k < w → class_at (classes_of n w u) (n + k) ≡ wanted_class
wanted-class n w u k low =
    let others : List ℕ = replicate n other_class in
    let wanted : List ℕ = replicate w wanted_class in
    let front : length others ≡ n = length-replicate n other_class in
    let long : length wanted ≡ w = length-replicate w wanted_class in
    let both : length (others ++ wanted) ≡ length others + length wanted = length-append others wanted in
    let within : n + k < length (others ++ wanted) = omega (arith, low, both, front, long) in
    let same : (n + k) - n ≡ k = omega arith in
    let low_enough : n ≤ n + k = omega arith in
    get_or_append_left (others ++ wanted) (replicate u passed_over_class) other_class (n + k) within
    ∙ get_or-append_right others wanted n (n + k) other_class front low_enough
    ∙ ap (class_at wanted) same ∙ get_or-replicate w k wanted_class other_class low

-- what stands in a list of one class is that class, and none stands behind it
same-or-other : (class n i : ℕ) → (class_at (replicate n class) i ≡ class) ⊎ (class_at (replicate n class) i ≡ other_class)
same-or-other class n i = elim (cases_lt i n) [
  | inl low ↦ inl (get_or-replicate n i class other_class low)
  | inr high ↦
      let long : length (replicate n class) ≡ n = length-replicate n class in
      let past : length (replicate n class) ≤ i = omega (arith, high, long) in
      inr (get_or_past (replicate n class) i other_class past)
]

-- of the class of others each is
none-wanted : (n i : ℕ) → class_at (replicate n other_class) i ≡ other_class
none-wanted n i = elim (same-or-other other_class n i) [ inl same ↦ same | inr other ↦ other ]

-- the class of a pattern that is passed over
passed-class : (n w u k : ℕ) → k < u → class_at (classes_of n w u) (n + w + k) ≡ passed_over_class
passed-class n w u k low =
    let others : List ℕ = replicate n other_class in
    let wanted : List ℕ = replicate w wanted_class in
    let last : List ℕ = replicate u passed_over_class in
    let front : length (others ++ wanted) ≡ n + w = omega (arith, length-append others wanted, length-replicate n other_class, length-replicate w wanted_class) in
    let same : (n + w + k) - (n + w) ≡ k = omega arith in
    let low_enough : n + w ≤ n + w + k = omega arith in
    get_or-append_right (others ++ wanted) last (n + w) (n + w + k) other_class front low_enough
    ∙ ap (class_at last) same ∙ get_or-replicate u k passed_over_class other_class low

-- no pattern before those has that class
only-passed : (n w u p : ℕ) → class_at (classes_of n w u) p ≡ passed_over_class → n + w ≤ p
only-passed n w u p passed =
    let others : List ℕ = replicate n other_class in
    let mine : List ℕ = replicate w wanted_class in
    let last : List ℕ = replicate u passed_over_class in
    let front : length others ≡ n = length-replicate n other_class in
    let long : length mine ≡ w = length-replicate w wanted_class in
    let both : length (others ++ mine) ≡ length others + length mine = length-append others mine in
    elim (cases_lt p (n + w)) [
      | inr high ↦ omega (arith, high)
      | inl low ↦
          let within : p < length (others ++ mine) = omega (arith, low, both, front, long) in
          let whole : passed_over_class ≡ class_at (others ++ mine) p = sym passed ∙ get_or_append_left (others ++ mine) last other_class p within in
          elim (cases_lt p n) [
            | inl early ↦
                let low_front : p < length others = omega (arith, early, front) in
                let none : passed_over_class ≡ other_class = whole ∙ get_or_append_left others mine other_class p low_front ∙ none-wanted n p in
                absurd (omega (arith, none))
            | inr late ↦
                let late_enough : n ≤ p = omega (arith, late) in
                let there : passed_over_class ≡ class_at mine (p - n) = whole ∙ get_or-append_right others mine n p other_class front late_enough in
                elim (same-or-other wanted_class w (p - n)) [
                  | inl same ↦ absurd (let none : passed_over_class ≡ wanted_class = there ∙ same in omega (arith, none))
                  | inr other ↦ absurd (let none : passed_over_class ≡ other_class = there ∙ other in omega (arith, none))
                ]
          ]
    ]

-- no other pattern has that class
pub only-wanted : (n w u p : ℕ) → class_at (classes_of n w u) p ≡ wanted_class → (n ≤ p) × (p < n + w)
only-wanted n w u p wanted =
    let others : List ℕ = replicate n other_class in
    let mine : List ℕ = replicate w wanted_class in
    let front : length others ≡ n = length-replicate n other_class in
    let long : length mine ≡ w = length-replicate w wanted_class in
    let both : length (others ++ mine) ≡ length others + length mine = length-append others mine in
    let whole : length (others ++ mine) ≡ n + w = omega (arith, both, front, long) in
    elim (cases_lt p n) [
      | inl low ↦
          let within : p < length (others ++ mine) = omega (arith, low, whole) in
          let low_front : p < length others = omega (arith, low, front) in
          let none : wanted_class ≡ other_class =
          sym wanted ∙ get_or_append_left (others ++ mine) (replicate u passed_over_class) other_class p within
          ∙ get_or_append_left others mine other_class p low_front ∙ none-wanted n p in
          absurd (omega (arith, none))
      | inr high ↦ elim (cases_lt p (n + w)) [
        | inl within ↦ (omega (arith, high), within)
        | inr past ↦
            let behind : n + w ≤ p = omega (arith, past) in
            let there : wanted_class ≡ class_at (replicate u passed_over_class) (p - (n + w)) =
            sym wanted ∙ get_or-append_right (others ++ mine) (replicate u passed_over_class) (n + w) p other_class whole behind in
            elim (same-or-other passed_over_class u (p - (n + w))) [
              | inl passed ↦ absurd (let none : wanted_class ≡ passed_over_class = there ∙ passed in omega (arith, none))
              | inr other ↦ absurd (let none : wanted_class ≡ other_class = there ∙ other in omega (arith, none))
            ]
      ]
    ]

-- each pattern has a class
pub length-telling : (others patterns unasked : List (List ℕ))
    → length (telling_among others patterns unasked) ≡ length (classes_among others patterns unasked)
length-telling files patterns unasked =
    let n = length files in
    let w = length patterns in
    let u = length unasked in
    let others : List ℕ = replicate n other_class in
    let mine : List ℕ = replicate w wanted_class in
    let last : List ℕ = replicate u passed_over_class in
    let one : length ((files ++ patterns) ++ unasked) ≡ length (files ++ patterns) + u = length-append (files ++ patterns) unasked in
    let two : length (files ++ patterns) ≡ n + w = length-append files patterns in
    let three : length ((others ++ mine) ++ last) ≡ length (others ++ mine) + length last = length-append (others ++ mine) last in
    let four : length (others ++ mine) ≡ length others + length mine = length-append others mine in
    let five : length others ≡ n = length-replicate n other_class in
    let six : length mine ≡ w = length-replicate w wanted_class in
    let seven : length last ≡ u = length-replicate u passed_over_class in
    omega (arith, one, two, three, four, five, six, seven)

module _ (files patterns unasked : List (List ℕ)) where
  -- a path that one of the patterns that are asked about matches is matched by a wanted one
  matched-wanted : (path : List ℕ) → is_matched patterns path ≡ true → IsMatchedByClass wanted_class (telling_among files patterns unasked) (classes_among files patterns unasked) path
  matched-wanted path some =
      let there = matched-at patterns path some in
      let low = slice_get_within patterns there.0 there.1 there.2 in
      let wide : length files + there.0 < length (files ++ patterns) = omega (arith, low, length-append files patterns) in (
        length files + there.0,
        there.1,
        slice_get-append (files ++ patterns) unasked (length files + there.0) wide ∙ behind-at files patterns there.0 ∙ there.2,
        wanted-class (length files) (length patterns) (length unasked) there.0 low,
        there.3,
      )

  -- how many patterns stand before those of paths that aren't asked about
  before : length (files ++ patterns) ≡ length files + length patterns
  before = length-append files patterns

  -- a pattern that is passed over is one of those
  passed-unasked : (path : List ℕ) → IsMatchedByClass passed_over_class (telling_among files patterns unasked) (classes_among files patterns unasked) path
      → is_matched unasked path ≡ true
  passed-unasked path matched =
      let front = files ++ patterns in
      let behind = only-passed (length files) (length patterns) (length unasked) matched.0 matched.3 in
      let same : length front + (matched.0 - length front) ≡ matched.0 = omega (arith, behind, before) in
      at-matched unasked path (matched.0 - length front) matched.1
      (sym (behind-at front unasked (matched.0 - length front)) ∙ ap (slice_get (front ++ unasked)) same ∙ matched.2) matched.4

  -- what is told of a path that one of the patterns matches that are asked about, and that the kernel may ask about
  pub matched-told : (path : List ℕ) → is_matched patterns path ≡ true → is_matched unasked path ≡ false
      → IsToldOf (telling_among files patterns unasked) (classes_among files patterns unasked) path
  matched-told path some none = record {
    wanted = matched-wanted path some;
    not_passed_over = λ matched. true≢false (sym (passed-unasked path matched) ∙ none);
  }

  -- the kernel may ask about the path of each outcome
  pub outcome-asked : (o : Outcome) → IsOutcome (telling_among files patterns unasked) (classes_among files patterns unasked) o → is_matched unasked o.path.items ≡ false
  outcome-asked o is = by (is_matched unasked o.path.items) refl
    where
      by : (b : Bool) → is_matched unasked o.path.items ≡ b → b ≡ false
      by false none = refl
      by true some =
          let there = matched-at unasked o.path.items some in
          let low = slice_get_within unasked there.0 there.1 there.2 in
          let place : ℕ = length files + length patterns + there.0 in
          let same : place ≡ length (files ++ patterns) + there.0 = omega (arith, before) in
          let at : slice_get (telling_among files patterns unasked) place ≡ Some there.1 =
          ap (slice_get (telling_among files patterns unasked)) same ∙ behind-at (files ++ patterns) unasked there.0 ∙ there.2 in
          absurd (is.told.none_passed_over (place, (is.matching place).1 (there.1, at, there.3), passed-class (length files) (length patterns) (length unasked) there.0 low))

  -- one of them matches the path of each outcome
  pub outcome-matched : (o : Outcome) → IsOutcome (telling_among files patterns unasked) (classes_among files patterns unasked) o → is_matched patterns o.path.items ≡ true
  outcome-matched o is =
      let wanted = is.told.wanted in
      let found = (is.matching wanted.0).0 wanted.1 in
      let bounds = only-wanted (length files) (length patterns) (length unasked) wanted.0 wanted.2 in
      let wide : wanted.0 < length (files ++ patterns) = omega (arith, bounds.1, length-append files patterns) in
      let same : length files + (wanted.0 - length files) ≡ wanted.0 = omega (arith, bounds.0) in
      let at : slice_get patterns (wanted.0 - length files) ≡ Some found.0 =
      sym (behind-at files patterns (wanted.0 - length files)) ∙ ap (slice_get (files ++ patterns)) same
      ∙ sym (slice_get-append (files ++ patterns) unasked wanted.0 wide) ∙ found.1 in
      at-matched patterns o.path.items (wanted.0 - length files) found.0 at found.2
