-- What is active, one element later, and at the end of a pass.
use mathlib.Core.List.{reverse_aux}
use Rattle.std.proofs.Common.{◌≡◌, ◌∙◌, ℕ, zero, suc, ◌+◌, ◌≤◌, ◌<◌, Bool, true, false, ◌||◌, List, [], ◌∷◌, length, drop, slice_set, None, Some, refl, sym, ap, subst, inl, inr, arith, length-drop}
use Rattle.std.proofs.lemmas.Bool.{cases_lt}
use Rattle.std.proofs.lemmas.List.{get_or-set_other, get_or-set_same}
use Rattle.aa_glob_syntax.specs.Elements.{Element}
use Rattle.aa_glob_pattern.specs.Elements.{elements_of}
use Rattle.aa_glob_pattern.specs.Active.{AreActive, is_none, known_at, is_active, next_past, Past}
use Rattle.aa_glob_pattern.specs.code.Passes.{ArePassed, IsLeft, TellsSome}
use Rattle.aa_glob_pattern.specs.Reads.{Known, known, known_behind}
use Rattle.aa_glob_pattern.specs.Trails.{Trail, trail_of}

-- what is known behind one element more
known_at-suc : (es : List Element) (at : ℕ) (k : Known) (e : Element) (rest : List Element) → drop at es ≡ e ∷ rest
    → (known_at k es (suc at) ≡ known_behind e (known_at k es at)) × (drop (suc at) es ≡ rest) × (suc at ≤ length es)
known_at-suc [] zero k e rest found = absurd (cc)
known_at-suc [] (suc at) k e rest found = absurd (cc)
known_at-suc (x ∷ xs) zero k e rest found =
    let same : x ≡ e = cc in
    let others : xs ≡ rest = cc in
    (ap (λ d. known_behind d k) same, others, omega arith)
known_at-suc (x ∷ xs) (suc at) k e rest found = let more = known_at-suc xs at (known_behind x k) e rest found in (more.0, more.1, omega arith)

pub known_at-more : (es : List Element) (at : ℕ) (k : Known) (e : Element) (rest : List Element) → drop at es ≡ e ∷ rest
    → (known_at k es (at + 1) ≡ known_behind e (known_at k es at)) × (drop (at + 1) es ≡ rest) × (at + 1 ≤ length es)
known_at-more es at k e rest found =
    let next : suc at ≡ at + 1 = omega arith in
    subst (λ n. (known_at k es n ≡ known_behind e (known_at k es at)) × (drop n es ≡ rest) × (n ≤ length es)) next (known_at-suc es at k e rest found)

-- where no element is left, all were read
pub all-read : (text : List ℕ) (at : ℕ) (left : List Element) → IsLeft text at left → left ≡ [] → at ≡ length (elements_of text)
all-read text at left is_left none =
    let dropped = length-drop at (elements_of text) in
    let within = is_left.0 in
    let nothing = ap length (is_left.1 ∙ none) in
    omega arith

-- one beginning more is written
pub passed-more : (text : List ℕ) (past : Past) (byte here : ℕ) (active : List Bool) (m : Bool)
    → here + 1 < length active → m ≡ is_active text (Some (next_past byte past)) (here + 1)
    → ArePassed text past byte here active → ArePassed text past byte (here + 1) (slice_set active (here + 1) m)
passed-more text past byte here active m within written passed = (
  λ at up short. elim (cases_lt at (here + 1)) [
    | inl before ↦ get_or-set_other active (here + 1) at m false (omega arith) ∙ passed.0 at (omega arith) short
    | inr after ↦ let same : at ≡ here + 1 = omega arith in rw same (get_or-set_same active (here + 1) m false within ∙ written)
  ],
  λ at over short. get_or-set_other active (here + 1) at m false (omega arith) ∙ passed.1 at (omega arith) short,
)

-- the first beginning is written
pub passed-first : (text : List ℕ) (past : Past) (byte : ℕ) (active : List Bool) (m : Bool)
    → 0 < length active → m ≡ is_active text (Some (next_past byte past)) 0 → AreActive text past active
    → ArePassed text past byte 0 (slice_set active 0 m)
passed-first text past byte active m within written active_groups = (
  λ at up short. let same : at ≡ 0 = omega arith in rw same (get_or-set_same active 0 m false within ∙ written),
  λ at over short. get_or-set_other active 0 at m false (omega arith) ∙ active_groups at short,
)

-- it is told whether the first beginning is active
pub tells-first : (active : List Bool) (m : Bool) → 0 < length active → TellsSome 0 (slice_set active 0 m) m
tells-first active m within unset at up = let same : at ≡ 0 = omega arith in rw same (get_or-set_same active 0 m false within ∙ unset)

-- and whether one beginning more is
pub tells-more : (here : ℕ) (active : List Bool) (some m told : Bool) → here + 1 < length active → told ≡ (some || m)
    → TellsSome here active some → TellsSome (here + 1) (slice_set active (here + 1) m) told
tells-more here active some m told within is_told tells unset at up =
    let none = or_neither some m (sym is_told ∙ unset) in
    elim (cases_lt at (here + 1)) [
      | inl before ↦ get_or-set_other active (here + 1) at m false (omega arith) ∙ tells none.0 at (omega arith)
      | inr after ↦ let same : at ≡ here + 1 = omega arith in rw same (get_or-set_same active (here + 1) m false within ∙ none.1)
    ]
  where
    or_neither : (b c : Bool) → (b || c) ≡ false → (b ≡ false) × (c ≡ false)
    or_neither true c none = absurd (cc)
    or_neither false c none = (refl, none)

-- the empty beginning is read by the first past alone
pub first-active : (text : List ℕ) (byte : ℕ) (past : Past) → is_none past ≡ is_active text (Some (next_past byte past)) 0
first-active text byte None = refl
first-active text byte (Some past) = refl

-- what is known behind all elements is known behind the whole trail
known_at-all : (es : List Element) (trail : Trail) → known_at (known trail) es (length es) ≡ known (reverse_aux es trail)
known_at-all [] trail = refl
known_at-all (e ∷ es) trail = known_at-all es (e ∷ trail)

pub active-all : (text : List ℕ) → known_at (known []) (elements_of text) (length (elements_of text)) ≡ known (trail_of text)
active-all text = known_at-all (elements_of text) []
