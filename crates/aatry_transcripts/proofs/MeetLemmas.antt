-- Which told lines meet wanted ones.
use Rattle.std.proofs.Common.{◌≡◌, ◌∙◌, ◌-◌, ℕ, Bool, true, false, ◌&&◌, List, [], ◌∷◌, ◌++◌, None, Some, ap, ap₂, arith, drop, inl, inr, length, refl, sym, true≢false}
use Rattle.std.specs.List.{list_any}
use Rattle.std.specs.Option.{option_map_or}
use Rattle.std.specs.Prelude.{nat_eq}
use Rattle.std.specs.Str.{bytes_eq}
use Rattle.std.proofs.Math.Seq.{drop-append_seam}
use Rattle.std.proofs.lemmas.Bool.{and_parts, and_right, cases_Bool, false_from_ne_true, or_parts}
use Rattle.std.proofs.lemmas.List.{length-append}
use Rattle.std.proofs.lemmas.Slice.Eq.{bytes_eq-Decides}
use Rattle.std.specs.Cmp.Lexicographic.{pointwise}
use Rattle.aa_bytes.specs.Texts.{begins_with, is_empty}
use Rattle.aatry_transcripts.specs.Meeting.{AreMetBy, are_met, are_same, behind_audit_line, behind_met, leaves_out, left_out, stands_for}
use Rattle.aatry_transcripts.specs.Replies.{is_audit_line}

-- lines that are the same are equal
pub same-is : (lines others : List (List ℕ)) → are_same lines others ≡ true → lines ≡ others
same-is [] [] same = refl
same-is [] (o ∷ os) same = absurd (true≢false (sym same))
same-is (l ∷ ls) [] same = absurd (true≢false (sym same))
same-is (l ∷ ls) (o ∷ os) same =
    let parts = and_parts (bytes_eq l o) (are_same ls os) same in
    ap₂ (λ x xs. x ∷ xs) ((bytes_eq-Decides l o).0 parts.0) (same-is ls os parts.1)

-- lines are the same as themselves
pub same-are_same : (lines : List (List ℕ)) → are_same lines lines ≡ true
same-are_same [] = refl
same-are_same (l ∷ ls) = rw ((bytes_eq-Decides l l).1 refl) (same-are_same ls)

-- a text with another behind it, byte for byte
pub stands_for-parts : (wanted line : List ℕ) → (begins_with line wanted && bytes_eq (drop (length line) wanted) left_out) ≡ stands_for wanted line
stands_for-parts wanted [] = refl
stands_for-parts [] (x ∷ xs) = refl
stands_for-parts (y ∷ ys) (x ∷ xs) = by (nat_eq y x) (begins_with xs ys) (bytes_eq (drop (length xs) ys) left_out) (stands_for ys xs) (stands_for-parts ys xs)
  where
    by : (a b c d : Bool) → (b && c) ≡ d → ((a && b) && c) ≡ (a && d)
    by true b c d is = is
    by false b c d is = refl

-- a line is none that leaves out its own audit line
longer : (line : List ℕ) → bytes_eq (line ++ left_out) line ≡ false
longer [] = refl
longer (x ∷ xs) = and_right (nat_eq x x) (bytes_eq (xs ++ left_out) xs) (longer xs)

-- what is told behind a line that is told as it is wanted
met_itself : (line : List ℕ) (behind : List (List ℕ)) → behind_met line (line ∷ behind) ≡ Some behind
met_itself line behind = rw ((bytes_eq-Decides line line).1 refl) refl

-- and behind an answer and the audit line that is left out
met_short : (line audit : List ℕ) (behind : List (List ℕ)) → is_audit_line audit ≡ true → behind_met (line ++ left_out) (line ∷ audit ∷ behind) ≡ Some behind
met_short line audit behind is = rw (longer line, (bytes_eq-Decides (line ++ left_out) (line ++ left_out)).1 refl, is) refl

-- one wanted line more
pub itself-more : (line : List ℕ) (wanted told : List (List ℕ)) → are_met (line ∷ wanted) (line ∷ told) ≡ are_met wanted told
itself-more line wanted told = ap (λ behind. option_map_or (are_met wanted) behind false) (met_itself line told)

pub short-more : (line audit : List ℕ) (wanted told : List (List ℕ)) → is_audit_line audit ≡ true
    → are_met ((line ++ left_out) ∷ wanted) (line ∷ audit ∷ told) ≡ are_met wanted told
short-more line audit wanted told is = ap (λ behind. option_map_or (are_met wanted) behind false) (met_short line audit told is)

pub same-met : (lines : List (List ℕ)) → are_met lines lines ≡ true
same-met [] = refl
same-met (line ∷ lines) = itself-more line lines lines ∙ same-met lines

-- what meets a wanted line is asked by it
asked_short : (wanted line : List ℕ) (more behind : List (List ℕ)) → stands_for wanted line ≡ true
    → option_map_or (are_met more) (behind_audit_line behind) false ≡ true
    → ((rest : List (List ℕ)) → are_met more rest ≡ true → AreMetBy more rest) → AreMetBy (wanted ∷ more) (line ∷ behind)
asked_short wanted line more [] stands met next = absurd (true≢false (sym met))
asked_short wanted line more (audit ∷ rest) stands met next = elim (cases_Bool (is_audit_line audit)) [
  | inl is ↦
      let left : are_met more rest ≡ true = rw is at met in
      (line ∷ audit ∷ [], rest, refl, inr (line, audit, refl, (bytes_eq-Decides wanted (line ++ left_out)).0 stands, is), next rest left)
  | inr other ↦ let none : false ≡ true = rw other at met in absurd (true≢false (sym none))
]

pub met_is_asked : (wanted told : List (List ℕ)) → are_met wanted told ≡ true → AreMetBy wanted told
met_is_asked [] [] met = refl
met_is_asked [] (line ∷ behind) met = absurd (true≢false (sym met))
met_is_asked (wanted ∷ more) [] met = absurd (true≢false (sym met))
met_is_asked (wanted ∷ more) (line ∷ behind) met = elim (cases_Bool (bytes_eq wanted line)) [
  | inl same ↦
      let left : are_met more behind ≡ true = rw same at met in
      (line ∷ [], behind, refl, inl (ap (λ l. l ∷ []) (sym ((bytes_eq-Decides wanted line).0 same))), met_is_asked more behind left)
  | inr other ↦ elim (cases_Bool (stands_for wanted line)) [
    | inl stands ↦
        let left : option_map_or (are_met more) (behind_audit_line behind) false ≡ true = rw (other, stands) at met in
        asked_short wanted line more behind stands left (λ rest m. met_is_asked more rest m)
    | inr none ↦ let no : false ≡ true = rw (other, none) at met in absurd (true≢false (sym no))
  ]
]

-- and what is asked meets it
pub asked_is_met : (wanted told : List (List ℕ)) → AreMetBy wanted told → are_met wanted told ≡ true
asked_is_met [] told asked = ap is_empty asked
asked_is_met (wanted ∷ more) told asked = elim asked.3 [
  | inl own ↦
      let all : told ≡ wanted ∷ asked.1 = asked.2 ∙ ap (λ o. o ++ asked.1) own in
      ap (are_met (wanted ∷ more)) all ∙ itself-more wanted more asked.1 ∙ asked_is_met more asked.1 asked.4
  | inr short ↦
      let all : told ≡ short.0 ∷ short.1 ∷ asked.1 = asked.2 ∙ ap (λ o. o ++ asked.1) short.2 in
      ap₂ (λ w t. are_met (w ∷ more) t) short.3 all ∙ short-more short.0 short.1 more asked.1 short.4 ∙ asked_is_met more asked.1 asked.4
]

-- what two parts of wanted lines ask for, one behind the other, they ask for together
pub met-append : (wanted more told behind : List (List ℕ)) → AreMetBy wanted told → are_met more behind ≡ true → are_met (wanted ++ more) (told ++ behind) ≡ true
met-append [] more told behind asked met = ap (λ t. are_met more (t ++ behind)) asked ∙ met
met-append (line ∷ wanted) more told behind asked met = elim asked.3 [
  | inl own ↦
      let all : told ++ behind ≡ line ∷ (asked.1 ++ behind) = ap (λ t. t ++ behind) (asked.2 ∙ ap (λ o. o ++ asked.1) own) in
      ap (are_met (line ∷ (wanted ++ more))) all ∙ itself-more line (wanted ++ more) (asked.1 ++ behind) ∙ met-append wanted more asked.1 behind asked.4 met
  | inr short ↦
      let all : told ++ behind ≡ short.0 ∷ short.1 ∷ (asked.1 ++ behind) = ap (λ t. t ++ behind) (asked.2 ∙ ap (λ o. o ++ asked.1) short.2) in
      ap₂ (λ w t. are_met (w ∷ (wanted ++ more)) t) short.3 all ∙ short-more short.0 short.1 (wanted ++ more) (asked.1 ++ behind) short.4
      ∙ met-append wanted more asked.1 behind asked.4 met
]

-- a line that stands for another ends as such lines do
ends_so : (line : List ℕ) → leaves_out (line ++ left_out) ≡ true
ends_so line =
    let at : length (line ++ left_out) - 3 ≡ length line = omega (arith, length-append line left_out) in
    ap (λ n. pointwise nat_eq left_out (drop n (line ++ left_out))) at ∙ ap (pointwise nat_eq left_out) (drop-append_seam line left_out)

stands_not : (wanted line : List ℕ) → leaves_out wanted ≡ false → stands_for wanted line ≡ false
stands_not wanted line whole = false_from_ne_true (stands_for wanted line)
    (λ stands. true≢false (sym (ends_so line) ∙ ap leaves_out (sym ((bytes_eq-Decides wanted (line ++ left_out)).0 stands)) ∙ whole))

same_bytes : (wanted line : List ℕ) → bytes_eq wanted line ≡ bytes_eq line wanted
same_bytes wanted line = elim (cases_Bool (bytes_eq wanted line)) [
  | inl same ↦ same ∙ sym ((bytes_eq-Decides line wanted).1 (sym ((bytes_eq-Decides wanted line).0 same)))
  | inr other ↦ other ∙ sym (false_from_ne_true (bytes_eq line wanted)
      (λ same. true≢false (sym ((bytes_eq-Decides wanted line).1 (sym ((bytes_eq-Decides line wanted).0 same))) ∙ other)))
]

-- where no wanted line leaves its audit line out, the told lines are the wanted ones
pub whole_lines : (wanted told : List (List ℕ)) → list_any leaves_out wanted ≡ false → are_met wanted told ≡ are_same told wanted
whole_lines [] [] none = refl
whole_lines [] (line ∷ told) none = refl
whole_lines (wanted ∷ more) [] none = refl
whole_lines (wanted ∷ more) (line ∷ told) none =
    let both = or_parts (leaves_out wanted) (list_any leaves_out more) none in
    elim (cases_Bool (bytes_eq wanted line)) [
      | inl same ↦ rw (same, sym (same_bytes wanted line) ∙ same) (whole_lines more told both.1)
      | inr other ↦ rw (other, stands_not wanted line both.0, sym (same_bytes wanted line) ∙ other) refl
    ]

-- the wanted lines behind one that is met, in a loop
pub met-step : (wanted : List ℕ) (more told left : List (List ℕ)) (whole : Bool) → Some left ≡ behind_met wanted told → are_met (wanted ∷ more) told ≡ whole → are_met more left ≡ whole
met-step wanted more told left whole is so_far = ap (λ behind. option_map_or (are_met more) behind false) is ∙ so_far

pub met-none : (wanted : List ℕ) (more told : List (List ℕ)) (whole : Bool) → None ≡ behind_met wanted told → are_met (wanted ∷ more) told ≡ whole → false ≡ whole
met-none wanted more told whole is so_far = ap (λ behind. option_map_or (are_met more) behind false) is ∙ so_far
