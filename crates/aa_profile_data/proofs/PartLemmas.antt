-- Texts of accesses, and the parts of which they are written.
use Rattle.std.proofs.Common.{◌≡◌, ℕ, Bool, true, false, List, [], ◌∷◌, ◌++◌, Option, None, Some, refl, ap, sym, ◌∙◌, ◌==◌, inl, inr}
use Rattle.std.specs.Prelude.{not, ◌||◌, filter_map, fold, is_some, option_and_then}
use Rattle.std.specs.List.{list_all, list_any}
use Rattle.std.specs.Option.{option_map}
use Rattle.std.specs.Str.{bytes_eq}
use Rattle.std.proofs.lemmas.Bool.{and_parts, cases_Bool, cond-true, cond-false, eqb-true}
use Rattle.std.proofs.lemmas.Slice.Eq.{bytes_eq-Decides}
use Rattle.aa_profile_data.specs.Access.{EXEC, bit_in, exec_letter, letters, told_bit, union}
use Rattle.aa_profile_data.specs.AccessText.{AccessPart, Letter, Word, IsWrittenOf, bit_of_part, differ, first_of, is_known, said, text_of_part, text_of_parts, words_among}
use Rattle.aa_profile_data.specs.ExecWords.{exec_word, row, same_word, word_among, words}
use Rattle.aa_profile_data.specs.Laws.{ReadAsItsPartsSay, WrittenInOneWay}
use Rattle.aa_profile_data.specs.WrittenAccess.{access_with, nothing_written, with_letter, with_word}
use Rattle.aa_profile_data.specs.code.Beginnings.{first_word}
use Rattle.aa_profile_data.specs.declared.exec_word.ExecWord.{ExecWord}
use Rattle.aa_profile_data.specs.declared.exec_word.ExecWord.TheVariants.{Child, ChildInherit, ChildInheritScrub, ChildScrub, ChildUnconfined, ChildUnconfinedScrub, Inherit, Profile, ProfileInherit, ProfileInheritScrub, ProfileScrub, ProfileUnconfined, ProfileUnconfinedScrub, Unconfined, UnconfinedScrub}
use Rattle.aa_profile_data.specs.declared.written.WrittenAccess.{WrittenAccess}
use Rattle.aa_profile_data.proofs.WrittenLemmas.{letter_first, read_first}

-- a text that begins with an exec word: no other one begins it
word-first : (word : ExecWord) (more : List ℕ) → first_word ((row word).text ++ more) ≡ Some (word, more)
word-first Inherit [] = refl
word-first Inherit (c ∷ more) = refl
word-first Unconfined [] = refl
word-first Unconfined (c ∷ more) = refl
word-first UnconfinedScrub [] = refl
word-first UnconfinedScrub (c ∷ more) = refl
word-first Profile [] = refl
word-first Profile (c ∷ more) = refl
word-first ProfileScrub [] = refl
word-first ProfileScrub (c ∷ more) = refl
word-first Child [] = refl
word-first Child (c ∷ more) = refl
word-first ChildScrub [] = refl
word-first ChildScrub (c ∷ more) = refl
word-first ProfileInherit more = refl
word-first ProfileInheritScrub more = refl
word-first ChildInherit more = refl
word-first ChildInheritScrub more = refl
word-first ProfileUnconfined more = refl
word-first ProfileUnconfinedScrub more = refl
word-first ChildUnconfined more = refl
word-first ChildUnconfinedScrub more = refl

-- a byte begins a text
abbrev begins : ℕ → List ℕ → Bool
begins letter [] = false
begins letter (b ∷ bs) = b == letter

-- a byte begins one of some exec words
abbrev begins_some : List ExecWord → ℕ → Bool
begins_some words letter = list_any (λ word. begins letter (row word).text) words

neither : (a b : Bool) → (a || b) ≡ false → (a ≡ false) × (b ≡ false)
neither true b h = absurd (cc)
neither false b h = (refl, h)

other-text : (text : List ℕ) (letter : ℕ) (rest : List ℕ) → begins letter text ≡ false → bytes_eq text (letter ∷ rest) ≡ false
other-text [] letter rest h = refl
other-text (b ∷ bs) letter rest h = rw h refl

not-among : (words : List ExecWord) (letter : ℕ) (rest : List ℕ) → begins_some words letter ≡ false → word_among words (letter ∷ rest) ≡ None
not-among [] letter rest h = refl
not-among (word ∷ words) letter rest h =
    let parts = neither (begins letter (row word).text) (begins_some words letter) h in
    cond-false (bytes_eq (row word).text (letter ∷ rest)) (Some word) (word_among words (letter ∷ rest)) (other-text (row word).text letter rest parts.0)
    ∙ not-among words letter rest parts.1

-- the exec word that a text begins with, by the one of three bytes and the one of two
abbrev longest_of : ℕ → List ℕ → Option ExecWord → Option ExecWord → Option (ExecWord × List ℕ)
longest_of c more long short = elim (option_map (λ word. (word, more)) long) [ Some read ↦ Some read | None ↦ option_map (λ word. (word, c ∷ more)) short ]

-- a byte that begins no exec word
not-first : (letter : ℕ) (rest : List ℕ) → begins_some words letter ≡ false → first_word (letter ∷ rest) ≡ None
not-first letter [] h = refl
not-first letter (b ∷ []) h = ap (option_map (λ (word : ExecWord). (word, []))) (not-among words letter (b ∷ []) h)
not-first letter (b ∷ c ∷ more) h =
    ap (λ long. longest_of c more long (exec_word (letter ∷ b ∷ []))) (not-among words letter (b ∷ c ∷ []) h)
    ∙ ap (λ short. longest_of c more None short) (not-among words letter (b ∷ []) h)

in-table : (table : List (ℕ × ℕ)) (letter bit : ℕ) → list_all (λ row. not (begins_some words row.0)) table ≡ true → bit_in table letter ≡ Some bit
    → begins_some words letter ≡ false
in-table [] letter bit all h = absurd (cc)
in-table (row ∷ rows) letter bit all h =
    let parts = and_parts (not (begins_some words row.0)) (list_all (λ row. not (begins_some words row.0)) rows) all in
    elim (cases_Bool (letter == row.0)) [
      | inl here ↦ let same : letter ≡ row.0 = eqb-true letter row.0 here in ap (begins_some words) same ∙ is_false (begins_some words row.0) parts.0
      | inr later ↦ in-table rows letter bit parts.1 (sym (cond-false (letter == row.0) (Some row.1) (bit_in rows letter) later) ∙ h)
    ]
  where
    is_false : (b : Bool) → not b ≡ true → b ≡ false
    is_false true h = absurd (cc)
    is_false false h = refl

-- no letter begins an exec word
letter-first : (letter bit : ℕ) (rest : List ℕ) → told_bit letter ≡ Some bit → first_word (letter ∷ rest) ≡ None
letter-first letter bit rest h = not-first letter rest (in-table ((exec_letter, EXEC) ∷ letters) letter bit refl h)

-- the first exec word, where one may stand before these
abbrev first_behind : Option ExecWord → List ExecWord → Option ExecWord
first_behind None more = first_of more
first_behind (Some first) more = Some first

abbrev differ_behind : Option ExecWord → List ExecWord → Bool
differ_behind None more = differ more
differ_behind (Some first) more = list_any (λ word. not (same_word first word)) more

-- what was said before, and what parts say
abbrev together : WrittenAccess → List AccessPart → WrittenAccess
together before parts = record {
  letters = record { 0 = fold union before.letters.0 (filter_map bit_of_part parts) };
  word = first_behind before.word (words_among parts);
  differs = before.differs || differ_behind before.word (words_among parts);
}

no-more : (set : ℕ) (word : Option ExecWord) (differs : Bool)
    → together (record { letters = record { 0 = set }; word = word; differs = differs }) [] ≡ record { letters = record { 0 = set }; word = word; differs = differs }
no-more set None true = refl
no-more set None false = refl
no-more set (Some word) true = refl
no-more set (Some word) false = refl

one-word : (set : ℕ) (found : Option ExecWord) (differs : Bool) (word : ExecWord) (parts : List AccessPart)
    → together (with_word (record { letters = record { 0 = set }; word = found; differs = differs }) word) parts
    ≡ together (record { letters = record { 0 = set }; word = found; differs = differs }) (Word word ∷ parts)
one-word set None differs word parts = refl
one-word set (Some first) true word parts = refl
one-word set (Some first) false word parts = refl

one-letter : (before : WrittenAccess) (letter bit : ℕ) (parts : List AccessPart) → told_bit letter ≡ Some bit
    → together (with_letter before bit) parts ≡ together before (Letter letter ∷ parts)
one-letter before letter bit parts h = rw h refl

-- what is read of a text that is written of known parts
read-parts : (parts : List AccessPart) (before : WrittenAccess) → list_all is_known parts ≡ true → access_with before (text_of_parts parts) ≡ Some (together before parts)
read-parts [] before h = ap Some (sym (no-more before.letters.0 before.word before.differs))
read-parts (Letter letter ∷ parts) before h =
    let known = and_parts (is_known (Letter letter)) (list_all is_known parts) h in
    by (told_bit letter) refl known.0 (λ (next : WrittenAccess). read-parts parts next known.1)
  where
    by : (bit : Option ℕ) → told_bit letter ≡ bit → is_some (told_bit letter) ≡ true
        → ((next : WrittenAccess) → access_with next (text_of_parts parts) ≡ Some (together next parts))
        → access_with before (letter ∷ text_of_parts parts) ≡ Some (together before (Letter letter ∷ parts))
    by None e known more = let wrong : false ≡ true = rw e at known in absurd (cc)
    by (Some bit) e known more =
        letter_first before letter bit (text_of_parts parts) (letter-first letter bit (text_of_parts parts) e) e
        ∙ (more (with_letter before bit) ∙ ap Some (one-letter before letter bit parts e))
read-parts (Word word ∷ parts) before h =
    let known = and_parts true (list_all is_known parts) h in
    read_first before ((row word).text ++ text_of_parts parts) word (text_of_parts parts) (word-first word (text_of_parts parts))
    ∙ (read-parts parts (with_word before word) known.1 ∙ ap Some (one-word before.letters.0 before.word before.differs word parts))

-- some known parts of which a text is written
abbrev Written : List ℕ → Type 0
Written text = (parts : List AccessPart) × IsWrittenOf text parts

among-is : (words : List ExecWord) (text : List ℕ) (word : ExecWord) → word_among words text ≡ Some word → (row word).text ≡ text
among-is [] text word h = absurd (cc)
among-is (first ∷ words) text word h = elim (cases_Bool (bytes_eq (row first).text text)) [
  | inl here ↦
      let found : first ≡ word = let some = sym (cond-true (bytes_eq (row first).text text) (Some first) (word_among words text) here) ∙ h in cc in
      ap (λ word. (row word).text) (sym found) ∙ (bytes_eq-Decides (row first).text text).0 here
  | inr later ↦ among-is words text word (sym (cond-false (bytes_eq (row first).text text) (Some first) (word_among words text) later) ∙ h)
]

word-step : (text more : List ℕ) (word : ExecWord) → exec_word text ≡ Some word → Written more → Written (text ++ more)
word-step text more word e (parts, holds) =
    (Word word ∷ parts, (holds.0, ap (λ own. own ++ text_of_parts parts) (among-is words text word e) ∙ ap (λ behind. text ++ behind) holds.1))

letter-step : (a : ℕ) (rest : List ℕ) (before written : WrittenAccess) → ((next : WrittenAccess) → access_with next rest ≡ Some written → Written rest)
    → option_and_then (λ bit. access_with (with_letter before bit) rest) (told_bit a) ≡ Some written → Written (a ∷ rest)
letter-step a rest before written more h = by (told_bit a) refl h
  where
    by : (bit : Option ℕ) → told_bit a ≡ bit → option_and_then (λ bit. access_with (with_letter before bit) rest) bit ≡ Some written → Written (a ∷ rest)
    by None e h = absurd (cc)
    by (Some bit) e h = put (more (with_letter before bit) h)
      where
        put : Written rest → Written (a ∷ rest)
        put (parts, holds) = (Letter a ∷ parts, (rw e holds.0, ap (λ behind. a ∷ behind) holds.1))

-- a text of which something is read is written of known parts
parts-read : (text : List ℕ) (before written : WrittenAccess) → access_with before text ≡ Some written → Written text
parts-read [] before written h = ([], (refl, refl))
parts-read (a ∷ []) before written h = letter-step a [] before written (λ next read. ([], (refl, refl))) h
parts-read (a ∷ b ∷ []) before written h = two (exec_word (a ∷ b ∷ [])) refl h (λ (next : WrittenAccess). parts-read (b ∷ []) next written)
  where
    two : (word : Option ExecWord) → exec_word (a ∷ b ∷ []) ≡ word
        → (elim word [ Some word ↦ Some (with_word before word) | None ↦ option_and_then (λ bit. access_with (with_letter before bit) (b ∷ [])) (told_bit a) ]) ≡ Some written
        → ((next : WrittenAccess) → access_with next (b ∷ []) ≡ Some written → Written (b ∷ []))
        → Written (a ∷ b ∷ [])
    two (Some word) e h more = word-step (a ∷ b ∷ []) [] word e ([], (refl, refl))
    two None e h more = letter-step a (b ∷ []) before written more h
parts-read (a ∷ b ∷ c ∷ rest) before written h =
    three (exec_word (a ∷ b ∷ c ∷ [])) (exec_word (a ∷ b ∷ [])) refl refl h
    (λ (next : WrittenAccess). parts-read rest next written)
    (λ (next : WrittenAccess). parts-read (c ∷ rest) next written)
    (λ (next : WrittenAccess). parts-read (b ∷ c ∷ rest) next written)
  where
    three : (long short : Option ExecWord) → exec_word (a ∷ b ∷ c ∷ []) ≡ long → exec_word (a ∷ b ∷ []) ≡ short
        → (elim long [
          | Some word ↦ access_with (with_word before word) rest
          | None ↦ elim short [
            | Some word ↦ access_with (with_word before word) (c ∷ rest)
            | None ↦ option_and_then (λ bit. access_with (with_letter before bit) (b ∷ c ∷ rest)) (told_bit a)
          ]
        ]) ≡ Some written
        → ((next : WrittenAccess) → access_with next rest ≡ Some written → Written rest)
        → ((next : WrittenAccess) → access_with next (c ∷ rest) ≡ Some written → Written (c ∷ rest))
        → ((next : WrittenAccess) → access_with next (b ∷ c ∷ rest) ≡ Some written → Written (b ∷ c ∷ rest))
        → Written (a ∷ b ∷ c ∷ rest)
    three (Some word) short e f h more_3 more_2 more_1 = word-step (a ∷ b ∷ c ∷ []) rest word e (more_3 (with_word before word) h)
    three None (Some word) e f h more_3 more_2 more_1 = word-step (a ∷ b ∷ []) (c ∷ rest) word f (more_2 (with_word before word) h)
    three None None e f h more_3 more_2 more_1 = letter-step a (b ∷ c ∷ rest) before written more_1 h

-- what is read of a text is what the parts say of which it is written
pub read-as_said : ReadAsItsPartsSay
read-as_said text written = (parts-of, read-of)
  where
    parts-of : access_with nothing_written text ≡ Some written → (parts : List AccessPart) × IsWrittenOf text parts × (said parts ≡ written)
    parts-of h = by (parts-read text nothing_written written h)
      where
        by : Written text → (parts : List AccessPart) × IsWrittenOf text parts × (said parts ≡ written)
        by (parts, holds) =
            let read : access_with nothing_written text ≡ Some (said parts) = ap (access_with nothing_written) (sym holds.1) ∙ read-parts parts nothing_written holds.0 in
            let says : said parts ≡ written = let both : Some (said parts) ≡ Some written = sym read ∙ h in cc in
            (parts, holds, says)

    read-of : ((parts : List AccessPart) × IsWrittenOf text parts × (said parts ≡ written)) → access_with nothing_written text ≡ Some written
    read-of (parts, holds, says) = ap (access_with nothing_written) (sym holds.1) ∙ (read-parts parts nothing_written holds.0 ∙ ap Some says)

-- what stands first in the text of known parts
first-of_parts : (part : AccessPart) (behind : List ℕ) → is_known part ≡ true → first_word (text_of_part part ++ behind) ≡ (elim part [ Letter letter ↦ None | Word word ↦ Some (word, behind) ])
first-of_parts (Word word) behind h = word-first word behind
first-of_parts (Letter letter) behind h = by (told_bit letter) refl h
  where
    by : (bit : Option ℕ) → told_bit letter ≡ bit → is_some (told_bit letter) ≡ true → first_word (letter ∷ behind) ≡ None
    by None e known = let wrong : false ≡ true = rw e at known in absurd (cc)
    by (Some bit) e known = letter-first letter bit behind e

some-none : (read : ExecWord × List ℕ) → Some read ≡ None → ⊥
some-none read e = absurd (cc)

same-read : (read told : ExecWord × List ℕ) → Some read ≡ Some told → read ≡ told
same-read read told e = cc

not-empty : (part : AccessPart) (behind : List ℕ) → is_known part ≡ true → text_of_part part ++ behind ≡ [] → ⊥
not-empty (Letter letter) behind h e = absurd (cc)
not-empty (Word word) behind h e = some-none (word, behind) (sym (word-first word behind) ∙ ap first_word e)

-- two first parts of one text are the same, and so is what stands behind them
same-first : (part other : AccessPart) (behind more : List ℕ) → is_known part ≡ true → is_known other ≡ true
    → text_of_part part ++ behind ≡ text_of_part other ++ more → (part ≡ other) × (behind ≡ more)
same-first (Letter a) (Letter b) behind more h g e = let letters : a ≡ b = cc in let rest : behind ≡ more = cc in (ap Letter letters, rest)
same-first (Word word) (Word other) behind more h g e =
    let same = same-read (word, behind) (other, more) (sym (word-first word behind) ∙ (ap first_word e ∙ word-first other more)) in
    (ap (λ (read : ExecWord × List ℕ). Word read.0) same, ap (λ (read : ExecWord × List ℕ). read.1) same)
same-first (Letter a) (Word other) behind more h g e =
    absurd (some-none (other, more) (sym (word-first other more) ∙ (sym (ap first_word e) ∙ first-of_parts (Letter a) behind h)))
same-first (Word word) (Letter b) behind more h g e =
    absurd (some-none (word, behind) (sym (word-first word behind) ∙ (ap first_word e ∙ first-of_parts (Letter b) more g)))

same-parts : (parts others : List AccessPart) → list_all is_known parts ≡ true → list_all is_known others ≡ true → text_of_parts parts ≡ text_of_parts others
    → parts ≡ others
same-parts [] [] h g e = refl
same-parts [] (other ∷ others) h g e =
    let known = and_parts (is_known other) (list_all is_known others) g in
    absurd (not-empty other (text_of_parts others) known.0 (sym e))
same-parts (part ∷ parts) [] h g e =
    let known = and_parts (is_known part) (list_all is_known parts) h in
    absurd (not-empty part (text_of_parts parts) known.0 e)
same-parts (part ∷ parts) (other ∷ others) h g e =
    let known = and_parts (is_known part) (list_all is_known parts) h in
    let known_too = and_parts (is_known other) (list_all is_known others) g in
    let first = same-first part other (text_of_parts parts) (text_of_parts others) known.0 known_too.0 e in
    let rest = same-parts parts others known.1 known_too.1 first.1 in
    ap (λ part. part ∷ parts) first.0 ∙ ap (λ parts. other ∷ parts) rest

-- no text is written of known parts in two ways
pub written-in_one_way : WrittenInOneWay
written-in_one_way text parts others holds holds_too = same-parts parts others holds.0 holds_too.0 (holds.1 ∙ sym holds_too.1)
