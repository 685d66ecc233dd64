-- The access of a file rule as a list of parts, and the text of these (apparmor.d(5), "File Permission Access Modes" and "Execute Rules"):
-- definitions for the laws on accesses.
use Rattle.std.specs.Prelude.{◌≡◌, ℕ, Bool, true, false, not, List, [], ◌∷◌, filter_map, flat_map, fold, Option, None, Some, is_some}
use Rattle.std.specs.List.{list_all, list_any}
use Rattle.aa_profile_data.specs.Access.{told_bit, union}
use Rattle.aa_profile_data.specs.ExecWords.{row, same_word}
use Rattle.aa_profile_data.specs.declared.exec_word.ExecWord.{ExecWord}
use Rattle.aa_profile_data.specs.declared.written.WrittenAccess.{WrittenAccess}

-- a part of an access: a letter, a bare `x` among them, or an exec word
pub data AccessPart : Type 0 where
  Letter : (letter : ℕ) → AccessPart
  Word : (word : ExecWord) → AccessPart

-- how a part is written
abbrev pub text_of_part : AccessPart → List ℕ
text_of_part (Letter letter) = letter ∷ []
text_of_part (Word word) = (row word).text

-- parts are written one after the other, with nothing between them
abbrev pub text_of_parts : List AccessPart → List ℕ
text_of_parts parts = flat_map text_of_part parts

-- the letters are r, w, a, l, k, m and x
abbrev pub is_known : AccessPart → Bool
is_known (Letter letter) = is_some (told_bit letter)
is_known (Word word) = true

-- the bit of a letter
abbrev pub bit_of_part : AccessPart → Option ℕ
bit_of_part (Letter letter) = told_bit letter
bit_of_part (Word word) = None

-- the exec word that a part is
abbrev pub word_of_part : AccessPart → Option ExecWord
word_of_part (Letter letter) = None
word_of_part (Word word) = Some word

-- the set of all letters of parts
abbrev pub letters_among : List AccessPart → ℕ
letters_among parts = fold union 0 (filter_map bit_of_part parts)

-- the exec words of parts, in their order
abbrev pub words_among : List AccessPart → List ExecWord
words_among parts = filter_map word_of_part parts

abbrev pub first_of : List ExecWord → Option ExecWord
first_of [] = None
first_of (first ∷ more) = Some first

-- some word differs from the first
abbrev pub differ : List ExecWord → Bool
differ [] = false
differ (first ∷ more) = list_any (λ word. not (same_word first word)) more

-- what parts say: all their letters, the first of their exec words, and whether another one differs from it
abbrev pub said : List AccessPart → WrittenAccess
said parts = record { letters = record { 0 = letters_among parts }; word = first_of (words_among parts); differs = differ (words_among parts) }

-- a text consists of these parts, which are all known
abbrev pub IsWrittenOf : List ℕ → List AccessPart → Type 0
IsWrittenOf text parts = (list_all is_known parts ≡ true) × (text_of_parts parts ≡ text)
