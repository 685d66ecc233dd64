-- The words of a question about all paths: ACCESS OWNED PATTERN [WHO..] (docs/aatry.md).
use Rattle.std.specs.Prelude.{ℕ, not, ◌==◌, if◌then◌else◌, List, [], ◌∷◌, Option, None, Some, codes, map}
use Rattle.std.specs.Option.{option_and_then}
use Rattle.std.specs.Str.{bytes_eq}
use Rattle.aa_explain_paths.specs.declared.question.Whose.{Whose}
use Rattle.aa_explain_paths.specs.declared.question.Whose.TheVariants.{Any, Other, Owner}
use Rattle.aa_profile_data.specs.Access.{common, told_bit, union}
use Rattle.aatry_claims.specs.declared.words.PathWords.{PathWords as CodeWords}

-- the words of such a question, as read
pub record PathWords : Type 0 where
  pub letters : ℕ
  pub whose : Whose
  pub pattern : List ℕ
  pub whom : List (List ℕ)

abbrev pub seen_words : CodeWords → PathWords
seen_words words = record { letters = words.letters.0; whose = words.whose; pattern = words.pattern.now; whom = map (λ word. word.now) words.whom.now }

-- the set of one letter, `x` among them
abbrev pub letter_of : ℕ → Option ℕ
letter_of letter = told_bit letter

-- a set with one letter more, if that isn't in it already
abbrev pub with_bit : ℕ → ℕ → Option ℕ
with_bit set bit = if not (common set bit == 0) then None else Some (union set bit)

abbrev pub with_letter : ℕ → ℕ → Option ℕ
with_letter set letter = option_and_then (with_bit set) (letter_of letter)

-- a set with the letters of a text added
abbrev pub letters_from : ℕ → List ℕ → Option ℕ
letters_from set [] = Some set
letters_from set (letter ∷ letters) = elim (with_letter set letter) [ None ↦ None | Some more ↦ letters_from more letters ]

-- the letters of a word: at least one, each known and none twice
abbrev pub letters_of : List ℕ → Option ℕ
letters_of [] = None
letters_of (letter ∷ letters) = letters_from 0 (letter ∷ letters)

-- whose files a word means
abbrev pub whose_of : List ℕ → Option Whose
whose_of word =
    if bytes_eq word (codes "owner") then Some Owner
    else if bytes_eq word (codes "other") then Some Other
    else if bytes_eq word (codes "any") then Some Any
    else None

-- the question, with these letters and owners, if there are both
abbrev pub words_with : Option ℕ → Option Whose → List ℕ → List (List ℕ) → Option PathWords
words_with None whose pattern whom = None
words_with (Some letters) None pattern whom = None
words_with (Some letters) (Some whose) pattern whom = Some (record { letters = letters; whose = whose; pattern = pattern; whom = whom })

-- the words of a question about all paths; none where they make no such question
abbrev pub path_words : List (List ℕ) → Option PathWords
path_words (access ∷ owned ∷ pattern ∷ whom) = words_with (letters_of access) (whose_of owned) pattern whom
path_words words = None
