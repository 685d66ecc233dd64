-- The access of a file rule, as it is written (apparmor.d(5), "File Permission Access Modes"; docs/policy.md, "Rules"). The law `what_accesses_say`
-- describes it by the parts of which the text consists (AccessText.antt).
use Rattle.std.specs.Prelude.{ℕ, Bool, false, not, ◌&&◌, ◌||◌, List, [], ◌∷◌, Option, None, Some, is_some, option_and_then}
use Rattle.aa_profile_data.specs.Access.{EXEC, has, told_bit, union}
use Rattle.aa_profile_data.specs.ExecWords.{exec_word, same_word}
use Rattle.aa_profile_data.specs.declared.exec_word.ExecWord.{ExecWord}
use Rattle.aa_profile_data.specs.declared.written.WrittenAccess.{WrittenAccess}

-- no access
abbrev pub nothing_written : WrittenAccess
nothing_written = record { letters = record { 0 = 0 }; word = None; differs = false }

-- with one more letter
abbrev pub with_letter : WrittenAccess → ℕ → WrittenAccess
with_letter before bit = record { letters = record { 0 = union before.letters.0 bit }; word = before.word; differs = before.differs }

-- with one more exec word
abbrev pub with_word : WrittenAccess → ExecWord → WrittenAccess
with_word before word = elim before.word [
  | None ↦ record { letters = before.letters; word = Some word; differs = before.differs }
  | Some first ↦ record { letters = before.letters; word = Some first; differs = before.differs || not (same_word first word) }
]

-- What a text says, after what was said before it, from the left: an exec word of three bytes or else of two, or else a letter. `None`, where it has
-- something else.
abbrev pub access_with : WrittenAccess → List ℕ → Option WrittenAccess
access_with before [] = Some before
access_with before (a ∷ []) = option_and_then (λ bit. Some (with_letter before bit)) (told_bit a)
access_with before (a ∷ b ∷ []) = elim (exec_word (a ∷ b ∷ [])) [
  | Some word ↦ Some (with_word before word)
  | None ↦ option_and_then (λ bit. access_with (with_letter before bit) (b ∷ [])) (told_bit a)
]
access_with before (a ∷ b ∷ c ∷ more) = elim (exec_word (a ∷ b ∷ c ∷ [])) [
  | Some word ↦ access_with (with_word before word) more
  | None ↦ elim (exec_word (a ∷ b ∷ [])) [
    | Some word ↦ access_with (with_word before word) (c ∷ more)
    | None ↦ option_and_then (λ bit. access_with (with_letter before bit) (b ∷ c ∷ more)) (told_bit a)
  ]
]

-- it has two different exec words, where a bare `x` counts as one
abbrev pub has_two_words : WrittenAccess → Bool
has_two_words written = written.differs || (is_some written.word && has written.letters.0 EXEC)
