-- What is told to a line, and what is told behind that.
use Rattle.std.proofs.Common.{◌≡◌, ◌∙◌, ◌+◌, ℕ, zero, suc, true, false, not, List, [], ◌∷◌, ◌++◌, ap, append-nil, arith, drop, inl, inr, length, refl, take}
use Rattle.std.specs.List.{list_any, prefix_len}
use Rattle.std.proofs.lemmas.Bool.{cases_Bool}
use Rattle.aatry_transcripts.specs.Replies.{reply_size, reply_to, told_next}
use Rattle.aatry_transcripts.specs.Transcripts.{before_command, command_in, is_blank, is_command}

-- some first lines, and those behind them
taken : (k : ℕ) (xs : List (List ℕ)) → take k xs ++ drop (length (take k xs)) xs ≡ xs
taken zero xs = refl
taken (suc k) [] = refl
taken (suc k) (x ∷ xs) = ap (λ l. x ∷ l) (taken k xs)

-- a reply, and what is told behind it
pub reply_taken : (line : List ℕ) (told : List (List ℕ)) → reply_to line told ++ drop (length (reply_to line told)) told ≡ told
reply_taken line told = elim (cases_Bool (is_blank (command_in line))) [
  | inl blank ↦ rw blank refl
  | inr other ↦ rw other (taken (reply_size told) told)
]

-- all that is told
all_dropped : (told : List (List ℕ)) → drop (length told) told ≡ []
all_dropped [] = refl
all_dropped (line ∷ told) = all_dropped told

-- behind the last command nothing is told that isn't its reply
pub none_behind : (line : List ℕ) (behind told : List (List ℕ)) → is_command line ≡ true → list_any is_command behind ≡ false
    → drop (length (told_next line behind told)) told ≡ []
none_behind line behind told command none = rw (command, none) (all_dropped told)

-- what is told to a line, and what is told behind that
pub told_taken : (line : List ℕ) (behind told : List (List ℕ)) → told_next line behind told ++ drop (length (told_next line behind told)) told ≡ told
told_taken line behind told = elim (cases_Bool (is_command line)) [
  | inl command ↦ elim (cases_Bool (list_any is_command behind)) [
    | inl more ↦ rw (command, more) (reply_taken line told)
    | inr none ↦ rw (command, none) (ap (λ rest. told ++ rest) (all_dropped told) ∙ append-nil told)
  ]
  | inr other ↦ rw other refl
]

one_more : (n : ℕ) → 1 + n ≡ suc n
one_more n = omega arith

-- a line without a command stands before the next command
pub before_on : (line : List ℕ) (behind : List (List ℕ)) → is_command line ≡ false → before_command (line ∷ behind) ≡ line ∷ before_command behind
before_on line behind other = rw other (ap (λ n. take n (line ∷ behind)) (one_more (prefix_len (λ line. not (is_command line)) behind)))
