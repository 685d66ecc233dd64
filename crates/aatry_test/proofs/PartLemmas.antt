-- The parts of a transcript: nothing is left out, and each command has its reply.
use Rattle.std.proofs.Common.{◌≡◌, ◌∙◌, ℕ, suc, ◌+◌, Bool, true, false, not, ◌||◌, List, [], ◌∷◌, ◌++◌, ap, append-nil, arith, drop, inl, inr, length, refl, sym, take, true≢false}
use Rattle.std.specs.Prelude.{flat_map}
use Rattle.std.specs.List.{list_any, prefix_len}
use Rattle.std.proofs.Math.Seq.{drop-append_seam, take-append_seam}
use Rattle.std.proofs.lemmas.Bool.{cases_Bool, or_parts}
use Rattle.aatry_transcripts.proofs.ReplyLemmas.{before_on, reply_taken}
use Rattle.aatry_test.specs.Differences.{Part, part_of, parts}
use Rattle.aatry_test.specs.Laws.{AllIsTold, AllIsWanted, AreReplies, EachHasItsReply, IsReplyTo, parts_by, told_by}
use Rattle.aatry_transcripts.specs.Replies.{begins_reply, reply_to, told_next}
use Rattle.aatry_transcripts.specs.Transcripts.{before_command, is_aside, is_command, wanted_in}

abbrev told_of : List Part → List (List ℕ)
told_of ps = flat_map (λ part. part.told) ps

abbrev wanted_of : List Part → List (List ℕ)
wanted_of ps = flat_map (λ part. part.wanted) ps

-- where there is no command, there is no part
no_parts : (number : ℕ) (lines told : List (List ℕ)) → list_any is_command lines ≡ false → parts number lines told ≡ []
no_parts number [] told none = refl
no_parts number (line ∷ behind) told none =
    let both = or_parts (is_command line) (list_any is_command behind) none in rw both.0 (no_parts (number + 1) behind told both.1)

all_told : (number : ℕ) (lines told : List (List ℕ)) → list_any is_command lines ≡ true → told_of (parts number lines told) ≡ told
all_told number [] told some = absurd (true≢false (sym some))
all_told number (line ∷ behind) told some = elim (cases_Bool (is_command line)) [
  | inl command ↦ elim (cases_Bool (list_any is_command behind)) [
    | inl more ↦
        let own = reply_to line told in
        rw (command, more) (ap (λ l. own ++ l) (all_told (number + 1) behind (drop (length own) told) more) ∙ reply_taken line told)
    | inr none ↦ rw (command, none) (ap (λ ps. told ++ told_of ps) (no_parts (number + 1) behind (drop (length told) told) none) ∙ append-nil told)
  ]
  | inr other ↦ rw other (all_told (number + 1) behind told (later (is_command line) (list_any is_command behind) other some))
]
  where
    later : (a b : Bool) → a ≡ false → (a || b) ≡ true → b ≡ true
    later true b p q = absurd (true≢false p)
    later false b p q = q

pub all_is_told : AllIsTold
all_is_told lines told some = all_told 1 lines told some

all_wanted : (number : ℕ) (lines told : List (List ℕ)) → wanted_in (before_command lines) ++ wanted_of (parts number lines told) ≡ wanted_in lines
all_wanted number [] told = refl
all_wanted number (line ∷ behind) told = elim (cases_Bool (is_command line)) [
  | inl command ↦ rw command (all_wanted (number + 1) behind _)
  | inr other ↦
      ap (λ front. wanted_in front ++ wanted_of (parts number (line ∷ behind) told)) (before_on line behind other)
      ∙ elim (cases_Bool (is_aside line)) [
        | inl note ↦ rw (other, note) (all_wanted (number + 1) behind told)
        | inr plain ↦ rw (other, plain) (ap (λ l. line ∷ l) (all_wanted (number + 1) behind told))
      ]
]

pub all_is_wanted : AllIsWanted
all_is_wanted lines told = all_wanted 1 lines told

-- lines begin with one that begins a reply, if there are any
abbrev Begins : List (List ℕ) → Type 0
Begins [] = Unit {0}
Begins (line ∷ lines) = begins_reply line ≡ true

one_more : (n : ℕ) → 1 + n ≡ suc n
one_more n = omega arith

-- the lines of a reply behind its first reach to the next reply
size_is : (more rest : List (List ℕ)) → list_any begins_reply more ≡ false → Begins rest → prefix_len (λ line. not (begins_reply line)) (more ++ rest) ≡ length more
size_is [] [] none begins = refl
size_is [] (line ∷ lines) none begins = rw begins refl
size_is (line ∷ more) rest none begins =
    let both = or_parts (begins_reply line) (list_any begins_reply more) none in rw both.0 (ap (λ n. 1 + n) (size_is more rest both.1 begins) ∙ one_more (length more))

own_reply : (line : List ℕ) (reply rest : List (List ℕ)) → IsReplyTo line reply → Begins rest → reply_to line (reply ++ rest) ≡ reply
own_reply line [] rest is begins = rw is refl
own_reply line (first ∷ more) rest is begins =
    rw is.0 (ap (λ n. take n (first ∷ more ++ rest)) (ap (λ n. 1 + n) (size_is more rest is.2 begins) ∙ one_more (length more)) ∙ take-append_seam (first ∷ more) rest)

next_is : (line : List ℕ) (behind reply rest : List (List ℕ)) → is_command line ≡ true → IsReplyTo line reply → Begins rest
    → (list_any is_command behind ≡ false → rest ≡ []) → told_next line behind (reply ++ rest) ≡ reply
next_is line behind reply rest command is begins last = elim (cases_Bool (list_any is_command behind)) [
  | inl more ↦ rw (command, more) (own_reply line reply rest is begins)
  | inr none ↦ rw (command, none) (ap (λ l. reply ++ l) (last none) ∙ append-nil reply)
]

none_told : (reply : ℕ → List (List ℕ)) (number : ℕ) (lines : List (List ℕ)) → list_any is_command lines ≡ false → told_by reply number lines ≡ []
none_told reply number [] none = refl
none_told reply number (line ∷ behind) none =
    let both = or_parts (is_command line) (list_any is_command behind) none in rw both.0 (none_told reply (number + 1) behind both.1)

front_begins : (line : List ℕ) (reply rest : List (List ℕ)) → IsReplyTo line reply → Begins rest → Begins (reply ++ rest)
front_begins line [] rest is begins = begins
front_begins line (first ∷ more) rest is begins = is.1

told_begins : (reply : ℕ → List (List ℕ)) (number : ℕ) (lines : List (List ℕ)) → AreReplies reply number lines → Begins (told_by reply number lines)
told_begins reply number [] are = tt
told_begins reply number (line ∷ behind) are = elim (cases_Bool (is_command line)) [
  | inl command ↦ rw command (front_begins line (reply number) (told_by reply (number + 1) behind) (are.0 command) (told_begins reply (number + 1) behind are.1))
  | inr other ↦ rw other (told_begins reply (number + 1) behind are.1)
]

each : (reply : ℕ → List (List ℕ)) (number : ℕ) (lines : List (List ℕ)) → AreReplies reply number lines
    → parts number lines (told_by reply number lines) ≡ parts_by reply number lines
each reply number [] are = refl
each reply number (line ∷ behind) are = elim (cases_Bool (is_command line)) [
  | inl command ↦
      let own = reply number in
      let rest = told_by reply (number + 1) behind in
      let all : told_by reply number (line ∷ behind) ≡ own ++ rest = rw command refl in
      let next = next_is line behind own rest command (are.0 command) (told_begins reply (number + 1) behind are.1) (none_told reply (number + 1) behind) in
      ap (λ told. parts number (line ∷ behind) told) all
      ∙ ap (λ told. part_of number line behind told ++ parts (number + 1) behind (drop (length told) (own ++ rest))) next
      ∙ ap (λ told. part_of number line behind own ++ parts (number + 1) behind told) (drop-append_seam own rest)
      ∙ ap (λ ps. part_of number line behind own ++ ps) (each reply (number + 1) behind are.1)
  | inr other ↦ rw other (each reply (number + 1) behind are.1)
]

pub each_has_its_reply : EachHasItsReply
each_has_its_reply reply lines are = each reply 1 lines are
