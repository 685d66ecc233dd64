-- A transcript whose replies are accepted wants just what was told, by the same commands, and keeps all else.
use Rattle.std.proofs.Common.{◌≡◌, ◌∙◌, ◌+◌, ◌-◌, ◌≤◌, ◌<◌, ℕ, zero, suc, Bool, true, false, not, ◌||◌, List, [], ◌∷◌, ◌++◌, ap, ap₂, append-nil, arith, drop, eqb, get_or, inl, inr, leb, length, map, refl, sym, take, true≢false}
use Rattle.std.specs.Prelude.{flat_map, if◌then◌else◌}
use Rattle.std.specs.List.{filter, list_all, list_any}
use Rattle.std.specs.Str.{bytes_eq}
use Rattle.std.specs.Str.Lines.{strip_carriage_return}
use Rattle.std.proofs.lemmas.Bool.{and_from, and_parts, cases_Bool, eqb-true, leb-true, ne_eqb, not-true, not_from_false, or_cases, or_from, or_left, or_parts, or_right}
use Rattle.std.proofs.lemmas.List.{drop_all, drop_more, get_or-append-add, get_or_push, length-append, length-take-le, length_push, map-append, take_at}
use Rattle.std.proofs.lemmas.List.Elements.{filter-append}
use Rattle.std.proofs.lemmas.List.Folds.{list_all-append, list_any-append}
use Rattle.std.proofs.lemmas.Slice.Eq.{bytes_eq-Decides}
use Rattle.aa_bytes.specs.Texts.{is_empty}
use Rattle.aa_set_commands.specs.Lines.{is_line_feed, lines}
use Rattle.aatry_transcripts.specs.Accepting.{accepted_from, accepted_line, accepted_lines, accepted_text, can_be_wanted, end_of, is_answered, new_lines, other_line, renewed, shortened, stay_behind, told_to, wanted_behind}
use Rattle.aatry_transcripts.specs.Laws.{AsksTheSame, CanBeAccepted, KeepsTheOthers, PassesThen}
use Rattle.aatry_transcripts.specs.Meeting.{are_met, leaves_out, left_out}
use Rattle.aatry_transcripts.specs.Replies.{begins_reply, is_audit_line, is_small_letter}
use Rattle.aatry_transcripts.specs.Transcripts.{before_command, given_line, is_aside, is_command, is_wanted, transcript_lines, wanted_in}
use Rattle.aatry_transcripts.proofs.AcceptLemmas.{answered-first, plain-first}
use Rattle.aatry_transcripts.proofs.MeetLemmas.{itself-more, met-append, met_is_asked, same-met, short-more}
use Rattle.aatry_transcripts.proofs.ReadBackLemmas.{is_whole, lines-ended, lines-whole}
use Rattle.aatry_transcripts.proofs.ReplyLemmas.{before_on, none_behind, told_taken}

-- the lines of a file without their carriage returns
abbrev plain : List (List ℕ) → List (List ℕ)
plain raw = map strip_carriage_return raw

-- the lines that a file wants
abbrev wants : List (List ℕ) → List (List ℕ)
wants raw = wanted_in (plain raw)

wants-append : (front behind : List (List ℕ)) → wants (front ++ behind) ≡ wants front ++ wants behind
wants-append front behind = ap wanted_in (map-append strip_carriage_return front behind) ∙ filter-append is_wanted (plain front) (plain behind)

-- the last of a line's bytes
abbrev last_of : List ℕ → ℕ
last_of line = get_or line (length line - 1) 0

-- a line that no carriage return ends
stays-plain : (line : List ℕ) → eqb (last_of line) 13 ≡ false → strip_carriage_return line ≡ line
stays-plain line other = rw other refl

-- a line that one ends
loses-one : (line : List ℕ) → strip_carriage_return (line ++ 13 ∷ []) ≡ line
loses-one line =
    let at : length (line ++ 13 ∷ []) - 1 ≡ length line = omega (arith, length_push line 13) in
    let last : last_of (line ++ 13 ∷ []) ≡ 13 = ap (λ n. get_or (line ++ 13 ∷ []) n 0) at ∙ get_or_push line 13 0 (length line) refl in
    let is : eqb (last_of (line ++ 13 ∷ [])) 13 ≡ true = ap (λ n. eqb n 13) last in
    rw is (ap (λ n. take n (line ++ 13 ∷ [])) at ∙ take_at line (13 ∷ []) (length line) refl)

cut : (line : List ℕ) → eqb (last_of line) 13 ≡ true → strip_carriage_return line ≡ take (length line - 1) line
cut line is = rw is refl

-- what ends a line is a carriage return, or nothing
end_is-return : (raw : List ℕ) → eqb (last_of raw) 13 ≡ true → end_of raw ≡ 13 ∷ []
end_is-return [] is = absurd (true≢false (sym is))
end_is-return (b ∷ bs) is =
    let within : length (b ∷ bs) - 1 < length (b ∷ bs) = omega arith in
    let below : length (b ∷ bs) - 1 ≤ length (b ∷ bs) = omega arith in
    let past : length (b ∷ bs) ≤ length (b ∷ bs) - 1 + 1 = omega arith in
    let size : length (strip_carriage_return (b ∷ bs)) ≡ length (b ∷ bs) - 1 = ap length (cut (b ∷ bs) is) ∙ length-take-le (length (b ∷ bs) - 1) (b ∷ bs) below in
    ap (λ k. drop k (b ∷ bs)) size ∙ drop_more (b ∷ bs) (length (b ∷ bs) - 1) 0 within
    ∙ ap₂ (λ x xs. x ∷ xs) (eqb-true (last_of (b ∷ bs)) 13 is) (drop_all (length (b ∷ bs) - 1 + 1) (b ∷ bs) past)

end_is-none : (raw : List ℕ) → eqb (last_of raw) 13 ≡ false → end_of raw ≡ []
end_is-none raw other =
    let all : length raw ≤ length raw = omega arith in ap (λ line. drop (length line) raw) (stays-plain raw other) ∙ drop_all (length raw) raw all

-- a line that no carriage return ends, with what ends another one, is that line again
ends-so : (line raw : List ℕ) → strip_carriage_return line ≡ line → strip_carriage_return (line ++ end_of raw) ≡ line
ends-so line raw own = elim (cases_Bool (eqb (last_of raw) 13)) [
  | inl is ↦ ap (λ e. strip_carriage_return (line ++ e)) (end_is-return raw is) ∙ loses-one line
  | inr other ↦ ap (λ e. strip_carriage_return (line ++ e)) (end_is-none raw other) ∙ ap strip_carriage_return (append-nil line) ∙ own
]

filter_kept : {X : Type 0} (p : X → Bool) (x : X) (xs : List X) → p x ≡ true → filter p (x ∷ xs) ≡ x ∷ filter p xs
filter_kept p x xs is = rw is refl

filter_dropped : {X : Type 0} (p : X → Bool) (x : X) (xs : List X) → p x ≡ false → filter p (x ∷ xs) ≡ filter p xs
filter_dropped p x xs other = rw other refl

-- a command isn't wanted, nor is what stands beside the replies; what is neither is
command-unwanted : (line : List ℕ) → is_command line ≡ true → is_wanted line ≡ false
command-unwanted line command = rw command refl

aside-unwanted : (line : List ℕ) → is_command line ≡ false → is_aside line ≡ true → is_wanted line ≡ false
aside-unwanted line other note = rw (other, note) refl

else-wanted : (line : List ℕ) → is_command line ≡ false → is_aside line ≡ false → is_wanted line ≡ true
else-wanted line other none = rw (other, none) refl

-- an answer without its audit line can be wanted
small_is : (b : ℕ) → is_small_letter b ≡ true → 97 ≤ b
small_is b is = leb-true 97 b (and_parts (leb 97 b) (leb b 122) is).0

answer-wanted : (b : ℕ) (bs : List ℕ) → 97 ≤ b → is_wanted (b ∷ bs) ≡ true
answer-wanted b bs high =
    let greater : eqb b 62 ≡ false = ne_eqb b 62 (λ e. absurd (omega arith)) in
    let comment : eqb b 35 ≡ false = ne_eqb b 35 (λ e. absurd (omega arith)) in
    let assertion : eqb b 33 ≡ false = ne_eqb b 33 (λ e. absurd (omega arith)) in
    let space : eqb b 32 ≡ false = ne_eqb b 32 (λ e. absurd (omega arith)) in
    let tab : eqb b 9 ≡ false = ne_eqb b 9 (λ e. absurd (omega arith)) in
    let return : eqb b 13 ≡ false = ne_eqb b 13 (λ e. absurd (omega arith)) in
    rw (greater, comment, space, tab, return, assertion) refl

short-plain : (line : List ℕ) → strip_carriage_return (line ++ left_out) ≡ line ++ left_out
short-plain line =
    let at : length (line ++ left_out) - 1 ≡ length line + 2 = omega (arith, length-append line left_out) in
    let last : last_of (line ++ left_out) ≡ 46 = ap (λ n. get_or (line ++ left_out) n 0) at ∙ get_or-append-add line left_out 2 0 in
    stays-plain (line ++ left_out) (ap (λ n. eqb n 13) last)

short-ready : (line : List ℕ) → begins_reply line ≡ true → can_be_wanted (line ++ left_out) ≡ true
short-ready [] begins = absurd (true≢false (sym begins))
short-ready (b ∷ bs) begins =
    let letter = (and_parts (is_small_letter b) (not (is_audit_line (b ∷ bs))) begins).0 in
    and_from (is_wanted (b ∷ (bs ++ left_out))) (bytes_eq (strip_carriage_return ((b ∷ bs) ++ left_out)) ((b ∷ bs) ++ left_out))
    (answer-wanted b (bs ++ left_out) (small_is b letter))
    ((bytes_eq-Decides (strip_carriage_return ((b ∷ bs) ++ left_out)) ((b ∷ bs) ++ left_out)).1 (short-plain (b ∷ bs)))

-- lines that can be wanted each have a test, and so have those of them that answers are left with
shortened-all : (p : List ℕ → Bool) → ((line : List ℕ) → begins_reply line ≡ true → p line ≡ true → p (line ++ left_out) ≡ true)
    → (told : List (List ℕ)) → list_all p told ≡ true → list_all p (shortened told) ≡ true
shortened-all p short [] all = refl
shortened-all p short (line ∷ []) all = all
shortened-all p short (line ∷ next ∷ behind) all =
    let first = and_parts (p line) (list_all p (next ∷ behind)) all in
    let second = and_parts (p next) (list_all p behind) first.1 in
    elim (cases_Bool (is_answered (line ∷ next ∷ behind))) [
      | inl is ↦
          ap (list_all p) (answered-first line (next ∷ behind) is)
          ∙ and_from (p (line ++ left_out)) (list_all p (shortened behind)) (short line (and_parts (begins_reply line) (is_audit_line next) is).0 first.0) (shortened-all p short behind second.1)
      | inr other ↦
          ap (list_all p) (plain-first line (next ∷ behind) other)
          ∙ and_from (p line) (list_all p (shortened (next ∷ behind))) first.0 (shortened-all p short (next ∷ behind) first.1)
    ]

renewed-all : (p : List ℕ → Bool) → ((line : List ℕ) → begins_reply line ≡ true → p line ≡ true → p (line ++ left_out) ≡ true)
    → (wanted told : List (List ℕ)) → list_all p told ≡ true → list_all p (renewed wanted told) ≡ true
renewed-all p short wanted told all = elim (cases_Bool (list_any leaves_out wanted)) [
  | inl some ↦ rw some (shortened-all p short told all)
  | inr none ↦ rw none all
]

-- the lines that are wanted from now on ask for what is told
shortened-met : (told : List (List ℕ)) → are_met (shortened told) told ≡ true
shortened-met [] = refl
shortened-met (line ∷ []) = itself-more line [] []
shortened-met (line ∷ next ∷ behind) = elim (cases_Bool (is_answered (line ∷ next ∷ behind))) [
  | inl is ↦
      ap (λ ls. are_met ls (line ∷ next ∷ behind)) (answered-first line (next ∷ behind) is)
      ∙ short-more line next (shortened behind) behind (and_parts (begins_reply line) (is_audit_line next) is).1 ∙ shortened-met behind
  | inr other ↦
      ap (λ ls. are_met ls (line ∷ next ∷ behind)) (plain-first line (next ∷ behind) other)
      ∙ itself-more line (shortened (next ∷ behind)) (next ∷ behind) ∙ shortened-met (next ∷ behind)
]

renewed-met : (wanted told : List (List ℕ)) → are_met (renewed wanted told) told ≡ true
renewed-met wanted told = elim (cases_Bool (list_any leaves_out wanted)) [
  | inl some ↦ rw some (shortened-met told)
  | inr none ↦ rw none (same-met told)
]

-- such lines, each ended as a command is, want themselves, and none of them is anything else
abbrev keeps : List ℕ → Bool
keeps raw = not (is_wanted (strip_carriage_return raw))

new-wanted : (raw : List ℕ) (ready : List (List ℕ)) → list_all can_be_wanted ready ≡ true → wants (map (λ line. line ++ end_of raw) ready) ≡ ready
new-wanted raw [] all = refl
new-wanted raw (line ∷ ready) all =
    let both = and_parts (can_be_wanted line) (list_all can_be_wanted ready) all in
    let own = and_parts (is_wanted line) (bytes_eq (strip_carriage_return line) line) both.0 in
    let same = ends-so line raw ((bytes_eq-Decides (strip_carriage_return line) line).0 own.1) in
    let behind = plain (map (λ line. line ++ end_of raw) ready) in
    ap (λ l. wanted_in (l ∷ behind)) same ∙ filter_kept is_wanted line behind own.0 ∙ ap (λ ls. line ∷ ls) (new-wanted raw ready both.1)

new-kept : (raw : List ℕ) (ready : List (List ℕ)) → list_all can_be_wanted ready ≡ true → filter keeps (map (λ line. line ++ end_of raw) ready) ≡ []
new-kept raw [] all = refl
new-kept raw (line ∷ ready) all =
    let both = and_parts (can_be_wanted line) (list_all can_be_wanted ready) all in
    let own = and_parts (is_wanted line) (bytes_eq (strip_carriage_return line) line) both.0 in
    let same = ends-so line raw ((bytes_eq-Decides (strip_carriage_return line) line).0 own.1) in
    filter_dropped keeps (line ++ end_of raw) (map (λ line. line ++ end_of raw) ready) (ap (λ l. not (is_wanted l)) same ∙ ap not own.0) ∙ new-kept raw ready both.1

new-ready : (wanted told : List (List ℕ)) → list_all can_be_wanted told ≡ true → list_all can_be_wanted (renewed wanted told) ≡ true
new-ready wanted told ready = renewed-all can_be_wanted (λ line begins own. short-ready line begins) wanted told ready

-- what all told lines have, those have that are told to a line, and those behind
told-all : (p : List ℕ → Bool) (raw : List ℕ) (behind told : List (List ℕ)) → list_all p told ≡ true
    → (list_all p (told_to raw behind told) ≡ true) × (list_all p (drop (length (told_to raw behind told)) told) ≡ true)
told-all p raw behind told all =
    let own = told_to raw behind told in
    let left = drop (length own) told in
    and_parts (list_all p own) (list_all p left)
    (sym (list_all-append p own left) ∙ ap (list_all p) (told_taken (strip_carriage_return raw) (plain behind) told) ∙ all)

-- what becomes of the lines from a command on, and from another line on
from-command : (stays : Bool) (raw : List ℕ) (behind told : List (List ℕ)) → is_command (strip_carriage_return raw) ≡ true
    → accepted_from stays (raw ∷ behind) told
    ≡ (raw ∷ new_lines raw (wanted_behind behind) (told_to raw behind told))
    ++ accepted_from (are_met (wanted_behind behind) (told_to raw behind told)) behind (drop (length (told_to raw behind told)) told)
from-command stays raw behind told command = rw command refl

from-other : (stays : Bool) (raw : List ℕ) (behind told : List (List ℕ)) → is_command (strip_carriage_return raw) ≡ false
    → accepted_from stays (raw ∷ behind) told ≡ other_line stays raw ++ accepted_from stays behind told
from-other stays raw behind told other = rw other refl

-- What is accepted of lines wants those lines ahead of the next command that stay, and then what is told.
abbrev Passes : Bool → List (List ℕ) → List (List ℕ) → Type 0
Passes stays raw told =
    (rest : List (List ℕ)) × (wants (accepted_from stays raw told) ≡ (if stays then wanted_behind raw else []) ++ rest) × (are_met rest told ≡ true)

none-ahead : (stays : Bool) (raw : List ℕ) (behind : List (List ℕ)) → is_command (strip_carriage_return raw) ≡ true
    → (if stays then wanted_behind (raw ∷ behind) else []) ≡ []
none-ahead true raw behind command = rw command refl
none-ahead false raw behind command = refl

passes-met : (stays : Bool) (raw : List ℕ) (behind told : List (List ℕ)) → is_command (strip_carriage_return raw) ≡ true
    → are_met (wanted_behind behind) (told_to raw behind told) ≡ true
    → Passes true behind (drop (length (told_to raw behind told)) told) → Passes stays (raw ∷ behind) told
passes-met stays raw behind told command met next =
    let line = strip_carriage_return raw in
    let own = told_to raw behind told in
    let left = drop (length own) told in
    let wanted = wanted_behind behind in
    let from : accepted_from stays (raw ∷ behind) told ≡ raw ∷ accepted_from true behind left =
    from-command stays raw behind told command
    ∙ ap (λ m. (raw ∷ (if m then [] else map (λ line. line ++ end_of raw) (renewed wanted own))) ++ accepted_from m behind left) met in (
      wanted ++ next.0,
      ap wants from ∙ filter_dropped is_wanted line (plain (accepted_from true behind left)) (command-unwanted line command) ∙ next.1
          ∙ ap (λ front. front ++ (wanted ++ next.0)) (sym (none-ahead stays raw behind command)),
      ap (are_met (wanted ++ next.0)) (sym (told_taken line (plain behind) told))
          ∙ met-append wanted next.0 own left (met_is_asked wanted own met) next.2,
    )

passes-unmet : (stays : Bool) (raw : List ℕ) (behind told : List (List ℕ)) → is_command (strip_carriage_return raw) ≡ true
    → are_met (wanted_behind behind) (told_to raw behind told) ≡ false → list_all can_be_wanted told ≡ true
    → Passes false behind (drop (length (told_to raw behind told)) told) → Passes stays (raw ∷ behind) told
passes-unmet stays raw behind told command unmet ready next =
    let line = strip_carriage_return raw in
    let own = told_to raw behind told in
    let left = drop (length own) told in
    let wanted = wanted_behind behind in
    let fresh = renewed wanted own in
    let new = map (λ line. line ++ end_of raw) fresh in
    let from : accepted_from stays (raw ∷ behind) told ≡ (raw ∷ new) ++ accepted_from false behind left =
    from-command stays raw behind told command ∙ ap (λ m. (raw ∷ (if m then [] else new)) ++ accepted_from m behind left) unmet in
    let wanted_new : wants new ≡ fresh = new-wanted raw fresh (new-ready wanted own (told-all can_be_wanted raw behind told ready).0) in (
      fresh ++ next.0,
      ap wants from ∙ wants-append (raw ∷ new) (accepted_from false behind left)
          ∙ ap₂ (λ a b. a ++ b) (filter_dropped is_wanted line (plain new) (command-unwanted line command) ∙ wanted_new) next.1
          ∙ ap (λ front. front ++ (fresh ++ next.0)) (sym (none-ahead stays raw behind command)),
      ap (are_met (fresh ++ next.0)) (sym (told_taken line (plain behind) told))
          ∙ met-append fresh next.0 own left (met_is_asked fresh own (renewed-met wanted own)) next.2,
    )

-- what is wanted ahead of the next command from a line on that holds none
ahead-aside : (raw : List ℕ) (behind : List (List ℕ)) → is_command (strip_carriage_return raw) ≡ false → is_aside (strip_carriage_return raw) ≡ true
    → wanted_behind (raw ∷ behind) ≡ wanted_behind behind
ahead-aside raw behind other note =
    let line = strip_carriage_return raw in
    ap wanted_in (before_on line (plain behind) other) ∙ filter_dropped is_wanted line (before_command (plain behind)) (aside-unwanted line other note)

ahead-wanted : (raw : List ℕ) (behind : List (List ℕ)) → is_command (strip_carriage_return raw) ≡ false → is_aside (strip_carriage_return raw) ≡ false
    → wanted_behind (raw ∷ behind) ≡ strip_carriage_return raw ∷ wanted_behind behind
ahead-wanted raw behind other none =
    let line = strip_carriage_return raw in
    ap wanted_in (before_on line (plain behind) other) ∙ filter_kept is_wanted line (before_command (plain behind)) (else-wanted line other none)

passes-other : (stays : Bool) (raw : List ℕ) (behind told : List (List ℕ)) → is_command (strip_carriage_return raw) ≡ false
    → Passes stays behind told → Passes stays (raw ∷ behind) told
passes-other true raw behind told other next =
    let line = strip_carriage_return raw in
    let rest = accepted_from true behind told in
    elim (cases_Bool (is_aside line)) [
      | inl note ↦ (
        next.0,
        ap wants (from-other true raw behind told other) ∙ filter_dropped is_wanted line (plain rest) (aside-unwanted line other note) ∙ next.1
            ∙ ap (λ front. front ++ next.0) (sym (ahead-aside raw behind other note)),
        next.2,
      )
      | inr none ↦ (
        next.0,
        ap wants (from-other true raw behind told other) ∙ filter_kept is_wanted line (plain rest) (else-wanted line other none) ∙ ap (λ ls. line ∷ ls) next.1
            ∙ ap (λ front. front ++ next.0) (sym (ahead-wanted raw behind other none)),
        next.2,
      )
    ]
passes-other false raw behind told other next =
    let line = strip_carriage_return raw in
    let rest = accepted_from false behind told in
    elim (cases_Bool (is_aside line)) [
      | inl note ↦ (
        next.0,
        ap wants (from-other false raw behind told other ∙ ap (λ n. (if n then raw ∷ [] else []) ++ rest) note)
            ∙ filter_dropped is_wanted line (plain rest) (aside-unwanted line other note) ∙ next.1,
        next.2,
      )
      | inr none ↦ (
        next.0,
        ap wants (from-other false raw behind told other ∙ ap (λ n. (if n then raw ∷ [] else []) ++ rest) none) ∙ next.1,
        next.2,
      )
    ]

nothing-told : (told : List (List ℕ)) → (is_empty told || false) ≡ true → is_empty told ≡ true
nothing-told told some = elim (or_cases (is_empty told) false some) [ inl empty ↦ empty | inr none ↦ absurd (true≢false (sym none)) ]

-- where there is a command behind, or nothing is told behind the last one
some-behind : (raw : List ℕ) (behind told : List (List ℕ)) → is_command (strip_carriage_return raw) ≡ true
    → (is_empty (drop (length (told_to raw behind told)) told) || list_any is_command (plain behind)) ≡ true
some-behind raw behind told command =
    let left = drop (length (told_to raw behind told)) told in
    elim (cases_Bool (list_any is_command (plain behind))) [
      | inl more ↦ or_right (is_empty left) (list_any is_command (plain behind)) more
      | inr none ↦ or_left (is_empty left) (list_any is_command (plain behind)) (ap is_empty (none_behind (strip_carriage_return raw) (plain behind) told command none))
    ]

passes-from : (stays : Bool) (raw told : List (List ℕ)) → list_all can_be_wanted told ≡ true → (is_empty told || list_any is_command (plain raw)) ≡ true
    → Passes stays raw told
passes-from true [] told ready some = ([], refl, nothing-told told some)
passes-from false [] told ready some = ([], refl, nothing-told told some)
passes-from stays (raw ∷ behind) told ready some =
    let line = strip_carriage_return raw in
    let own = told_to raw behind told in
    let left = drop (length own) told in
    elim (cases_Bool (is_command line)) [
      | inl command ↦
          let left_ready = (told-all can_be_wanted raw behind told ready).1 in
          let left_some = some-behind raw behind told command in
          elim (cases_Bool (are_met (wanted_behind behind) own)) [
            | inl met ↦ passes-met stays raw behind told command met (passes-from true behind left left_ready left_some)
            | inr unmet ↦ passes-unmet stays raw behind told command unmet ready (passes-from false behind left left_ready left_some)
          ]
      | inr other ↦
          let some_behind : (is_empty told || list_any is_command (plain behind)) ≡ true = ap (λ c. is_empty told || (c || list_any is_command (plain behind))) (sym other) ∙ some in
          passes-other stays raw behind told other (passes-from stays behind told ready some_behind)
    ]

-- the lines that stay whatever is told
kept-from : (stays : Bool) (raw told : List (List ℕ)) → list_all can_be_wanted told ≡ true → filter keeps (accepted_from stays raw told) ≡ filter keeps raw
kept-from stays [] told ready = refl
kept-from stays (raw ∷ behind) told ready =
    let line = strip_carriage_return raw in
    let own = told_to raw behind told in
    let left = drop (length own) told in
    let wanted = wanted_behind behind in
    let parts = told-all can_be_wanted raw behind told ready in
    elim (cases_Bool (is_command line)) [
      | inl command ↦
          let stands : keeps raw ≡ true = ap not (command-unwanted line command) in
          let none : filter keeps (new_lines raw wanted own) ≡ [] = elim (cases_Bool (are_met wanted own)) [
            | inl met ↦ ap (λ m. filter keeps (if m then [] else map (λ line. line ++ end_of raw) (renewed wanted own))) met
            | inr unmet ↦
                ap (λ m. filter keeps (if m then [] else map (λ line. line ++ end_of raw) (renewed wanted own))) unmet
                ∙ new-kept raw (renewed wanted own) (new-ready wanted own parts.0)
          ] in
          ap (filter keeps) (from-command stays raw behind told command)
          ∙ filter-append keeps (raw ∷ new_lines raw wanted own) (accepted_from (are_met wanted own) behind left)
          ∙ ap₂ (λ a b. a ++ b) (filter_kept keeps raw (new_lines raw wanted own) stands ∙ ap (λ ls. raw ∷ ls) none) (kept-from (are_met wanted own) behind left parts.1)
          ∙ sym (filter_kept keeps raw behind stands)
      | inr other ↦
          ap (filter keeps) (from-other stays raw behind told other)
          ∙ filter-append keeps (other_line stays raw) (accepted_from stays behind told)
          ∙ ap₂ (λ a b. a ++ b) (other-kept stays raw other) (kept-from stays behind told ready)
          ∙ sym (filter-append keeps (raw ∷ []) behind)
    ]
  where
    other-kept : (stays : Bool) (raw : List ℕ) → is_command (strip_carriage_return raw) ≡ false → filter keeps (other_line stays raw) ≡ filter keeps (raw ∷ [])
    other-kept true raw other = refl
    other-kept false raw other = elim (cases_Bool (is_aside (strip_carriage_return raw))) [
      | inl note ↦ ap (λ n. filter keeps (if n then raw ∷ [] else [])) note
      | inr none ↦
          ap (λ n. filter keeps (if n then raw ∷ [] else [])) none
          ∙ sym (filter_dropped keeps raw [] (ap not (else-wanted (strip_carriage_return raw) other none)))
    ]

-- lines of a kind that is wanted of no reply are among those that stay
kind-kept : (kind : List ℕ → Bool) → ((line : List ℕ) → kind line ≡ true → is_wanted line ≡ false) → (raw : List (List ℕ))
    → filter kind (plain raw) ≡ filter kind (plain (filter keeps raw))
kind-kept kind unwanted [] = refl
kind-kept kind unwanted (raw ∷ behind) =
    let line = strip_carriage_return raw in
    let more = kind-kept kind unwanted behind in
    elim (cases_Bool (kind line)) [
      | inl is ↦
          let stands : keeps raw ≡ true = ap not (unwanted line is) in
          filter_kept kind line (plain behind) is ∙ ap (λ ls. line ∷ ls) more
          ∙ sym (ap (λ ls. filter kind (plain ls)) (filter_kept keeps raw behind stands) ∙ filter_kept kind line (plain (filter keeps behind)) is)
      | inr other ↦ filter_dropped kind line (plain behind) other ∙ more ∙ sym (elim (cases_Bool (keeps raw)) [
        | inl stands ↦ ap (λ ls. filter kind (plain ls)) (filter_kept keeps raw behind stands) ∙ filter_dropped kind line (plain (filter keeps behind)) other
        | inr none ↦ ap (λ ls. filter kind (plain ls)) (filter_dropped keeps raw behind none)
      ])
    ]

-- lines that hold no line feed stay without one
short-whole : (line : List ℕ) → begins_reply line ≡ true → is_whole line ≡ true → is_whole (line ++ left_out) ≡ true
short-whole line begins whole =
    not_from_false (list_any is_line_feed (line ++ left_out))
    (list_any-append is_line_feed line left_out ∙ or_from (list_any is_line_feed line) (list_any is_line_feed left_out) (not-true (list_any is_line_feed line) whole) refl)

dropped-whole : (n : ℕ) (line : List ℕ) → list_any is_line_feed line ≡ false → list_any is_line_feed (drop n line) ≡ false
dropped-whole zero line none = none
dropped-whole (suc n) [] none = refl
dropped-whole (suc n) (b ∷ bs) none = dropped-whole n bs (or_parts (is_line_feed b) (list_any is_line_feed bs) none).1

ended-whole : (end : List ℕ) (lines : List (List ℕ)) → list_any is_line_feed end ≡ false → list_all is_whole lines ≡ true → list_all is_whole (map (λ line. line ++ end) lines) ≡ true
ended-whole end [] none whole = refl
ended-whole end (line ∷ lines) none whole =
    let both = and_parts (is_whole line) (list_all is_whole lines) whole in
    and_from (is_whole (line ++ end)) (list_all is_whole (map (λ line. line ++ end) lines))
    (not_from_false (list_any is_line_feed (line ++ end))
    (list_any-append is_line_feed line end ∙ or_from (list_any is_line_feed line) (list_any is_line_feed end) (not-true (list_any is_line_feed line) both.0) none))
    (ended-whole end lines none both.1)

line-whole : (stays : Bool) (raw : List ℕ) (wanted told : List (List ℕ)) → is_whole raw ≡ true → list_all is_whole told ≡ true
    → list_all is_whole (accepted_line stays raw wanted told) ≡ true
line-whole stays raw wanted told whole all = elim (cases_Bool (is_command (strip_carriage_return raw))) [
  | inl command ↦ rw command (and_from (is_whole raw) (list_all is_whole (new_lines raw wanted told)) whole (elim (cases_Bool (are_met wanted told)) [
    | inl met ↦ ap (λ m. list_all is_whole (if m then [] else map (λ line. line ++ end_of raw) (renewed wanted told))) met
    | inr unmet ↦
        ap (λ m. list_all is_whole (if m then [] else map (λ line. line ++ end_of raw) (renewed wanted told))) unmet
        ∙ ended-whole (end_of raw) (renewed wanted told) (dropped-whole (length (strip_carriage_return raw)) raw (not-true (list_any is_line_feed raw) whole))
        (renewed-all is_whole short-whole wanted told all)
  ]))
  | inr other ↦ rw other (elim (cases_Bool (stays || is_aside (strip_carriage_return raw))) [
    | inl stands ↦ ap (λ s. list_all is_whole (if s then raw ∷ [] else [])) stands ∙ and_from (is_whole raw) true whole refl
    | inr none ↦ ap (λ s. list_all is_whole (if s then raw ∷ [] else [])) none
  ])
]

whole-from : (stays : Bool) (raw told : List (List ℕ)) → list_all is_whole raw ≡ true → list_all is_whole told ≡ true → list_all is_whole (accepted_from stays raw told) ≡ true
whole-from stays [] told whole all = refl
whole-from stays (raw ∷ behind) told whole all =
    let both = and_parts (is_whole raw) (list_all is_whole behind) whole in
    let parts = told-all is_whole raw behind told all in
    let wanted = wanted_behind behind in
    let own = told_to raw behind told in
    let front = accepted_line stays raw wanted own in
    let rest = accepted_from (stay_behind stays raw wanted own) behind (drop (length own) told) in
    list_all-append is_whole front rest
    ∙ and_from (list_all is_whole front) (list_all is_whole rest) (line-whole stays raw wanted own both.0 parts.0)
    (whole-from (stay_behind stays raw wanted own) behind (drop (length own) told) both.1 parts.1)

-- the lines of an accepted text are the accepted lines
text-lines : (transcript output : List ℕ) → lines (accepted_text transcript (lines output)) ≡ accepted_lines (lines transcript) (lines output)
text-lines transcript output = lines-ended (accepted_lines (lines transcript) (lines output)) (whole-from false (lines transcript) (lines output) (lines-whole transcript) (lines-whole output))

pub passes_then : PassesThen
passes_then transcript output can =
    let told = lines output in
    let parts = and_parts (list_all can_be_wanted told) (is_empty told || list_any is_command (transcript_lines transcript)) can in
    let passes = passes-from false (lines transcript) told parts.0 parts.1 in
    ap (λ ls. are_met (wants ls) told) (text-lines transcript output) ∙ ap (λ w. are_met w told) passes.1 ∙ passes.2

pub keeps_the_others : KeepsTheOthers
keeps_the_others transcript output can =
    let told = lines output in
    let parts = and_parts (list_all can_be_wanted told) (is_empty told || list_any is_command (transcript_lines transcript)) can in
    ap (filter keeps) (text-lines transcript output) ∙ kept-from false (lines transcript) told parts.0

-- lines of such a kind stay, in their order
pub kind-stays : (kind : List ℕ → Bool) → ((line : List ℕ) → kind line ≡ true → is_wanted line ≡ false) → (transcript output : List ℕ)
    → CanBeAccepted transcript output
    → filter kind (transcript_lines (accepted_text transcript (lines output))) ≡ filter kind (transcript_lines transcript)
kind-stays kind unwanted transcript output can =
    let text = accepted_text transcript (lines output) in
    kind-kept kind unwanted (lines text) ∙ ap (λ ls. filter kind (plain ls)) (keeps_the_others transcript output can)
    ∙ sym (kind-kept kind unwanted (lines transcript))

pub asks_the_same : AsksTheSame
asks_the_same transcript output can = ap (flat_map given_line) (kind-stays is_command command-unwanted transcript output can)
