-- What is told of one line more.
use Rattle.std.proofs.Common.{◌≡◌, ◌∙◌, ◌≤◌, ◌<◌, ◌+◌, ℕ, Bool, true, List, [], ◌∷◌, ◌++◌, add-one, ap, append_assoc, arith, count_by, drop, drop-cons, get_or, length, map, refl, sym, take}
use Rattle.std.specs.Prelude.{flat_map}
use Rattle.std.proofs.lemmas.Grind.{flat_map-append}
use Rattle.std.proofs.lemmas.List.{length-take-le}
use Rattle.std.proofs.lemmas.List.Sums.{sum_by-append}
use Rattle.aatry_test.specs.Differences.{Counts, counts_of, differs, failure, front_text, last_line, part_of, part_text, parts, seen_part}
use Rattle.aatry_test.specs.Running.{Asserted}
use Rattle.aatry_transcripts.specs.Replies.{told_next}
use Rattle.aatry_transcripts.specs.Transcripts.{before_command, is_assertion, is_command, wanted_in}

-- the part of a line that holds a command
pub part_is : (number : ℕ) (line : List ℕ) (behind told wanted : List (List ℕ)) → is_command line ≡ true → wanted ≡ wanted_in (before_command behind)
    → seen_part number line wanted told ∷ [] ≡ part_of number line behind told
part_is number line behind told wanted command is = rw (command, is) refl

-- the parts of the lines from one on are that of this line, and those of the lines behind it
parts-step : (number : ℕ) (line : List ℕ) (behind told : List (List ℕ)) (size : ℕ) → size ≤ length told → take size told ≡ told_next line behind told
    → parts number (line ∷ behind) told ≡ part_of number line behind (take size told) ++ parts (number + 1) behind (drop size told)
parts-step number line behind told size within is =
    let sized : length (told_next line behind told) ≡ size = ap length (sym is) ∙ length-take-le size told within in
    rw (sym is) (ap (λ n. part_of number line behind (take size told) ++ parts (number + 1) behind (drop n told)) (length-take-le size told within))

-- what is told so far, with what is told from a line on, is all: so it is with what is told of this line
pub told-step : (path : List ℕ) (number : ℕ) (line : List ℕ) (behind told : List (List ℕ)) (size : ℕ) (before after whole : List ℕ)
    → size ≤ length told → take size told ≡ told_next line behind told
    → after ≡ before ++ flat_map (part_text path) (part_of number line behind (take size told))
    → before ++ flat_map (part_text path) (parts number (line ∷ behind) told) ≡ whole
    → after ++ flat_map (part_text path) (parts (number + 1) behind (drop size told)) ≡ whole
told-step path number line behind told size before after whole within is put all =
    let own = part_of number line behind (take size told) in
    let left = parts (number + 1) behind (drop size told) in
    ap (λ t. t ++ flat_map (part_text path) left) put
    ∙ append_assoc before (flat_map (part_text path) own) (flat_map (part_text path) left)
    ∙ ap (λ t. before ++ t) (sym (flat_map-append (part_text path) own left))
    ∙ ap (λ ps. before ++ flat_map (part_text path) ps) (sym (parts-step number line behind told size within is)) ∙ all

-- and so it is with the count
pub counted-step : (number : ℕ) (line : List ℕ) (behind told : List (List ℕ)) (size before count whole : ℕ)
    → size ≤ length told → take size told ≡ told_next line behind told
    → count ≡ count_by differs (part_of number line behind (take size told))
    → before + count_by differs (parts number (line ∷ behind) told) ≡ whole
    → before + count + count_by differs (parts (number + 1) behind (drop size told)) ≡ whole
counted-step number line behind told size before count whole within is counted all =
    let own = part_of number line behind (take size told) in
    let left = parts (number + 1) behind (drop size told) in
    let both : count_by differs (parts number (line ∷ behind) told) ≡ count_by differs own + count_by differs left =
    ap (count_by differs) (parts-step number line behind told size within is) ∙ sum_by-append _ own left in
    omega (arith, counted, all, both)

abbrev pub counts_with : ℕ → ℕ → ℕ → ℕ → Counts
counts_with commands differing assertions failing = record { commands = commands; differing = differing; assertions = assertions; failing = failing }

-- the counts of a transcript, by each of them
pub counts-are : (lines told : List (List ℕ)) (commands differing assertions failing : ℕ) → commands ≡ count_by is_command lines
    → differing ≡ count_by differs (parts 1 lines told) → assertions ≡ count_by is_assertion lines
    → counts_with commands differing assertions failing ≡ counts_of lines told failing
counts-are lines told commands differing assertions failing one two three = rw (one, two, three) refl

-- what is told ahead of the commands, of each of them, of the assertions, and at the end, one behind the other
pub failure-is : (accepted : Bool) (path : List ℕ) (lines told wanted : List (List ℕ)) (asserted : Asserted) (counts : Counts) (before first second third after : List ℕ)
    → wanted ≡ wanted_in (before_command lines) → counts ≡ counts_of lines told asserted.failing
    → first ≡ before ++ front_text path wanted → second ≡ first ++ flat_map (part_text path) (parts 1 lines told) → third ≡ second ++ asserted.text
    → after ≡ third ++ last_line accepted path counts → after ≡ before ++ failure accepted path lines told asserted
failure-is accepted path lines told wanted asserted counts before first second third after is counted front each more end =
    let ahead = front_text path wanted in
    let text = flat_map (part_text path) (parts 1 lines told) in
    let last = last_line accepted path counts in
    let all : ahead ++ text ++ asserted.text ++ last ≡ failure accepted path lines told asserted = rw (is, counted) refl in
    let two = each ∙ ap (λ t. t ++ text) front ∙ append_assoc before ahead text in
    let three = more ∙ ap (λ t. t ++ asserted.text) two ∙ append_assoc before (ahead ++ text) asserted.text in
    end ∙ ap (λ t. t ++ last) three ∙ append_assoc before (ahead ++ text ++ asserted.text) last ∙ ap (λ t. before ++ t) all

-- the next of a list stands before those that are left behind it
pub next_left : {S : Type 0} (f : S → List ℕ) (xs : List S) (i : ℕ) (x : S) → i < length xs → x ≡ get_or xs i x
    → map f (drop i xs) ≡ f x ∷ map f (drop (i + 1) xs)
next_left f xs i x within is = rw (add-one, drop-cons xs i x within, sym is)
