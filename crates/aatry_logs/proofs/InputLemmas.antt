-- The lines of an input, one after the other, are all that it has.
use Rattle.std.proofs.Common.{◌≡◌, ◌∙◌, ℕ, ◌+◌, Bool, true, false, List, [], ◌∷◌, ◌++◌, Option, None, Some, ap, ap₂, append-nil, append_assoc, arith, inl, inr, length, refl, sym, take}
use Rattle.std.specs.Prelude.{◌==◌, nat_lt, not}
use Rattle.std.specs.List.{list_any}
use Rattle.std.proofs.lemmas.Bool.{cases_lt}
use Rattle.std.proofs.lemmas.Bool.Decides.{eqb_tells, nat_tests}
use Rattle.std.proofs.lemmas.List.{length-take, length-take-le, take-take, take_all}
use Rattle.std.proofs.lemmas.List.Sums.{fold-append}
use Rattle.aa_bytes.specs.Bytes.{line_feed}
use Rattle.aa_set_commands.specs.Limits.{longest_line}
use Rattle.aa_set_commands.specs.Lines.{is_line_feed, lines}
use Rattle.aatry_logs.specs.OpenedInputs.{GivesLine, kept}
use Rattle.aatry_log_lines.proofs.LineLemmas.{lines-ended, lines-last}
use Rattle.aatry_log_lines.specs.Selections.{Selection}
use Rattle.aatry_logs.specs.Apart.{longest_text}
use Rattle.aatry_logs.specs.Entries.{entry_in_log}
use Rattle.aatry_logs.specs.Inputs.{AreAllLines, AreGiven}
use Rattle.aatry_logs.specs.LogRequests.{LogRequests, with_entry, with_kept, with_line, with_lines}
use Rattle.aatry_requests.specs.Tallies.{one_more as one_later}

-- of what waited and what was left, a line that ends stands first
first-line : (waited read rest line waits : List ℕ) → waited ++ read ≡ line ++ line_feed ∷ waits → list_any is_line_feed line ≡ false
    → lines (waited ++ (read ++ rest)) ≡ line ∷ lines (waits ++ rest)
first-line waited read rest line waits whole unended =
    ap lines (sym (append_assoc waited read rest) ∙ ap (λ all. all ++ rest) whole ∙ append_assoc line (line_feed ∷ waits) rest
    ∙ sym (append_assoc line (line_feed ∷ []) (waits ++ rest)))
    ∙ lines-ended line (waits ++ rest) unended

-- and where nothing is left, a last line is all
last-line : (waited read line : List ℕ) → waited ++ read ≡ line ++ [] → waited ++ (read ++ []) ≡ line
last-line waited read line whole = ap (λ more. waited ++ more) (append-nil read) ∙ whole ∙ append-nil line

-- a line of which something is kept has something
some-kept : (line : List ℕ) → (length (kept line) == 0) ≡ false → (length line == 0) ≡ false
some-kept [] some = some
some-kept (b ∷ bs) some = elim (eqb_tells (length (b ∷ bs)) 0) [ inl none ↦ absurd (omega (arith, none.1)) | inr some ↦ some.0 ]

-- a line of which nothing is kept has nothing
none-kept : (line : List ℕ) → (length (kept line) == 0) ≡ true → line ≡ []
none-kept [] none = refl
none-kept (b ∷ bs) none =
    let size = length-take (longest_line + 1) (b ∷ bs) in
    elim (eqb_tells (length (kept (b ∷ bs))) 0) [ inl empty ↦ absurd (omega (arith, size, empty.1)) | inr some ↦ cc (some.0, none) ]

-- one line more was given
pub one_more : (before now after : Option (List ℕ)) (given : List (List ℕ)) (waited waits held : List ℕ) → AreGiven before given now waited
    → GivesLine now after waited waits held true → (line : List ℕ) × (held ≡ kept line) × AreGiven before (given ++ line ∷ []) after waits
one_more None now after given waited waits held are gives = (gives.line, gives.gives, tt)
one_more (Some bytes) None after given waited waits held are gives = absurd are
one_more (Some bytes) (Some rest) None given waited waits held are gives = elim gives.comes [
  | inl ends ↦ absurd ends.0.consumed
  | inr last ↦ absurd last.0.consumed
]
one_more (Some bytes) (Some rest) (Some left) given waited waits held are gives = (
  gives.line,
  gives.gives,
  elim gives.comes [
    | inl ends ↦
        are ∙ ap (λ left. given ++ lines (waited ++ left)) ends.0.consumed
        ∙ ap (λ more. given ++ more) (first-line waited ends.0.read left gives.line waits ends.0.whole ends.0.unended)
        ∙ sym (append_assoc given (gives.line ∷ []) (lines (waits ++ left)))
    | inr last ↦
        let some : (length gives.line == 0) ≡ false = some-kept gives.line (ap (λ l. length l == 0) (sym gives.gives) ∙ is-some (length held == 0) last.3) in
        are ∙ ap (λ left. given ++ lines (waited ++ left)) (last.0.consumed ∙ ap (λ end. last.0.read ++ end) last.2)
        ∙ ap (λ all. given ++ lines all) (last-line waited last.0.read gives.line last.0.whole)
        ∙ ap (λ all. given ++ all) (lines-last gives.line last.0.unended some)
        ∙ sym (append-nil (given ++ gives.line ∷ []))
        ∙ ap (λ none. (given ++ gives.line ∷ []) ++ lines none) (sym (ap₂ (λ waits left. waits ++ left) last.1 last.2))
  ],
)
  where
    is-some : (none : Bool) → true ≡ not none → none ≡ false
    is-some true is = cc
    is-some false is = refl

-- no line is left
pub no_more : (before now after : Option (List ℕ)) (given : List (List ℕ)) (waited waits held : List ℕ) → AreGiven before given now waited
    → GivesLine now after waited waits held false → AreAllLines before given
no_more None now after given waited waits held are gives = tt
no_more (Some bytes) None after given waited waits held are gives = absurd are
no_more (Some bytes) (Some rest) None given waited waits held are gives = elim gives.comes [
  | inl ends ↦ absurd ends.0.consumed
  | inr last ↦ absurd last.0.consumed
]
no_more (Some bytes) (Some rest) (Some left) given waited waits held are gives = elim gives.comes [
  | inl ends ↦ cc (ends.1)
  | inr last ↦
      let none : gives.line ≡ [] = none-kept gives.line (ap (λ l. length l == 0) (sym gives.gives) ∙ is-none (length held == 0) last.3) in
      sym (are ∙ ap (λ left. given ++ lines (waited ++ left)) (last.0.consumed ∙ ap (λ end. last.0.read ++ end) last.2)
      ∙ ap (λ all. given ++ lines all) (last-line waited last.0.read gives.line last.0.whole ∙ none)
      ∙ append-nil given)
]
  where
    is-none : (none : Bool) → false ≡ not none → none ≡ true
    is-none true is = refl
    is-none false is = cc

-- nothing was given before the first line
pub none_given : (left : Option (List ℕ)) → AreGiven left [] left []
none_given None = tt
none_given (Some bytes) = refl

-- what is kept of a line tells what the line does
kept_tells : (selection : Selection) (line : List ℕ) → entry_in_log selection (kept line) ≡ entry_in_log selection line
kept_tells selection line = elim (cases_lt longest_line (length line)) [
  | inl longer ↦
      let cut = length-take-le (longest_line + 1) line (omega arith) in
      let long : nat_lt longest_line (length (kept line)) ≡ true = grind (arith, nat_tests, cut) in
      let whole : nat_lt longest_line (length line) ≡ true = grind (arith, nat_tests) in
      rw (long, whole) refl
  | inr shorter ↦ ap (entry_in_log selection) (take_all (longest_line + 1) line (omega arith))
]

-- and its front is that of the line
kept_front : (line : List ℕ) → take longest_text (kept line) ≡ take longest_text line
kept_front line = take-take longest_text (longest_line + 1) line (omega arith)

kept_adds : (selection : Selection) (file : Option (List ℕ)) (so_far : LogRequests) (line : List ℕ)
    → with_line selection file so_far (kept line) ≡ with_line selection file so_far line
kept_adds selection file so_far line =
    ap (with_entry file (kept line) so_far) (kept_tells selection line)
    ∙ ap (λ front. with_kept so_far (record { file = file; line = one_later so_far.line; text = front }) (entry_in_log selection line)) (kept_front line)

-- what one line more adds
pub one_more_adds : (selection : Selection) (file : Option (List ℕ)) (so_far now : LogRequests) (given : List (List ℕ)) (held line : List ℕ) → held ≡ kept line
    → now ≡ with_line selection file (with_lines selection file so_far given) held → now ≡ with_lines selection file so_far (given ++ line ∷ [])
one_more_adds selection file so_far now given held line is adds =
    adds ∙ ap (with_line selection file (with_lines selection file so_far given)) is
    ∙ kept_adds selection file (with_lines selection file so_far given) line
    ∙ sym (fold-append (with_line selection file) so_far given (line ∷ []))
