-- What comes of an input, piece by piece.
use Rattle.std.proofs.Common.{◌≡◌, ◌∙◌, ℕ, ◌+◌, Bool, true, false, List, [], ◌∷◌, ◌++◌, Option, None, Some, OnErr, Result, Ok, Err, ap, ◌||◌, append-nil, append_assoc, arith, inl, inr, length, refl, sym, subst, take}
use Rattle.std.specs.Prelude.{◌==◌, not}
use Rattle.std.specs.List.{list_any}
use Rattle.std.specs.Io.KnownBytes.{Consumes, IsAtEnd, Keeps}
use Rattle.std.proofs.KnownBytes.{Consumes-nil, Consumes-trans}
use Rattle.std.proofs.lemmas.Bool.{cases_lt}
use Rattle.std.proofs.lemmas.List.Folds.{list_any-append}
use Rattle.std.proofs.lemmas.List.{take_all, take-append-le, length-take-le, take-take}
use Rattle.aa_bytes.specs.Bytes.{line_feed}
use Rattle.aa_set_commands.specs.Limits.{longest_line}
use Rattle.aa_set_commands.specs.Lines.{is_line_feed}
use Rattle.aatry_logs.specs.OpenedInputs.{BreaksOff, Comes, GivesLine, kept}

-- what is dropped behind a front changes no front as long
pub take-of_front : (n : ℕ) (xs ys : List ℕ) → take n (take n xs ++ ys) ≡ take n (xs ++ ys)
take-of_front n xs ys = elim (cases_lt n (length xs)) [
  | inl longer ↦
      let size = length-take-le n xs (omega arith) in
      take-append-le n (take n xs) ys (omega arith) ∙ take-take n n xs (omega arith) ∙ sym (take-append-le n xs ys (omega arith))
  | inr shorter ↦ ap (λ zs. take n (zs ++ ys)) (take_all n xs shorter)
]

any-append : (xs ys : List ℕ) → list_any is_line_feed xs ≡ false → list_any is_line_feed ys ≡ false → list_any is_line_feed (xs ++ ys) ≡ false
any-append xs ys p q = list_any-append is_line_feed xs ys ∙ ap (λ b. b || list_any is_line_feed ys) p ∙ q

-- nothing has come before the first read
pub nothing_comes : (left : Option (List ℕ)) (waited : List ℕ) → Comes left left waited waited []
nothing_comes left waited = record { read = []; consumed = Consumes-nil left; whole = append-nil waited; unended = refl }

-- all that waits has no line feed, and more is read
pub more_comes : (before mid now : Option (List ℕ)) (waited waits more text : List ℕ) → Comes before mid waited waits text → list_any is_line_feed waits ≡ false → Consumes mid now more
    → Comes before now waited more (text ++ waits)
more_comes before mid now waited waits more text comes unended consumed = record {
  read = comes.read ++ more;
  consumed = Consumes-trans before mid now comes.read more comes.consumed consumed;
  whole = sym (append_assoc waited comes.read more) ∙ ap (λ l. l ++ more) comes.whole;
  unended = any-append text waits comes.unended unended;
}

-- a line ends in what waits
pub line_ends : (before now : Option (List ℕ)) (waited waits last rest text held given : List ℕ) → Comes before now waited waits text → held ≡ kept text
    → list_any is_line_feed last ≡ false → waits ≡ last ++ line_feed ∷ rest → given ≡ kept (held ++ last) → GivesLine before now waited rest given true
line_ends before now waited waits last rest text held given comes is unended ends gives = record {
  line = text ++ last;
  gives = gives ∙ ap (λ l. kept (l ++ last)) is ∙ take-of_front (longest_line + 1) text last;
  comes = inl (
    record {
      read = comes.read;
      consumed = comes.consumed;
      whole = comes.whole ∙ ap (λ l. text ++ l) ends ∙ sym (append_assoc text last (line_feed ∷ rest));
      unended = any-append text last comes.unended unended;
    },
    refl,
  );
}

-- what is kept of a line, and all that waits behind it
pub held_more : (text waits held given : List ℕ) → held ≡ kept text → given ≡ kept (held ++ waits) → given ≡ kept (text ++ waits)
held_more text waits held given is gives = gives ∙ ap (λ l. kept (l ++ waits)) is ∙ take-of_front (longest_line + 1) text waits

none_left : (xs : List ℕ) → length xs ≡ 0 → xs ≡ []
none_left [] h = refl
none_left (x ∷ xs) h = absurd (omega (arith, h))

-- the input ends
pub input_ends : (before now : Option (List ℕ)) (waited waits text given : List ℕ) (none : Bool) → Comes before now waited waits text → length waits ≡ 0 → given ≡ kept text → IsAtEnd now
    → none ≡ (length given == 0) → GivesLine before now waited waits given (not none)
input_ends before now waited waits text given none comes size gives end is =
    let empty = none_left waits size in
    record { line = text; gives = gives; comes = inr (subst (λ w. Comes before now waited w text) empty comes, empty, end, ap not is) }

-- what holds always holds at an error
pub at_err : {A E : Type 0} (r : Result A E) (P : Type 0) → P → OnErr r P
at_err (Ok x) P p = tt
at_err (Err e) P p = p

-- what is kept loses no byte
none_lost : (before now : Option (List ℕ)) → Keeps before now → Consumes before now []
none_lost None now h = h
none_lost (Some xs) None h = h
none_lost (Some xs) (Some ys) h = sym h

-- all that waits has no line feed, and no more can be read
pub breaks_off : (before mid now : Option (List ℕ)) (waited waits more text line given : List ℕ) → Comes before mid waited waits text → line ≡ kept text
    → list_any is_line_feed waits ≡ false → given ≡ kept (line ++ waits) → Keeps mid now → more ≡ [] → BreaksOff before now waited more given
breaks_off before mid now waited waits more text line given comes is unended gives keeps none = record {
  line = text ++ waits;
  holds = held_more text waits line given is gives;
  comes = subst (λ l. Comes before now waited l (text ++ waits)) (sym none) (more_comes before mid now waited waits [] text comes unended (none_lost mid now keeps));
}
