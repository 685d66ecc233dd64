-- Marks: finding one, setting one, and dropping those above a number.
use Rattle.std.proofs.Common.{◌≡◌, ℕ, ◌+◌, ◌<◌, ◌≤◌, leb, Bool, true, false, cond, List, [], ◌∷◌, ◌++◌, length, take, drop, slice_index_or, slice_set, Some, IfSome, Result, Ok, Err, OnOk, OnErr, refl, sym, ap, subst, ◌∙◌, arith, take-append-drop}
use Rattle.std.proofs.lemmas.Bool.{leb-true, le-leb}
use Rattle.std.proofs.lemmas.List.{drop_more, map-append, take-set, drop-set}
use Rattle.std.proofs.lemmas.Slice.Eq.{bytes_eq-Decides}
use Rattle.std.specs.List.{filter}
use Rattle.std.specs.Map.{lookup}
use Rattle.std.specs.Str.{bytes_eq}
use Rattle.aa_history.specs.Machine.{AreUpTo, up_to, with_number}
use Rattle.aa_history.specs.SeenMarks.{seen_marks}
use Rattle.aa_history.specs.declared.marks.Mark.{Mark}

-- where no mark is above a number, none is dropped
pub up_to-all : (number : ℕ) (marks : List (List ℕ × ℕ)) → AreUpTo number marks → up_to number marks ≡ marks
up_to-all number [] h = refl
up_to-all number (mark ∷ marks) h =
    ap (λ test. cond test (mark ∷ up_to number marks) (up_to number marks)) (le-leb mark.1 number h.0)
    ∙ ap (λ rest. mark ∷ rest) (up_to-all number marks h.1)

-- what is left isn't above the number
pub up_to-within : (number : ℕ) (marks : List (List ℕ × ℕ)) → AreUpTo number (up_to number marks)
up_to-within number [] = tt
up_to-within number (mark ∷ marks) = by (up_to-within number marks) (leb mark.1 number) refl
  where
    by : AreUpTo number (up_to number marks) → (test : Bool) → leb mark.1 number ≡ test → AreUpTo number (cond test (mark ∷ up_to number marks) (up_to number marks))
    by rest true e = (leb-true mark.1 number e, rest)
    by rest false e = rest

-- marks that aren't above a number aren't above a greater one
pub within_more : (number more : ℕ) (marks : List (List ℕ × ℕ)) → number ≤ more → AreUpTo number marks → AreUpTo more marks
within_more number more [] h k = tt
within_more number more (mark ∷ marks) h k = (omega (arith, h, k.0), within_more number more marks h k.1)

-- a number that isn't above another is set
pub with_number-within : (most : ℕ) (name : List ℕ) (number : ℕ) (marks : List (List ℕ × ℕ)) → AreUpTo most marks → number ≤ most → AreUpTo most (with_number name number marks)
with_number-within most name number [] h k = (k, tt)
with_number-within most name number (mark ∷ marks) h k = by (with_number-within most name number marks h.1 k) (bytes_eq mark.0 name)
  where
    by : AreUpTo most (with_number name number marks) → (test : Bool) → AreUpTo most (cond test ((name, number) ∷ marks) (mark ∷ with_number name number marks))
    by rest true = (k, h.1)
    by rest false = (h.0, rest)

-- what is found among marks that aren't above a number isn't above it
lookup-within : (most : ℕ) (test : List ℕ → Bool) (marks : List (List ℕ × ℕ)) → AreUpTo most marks → IfSome (lookup test marks) (λ number. number ≤ most)
lookup-within most test [] h = tt
lookup-within most test (mark ∷ marks) h = by (lookup-within most test marks h.1) (test mark.0)
  where
    by : IfSome (lookup test marks) (λ number. number ≤ most) → (found : Bool) → IfSome (cond found (Some mark.1) (lookup test marks)) (λ number. number ≤ most)
    by rest true = h.0
    by rest false = rest

pub found_within : (most : ℕ) (test : List ℕ → Bool) (marks : List (List ℕ × ℕ)) (number : ℕ) → AreUpTo most marks → lookup test marks ≡ Some number → number ≤ most
found_within most test marks number h e = subst (λ found. IfSome found (λ number. number ≤ most)) e (lookup-within most test marks h)

-- the marks in memory of which those above a number were dropped
pub seen_marks-filter : (number : ℕ) (marks : List Mark) → seen_marks (filter (λ mark. leb mark.number number) marks) ≡ up_to number (seen_marks marks)
seen_marks-filter number [] = refl
seen_marks-filter number (mark ∷ marks) = by (seen_marks-filter number marks) (leb mark.number number)
  where
    by : seen_marks (filter (λ mark. leb mark.number number) marks) ≡ up_to number (seen_marks marks) → (test : Bool) → seen_marks (cond test (mark ∷ filter (λ mark. leb mark.number number) marks) (filter (λ mark. leb mark.number number) marks))
        ≡ cond test ((mark.name.items, mark.number) ∷ up_to number (seen_marks marks)) (up_to number (seen_marks marks))
    by same true = ap (λ rest. (mark.name.items, mark.number) ∷ rest) same
    by same false = same

-- what follows from what holds at Ok
pub on_ok : {T E P Q : Type 0} (result : Result T E) → (P → Q) → OnOk result P → OnOk result Q
on_ok (Ok x) f p = f p
on_ok (Err e) f p = p

-- what follows from what holds at Ok, and from what holds at Err
pub either_way : {T E P Q R : Type 0} (result : Result T E) → OnOk result P → OnErr result Q → (P → R) → (Q → R) → R
either_way (Ok x) p q f g = f p
either_way (Err e) p q f g = g q

-- a list in which an element was set, in parts
set_between : {X : Type 0} (xs : List X) (place : ℕ) (x : X) → place < length xs → slice_set xs place x ≡ take place xs ++ x ∷ drop (place + 1) xs
set_between xs place x h =
    sym (take-append-drop place (slice_set xs place x))
    ∙ ap (λ front. front ++ drop place (slice_set xs place x)) (take-set xs place x)
    ∙ ap (λ rest. take place xs ++ rest) (drop-set xs place x h)

-- the name's number was set where the name was found
pub set_found : (marks : List Mark) (place : ℕ) (mark new : Mark) (name : List ℕ) → place < length marks → mark ≡ slice_index_or marks place mark
    → bytes_eq mark.name.items name ≡ true → new.name.items ≡ mark.name.items
    → seen_marks (slice_set marks place new) ≡ seen_marks (take place marks) ++ with_number name new.number (seen_marks (drop place marks))
set_found marks place mark new name h value found same =
    let rest : List (List ℕ × ℕ) = seen_marks (drop (place + 1) marks) in
    let is : mark.name.items ≡ name = (bytes_eq-Decides mark.name.items name).0 found in
    let split : drop place marks ≡ mark ∷ drop (place + 1) marks = drop_more marks place mark h ∙ ap (λ first. first ∷ drop (place + 1) marks) (sym value) in
    ap seen_marks (set_between marks place new h)
    ∙ map-append (λ (mark : Mark). (mark.name.items, mark.number)) (take place marks) (new ∷ drop (place + 1) marks)
    ∙ ap (λ back. seen_marks (take place marks) ++ back) (
    ap (λ (name : List ℕ). (name, new.number) ∷ rest) (same ∙ is)
    ∙ sym (ap (λ marks. with_number name new.number (seen_marks marks)) split
    ∙ ap (λ test. cond test ((name, new.number) ∷ rest) ((mark.name.items, mark.number) ∷ with_number name new.number rest)) found)
    )
