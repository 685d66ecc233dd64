-- What is remembered stays right.
use Rattle.std.proofs.Common.{◌≡◌, ℕ, suc, ◌+◌, ◌-◌, ◌*◌, ◌<◌, List, [], ◌∷◌, ◌++◌, length, get_or, Result, Ok, Err, OnOk, OnErr, refl, sym, ◌∙◌, ap, subst, inl, inr, arith, length-append}
use Rattle.std.proofs.lemmas.Bool.{cases_eq}
use Rattle.std.proofs.lemmas.List.{get_or-append_right, get_or_append_left, get_or-replicate, get_or-set_other, get_or-set_same, length-set}
use Rattle.std.proofs.lemmas.List.Elements.{All-nil, All-push}
use Rattle.std.specs.declared.alloc.AllocError.{AllocError}
use Rattle.aa_glob_nfa.specs.Graphs.{Graph}
use Rattle.aa_glob_nfa.specs.Fronts.{IsLive}
use Rattle.aa_glob_nfa.specs.Runs.{IsWhole, LeadsTo}
use Rattle.aa_glob_run.specs.code.Memos.{IsMemo, IsRight, front_of, place_of, unknown_row, with_move}

-- nothing is remembered yet
pub memo-none : (g : Graph) (room : ℕ) → IsMemo g room [] []
memo-none g room = record {
  start = λ some. absurd (omega arith);
  lists = All-nil (IsLive room);
  rows = refl;
  known = λ from byte to low _ _. absurd (omega (arith, low));
}

-- a list among those before it
pub front-before : (fronts : List (List ℕ)) (one : List ℕ) (n : ℕ) → n < length fronts → front_of (fronts ++ one ∷ []) n ≡ front_of fronts n
front-before fronts one n low = get_or_append_left fronts (one ∷ []) [] n low

-- the last one
pub front-last : (fronts : List (List ℕ)) (one : List ℕ) → front_of (fronts ++ one ∷ []) (length fronts) ≡ one
front-last fronts one =
    let none : length fronts - length fronts ≡ 0 = omega arith in
    get_or-append_right fronts (one ∷ []) (length fronts) (length fronts) [] refl (omega arith) ∙ ap (λ k. get_or (one ∷ []) k []) none

-- what a row tells of a list that was there is told when a row more is there
told-before : (moves : List ℕ) (count from byte : ℕ) → length moves ≡ count * 256 → from < count → byte < 256
    → get_or (moves ++ unknown_row) (place_of from byte) 0 ≡ get_or moves (place_of from byte) 0
told-before moves count from byte rows low small = get_or_append_left moves unknown_row 0 (place_of from byte) (omega (arith, rows, low, small))

-- the row of a list that was added tells nothing
told-last : (moves : List ℕ) (count byte : ℕ) → length moves ≡ count * 256 → byte < 256 → get_or (moves ++ unknown_row) (place_of count byte) 0 ≡ 0
told-last moves count byte rows small =
    get_or-append_right moves unknown_row (length moves) (place_of count byte) 0 refl (omega (arith, rows))
    ∙ get_or-replicate 256 (place_of count byte - length moves) 0 0 (omega (arith, rows, small))

-- a move that is right stays so with a list more
right-more : (g : Graph) (fronts : List (List ℕ)) (states : List ℕ) (from byte to : ℕ) → from < length fronts → IsRight g fronts from byte to
    → IsRight g (fronts ++ states ∷ []) from byte to
right-more g fronts states from byte to low right = (
  omega (arith, length-append fronts (states ∷ []), right.0),
  subst (λ one. LeadsTo g one byte (front_of (fronts ++ states ∷ []) to)) (sym (front-before fronts states from low))
      (subst (LeadsTo g (front_of fronts from) byte) (sym (front-before fronts states to right.0)) right.1),
)

-- one list more, behind which nothing is known
pub memo-add : (g : Graph) (room : ℕ) (fronts : List (List ℕ)) (moves states : List ℕ) → IsMemo g room fronts moves
    → IsLive room states → (length fronts ≡ 0 → IsWhole g [] states) → IsMemo g room (fronts ++ states ∷ []) (moves ++ unknown_row)
memo-add g room fronts moves states memo live start =
    let count = length fronts in
    let more : length (fronts ++ states ∷ []) ≡ count + 1 = length-append fronts (states ∷ []) in
    record {
      start = λ some. elim (cases_eq count 0) [
        | inl empty ↦ subst (IsWhole g []) (sym (ap (front_of (fronts ++ states ∷ [])) (sym empty) ∙ front-last fronts states)) (start empty)
        | inr other ↦ subst (IsWhole g []) (sym (front-before fronts states 0 (omega arith))) (memo.start (omega arith))
      ];
      lists = All-push (IsLive room) fronts states memo.lists live;
      rows = omega (arith, length-append moves unknown_row, memo.rows, more);
      known = λ from byte to low small notes. elim (cases_eq from count) [
        | inl last ↦
            let none : 0 ≡ suc to = sym (ap (λ n. get_or (moves ++ unknown_row) (place_of n byte) 0) last ∙ told-last moves count byte memo.rows small) ∙ notes in
            absurd (omega (arith, none))
        | inr other ↦
            let before : from < count = omega (arith, low, more, other) in
            right-more g fronts states from byte to before
            (memo.known from byte to before small (sym (told-before moves count from byte memo.rows before small) ∙ notes))
      ];
    }

-- a list was added, or there was no memory for it
pub memo-added : (g : Graph) (room : ℕ) (fronts after : List (List ℕ)) (moves later states : List ℕ) (result : Result ℕ AllocError) → IsMemo g room fronts moves
    → IsLive room states → (length fronts ≡ 0 → IsWhole g [] states)
    → OnOk result (after ≡ fronts ++ states ∷ []) → OnOk result (later ≡ moves ++ unknown_row)
    → OnErr result (after ≡ fronts) → OnErr result (later ≡ moves) → IsMemo g room after later
memo-added g room fronts after moves later states (Ok number) memo live start more row same still = rw (more, row) (memo-add g room fronts moves states memo live start)
memo-added g room fronts after moves later states (Err error) memo live start more row same still = rw (same, still) memo

-- one move more
pub memo-note : (g : Graph) (room : ℕ) (fronts : List (List ℕ)) (moves : List ℕ) (from byte to : ℕ) → IsMemo g room fronts moves
    → from < length fronts → byte < 256 → to < length fronts → LeadsTo g (front_of fronts from) byte (front_of fronts to)
    → IsMemo g room fronts (with_move moves from byte to)
memo-note g room fronts moves from byte to memo low small within leads = record {
  start = memo.start;
  lists = memo.lists;
  rows = length-set moves (place_of from byte) (suc to) ∙ memo.rows;
  known = λ other_from other_byte other_to other_low other_small notes. elim (cases_eq (place_of other_from other_byte) (place_of from byte)) [
    | inl same ↦
        let one : other_from ≡ from = omega (arith, same, small, other_small) in
        let two : other_byte ≡ byte = omega (arith, same, one) in
        let put : suc to ≡ suc other_to = sym (ap (λ k. get_or (with_move moves from byte to) k 0) same
        ∙ get_or-set_same moves (place_of from byte) (suc to) 0 (omega (arith, memo.rows, low, small))) ∙ notes in
        let three : other_to ≡ to = omega (arith, put) in
        subst (λ n. IsRight g fronts n other_byte other_to) (sym one)
        (subst (λ b. IsRight g fronts from b other_to) (sym two) (subst (IsRight g fronts from byte) (sym three) (within, leads)))
    | inr apart ↦ memo.known other_from other_byte other_to other_low other_small
        (sym (get_or-set_other moves (place_of from byte) (place_of other_from other_byte) (suc to) 0 apart) ∙ notes)
  ];
}
