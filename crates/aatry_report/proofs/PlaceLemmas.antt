-- A line and a column tell a place.
use Rattle.std.proofs.Common.{◌≡◌, ℕ, zero, suc, ◌+◌, ◌-◌, ◌<◌, ◌≤◌, true, cond, List, ◌++◌, length, get_or, take, drop, sym, ap, subst, ◌∙◌, arith}
use Rattle.std.proofs.Math.Seq.{take-add}
use Rattle.std.proofs.lemmas.List.{drop_more}
use Rattle.std.proofs.lemmas.List.Sums.{sum_by-append, sum_by-cons}
use Rattle.aatry_report.specs.Characters.{begins_character, character_count}
use Rattle.aatry_report.specs.Columns.{IsBeginning, column}
use Rattle.aatry_report.specs.Lines.{is_line_feed, last_line, line_feed_count, line_number}
use Rattle.aatry_report.proofs.LineLemmas.{after_last-append}

-- the characters, and the line feeds, of two texts one behind the other
character_count-append : (xs ys : List ℕ) → character_count (xs ++ ys) ≡ character_count xs + character_count ys
character_count-append xs ys = sum_by-append (λ b. cond (begins_character b) 1 0) xs ys

line_feed_count-append : (xs ys : List ℕ) → line_feed_count (xs ++ ys) ≡ line_feed_count xs + line_feed_count ys
line_feed_count-append xs ys = sum_by-append (λ b. cond (is_line_feed b) 1 0) xs ys

-- of the bytes from a character's beginning on, one begins a character
some_character : (text : List ℕ) (at more : ℕ) → at < length text → begins_character (get_or text at 0) ≡ true → 0 < more → 0 < character_count (take more (drop at text))
some_character text at zero within begins some = absurd (omega arith)
some_character text at (suc more) within begins some =
    let one = ap {B = ℕ} (λ b. cond b 1 0) begins in
    let first = ap (λ bytes. character_count (take (suc more) bytes)) (drop_more text at 0 within) in
    let rest = take more (drop (at + 1) text) in
    omega (arith, one, first, sum_by-cons (λ b. cond (begins_character b) 1 0) (get_or text at 0) rest)

-- so a later place in the same line has a greater column
further : (text : List ℕ) (at more : ℕ) → at < length text → begins_character (get_or text at 0) ≡ true → 0 < more → line_number text at ≡ line_number text (at + more)
    → column text at < column text (at + more)
further text at more within begins some same =
    let front = take at text in
    let rest = take more (drop at text) in
    let whole : take (at + more) text ≡ front ++ rest = take-add at more text in
    let none : line_feed_count rest ≡ 0 = omega (arith, ap line_feed_count whole, line_feed_count-append front rest) in
    let line : last_line (take (at + more) text) ≡ last_line front ++ rest = ap last_line whole ∙ after_last-append is_line_feed front rest none in
    omega (arith, ap character_count line, character_count-append (last_line front) rest, some_character text at more within begins some)

-- the same, by the later place
later : (text : List ℕ) (at other : ℕ) → IsBeginning text at → other ≤ length text → line_number text at ≡ line_number text other → at < other
    → column text at < column text other
later text at other begins within line less =
    let more : at + (other - at) ≡ other = omega arith in
    let inside : at < length text = omega arith in
    let P : ℕ → Type 0 = λ n. line_number text at ≡ line_number text n → column text at < column text n in
    subst P more (further text at (other - at) inside (begins.1 inside) (omega arith)) line

-- so two places of one line and column are one
pub one_place : (text : List ℕ) (at other : ℕ) → IsBeginning text at → IsBeginning text other → line_number text at ≡ line_number text other
    → column text at ≡ column text other → at ≡ other
one_place text at other begins begins_other line same =
    let up : at < other → column text at < column text other = later text at other begins begins_other.0 line in
    let down : other < at → column text other < column text at = later text other at begins_other begins.0 (sym line) in
    grind arith

-- the line, and the column, of a place, by what stands before a place that isn't behind it, and what stands between both
pub line_number-on : (text part : List ℕ) (at other : ℕ) → take other text ≡ take at text ++ part → line_number text at + line_feed_count part ≡ line_number text other
line_number-on text part at other whole = omega (arith, ap line_feed_count whole, line_feed_count-append (take at text) part)

pub column-on : (text part : List ℕ) (at other : ℕ) → take other text ≡ take at text ++ part → line_feed_count part ≡ 0
    → column text at + character_count part ≡ column text other
column-on text part at other whole none =
    let line : last_line (take other text) ≡ last_line (take at text) ++ part = ap last_line whole ∙ after_last-append is_line_feed (take at text) part none in
    omega (arith, ap character_count line, character_count-append (last_line (take at text)) part)
