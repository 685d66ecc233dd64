-- How many expansions there are, by the counts of the variables that stand before in an order.
use Rattle.std.proofs.Common.{◌≡◌, ℕ, ◌+◌, ◌<◌, ◌≤◌, true, List, [], ◌∷◌, ◌++◌, map, min, take, length, length-append, get_or, arith, refl, sym, ap, subst, ◌∙◌}
use Rattle.std.specs.Prelude.{Some, slice_get}
use Rattle.std.proofs.lemmas.Grind.{flat_map-append}
use Rattle.std.proofs.lemmas.Option.{slice_get-get_or, slice_get_within}
use Rattle.aa_text_expansion.specs.Choices.{choices, choices_within}
use Rattle.aa_text_expansion.specs.Counting.{CountsChoicesWithin, IsCounted, count_of, most_counted}
use Rattle.aa_text_expansion.specs.Names.{EachNameIn, EachNameWithin}
use Rattle.aa_text_expansion.specs.Parts.{parts}
use Rattle.aa_text_variables.specs.Variables.{Variable}
use Rattle.aa_text_variables.specs.Expansions.{values}
use Rattle.aa_text_variables.specs.code.Columns.{IsBeside, counts_in}
use Rattle.aa_text_variables.specs.code.ExpansionOrder.{IsOrder, is_text_known}
use Rattle.aa_text_variables.specs.code.ExpansionTables.{AreFirstCounts, count_at, looked_up}
use Rattle.aa_text_variables.specs.code.VariableIndexes.{words_at}
use Rattle.aa_text_variables.specs.declared.variables.column.Column.{Column}
use Rattle.aa_text_variables.proofs.TableLemmas.{Settled, map-take-more, text-filled, words-filled}

-- what a column of counts has
pub counts-beside : (column : Column ℕ) (variables : List Variable) (order counts : List ℕ) → IsBeside column variables order counts → counts_in column ≡ looked_up 0 variables order counts
counts-beside column variables order counts beside = rw (beside.holder, beside.ordered, beside.filled) refl

-- words are counted together
pub words-counted : (values : List ℕ → List (List ℕ)) (words more : List (List ℕ)) (count other fits : ℕ) → most_counted ≤ fits → count ≡ count_of (choices_within values words)
    → other ≡ count_of (choices_within values more) → min (min (count + other) fits) most_counted ≡ count_of (choices_within values (words ++ more))
words-counted values words more count other fits h c o =
    let both : length (choices_within values (words ++ more)) ≡ length (choices_within values words) + length (choices_within values more) =
    ap length (flat_map-append (λ word. choices values (parts word)) words more) ∙ length-append (choices_within values words) (choices_within values more) in
    rw (c, o, both) (omega arith)

-- one more row of the counts
pub counts-more : (variables : List Variable) (order : List ℕ) → Settled variables order → IsOrder variables order → (column : Column ℕ) (index : ℕ) (counts next : List ℕ) (count : ℕ)
    → IsBeside column variables order counts → slice_get order (length counts) ≡ Some index → AreFirstCounts variables order counts
    → CountsChoicesWithin (counts_in column) (words_at column.variables.now index) count
    → next ≡ counts ++ count ∷ [] → AreFirstCounts variables order next
counts-more variables order settled ordered column index counts next count beside there first e n =
    let size = length counts in
    let within : size < length order = slice_get_within order size index there in
    let filled = words-filled count_of variables order size settled (words_at variables index) (ordered size index there) in
    let held : looked_up 0 variables order (map (count_at variables) (take size order)) ≡ counts_in column = ap (looked_up 0 variables order) (sym first) ∙ sym (counts-beside column variables order counts beside) in
    let each : EachNameWithin (IsCounted (counts_in column) (values variables)) (words_at variables index) =
    subst (λ has. EachNameWithin (IsCounted has (values variables)) (words_at variables index)) held filled in
    let value : count ≡ count_at variables index =
    subst (λ all. CountsChoicesWithin (counts_in column) (words_at all index) count) beside.holder e (values variables) each
    in
    let said : Some index ≡ Some (get_or order size 0) = sym there ∙ slice_get-get_or order size 0 within in
    let same : index ≡ get_or order size 0 = cc in
    let longer : length next ≡ size + 1 = ap length n ∙ length-append counts (count ∷ []) in
    n ∙ ap (λ xs. xs ++ count ∷ []) first ∙ ap (λ x. map (count_at variables) (take size order) ++ x ∷ []) (value ∙ ap (count_at variables) same)
    ∙ map-take-more (count_at variables) order size within ∙ ap (λ n. map (count_at variables) (take n order)) (sym longer)

-- the counts of the names of a known text
pub text-counted : (variables : List Variable) (order : List ℕ) → Settled variables order → (column : Column ℕ) (text counts : List ℕ) → IsBeside column variables order counts
    → counts ≡ map (count_at variables) order → is_text_known variables order text ≡ true → EachNameIn (IsCounted (counts_in column) (values variables)) text
text-counted variables order settled column text counts beside c known =
    subst (λ has. EachNameIn (IsCounted has (values variables)) text) (sym (counts-beside column variables order counts beside)) (text-filled count_of variables order settled text counts c known)
