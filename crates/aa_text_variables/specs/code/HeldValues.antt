-- A table of variables that many texts lead to: what is known of its rows.
use Rattle.std.specs.Prelude.{ℕ, Bool, true, false, nat_eq, is_none, ◌≡◌, ◌≤◌, List, length, map, Option, None}
use Rattle.std.specs.List.{list_any}
use Rattle.aa_text_expansion.specs.Joining.{cut_off}
use Rattle.aa_text_expansion.specs.Lists.{list_at}
use Rattle.aa_text_expansion.specs.Missing.{has_missing}
use Rattle.aa_text_variables.specs.Expansions.{expansion_refusal, expansions}
use Rattle.aa_text_variables.specs.Variables.{Variable, names_undefined}
use Rattle.aa_text_variables.specs.code.ExpansionOrder.{is_text_known}
use Rattle.aa_text_variables.specs.code.ExpansionTables.{AreListed, count_at}
use Rattle.aa_text_variables.specs.code.VariableIndexes.{words_at}
use Rattle.aa_text_variables.specs.code.VariableWalks.{IsSettled}
use Rattle.aa_text_variables.specs.declared.variables.table.Rows.{Rows}

-- a word of the variable at an index names one that isn't defined, or doesn't close a name
abbrev pub names_undefined_at : List Variable → ℕ → Bool
names_undefined_at variables index = list_any (names_undefined variables) (words_at variables index)

-- no word of the variables of an order names one that isn't defined, or doesn't close a name
abbrev pub AreDefined : List Variable → List ℕ → Type 0
AreDefined variables order = (index : ℕ) → list_any (nat_eq index) order ≡ true → names_undefined_at variables index ≡ false

-- What is known of a table: its variables are in an order and name nothing undefined; all are counted; there are lists of the values of the first.
pub record IsTable (variables : List Variable) (order counts numbers : List ℕ) (lists : List (List (List ℕ))) : Type 0 where
  pub settled : IsSettled variables order
  pub defined : AreDefined variables order
  pub counted : counts ≡ map (count_at variables) order
  pub few : length numbers ≤ length order
  pub listed : AreListed variables order numbers lists

-- what is known of a table in memory
abbrev pub AreRows : List Variable → Rows → Type 0
AreRows variables rows = IsTable variables rows.order.keys rows.counts.items rows.numbers.items rows.lists

-- a table has all that a text leads to, which names nothing undefined
pub record HasText (variables : List Variable) (text : List ℕ) (rows : Rows) : Type 0 where
  pub table : AreRows variables rows
  pub known : is_text_known variables rows.order.keys text ≡ true
  pub defined : names_undefined variables text ≡ false

-- there is no list for something that a text names
abbrev pub is_text_lacking : (List ℕ → Option ℕ) → List ℕ → Bool
is_text_lacking numbers text = has_missing (λ name. is_none (numbers name)) text

-- a table has a list of the expansions of a text, by its number
pub record HasList (variables : List Variable) (text : List ℕ) (number : ℕ) (rows : Rows) : Type 0 where
  pub table : AreRows variables rows
  pub fine : expansion_refusal variables text ≡ None
  pub value : cut_off (list_at rows.lists number) ≡ cut_off (expansions variables text)
