-- A table with the order of variables to which its rows belong.
use Rattle.std.specs.Prelude.{ℕ, ◌≡◌, List, Option}
use Rattle.aa_text_variables.specs.Variables.{Variable}
use Rattle.aa_text_variables.specs.code.ExpansionTables.{looked_up, number_of}
use Rattle.aa_text_variables.specs.declared.variables.column.Column.{Column}

-- the counts that a table has for names
abbrev pub counts_in : Column ℕ → List ℕ → ℕ
counts_in column = looked_up 0 column.variables.now column.order.now.keys column.rows.now

-- the numbers of lists that a table has for names
abbrev pub numbers_in : Column ℕ → List ℕ → Option ℕ
numbers_in column = number_of column.variables.now column.order.now.keys column.rows.now

-- a table has these variables, this order, and these rows
pub record IsBeside {A : Type 0} (column : Column A) (variables : List Variable) (order : List ℕ) (rows : List A) : Type 0 where
  pub holder : column.variables.now ≡ variables
  pub ordered : column.order.now.keys ≡ order
  pub filled : column.rows.now ≡ rows
