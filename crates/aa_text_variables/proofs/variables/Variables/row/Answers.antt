use Rattle.std.proofs.Common.{◌≡◌, sym, Some, None}
use Rattle.aa_text_variables.specs.code.ExpansionTables.{row_of}
use Rattle.aa_text_variables.specs.code.VariableIndexes.{index_of}
use Rattle.aa_text_variables.proofs.variables.Variables.row.Goals as goal

pub returns : goal.returns
returns c =
    let found : index_of c.args.self.now c.args.name.now ≡ Some c.in_ok-index.index = sym c.in_ok-index.ensures.value in
    rw (row_of, found) c.get_index_of.ensures.index

pub returns-in_err-index : goal.returns-in_err-index
returns-in_err-index c =
    let none : index_of c.args.self.now c.args.name.now ≡ None = sym c.in_err-index.ensures.value in
    rw (row_of, none) c.from_residual.ensures
