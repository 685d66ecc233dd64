-- What is about the code: variables by their indices, the orders and tables by which expansions are computed, and how far that has come.
pub mod Columns
pub mod ExpansionOrder
pub mod ExpansionTables
pub mod HeldValues
pub mod ReachedVariables
pub mod VariableIndexes
pub mod VariableWalks
pub mod VariablesMap
