use Rattle.std.proofs.Common.{◌≡◌, ◌<◌, ℕ, true}
use Rattle.std.specs.Prelude.{nat_eq}
use Rattle.std.specs.List.{list_any}
use Rattle.aa_text_variables.specs.code.VariableWalks.{IsSettled}
use Rattle.aa_text_variables.proofs.variables.Variables.first_cyclic.Given as goal

-- the indexes so far are in an order
abbrev pub invariant-loop-index : goal.invariant-loop-index
invariant-loop-index l = record {
  settled : IsSettled l.self l.order.keys;
  has : (q : ℕ) → q < l.index → list_any (nat_eq q) l.order.keys ≡ true;
}
