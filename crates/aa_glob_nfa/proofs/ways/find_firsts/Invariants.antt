use Rattle.std.proofs.Common.{◌≡◌, ℕ, ◌<◌, length, get_or}
use Rattle.aa_glob_nfa.specs.code.Blocks.{Begins, unknown}
use Rattle.aa_glob_nfa.proofs.ways.find_firsts.Given as goal

abbrev pub invariant-loop-block : goal.invariant-loop-block
invariant-loop-block l = record {
  found : (block d : ℕ) → block < l.block → get_or l.firsts.items block d < unknown → Begins l.ways block (get_or l.firsts.items block d);
  len : length l.firsts.items ≡ length l.initial.firsts.items;
}
