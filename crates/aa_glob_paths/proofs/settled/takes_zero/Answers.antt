use Rattle.std.proofs.Common.{◌≡◌, ◌≤◌, ◌∙◌, false, length, subst, sym, inl, inr, arith}
use Rattle.std.proofs.lemmas.Bool.{cases_eq}
use Rattle.aa_glob_nfa.specs.Entries.{takes_byte}
use Rattle.aa_glob_nfa.specs.Graphs.{entry_of}
use Rattle.aa_glob_nfa.specs.OfTables.{graph_of}
use Rattle.aa_glob_paths.proofs.SettledLemmas.{takes-none}
use Rattle.aa_glob_paths.proofs.settled.takes_zero.Goals as goal

pub returns : goal.returns
returns c =
    let end : length c.args.tables.now.states ≤ c.loop-state.state = omega (arith, c.len-state-end.ensures, c.loop-state-test.false) in
    λ is. takes-none c.args.tables.now c.loop-state.state c.loop-state.invariant end

pub loop-state-preserved : goal.loop-state-preserved
loop-state-preserved c = λ r low.
    let g = graph_of c.args.tables.now in
    elim (cases_eq r c.loop-state.state) [
      | inl same ↦ subst (λ k. takes_byte (entry_of g k) 0 ≡ false) (sym same) (sym c.takes_if.ensures ∙ c.if-takes_if.false)
      | inr other ↦ c.loop-state.invariant r (omega (arith, low, other))
    ]
