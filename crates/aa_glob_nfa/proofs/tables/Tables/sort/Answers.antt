use Rattle.std.proofs.Common.{rules, of_calls, ◌≤◌, subst}
use Rattle.std.proofs.lemmas.List.Sorted.{All-permutation, IsNonDecreasingBy-from_sort_by_key}
use Rattle.aa_glob_nfa.specs.code.Blocks.{AreFirsts}
use Rattle.aa_glob_nfa.specs.Tables.{no_byte, order_of}
use Rattle.aa_glob_nfa.proofs.GrownLemmas.{SameGraph-sorted}
use Rattle.aa_glob_nfa.proofs.tables.Tables.sort.Goals as goal

pub find_firsts-requires-clause-sorted : goal.find_firsts-requires-clause-sorted
find_firsts-requires-clause-sorted c =
    rw c.deref.ensures.value (IsNonDecreasingBy-from_sort_by_key order_of _ c.sort_unstable_by_key.ensures.sorted (λ a r q k. search (rules, of_calls)))

pub find_firsts-requires-clause-each : goal.find_firsts-requires-clause-each
find_firsts-requires-clause-each c =
    rw c.deref.ensures.value (All-permutation (λ w. w.by ≤ no_byte) _ _ c.sort_unstable_by_key.ensures.permutation (λ k d h. (c.requires.each_way k d h).number))

pub returns-clause-sorted : goal.returns-clause-sorted
returns-clause-sorted c = record {
  ways = IsNonDecreasingBy-from_sort_by_key order_of _ c.sort_unstable_by_key.ensures.sorted (λ a r q k. search (rules, of_calls));
  firsts = subst (λ ways. AreFirsts ways c.find_firsts.new.firsts.items) c.deref.ensures.value c.find_firsts.ensures;
  ends = IsNonDecreasingBy-from_sort_by_key (λ e. e.state) _ c.sort_unstable_by_key-2.ensures.sorted (λ a r q k. search (rules, of_calls));
}

pub returns-clause-same : goal.returns-clause-same
returns-clause-same c =
    let t = c.args.self.now in
    SameGraph-sorted t.states t.ways.items _ t.classes.items t.ends.items _ c.sort_unstable_by_key.ensures.permutation c.sort_unstable_by_key-2.ensures.permutation
