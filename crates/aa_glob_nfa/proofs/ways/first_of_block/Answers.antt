use Rattle.std.proofs.Common.{rules, of_calls}
use Rattle.std.proofs.lemmas.Bool.{ltb-true, ltb-false}
use Rattle.std.proofs.lemmas.List.Sorted.{IsPartitionPoint-from_clause, IsPartitionedBy-ltb}
use Rattle.std.specs.Prelude.{nat_lt}
use Rattle.aa_glob_nfa.specs.code.Blocks.{block_of}
use Rattle.aa_glob_nfa.proofs.BlockLemmas.{blocks_in_order}
use Rattle.aa_glob_nfa.proofs.ways.first_of_block.Goals as goal

pub returns-in-Ok : goal.returns-in-Ok
returns-in-Ok c = λ known.
    let ways = c.args.ways.now in
    let in_order = blocks_in_order ways c.requires.sorted c.requires.each in
    let point = IsPartitionPoint-from_clause (λ w. nat_lt (block_of w.from) c.args.block) ways _ c.partition_point.ensures.partitioned
    (IsPartitionedBy-ltb (λ w. block_of w.from) ways c.args.block in_order) (λ a r q k. search (rules, of_calls)) in
    let first = c.in-Ok.ensures in
    rw first.1 (record {
      within = c.partition_point.ensures.bound;
      before = λ k d low h. ltb-true _ _ (point.0 k d low h);
      behind = λ k d low h. ltb-false _ _ (point.1 k d low h);
    })
