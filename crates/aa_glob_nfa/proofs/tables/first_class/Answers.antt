use Rattle.std.proofs.Common.{rules, of_calls}
use Rattle.std.proofs.lemmas.Bool.{ltb-true, ltb-false}
use Rattle.std.proofs.lemmas.List.Sorted.{IsPartitionPoint-from_clause, IsPartitionedBy-ltb}
use Rattle.std.specs.Prelude.{nat_lt}
use Rattle.aa_glob_nfa.proofs.tables.first_class.Goals as goal

pub returns-clause-before : goal.returns-clause-before
returns-clause-before c =
    let classes = c.args.classes.now in
    let point = IsPartitionPoint-from_clause (λ w. nat_lt (w.state) c.args.state) classes _ c.partition_point.ensures.partitioned (IsPartitionedBy-ltb (λ c. c.state) classes c.args.state c.requires) (λ a r q k. search (rules, of_calls)) in
    λ k d low h. ltb-true _ _ (point.0 k d low h)

pub returns-clause-behind : goal.returns-clause-behind
returns-clause-behind c =
    let classes = c.args.classes.now in
    let point = IsPartitionPoint-from_clause (λ w. nat_lt (w.state) c.args.state) classes _ c.partition_point.ensures.partitioned (IsPartitionedBy-ltb (λ c. c.state) classes c.args.state c.requires) (λ a r q k. search (rules, of_calls)) in
    λ k d low h. ltb-false _ _ (point.1 k d low h)
