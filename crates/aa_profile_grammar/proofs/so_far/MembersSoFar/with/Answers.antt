use Rattle.aa_profile_grammar.proofs.so_far.MembersSoFar.with.Goals as goal

pub invariant_of-result : goal.invariant_of-result
invariant_of-result c = record { named = rw c.in_ok-push.ensures.items (c.in_ok-note.ensures c.args.self.items.items c.args.self.named) }
