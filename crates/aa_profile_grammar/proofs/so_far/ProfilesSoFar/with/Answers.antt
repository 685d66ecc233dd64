use Rattle.aa_profile_grammar.proofs.NameLemmas.{profiles-named}
use Rattle.aa_profile_grammar.proofs.so_far.ProfilesSoFar.with.Goals as goal

pub invariant_of-result : goal.invariant_of-result
invariant_of-result c = record {
  named = rw c.in_ok-push.ensures.items (profiles-named c.args.self.names _ c.args.self.items.items c.args.profile c.in_ok-insert.ensures.updates c.args.self.named);
}
