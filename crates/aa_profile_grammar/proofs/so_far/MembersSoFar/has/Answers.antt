use Rattle.std.proofs.Common.{◌∙◌}
use Rattle.aa_profile_grammar.proofs.so_far.MembersSoFar.has.Goals as goal

pub returns : goal.returns
returns c = c.contains.ensures ∙ c.args.self.now.named c.args.name.now
