use Rattle.aa_profile_grammar.proofs.NameLemmas.{child-noted, rule-noted}
use Rattle.aa_profile_grammar.proofs.so_far.note.Goals as goal

pub returns-in-OfRule : goal.returns-in-OfRule
returns-in-OfRule c = rule-noted c.args.names.now c.args.member.now _ c.in-OfRule.is

pub returns-in_ok-insert-in-OfChild : goal.returns-in_ok-insert-in-OfChild
returns-in_ok-insert-in-OfChild c = child-noted c.args.names.now _ c.args.member.now _ c.in-OfChild.is c.in_ok-insert-in-OfChild.ensures.updates
