use Rattle.std.proofs.Common.{List, refl, subst, sym}
use Rattle.std.proofs.lemmas.Result.{on_ok_weaker}
use Rattle.aa_profile_conflicts.proofs.PlacedLemmas.{leads-none, leads-some}
use Rattle.aa_profile_conflicts.specs.Classes.{AreClassesOfLeads}
use Rattle.aa_profile_conflicts.specs.Leads.{leads, seen_lead}
use Rattle.aa_profile_data.specs.Conflicts.{Lead}
use Rattle.aa_profile_conflicts.proofs.classes.Classes.add_rule.Goals as goal

pub returns-in-None-clause-classes : goal.returns-in-None-clause-classes
returns-in-None-clause-classes c rules are =
    subst (λ (ls : List Lead). AreClassesOfLeads c.args.self.now ls) (sym (leads-none c.args.rank rules c.args.rule.now (sym c.in-None.ensures))) are

pub returns-in-Some-clause-classes : goal.returns-in-Some-clause-classes
returns-in-Some-clause-classes c =
    on_ok_weaker c.add.result (λ added rules are.
    subst (λ (ls : List Lead). AreClassesOfLeads c.add.new.self ls)
    (sym (leads-some c.args.rank rules c.args.rule.now (seen_lead c.in-Some.lead) (sym c.in-Some.ensures)))
    (added (leads c.args.rank rules) (seen_lead c.in-Some.lead) refl are)) c.add.ensures.classes
