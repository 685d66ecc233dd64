use Rattle.std.proofs.Common.{take}
use Rattle.aa_profile_conflicts.specs.Classes.{AreClassesOfLeads, AreKeyed, seen_transitions}
use Rattle.aa_profile_conflicts.specs.Leads.{leads}
use Rattle.aa_profile_conflicts.proofs.classes.classes_of.Given as goal

-- the rules so far have their classes, and the keys of their transitions have numbers
abbrev pub invariant-loop-rule : goal.invariant-loop-rule
invariant-loop-rule l =
    AreClassesOfLeads l.classes (leads l.rank (take l.rule-index l.rules)) × AreKeyed (seen_transitions l.classes.transitions.items) l.classes.by_key
