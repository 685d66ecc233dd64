use Rattle.std.proofs.Common.{arith}
use Rattle.std.specs.Borrow.{Bor}
use Rattle.std.proofs.lemmas.List.{length-map}
use Rattle.aa_profile_conflicts.proofs.ClashLemmas.{automaton-read, few-none, first-told, none-told, patterns-classed}
use Rattle.aa_profile_conflicts.specs.Classes.{seen_transitions}
use Rattle.aa_profile_conflicts.specs.Leads.{patterns_by}
use Rattle.aa_profile_data.specs.declared.profile.Transition.{Transition}
use Rattle.aa_profile_conflicts.proofs.conflicts.first_by.Goals as goal

pub returns-then-len-lt2 : goal.returns-then-len-lt2
returns-then-len-lt2 c =
    let classes = c.in_ok-classes.classes in
    let count = length-map classes.transitions.items (λ (t : Bor Transition). t.now) in
    let stand = classes.transitions.ok.0 in
    few-none c.args.rank c.args.rules.now (seen_transitions classes.transitions.items) classes.classes.items c.in_ok-classes.ensures (omega (arith, count))

pub first_clash-requires : goal.first_clash-requires
first_clash-requires c =
    let classes = c.in_ok-classes.classes in
    let classed = patterns-classed c.args.rank c.args.rules.now (seen_transitions classes.transitions.items) classes.classes.items c.in_ok-classes.ensures in
    (patterns_by c.args.rank c.args.rules.now, c.in_ok-automaton.ensures, rw c.deref.ensures.value classed)

pub returns-in-None : goal.returns-in-None
returns-in-None c =
    let classes = c.in_ok-classes.classes in
    let patterns = patterns_by c.args.rank c.args.rules.now in
    none-told c.args.rank c.args.rules.now (seen_transitions classes.transitions.items) classes.classes.items c.in_ok-classes.ensures c.how_overlaps_are_tested.ensures
    (automaton-read c.in_ok-automaton.automaton patterns c.in_ok-automaton.ensures) c.in_ok-first_clash.field-0 c.deref.result.now c.in-None.is c.deref.ensures.value
    (c.in_ok-first_clash.ensures patterns c.in_ok-automaton.ensures)

pub returns : goal.returns
returns c =
    let classes = c.in_ok-classes.classes in
    let patterns = patterns_by c.args.rank c.args.rules.now in
    first-told c.args.rank c.args.rules.now (seen_transitions classes.transitions.items) classes.classes.items c.in_ok-classes.ensures c.how_overlaps_are_tested.ensures
    (automaton-read c.in_ok-automaton.automaton patterns c.in_ok-automaton.ensures) c.in_ok-first_clash.field-0 c.deref.result.now c.in-Some.lead c.place_of.result c.in-Some.is
    c.deref.ensures.value c.place_of.ensures (c.in_ok-first_clash.ensures patterns c.in_ok-automaton.ensures)
