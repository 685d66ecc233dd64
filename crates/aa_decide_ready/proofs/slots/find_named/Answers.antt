use Rattle.std.proofs.Common.{sym, ap, ◌∙◌}
use Rattle.std.specs.Option.{is_some, option_copied}
use Rattle.aa_decide_ready.specs.Slots.{entry_at}
use Rattle.aa_decide_ready.proofs.FindLemmas.{entry-found, entry-missing, entry-there}
use Rattle.aa_decide_ready.proofs.slots.find_named.Goals as goal

pub returns-in-None-clause-found : goal.returns-in-None-clause-found
returns-in-None-clause-found c = sym (entry-missing c.args.name.now c.args.slots.now (sym c.slot_named.ensures ∙ c.in-None.is))

pub returns-in-None-entry_at-clause-slot : goal.returns-in-None-entry_at-clause-slot
returns-in-None-entry_at-clause-slot c =
    let there = entry-there c.args.name.now c.args.slots.now c.in-Some.slot (sym c.slot_named.ensures ∙ c.in-Some.is) in
    let none = ap is_some (sym c.entry_at.ensures ∙ ap option_copied c.in-None-entry_at.is) in
    absurd (cc)

pub returns-in-None-entry_at-clause-found : goal.returns-in-None-entry_at-clause-found
returns-in-None-entry_at-clause-found c =
    let there = entry-there c.args.name.now c.args.slots.now c.in-Some.slot (sym c.slot_named.ensures ∙ c.in-Some.is) in
    let none = ap is_some (sym c.entry_at.ensures ∙ ap option_copied c.in-None-entry_at.is) in
    absurd (cc)

pub returns-in-Some-entry_at-clause-found : goal.returns-in-Some-entry_at-clause-found
returns-in-Some-entry_at-clause-found c =
    sym (ap option_copied c.in-Some-entry_at.is) ∙ c.entry_at.ensures ∙ ap (λ slots. entry_at slots c.in-Some.slot) c.as_slice.ensures
    ∙ entry-found c.args.name.now c.args.slots.now c.in-Some.slot (sym c.slot_named.ensures ∙ c.in-Some.is)
