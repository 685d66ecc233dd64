use Rattle.std.proofs.Common.{◌+◌, ap, subst, ◌∙◌}
use Rattle.aa_glob.specs.Numbers.{AreKept, first_set, number_from}
use Rattle.aa_glob.specs.code.Numbered.{keys_in_order}
use Rattle.aa_glob.proofs.NumberLemmas.{comes-kept, comes-told, numbered-more}
use Rattle.aa_glob.proofs.numbers.Numbers.add.Goals as goal

pub invariant_of-self-2 : goal.invariant_of-self-2
invariant_of-self-2 c =
    let none = ap (number_from first_set c.args.key.items) c.self.view_is ∙ c.requires in
    let next = c.in_ok-number.ensures.number ∙ ap (λ count. first_set + count) c.len.ensures.len in
    numbered-more c.self.inside.by_key c.insert.new.self c.args.key c.in_ok-number.number (c.self.invariant, none, next, (c.in_ok-insert.ensures.entries, c.in_ok-insert.ensures.updates))
    c.in_ok-number.ensures.within

pub returns-clause-number : goal.returns-clause-number
returns-clause-number c =
    let none = ap (number_from first_set c.args.key.items) c.self.view_is ∙ c.requires in
    let next = c.in_ok-number.ensures.number ∙ ap (λ count. first_set + count) c.len.ensures.len in
    comes-told c.self.inside.by_key c.insert.new.self c.args.key c.in_ok-number.number (c.self.invariant, none, next, (c.in_ok-insert.ensures.entries, c.in_ok-insert.ensures.updates))

pub returns-clause-kept : goal.returns-clause-kept
returns-clause-kept c =
    let none = ap (number_from first_set c.args.key.items) c.self.view_is ∙ c.requires in
    let next = c.in_ok-number.ensures.number ∙ ap (λ count. first_set + count) c.len.ensures.len in
    subst (λ keys. AreKept keys (keys_in_order c.insert.new.self.entries)) c.self.view_is
    (comes-kept c.self.inside.by_key c.insert.new.self c.args.key c.in_ok-number.number (c.self.invariant, none, next, (c.in_ok-insert.ensures.entries, c.in_ok-insert.ensures.updates)))
