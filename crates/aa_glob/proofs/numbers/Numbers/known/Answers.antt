use Rattle.std.proofs.Common.{sym, ap, ◌∙◌}
use Rattle.aa_glob.specs.Numbers.{first_set, number_from}
use Rattle.aa_glob.proofs.NumberLemmas.{known-within}
use Rattle.aa_glob.proofs.numbers.Numbers.known.Goals as goal

pub returns-clause-number : goal.returns-clause-number
returns-clause-number c =
    c.copied.ensures ∙ c.get.ensures.value ∙ sym (c.self.invariant.told c.args.key.now) ∙ ap (number_from first_set c.args.key.now) c.self.view_is

pub returns-clause-within : goal.returns-clause-within
returns-clause-within c =
    known-within c.self.inside.by_key.entries c.args.key.now c.copied.result c.self.invariant (c.copied.ensures ∙ c.get.ensures.value ∙ sym (c.self.invariant.told c.args.key.now))
