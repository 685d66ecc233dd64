use Rattle.std.proofs.Common.{◌<◌}
use Rattle.std.proofs.lemmas.List.Elements.{All-same}
use Rattle.aa_set_parts.specs.Parts.{back}
use Rattle.aa_set_parts.specs.Slots.{trimmed}
use Rattle.aa_set_parts.specs.declared.parts.Part.{Part}
use Rattle.aa_set_parts.proofs.ExchangeLemmas.{All-back}
use Rattle.aa_set_parts.proofs.exchange.ExchangeChangeSlots.turn.Goals as goal

pub invariant_of-self : goal.invariant_of-self
invariant_of-self c =
    All-same (λ (part : Part). part.slot < c.self.inside.reach) c.exchange.new.parts.items (back (trimmed c.args.state.now) c.self.inside.parts.items) c.exchange.ensures.parts
    (All-back c.self.inside.reach (trimmed c.args.state.now) c.self.inside.parts.items c.self.invariant)
