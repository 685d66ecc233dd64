use Rattle.std.proofs.Common.{◌≡◌, ◌<◌, ◌++◌, true, length, take, drop}
use Rattle.std.specs.List.{All, list_all}
use Rattle.aa_decide_ready.specs.Indexes.{HoldSame}
use Rattle.aa_set_parts.specs.Parts.{after, is_state}
use Rattle.aa_set_parts.specs.Slots.{trimmed}
use Rattle.aa_set_parts.proofs.ExchangeLemmas.{lefts}
use Rattle.aa_set_parts.proofs.slots.exchange_all.Given as goal

-- what was exchanged so far, and the exchange of the rest, is that of all
abbrev pub invariant-loop-at : goal.invariant-loop-at
invariant-loop-at l = (length l.slots.items ≡ length l.initial.slots.items)
    × (length l.parts ≡ length l.initial.parts)
    × All (λ part. part.slot < length l.slots.items) l.parts
    × (after (trimmed l.slots.items) (drop l.at l.parts) ≡ after (trimmed l.initial.slots.items) l.initial.parts)
    × (take l.at l.parts ++ lefts (trimmed l.slots.items) (drop l.at l.parts) ≡ lefts (trimmed l.initial.slots.items) l.initial.parts)
    × (list_all is_state l.initial.parts ≡ true → (list_all is_state (drop l.at l.parts) ≡ true) × HoldSame l.slots.items l.initial.slots.items)
