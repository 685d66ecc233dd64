use Rattle.std.proofs.Common.{◌<◌, length, reverse, sym, ap, ◌∙◌, arith}
use Rattle.std.proofs.lemmas.List.{length-set}
use Rattle.aa_set_parts.proofs.ExchangeLemmas.{All-more, after-all, after-more, lefts-all, lefts-more, reverse-lefts, states-more}
use Rattle.aa_set_parts.specs.Slots.{trimmed}
use Rattle.aa_set_parts.proofs.slots.exchange_all.Goals as goal

pub loop-at-preserved : goal.loop-at-preserved
loop-at-preserved c =
    let (long, same, within, slots, parts, kept) = c.loop-at.invariant in
    let here : c.loop-at.at < length c.loop-at.parts = omega arith in
    let set = length-set c.loop-at.parts c.loop-at.at c.exchange.new.part in (
      c.exchange.ensures.length ∙ long,
      set ∙ same,
      All-more c.loop-at.slots.items c.exchange.new.slots.items c.loop-at.parts c.loop-at.at c.index-parts-at.result c.exchange.new.part here c.exchange.ensures.length c.exchange.ensures.part within,
      after-more c.loop-at.slots.items c.exchange.new.slots.items c.loop-at.parts c.loop-at.at c.index-parts-at.result c.exchange.new.part here c.exchange.ensures.slots ∙ slots,
      lefts-more c.loop-at.slots.items c.exchange.new.slots.items c.loop-at.parts c.loop-at.at c.index-parts-at.result c.exchange.new.part here c.exchange.ensures.slots c.exchange.ensures.part ∙ parts,
      λ states.
          let (rest, before) = kept states in
          let (here, more) = states-more c.loop-at.parts c.loop-at.at c.index-parts-at.result c.exchange.new.part here rest in
          (more, c.exchange.ensures.same here ∙ before),
    )

pub returns-clause-slots : goal.returns-clause-slots
returns-clause-slots c =
    let (long, same, within, slots, parts, kept) = c.loop-at.invariant in
    sym (after-all c.loop-at.slots.items c.loop-at.parts c.loop-at.at (omega arith)) ∙ slots

pub returns-clause-parts : goal.returns-clause-parts
returns-clause-parts c =
    let (long, same, within, slots, parts, kept) = c.loop-at.invariant in
    c.reverse.ensures.after
    ∙ ap reverse (sym (lefts-all c.loop-at.slots.items c.loop-at.parts c.loop-at.at (omega arith)) ∙ parts)
    ∙ reverse-lefts (trimmed c.args.slots.now.items) c.args.parts.now

pub returns-clause-same : goal.returns-clause-same
returns-clause-same c states =
    let (long, same, within, slots, parts, kept) = c.loop-at.invariant in
    (kept states).1
