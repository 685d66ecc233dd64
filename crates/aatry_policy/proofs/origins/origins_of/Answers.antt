use Rattle.aatry_policy.proofs.OriginLemmas.{kept}
use Rattle.aatry_policy.proofs.origins.origins_of.Goals as goal

pub loop-own-preserved : goal.loop-own-preserved
loop-own-preserved c =
    kept c.args.file.now c.loop-own.rest.now c.in_ok-rest.rest.now c.in-Some.own c.next.new.self.rest.items c.loop-own.own-iterator.rest.items c.loop-own.origins.items
    c.push_origin.new.origins.items _ c.in-Some.ensures.steps.0 c.in_ok-rest.ensures.left c.in_ok-rest.ensures.pushed c.loop-own.invariant
