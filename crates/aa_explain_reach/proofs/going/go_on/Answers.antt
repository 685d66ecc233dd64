use Rattle.std.specs.Option.{option_map}
use Rattle.std.proofs.lemmas.Result.{on_ok_weaker}
use Rattle.aa_decide.specs.SeenExec.{seen_asker}
use Rattle.aa_explain_reach.specs.Starts.{AreStartsOf}
use Rattle.aa_explain_reach.proofs.GoingLemmas.{goes-known, goes-unknown}
use Rattle.aa_explain_reach.proofs.going.go_on.Goals as goal

pub returns-in_ok-push-in-None : goal.returns-in_ok-push-in-None
returns-in_ok-push-in-None c =
    goes-unknown c.args.slots.now c.args.limit c.args.from (option_map seen_asker c.args.starter) c.args.nodes.now.items c.args.unknown.now.items c.push.new.self.items
    (c.in_ok-starts_of.ensures.full c.in-None.is) c.in_ok-push-in-None.ensures.items

pub returns-in-Some : goal.returns-in-Some
returns-in-Some c =
    let told : AreStartsOf c.args.slots.now (option_map seen_asker c.args.starter) c.in-Some.starts.items = rw c.in-Some.is at c.in_ok-starts_of.ensures.told in
    on_ok_weaker c.add_starts.result
    (λ adds. goes-known c.args.slots.now c.args.limit c.args.from (option_map seen_asker c.args.starter) c.in-Some.starts.items c.args.nodes.now.items
    c.add_starts.new.nodes.items c.args.unknown.now.items told adds)
    c.add_starts.ensures
