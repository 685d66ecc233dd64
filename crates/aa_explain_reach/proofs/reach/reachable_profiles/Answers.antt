use Rattle.std.proofs.Common.{◌∷◌, [], None, subst}
use Rattle.std.specs.Option.{option_map}
use Rattle.aa_decide.specs.SeenExec.{seen_asker}
use Rattle.aa_explain_reach.specs.code.Going.{GoesOn}
use Rattle.aa_explain_reach.proofs.ReachLemmas.{reached-first}
use Rattle.aa_explain_reach.proofs.reach.reachable_profiles.Goals as goal

pub returns-clause-reached : goal.returns-clause-reached
returns-clause-reached c =
    let slots = c.args.slots.now in
    let who = option_map seen_asker c.args.who in
    let nodes = c.go_on.new.nodes.items in
    let unknown = c.go_on.new.unknown.items in
    c.in_ok-left.ensures.reached who
    (reached-first slots who c.args.limit nodes unknown
    (subst (λ u. GoesOn slots c.args.limit None (who ∷ []) [] nodes u unknown) c.new-unknown.ensures.items
    (subst (λ n. GoesOn slots c.args.limit None (who ∷ []) n nodes c.new-unknown.result.items unknown) c.new-nodes.ensures.items c.in_ok-go_on.ensures)))
