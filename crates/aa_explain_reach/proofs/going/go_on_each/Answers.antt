use Rattle.std.proofs.Common.{◌≡◌, ◌∙◌, ◌++◌, ◌∷◌, ◌-◌, [], ap, append_assoc, drop, length, subst, sym, take}
use Rattle.std.specs.Option.{option_map}
use Rattle.aa_decide.specs.SeenExec.{seen_asker}
use Rattle.aa_explain_reach.specs.code.Going.{AreIn, seen_starters}
use Rattle.aa_explain_reach.proofs.GoingLemmas.{goes-then}
use Rattle.aa_explain_reach.proofs.StandLemmas.{split-first}
use Rattle.aa_glob_nfa.proofs.ListLemmas.{Contains-later}
use Rattle.aa_explain_reach.proofs.going.go_on_each.Goals as goal

pub loop-rest-preserved : goal.loop-rest-preserved
loop-rest-preserved c =
    let slots = c.args.slots.now in
    let starter = c.starter-item.result in
    let all = c.loop-rest.rest.now in
    let rest = take (length all - 1) (drop 1 all) in
    let inv = c.loop-rest.invariant.gone in
    let split : all ≡ starter ∷ rest = split-first all starter _ c.in-len1-up.len_at_least c.starter-item.is in
    let seen = option_map seen_asker starter in
    let left = subst (AreIn slots) split c.loop-rest.invariant.left in
    record {
      left = λ s at. left s (Contains-later starter rest s at);
      gone = (
        inv.0 ++ seen ∷ [],
        append_assoc inv.0 (seen ∷ []) (seen_starters rest) ∙ ap (λ l. inv.0 ++ seen_starters l) (sym split) ∙ inv.1,
        goes-then slots c.args.limit c.args.from inv.0 seen c.args.nodes.now.items c.loop-rest.nodes.items c.go_on.new.nodes.items
            c.args.unknown.now.items c.loop-rest.unknown.items c.go_on.new.unknown.items inv.2 c.in_ok-go_on.ensures,
      );
    }
