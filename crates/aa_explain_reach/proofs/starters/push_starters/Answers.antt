use Rattle.std.proofs.Common.{subst, sym}
use Rattle.std.proofs.lemmas.Result.{on_ok_weaker}
use Rattle.aa_decide_ready.specs.Slots.{filled}
use Rattle.aa_explain_reach.specs.Starters.{member_starters, stand_starters, starters_at}
use Rattle.aa_explain_reach.specs.code.Going.{Appends}
use Rattle.aa_explain_reach.proofs.StarterLemmas.{appends-then}
use Rattle.aa_profile_data.specs.Stacks.{parts_of}
use Rattle.aa_explain_reach.proofs.starters.push_starters.Goals as goal

pub returns-in-Unconfined : goal.returns-in-Unconfined
returns-in-Unconfined c =
    let slots = c.args.slots.now in
    on_ok_weaker c.push_no_one.result
    (λ appends. subst (λ t. Appends slots (starters_at slots t) c.args.starters.now.items c.push_no_one.new.starters.items) (sym c.in-Unconfined.is) (appends slots))
    c.push_no_one.ensures

pub returns-in_ok-push_stand-in-Stack : goal.returns-in_ok-push_stand-in-Stack
returns-in_ok-push_stand-in-Stack c =
    let slots = c.args.slots.now in
    on_ok_weaker c.push_members.result
    (λ appends. subst (λ t. Appends slots (starters_at slots t) c.args.starters.now.items c.push_members.new.starters.items) (sym c.in-Stack.is)
    (appends-then slots (stand_starters slots c.in-Stack.base) (member_starters (filled slots) (parts_of c.in-Stack.members.now))
    c.args.starters.now.items c.push_stand.new.starters.items c.push_members.new.starters.items c.in_ok-push_stand-in-Stack.ensures appends))
    c.push_members.ensures
