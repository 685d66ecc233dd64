use Rattle.std.proofs.Common.{◌≡◌, ◌∙◌, ◌++◌, ◌∷◌, ap, append_assoc, sym}
use Rattle.std.specs.Option.{option_map}
use Rattle.aa_decide_ready.specs.Slots.{filled}
use Rattle.aa_explain_reach.specs.Starters.{alone, member_asker, member_starters}
use Rattle.aa_explain_reach.proofs.StarterLemmas.{appends-then}
use Rattle.aa_profile_data.specs.Stacks.{parts_of, parts_of_rest}
use Rattle.aa_explain_reach.proofs.starters.push_members.Goals as goal

pub loop-more-preserved : goal.loop-more-preserved
loop-more-preserved c =
    let slots = c.args.slots.now in
    let entries = filled slots in
    let inv = c.loop-more.invariant in
    let one = alone (member_asker entries c.first_member.result.0.now) in
    let more = parts_of c.in-Some.more.now in
    let parts : parts_of c.loop-more.rest.now ≡ c.first_member.result.0.now ∷ more =
    c.first_member.ensures.parts ∙ ap (λ r. c.first_member.result.0.now ∷ parts_of_rest (option_map (λ rest. rest.now) r)) c.in-Some.is in (
      inv.0 ++ one,
      append_assoc inv.0 one (member_starters entries more) ∙ ap (λ l. inv.0 ++ member_starters entries l) (sym parts) ∙ inv.1,
      appends-then slots inv.0 one c.args.starters.now.items c.loop-more.starters.items c.push_member.new.starters.items inv.2 c.in_ok-push_member.ensures,
    )
