use Rattle.std.proofs.Common.{◌≡◌, ◌∙◌, ◌∷◌, ◌-◌, ap, drop, length, map, subst, sym, take}
use Rattle.aa_profile_grammar.specs.Blocks.{OfRule}
use Rattle.aa_profile_grammar.specs.SeenFiles.{seen_member}
use Rattle.aa_profile_grammar.specs.PatternTokens.{of_members, of_rule}
use Rattle.aa_profile_grammar.specs.Patterns.{are_counted}
use Rattle.aa_profile_rules.specs.SeenRules.{seen_rule}
use Rattle.aa_profile.proofs.ConflictLemmas.{counted-behind, members-more}
use Rattle.aa_profile.proofs.ProfileLemmas.{parts_of}
use Rattle.aa_profile.specs.Profiles.{children_of}
use Rattle.aa_profile.specs.code.ConflictProgress.{ReachesMembers}
use Rattle.aa_profile.proofs.conflicts.conflict_in_members.Goals as goal

pub loop-rest-preserved-in_default-2 : goal.loop-rest-preserved-in_default-2
loop-rest-preserved-in_default-2 c =
    let variables = c.args.table.now in
    let all = map seen_member c.args.members.now in
    let rest = c.loop-rest.rest.now in
    let more = take (length rest - 1) (drop 1 rest) in
    let rule = seen_rule c.in-OfRule.rule in
    let parts : map seen_member rest ≡ OfRule rule ∷ map seen_member more =
    ap (map seen_member) (parts_of rest c.member-item.result c.in-len1-up.len_at_least c.member-item.is) ∙ ap (λ member. seen_member member ∷ map seen_member more) c.in-OfRule.is in
    record {
      reached = members-more c.args.language variables all rule (map seen_member more) c.loop-rest.on c.pass.new.on
          (subst (λ members. ReachesMembers c.args.language variables all members c.loop-rest.on) parts c.loop-rest.invariant.reached)
          (rw (c.in_default-2.is, c.loop-rest.invariant.same) at c.in_ok-place-in-OfRule.ensures.passes);
      children = c.loop-rest.invariant.children ∙ ap (children_of c.args.language variables) parts;
      counted = counted-behind variables (of_rule rule) (of_members (map seen_member more))
          (ap (λ members. are_counted variables (of_members members)) (sym parts) ∙ c.loop-rest.invariant.counted);
      same = c.in_ok-place-in-OfRule.ensures.same ∙ c.loop-rest.invariant.same;
    }
