use Rattle.std.proofs.Common.{◌∙◌, ◌++◌, ◌-◌, sym, ap, map, take, drop, length, Some}
use Rattle.std.proofs.lemmas.Result.{err_from_is_err_and}
use Rattle.aa_profile_grammar.specs.SeenFiles.{seen_member}
use Rattle.aa_profile_grammar.specs.PatternTokens.{of_member, of_members}
use Rattle.aa_profile_grammar.specs.Patterns.{first_bad, have_expansions}
use Rattle.aa_profile.specs.Profiles.{children_of, children_of_member, rules_of_member, rules_of_members}
use Rattle.aa_profile.proofs.ProfileLemmas.{expand_behind, expand_front, first_bad_behind, first_bad_front, more_items, parts_of}
use Rattle.aa_profile.proofs.profiles.read_members.Goals as goal

pub push_member-requires : goal.push_member-requires
push_member-requires c =
    let variables = c.args.table.now in
    let rest = c.loop-rest.rest.now in
    let more = take (length rest - 1) (drop 1 rest) in
    let items = parts_of rest c.member-item.result c.in-len1-up.len_at_least c.member-item.is in
    ap (λ variables. have_expansions variables (of_member (seen_member c.member-item.result))) c.loop-rest.invariant.same
    ∙ expand_front variables (of_member (seen_member c.member-item.result)) (of_members (map seen_member more)) (sym (ap (λ rest. have_expansions variables (of_members (map seen_member rest))) items) ∙ c.loop-rest.invariant.expand)

pub returns-in_err-push_member-clause-refused : goal.returns-in_err-push_member-clause-refused
returns-in_err-push_member-clause-refused c =
    let p = err_from_is_err_and c.from_residual.result c.from_residual.ensures.1 in
    let variables = c.args.table.now in
    let rest = c.loop-rest.rest.now in
    let more = take (length rest - 1) (drop 1 rest) in
    let items = parts_of rest c.member-item.result c.in-len1-up.len_at_least c.member-item.is in
    rw p.1 (λ other.
    sym c.loop-rest.invariant.refusal
    ∙ ap (λ rest. first_bad variables (of_members (map seen_member rest))) items
    ∙ first_bad_front variables (of_member (seen_member c.member-item.result)) (of_members (map seen_member more)) c.in_err-push_member.field-0.0 ((rw c.loop-rest.invariant.same at c.in_err-push_member.ensures.refused) (λ e. other (p.2 ∙ e)))
    ∙ ap Some (sym p.2))

pub loop-rest-preserved : goal.loop-rest-preserved
loop-rest-preserved c =
    let variables = c.args.table.now in
    let rest = c.loop-rest.rest.now in
    let more = take (length rest - 1) (drop 1 rest) in
    let items = parts_of rest c.member-item.result c.in-len1-up.len_at_least c.member-item.is in
    record {
      rules = rw (c.in_ok-push_member.ensures.rules, c.loop-rest.invariant.same) (more_items c.loop-rest.rules.items (rules_of_member c.args.language variables (seen_member c.member-item.result)) (rules_of_members c.args.language variables (map seen_member more)) _ (sym (ap (λ rest. c.loop-rest.rules.items ++ rules_of_members c.args.language variables (map seen_member rest)) items) ∙ c.loop-rest.invariant.rules));
      children = rw (c.in_ok-push_member.ensures.children, c.loop-rest.invariant.same) (more_items c.loop-rest.children.items (children_of_member c.args.language variables (seen_member c.member-item.result)) (children_of c.args.language variables (map seen_member more)) _ (sym (ap (λ rest. c.loop-rest.children.items ++ children_of c.args.language variables (map seen_member rest)) items) ∙ c.loop-rest.invariant.children));
      same = c.in_ok-push_member.ensures.same ∙ c.loop-rest.invariant.same;
      refusal =
          sym (ap (λ rest. first_bad variables (of_members (map seen_member rest))) items ∙ first_bad_behind variables (of_member (seen_member c.member-item.result)) (of_members (map seen_member more)) (rw c.loop-rest.invariant.same at c.in_ok-push_member.ensures.fine))
          ∙ c.loop-rest.invariant.refusal;
      expand = expand_behind variables (of_member (seen_member c.member-item.result)) (of_members (map seen_member more)) (sym (ap (λ rest. have_expansions variables (of_members (map seen_member rest))) items) ∙ c.loop-rest.invariant.expand);
    }
