use Rattle.std.proofs.Common.{◌∙◌, ◌++◌, ◌∷◌, ◌-◌, [], sym, ap, map, take, drop, length, Some}
use Rattle.std.proofs.lemmas.Result.{err_from_is_err_and}
use Rattle.aa_profile_grammar.specs.SeenFiles.{seen_profile}
use Rattle.aa_profile_grammar.specs.PatternTokens.{of_profile, of_profiles}
use Rattle.aa_profile_grammar.specs.Patterns.{first_bad, have_expansions}
use Rattle.aa_profile.specs.Profiles.{profile_of}
use Rattle.aa_profile.proofs.ProfileLemmas.{expand_behind, expand_front, first_bad_behind, first_bad_front, more_items, parts_of}
use Rattle.aa_profile.proofs.profiles.read_profiles.Goals as goal

pub read_profile-requires : goal.read_profile-requires
read_profile-requires c =
    let variables = c.args.table.now in
    let rest = c.loop-rest.rest.now in
    let more = take (length rest - 1) (drop 1 rest) in
    let items = parts_of rest c.profile-item.result c.in-len1-up.len_at_least c.profile-item.is in
    ap (λ variables. have_expansions variables (of_profile (seen_profile c.profile-item.result))) c.loop-rest.invariant.same
    ∙ expand_front variables (of_profile (seen_profile c.profile-item.result)) (of_profiles (map seen_profile more)) (sym (ap (λ rest. have_expansions variables (of_profiles (map seen_profile rest))) items) ∙ c.loop-rest.invariant.expand)

pub returns-in_err-read_profile-clause-refused : goal.returns-in_err-read_profile-clause-refused
returns-in_err-read_profile-clause-refused c =
    let p = err_from_is_err_and c.from_residual.result c.from_residual.ensures.1 in
    let variables = c.args.table.now in
    let rest = c.loop-rest.rest.now in
    let more = take (length rest - 1) (drop 1 rest) in
    let items = parts_of rest c.profile-item.result c.in-len1-up.len_at_least c.profile-item.is in
    rw p.1 (λ other.
    sym c.loop-rest.invariant.refusal
    ∙ ap (λ rest. first_bad variables (of_profiles (map seen_profile rest))) items
    ∙ first_bad_front variables (of_profile (seen_profile c.profile-item.result)) (of_profiles (map seen_profile more)) c.in_err-read_profile.field-0.0 ((rw c.loop-rest.invariant.same at c.in_err-read_profile.ensures.refused) (λ e. other (p.2 ∙ e)))
    ∙ ap Some (sym p.2))

pub loop-rest-preserved : goal.loop-rest-preserved
loop-rest-preserved c =
    let variables = c.args.table.now in
    let rest = c.loop-rest.rest.now in
    let more = take (length rest - 1) (drop 1 rest) in
    let items = parts_of rest c.profile-item.result c.in-len1-up.len_at_least c.profile-item.is in
    record {
      profiles =
          rw (c.in_ok-push.ensures.items, c.in_ok-read_profile.ensures.ok ∙ ap (λ variables. profile_of c.args.language variables (seen_profile c.profile-item.result)) c.loop-rest.invariant.same) (more_items c.loop-rest.profiles.items (profile_of c.args.language variables (seen_profile c.profile-item.result) ∷ []) (map (profile_of c.args.language variables) (map seen_profile more)) _
          (sym (ap (λ rest. c.loop-rest.profiles.items ++ map (profile_of c.args.language variables) (map seen_profile rest)) items) ∙ c.loop-rest.invariant.profiles));
      same = c.in_ok-read_profile.ensures.same ∙ c.loop-rest.invariant.same;
      refusal =
          sym (ap (λ rest. first_bad variables (of_profiles (map seen_profile rest))) items ∙ first_bad_behind variables (of_profile (seen_profile c.profile-item.result)) (of_profiles (map seen_profile more)) (rw c.loop-rest.invariant.same at c.in_ok-read_profile.ensures.fine))
          ∙ c.loop-rest.invariant.refusal;
      expand = expand_behind variables (of_profile (seen_profile c.profile-item.result)) (of_profiles (map seen_profile more)) (sym (ap (λ rest. have_expansions variables (of_profiles (map seen_profile rest))) items) ∙ c.loop-rest.invariant.expand);
    }
