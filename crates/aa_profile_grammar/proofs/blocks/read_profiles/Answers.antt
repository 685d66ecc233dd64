use Rattle.std.proofs.Common.{sym, ap, ◌∙◌, map, ◌<◌, length, Err, arith, refl}
use Rattle.std.proofs.lemmas.List.{map-append}
use Rattle.std.proofs.lemmas.Result.{err_from_is_err_and}
use Rattle.aa_profile_grammar.specs.SeenFiles.{seen_profile}
use Rattle.aa_profile_parsing.specs.SeenTokens.{seen_tokens}
use Rattle.aa_profile_grammar.specs.Blocks.{next_profile}
use Rattle.aa_profile_grammar.proofs.SequenceLemmas.{so_far-end, so_far-fault, so_far-item, so_far-nothing, so_far-start}
use Rattle.aa_profile_grammar.proofs.blocks.read_profiles.Goals as goal

pub loop-profiles-init : goal.loop-profiles-init
loop-profiles-init c = record { so_far = rw c.new-profiles.ensures (so_far-start (next_profile c.args.language) c.args.tokens.now); within = omega arith }

pub returns-in_err-next-clause-refused : goal.returns-in_err-next-clause-refused
returns-in_err-next-clause-refused c =
    let p = err_from_is_err_and c.from_residual.result c.from_residual.ensures.1 in
    rw p.1 (λ other.
    let told = c.in_err-next.ensures.refused (λ e. other (p.2 ∙ e)) in
    so_far-fault (next_profile c.args.language) (map seen_profile c.loop-profiles.profiles.items.items) c.loop-profiles.rest.tokens.now c.args.tokens.now c.in_err-next.field-0.0 c.loop-profiles.invariant.so_far told ∙ ap Err (sym p.2))

pub returns-in-End-clause-ok : goal.returns-in-End-clause-ok
returns-in-End-clause-ok c =
    let found = rw (c.in-End.is) at c.in_ok-next.ensures.ok in
    so_far-end (next_profile c.args.language) (map seen_profile c.loop-profiles.profiles.items.items) c.loop-profiles.rest.tokens.now c.args.tokens.now (seen_tokens c.in_ok-next.behind.tokens.now) c.loop-profiles.invariant.so_far found

pub loop-profiles-preserved-in_ok-profiles-in-Item : goal.loop-profiles-preserved-in_ok-profiles-in-Item
loop-profiles-preserved-in_ok-profiles-in-Item c =
    let found = rw (c.in-Item.is) at c.in_ok-next.ensures.ok in
    let shorter : length c.in_ok-next.behind.tokens.now < length c.loop-profiles.rest.tokens.now = rw c.in-Item.is at c.in_ok-next.ensures.shorter refl in
    record {
      so_far = rw (c.in_ok-profiles-in-Item.ensures, map-append) (so_far-item (next_profile c.args.language) (map seen_profile c.loop-profiles.profiles.items.items) c.loop-profiles.rest.tokens.now c.args.tokens.now c.in_ok-next.behind.tokens.now (seen_profile c.in-Item.profile) c.loop-profiles.invariant.so_far found shorter);
      within = omega arith;
    }

pub loop-profiles-preserved : goal.loop-profiles-preserved
loop-profiles-preserved c =
    let found = rw (c.in-Nothing.is) at c.in_ok-next.ensures.ok in
    let shorter : length c.in_ok-next.behind.tokens.now < length c.loop-profiles.rest.tokens.now = rw c.in-Nothing.is at c.in_ok-next.ensures.shorter refl in
    record {
      so_far = so_far-nothing (next_profile c.args.language) (map seen_profile c.loop-profiles.profiles.items.items) c.loop-profiles.rest.tokens.now c.args.tokens.now c.in_ok-next.behind.tokens.now c.loop-profiles.invariant.so_far found shorter;
      within = omega arith;
    }
