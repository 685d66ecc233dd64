use Rattle.std.proofs.Common.{sym, ap, ◌∙◌, map, ◌<◌, length, Err, arith}
use Rattle.std.proofs.lemmas.List.{map-append}
use Rattle.std.proofs.lemmas.Result.{err_from_is_err_and}
use Rattle.aa_profile_grammar.specs.SeenFiles.{seen_member}
use Rattle.aa_profile_parsing.specs.SeenTokens.{seen_tokens}
use Rattle.aa_profile_grammar.specs.Blocks.{next_member}
use Rattle.aa_profile_grammar.proofs.SequenceLemmas.{so_far-end, so_far-fault, so_far-item, so_far-nothing, so_far-start}
use Rattle.aa_profile_grammar.proofs.blocks.read_members.Goals as goal

pub loop-members-init : goal.loop-members-init
loop-members-init c = record { so_far = rw c.new-members.ensures (so_far-start (next_member c.args.language) c.args.tokens.now); within = omega arith }

pub returns-in_err-next-clause-refused : goal.returns-in_err-next-clause-refused
returns-in_err-next-clause-refused c =
    let p = err_from_is_err_and c.from_residual.result c.from_residual.ensures.1 in
    rw p.1 (λ other.
    let told = c.in_err-next.ensures.refused (λ e. other (p.2 ∙ e)) in
    so_far-fault (next_member c.args.language) (map seen_member c.loop-members.members.items.items) c.loop-members.rest.tokens.now c.args.tokens.now c.in_err-next.field-0.0 c.loop-members.invariant.so_far told ∙ ap Err (sym p.2))

pub returns-in-End-clause-ok : goal.returns-in-End-clause-ok
returns-in-End-clause-ok c =
    let found = rw (c.in-End.is) at c.in_ok-next.ensures.ok in
    so_far-end (next_member c.args.language) (map seen_member c.loop-members.members.items.items) c.loop-members.rest.tokens.now c.args.tokens.now (seen_tokens c.in_ok-next.behind.tokens.now) c.loop-members.invariant.so_far found

pub loop-members-preserved-in_ok-members-in-Item : goal.loop-members-preserved-in_ok-members-in-Item
loop-members-preserved-in_ok-members-in-Item c =
    let found = rw (c.in-Item.is) at c.in_ok-next.ensures.ok in
    let shorter : length c.in_ok-next.behind.tokens.now < length c.loop-members.rest.tokens.now = c.in_ok-next.ensures.shorter in
    record {
      so_far = rw (c.in_ok-members-in-Item.ensures, map-append) (so_far-item (next_member c.args.language) (map seen_member c.loop-members.members.items.items) c.loop-members.rest.tokens.now c.args.tokens.now c.in_ok-next.behind.tokens.now (seen_member c.in-Item.member) c.loop-members.invariant.so_far found shorter);
      within = omega arith;
    }

pub loop-members-preserved : goal.loop-members-preserved
loop-members-preserved c =
    let found = rw (c.in-Nothing.is) at c.in_ok-next.ensures.ok in
    let shorter : length c.in_ok-next.behind.tokens.now < length c.loop-members.rest.tokens.now = c.in_ok-next.ensures.shorter in
    record {
      so_far = so_far-nothing (next_member c.args.language) (map seen_member c.loop-members.members.items.items) c.loop-members.rest.tokens.now c.args.tokens.now c.in_ok-next.behind.tokens.now c.loop-members.invariant.so_far found shorter;
      within = omega arith;
    }
