use Rattle.std.proofs.Common.{sym, ap, ◌∙◌, map, ◌<◌, length, Err, arith}
use Rattle.std.proofs.lemmas.List.{map-append}
use Rattle.std.proofs.lemmas.Result.{err_from_is_err_and}
use Rattle.aa_profile_parsing.specs.SeenTokens.{seen_tokens}
use Rattle.aa_profile_rules.specs.SeenRules.{seen_rule}
use Rattle.aa_profile_grammar.specs.Blocks.{next_rule}
use Rattle.aa_profile_grammar.proofs.SequenceLemmas.{so_far-end, so_far-fault, so_far-item, so_far-nothing, so_far-start}
use Rattle.aa_profile_grammar.proofs.blocks.read_rules.Goals as goal

pub loop-rules-init : goal.loop-rules-init
loop-rules-init c = record { so_far = rw c.new-rules.ensures.items (so_far-start (λ read. next_rule c.args.language) c.args.tokens.now); within = omega arith }

pub returns-in_err-next-clause-refused : goal.returns-in_err-next-clause-refused
returns-in_err-next-clause-refused c =
    let p = err_from_is_err_and c.from_residual.result c.from_residual.ensures.1 in
    rw p.1 (λ other.
    let told = c.in_err-next.ensures.refused in
    so_far-fault (λ read. next_rule c.args.language) (map seen_rule c.loop-rules.rules.items) c.loop-rules.rest.tokens.now c.args.tokens.now c.in_err-next.field-0.0 c.loop-rules.invariant.so_far told ∙ ap Err (sym p.2))

pub returns-in-End-clause-ok : goal.returns-in-End-clause-ok
returns-in-End-clause-ok c =
    let found = rw (c.in-End.is) at c.in_ok-next.ensures.ok in
    so_far-end (λ read. next_rule c.args.language) (map seen_rule c.loop-rules.rules.items) c.loop-rules.rest.tokens.now c.args.tokens.now (seen_tokens c.in_ok-next.behind.tokens.now) c.loop-rules.invariant.so_far found

pub loop-rules-preserved-in_ok-push-in-Item : goal.loop-rules-preserved-in_ok-push-in-Item
loop-rules-preserved-in_ok-push-in-Item c =
    let found = rw (c.in-Item.is) at c.in_ok-next.ensures.ok in
    let shorter : length c.in_ok-next.behind.tokens.now < length c.loop-rules.rest.tokens.now = c.in_ok-next.ensures.shorter in
    record {
      so_far = rw (c.in_ok-push-in-Item.ensures.items, map-append) (so_far-item (λ read. next_rule c.args.language) (map seen_rule c.loop-rules.rules.items) c.loop-rules.rest.tokens.now c.args.tokens.now c.in_ok-next.behind.tokens.now (seen_rule c.in-Item.rule) c.loop-rules.invariant.so_far found shorter);
      within = omega arith;
    }

pub loop-rules-preserved : goal.loop-rules-preserved
loop-rules-preserved c =
    let found = rw (c.in-Nothing.is) at c.in_ok-next.ensures.ok in
    let shorter : length c.in_ok-next.behind.tokens.now < length c.loop-rules.rest.tokens.now = c.in_ok-next.ensures.shorter in
    record {
      so_far = so_far-nothing (λ read. next_rule c.args.language) (map seen_rule c.loop-rules.rules.items) c.loop-rules.rest.tokens.now c.args.tokens.now c.in_ok-next.behind.tokens.now c.loop-rules.invariant.so_far found shorter;
      within = omega arith;
    }
