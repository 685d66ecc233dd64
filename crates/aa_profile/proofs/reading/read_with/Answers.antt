use Rattle.std.proofs.Common.{◌≡◌, None}
use Rattle.aa_profile_parsing.specs.SeenTokens.{seen_tokens}
use Rattle.aa_profile_grammar.specs.Patterns.{over_limit}
use Rattle.aa_profile.proofs.ConflictLemmas.{counted-few}
use Rattle.aa_profile.proofs.reading.read_with.Goals as goal

pub check_conflicts-requires-clause-counted : goal.check_conflicts-requires-clause-counted
check_conflicts-requires-clause-counted c =
    let few : over_limit c.args.variables.now (seen_tokens c.args.patterns.now) ≡ None = rw c.new-table.ensures at c.in_ok-check_limit.ensures.ok in
    rw (c.in_ok-profiles.ensures.same, c.in_ok-check_limit.ensures.same, c.new-table.ensures, c.deref-4.ensures.value)
    (rw c.requires.tokens at (counted-few c.args.variables.now (seen_tokens c.args.patterns.now) c.requires.expand few))

pub read_places-requires : goal.read_places-requires
read_places-requires c =
    let few : over_limit c.args.variables.now (seen_tokens c.args.patterns.now) ≡ None = rw c.new-table.ensures at c.in_ok-check_limit.ensures.ok in
    rw (c.in_ok-check_conflicts.ensures.same, c.in_ok-profiles.ensures.same, c.in_ok-check_limit.ensures.same, c.new-table.ensures, c.deref-6.ensures.value)
    (rw c.requires.tokens at (counted-few c.args.variables.now (seen_tokens c.args.patterns.now) c.requires.expand few))
