use Rattle.std.proofs.Common.{◌≡◌, ◌++◌, map}
use Rattle.std.specs.Option.{option_map}
use Rattle.aa_text_tokens.specs.SeenSplicedTokens.{seen_spliced}
use Rattle.aa_profile.specs.Profiles.{file_rule, text_of_target}
use Rattle.aa_profile.proofs.file_rules.push_ranked.Given as goal

-- the text is that of the target; the rules so far, and those of the patterns that are left, are all
abbrev pub invariant-loop-pattern : goal.invariant-loop-pattern
invariant-loop-pattern l =
    (l.text ≡ text_of_target (option_map seen_spliced l.target))
    × (l.rules.items ++ map (file_rule l.qualifiers l.access (option_map seen_spliced l.target) l.by_token) l.pattern-iterator.rest.items
    ≡ l.initial.rules.items ++ map (file_rule l.qualifiers l.access (option_map seen_spliced l.target) l.by_token) l.fn.patterns.items)
