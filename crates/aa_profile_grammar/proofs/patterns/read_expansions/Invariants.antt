use Rattle.std.proofs.Common.{◌≡◌, ◌++◌, map}
use Rattle.aa_glob_syntax.specs.Slashes.{collapsed}
use Rattle.aa_profile_grammar.specs.Patterns.{refusal_of_expansions}
use Rattle.aa_profile_grammar.proofs.patterns.read_expansions.Given as goal

-- the patterns so far, and those of the texts that are left, are all, and what is left decides
abbrev pub invariant-loop-text : goal.invariant-loop-text
invariant-loop-text l = record {
  patterns : l.patterns.items ++ map collapsed (map (λ text. text.items) l.text-iterator.rest.items) ≡ map collapsed (map (λ text. text.items) l.fn.texts.items);
  refusal : refusal_of_expansions (map (λ text. text.items) l.text-iterator.rest.items) ≡ refusal_of_expansions (map (λ text. text.items) l.fn.texts.items);
}
