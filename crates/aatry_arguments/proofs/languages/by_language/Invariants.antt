use Rattle.std.proofs.Common.{◌≡◌, Some, length, map, string_bytes}
use Rattle.std.specs.Option.{option_map}
use Rattle.aa_profile_parsing.specs.declared.language.Language.TheVariants.{Four}
use Rattle.aatry_arguments.specs.Languages.{by_language}
use Rattle.aatry_arguments.specs.code.WordsSoFar.{with_words}
use Rattle.aatry_arguments.proofs.languages.by_language.Given as goal

-- the others so far stand before what the words that are left say
abbrev pub invariant-loop-rest : goal.invariant-loop-rest
invariant-loop-rest l =
    option_map (with_words (map string_bytes l.others.items)) (by_language l.language (map string_bytes l.rest)) ≡ by_language (Some Four) (map string_bytes l.words)

abbrev pub decreases-loop-rest : goal.decreases-loop-rest
decreases-loop-rest l = length l.rest
