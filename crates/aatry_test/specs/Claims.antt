-- The claims of assertions (docs/aatry.md, "`aatry test`").
use Rattle.std.specs.Prelude.{ℕ, nat_le, if◌then◌else◌, List, [], ◌∷◌, Option, None, Some, codes, length}
use Rattle.std.specs.Option.{option_and_then}
use Rattle.std.specs.Str.{bytes_eq}
use Rattle.aa_explain_paths.specs.declared.question.Claim.{Claim}
use Rattle.aa_explain_paths.specs.declared.question.Claim.TheVariants.{Always, Never}
use Rattle.aa_set_commands.specs.Limits.{most_words}
use Rattle.aa_set_commands.specs.Words.{words_of}
use Rattle.aatry_claims.specs.Claimed.{Claimed}
use Rattle.aatry_claims.specs.Words.{PathWords, path_words}

-- the claim of a word
abbrev pub claim_of : List ℕ → Option Claim
claim_of word =
    if bytes_eq word (codes "never") then Some Never
    else if bytes_eq word (codes "always") then Some Always
    else None

-- a claim by words, if there are both
abbrev pub claimed_by : Option Claim → Option PathWords → Option Claimed
claimed_by None words = None
claimed_by (Some claim) None = None
claimed_by (Some claim) (Some words) = Some (record { claim = claim; words = words })

-- the claim of words: `never` or `always`, followed by the words of a question about all paths; none where they claim nothing
abbrev pub claimed_in : List (List ℕ) → Option Claimed
claimed_in [] = None
claimed_in (word ∷ words) = claimed_by (claim_of word) (path_words words)

-- words, if there are no more than a command may have
abbrev pub few_words : List (List ℕ) → Option (List (List ℕ))
few_words words = if nat_le (length words) most_words then Some words else None

-- the words of an assertion: those of a command line
abbrev pub assertion_words : List ℕ → Option (List (List ℕ))
assertion_words assertion = option_and_then few_words (words_of assertion)

-- the claim of an assertion
abbrev pub claimed_of : List ℕ → Option Claimed
claimed_of assertion = option_and_then claimed_in (assertion_words assertion)
