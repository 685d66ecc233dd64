-- Where FLAGS are refused: definitions for the law on their faults.
use Rattle.std.specs.Prelude.{◌≡◌, ◌⊎◌, true, List, [], ◌∷◌, ◌++◌, Err, IsOk}
use Rattle.std.specs.List.{list_all}
use Rattle.aa_text_tokens.specs.Splicing.{Placed}
use Rattle.aa_text_tokens.specs.declared.cut.TokenKind.TheVariants.{OpenBrace}
use Rattle.aa_profile_parsing.specs.Tokens.{place_of}
use Rattle.aa_profile_parsing.specs.declared.fault.Fault.{Fault}
use Rattle.aa_profile_parsing.specs.declared.fault.Fault.TheVariants.{At, RanOut}
use Rattle.aa_profile_parsing.specs.declared.fault.GrammarRefusal.{GrammarRefusal}
use Rattle.aa_profile_parsing.specs.declared.language.Language.{Language}
use Rattle.aa_profile_parsing.specs.FlagText.{is_flag_token}
use Rattle.aa_profile_parsing.specs.Flags.{flags}

-- tokens can be continued: followed by some Words and Commas and a brace, FLAGS are read
abbrev pub CanGoOn : Language → List Placed → Type 0
CanGoOn language tokens =
    (more : List Placed) × (brace : Placed) × (list_all is_flag_token more ≡ true) × (brace.token.kind ≡ OpenBrace)
    × IsOk (flags language (tokens ++ (more ++ brace ∷ [])))

-- Tokens are refused at the first of them with which nothing that could follow would be accepted: those before it can be continued, and whatever
-- follows it, the refusal at it is the same.
pub record IsRefusedAtFirst (language : Language) (tokens : List Placed) (fault : Fault) : Type 0 where
  pub before : List Placed
  pub token : Placed
  pub behind : List Placed
  pub refusal : GrammarRefusal
  pub stands : tokens ≡ before ++ token ∷ behind
  pub told : fault ≡ At refusal (place_of token)
  pub goes_on : CanGoOn language before
  pub ends : (more : List Placed) → flags language (before ++ token ∷ more) ≡ Err fault

-- each refusal is at the first such token, and tokens run out only where they can be continued
abbrev pub FaultsAreTheFirst : Type 0
FaultsAreTheFirst =
    (language : Language) (tokens : List Placed) (fault : Fault) → flags language tokens ≡ Err fault
    → IsRefusedAtFirst language tokens fault ⊎ ((fault ≡ RanOut) × CanGoOn language tokens)
