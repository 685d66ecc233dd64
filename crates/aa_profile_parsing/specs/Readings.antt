-- What the code returns for a part of the grammar: what was read and the tokens after it, or a fault.
use Rattle.std.specs.Prelude.{◌≡◌, ◌≢◌, List, Result, Ok, Err}
use denote.Ref.{Bor}
use Rattle.aa_text_tokens.specs.Splicing.{Placed}
use Rattle.aa_text_tokens.specs.declared.spliced_token.Spliced.{Spliced}
use Rattle.aa_profile_parsing.specs.Parts.{Part}
use Rattle.aa_profile_parsing.specs.SeenTokens.{seen_tokens}
use Rattle.aa_profile_parsing.specs.declared.fault.Fault.{Fault}
use Rattle.aa_profile_parsing.specs.declared.fault.Fault.TheVariants.{Memory}

-- what was read, as the definitions see it, and the tokens after it are what a part reads in tokens
abbrev pub IsRead : {A B : Type 0} → (A → B) → (List Placed → Part B) → List Spliced → A × Bor (List Spliced) → Type 0
IsRead seen part tokens read = part (seen_tokens tokens) ≡ Ok (seen read.0, seen_tokens read.1.now)

-- a fault is the one with which a part refuses tokens
abbrev pub IsFault : {A : Type 0} → (List Placed → Result A Fault) → List Spliced → Fault → Type 0
IsFault part tokens fault = part (seen_tokens tokens) ≡ Err fault

-- a fault is the one with which a part refuses tokens, unless memory ran out
abbrev pub IsFaultOrMemory : {A : Type 0} → (List Placed → Result A Fault) → List Spliced → Fault → Type 0
IsFaultOrMemory part tokens fault = fault ≢ Memory → IsFault part tokens fault
