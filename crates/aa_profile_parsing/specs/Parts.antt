-- Parts of a file's grammar. A part is a function from tokens to what it reads and the tokens after it, or to a fault: a refusal at the first token,
-- from the left, that the grammar doesn't take at its place, or that the tokens ran out.
use Rattle.std.specs.Prelude.{Bool, if◌then◌else◌, List, [], ◌∷◌, Result, Ok, Err}
use Rattle.aa_text_tokens.specs.Splicing.{Placed}
use Rattle.aa_profile_parsing.specs.Tokens.{is_comma, place_of}
use Rattle.aa_profile_parsing.specs.declared.fault.Fault.{Fault}
use Rattle.aa_profile_parsing.specs.declared.fault.Fault.TheVariants.{At, RanOut}
use Rattle.aa_profile_parsing.specs.declared.fault.GrammarRefusal.{GrammarRefusal}
use Rattle.aa_profile_parsing.specs.declared.fault.GrammarRefusal.TheVariants.{BadToken}

-- the result of a part
abbrev pub Part : Type 0 → Type 0
Part A = Result (A × List Placed) Fault

-- a refusal at a token
abbrev pub refused : {A : Type 0} → GrammarRefusal → Placed → Result A Fault
refused refusal token = Err (At refusal (place_of token))

-- the first token, where it fits
abbrev pub expected : (Placed → Bool) → List Placed → Part Placed
expected fits [] = Err RanOut
expected fits (token ∷ tokens) = if fits token then Ok (token, tokens) else refused BadToken token

-- the fault where none of the tokens that may come next is there
abbrev pub unexpected : List Placed → Fault
unexpected [] = RanOut
unexpected (token ∷ tokens) = At BadToken (place_of token)

-- what follows the Comma with which tokens begin
abbrev pub behind_comma : List Placed → Result (List Placed) Fault
behind_comma [] = Err RanOut
behind_comma (token ∷ tokens) = if is_comma token.token.kind then Ok tokens else refused BadToken token

-- a part followed by another, by what the first reads and the tokens after it; its fault stays as it is
abbrev pub followed : {A B : Type 0} → Part A → (A → List Placed → Result B Fault) → Result B Fault
followed part next = elim part [ Err fault ↦ Err fault | Ok read ↦ next read.0 read.1 ]
