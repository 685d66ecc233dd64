-- What may come before the profiles of a file: assignments of variables, and which version of the language is meant, which decides nothing
-- (apparmor.d(5), "PREAMBLE"; docs/policy.md, "Files").
use Rattle.std.specs.Prelude.{ℕ, Bool, true, false, ◌==◌, if◌then◌else◌, List, [], ◌∷◌, take, drop, Result, Ok, Err, codes}
use Rattle.std.specs.List.{prefix_len}
use Rattle.aa_text_tokens.specs.Splicing.{Placed}
use Rattle.aa_text_tokens.specs.declared.cut.TokenKind.{TokenKind}
use Rattle.aa_text_tokens.specs.declared.cut.TokenKind.TheVariants.{Assign, Value}
use Rattle.aa_profile_grammar.specs.Sequences.{rows, skipped}
use Rattle.aa_profile_grammar.specs.declared.sequence.Next.{Next}
use Rattle.aa_profile_grammar.specs.declared.sequence.Next.TheVariants.{End, Item}
use Rattle.aa_profile_parsing.specs.Parts.{Part, behind_comma, expected, followed, unexpected}
use Rattle.aa_profile_parsing.specs.Tokens.{is_text, is_word_of}
use Rattle.aa_profile_parsing.specs.declared.fault.Fault.{Fault}

-- an assignment: the token that names the variable, whether its sign is `+=`, and the tokens of its values
pub record Assignment : Type 0 where
  pub sign : Placed
  pub append : Bool
  pub values : List Placed

abbrev pub is_value : TokenKind → Bool
is_value Value = true
is_value _ = false

-- with how many values tokens begin
abbrev pub value_count : List Placed → ℕ
value_count tokens = prefix_len (λ token. is_value token.token.kind) tokens

-- an assignment, after its sign: at least one value
abbrev pub assignment : Placed → Bool → List Placed → Part Assignment
assignment sign append tokens =
    if value_count tokens == 0
    then Err (unexpected tokens)
    else Ok (record { sign = sign; append = append; values = take (value_count tokens) tokens }, drop (value_count tokens) tokens)

-- what follows the version of the language, which is a text and a Comma after the word `abi`
abbrev pub behind_version : List Placed → Result (List Placed) Fault
behind_version tokens = followed (expected is_text tokens) (λ text behind. behind_comma behind)

-- what comes next before the profiles, where it is no assignment: a version of the language, or the end
abbrev pub version_or_end : List Placed → Part (Next Assignment)
version_or_end [] = Ok (End, [])
version_or_end (token ∷ tokens) = if is_word_of (codes "abi") token then skipped (behind_version tokens) else Ok (End, token ∷ tokens)

-- what comes next before the profiles
abbrev pub next_assignment : List Placed → Part (Next Assignment)
next_assignment [] = Ok (End, [])
next_assignment (token ∷ tokens) = elim token.token.kind [
  | Assign append ↦ followed (assignment token append tokens) (λ assignment behind. Ok (Item assignment, behind))
  | _ ↦ version_or_end (token ∷ tokens)
]

-- the assignments before the profiles
abbrev pub preamble : List Placed → Part (List Assignment)
preamble tokens = rows (λ read. next_assignment) tokens
