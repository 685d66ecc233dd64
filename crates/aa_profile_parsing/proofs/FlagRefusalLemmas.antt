-- Where FLAGS are refused, token by token.
use Rattle.std.proofs.Common.{◌≡◌, ℕ, true, List, [], ◌∷◌, ◌++◌, Option, None, Some, Result, Ok, Err, refl, ap, sym, ◌∙◌, subst, inl, inr}
use Rattle.std.specs.Prelude.{◌⊎◌, IsOk, codes}
use Rattle.std.specs.List.{list_all}
use Rattle.aa_text_tokens.specs.Splicing.{Placed}
use Rattle.aa_text_tokens.specs.declared.cut.TokenKind.{TokenKind}
use Rattle.aa_text_tokens.specs.declared.cut.TokenKind.TheVariants.{Include, Assign, Value, Quoted, Word, Comma, OpenBrace, CloseBrace}
use Rattle.aa_profile_parsing.specs.Parts.{Part, refused}
use Rattle.aa_profile_parsing.specs.Tokens.{place_of}
use Rattle.aa_profile_parsing.specs.declared.fault.Fault.{Fault}
use Rattle.aa_profile_parsing.specs.declared.fault.Fault.TheVariants.{At, RanOut}
use Rattle.aa_profile_parsing.specs.declared.fault.GrammarRefusal.{GrammarRefusal}
use Rattle.aa_profile_parsing.specs.declared.fault.GrammarRefusal.TheVariants.{BadToken}
use Rattle.aa_profile_parsing.specs.declared.language.Language.{Language}
use Rattle.aa_profile_parsing.specs.Flags.{finished, flags_behind, with_token}
use Rattle.aa_profile_parsing.specs.FlagRefusals.{FaultsAreTheFirst}
use Rattle.aa_profile_parsing.specs.FlagText.{is_flag_token}
use Rattle.aa_profile_parsing.specs.declared.flags.Flags.{Flags}
use Rattle.aa_profile_parsing.specs.declared.flags.FlagsSoFar.{FlagsSoFar}
use Rattle.aa_profile_parsing.specs.declared.flags.FlagsSoFar.TheVariants.{Absent, Keyword, Sign, Listing, Closed}

-- what comes of one token: a refusal, the end of FLAGS, or how far they have come
data Outcome : Type 0 where
  Refuses : (refusal : GrammarRefusal) → Outcome
  Ends : (flags : Flags) → Outcome
  Goes : (after : FlagsSoFar) → Outcome

abbrev of_finished : Option Flags → Outcome
of_finished None = Refuses BadToken
of_finished (Some found) = Ends found

abbrev of_found : Result FlagsSoFar GrammarRefusal → Outcome
of_found (Err refusal) = Refuses refusal
of_found (Ok after) = Goes after

module _ (language : Language) where
  abbrev outcome_at : FlagsSoFar → Placed → TokenKind → Outcome
  outcome_at before token kind = elim kind [ OpenBrace ↦ of_finished (finished before) | _ ↦ of_found (with_token language before token) ]

  abbrev outcome : FlagsSoFar → Placed → Outcome
  outcome before token = outcome_at before token token.token.kind

  -- what is read then
  abbrev read_then : Outcome → Placed → List Placed → Part (Flags × Placed)
  read_then (Refuses refusal) token tokens = refused refusal token
  read_then (Ends found) token tokens = Ok ((found, token), tokens)
  read_then (Goes after) token tokens = flags_behind language after tokens

  abbrev read_at : FlagsSoFar → Placed → List Placed → TokenKind → Part (Flags × Placed)
  read_at before token tokens kind = elim kind [
    | OpenBrace ↦ elim (finished before) [ None ↦ refused BadToken token | Some found ↦ Ok ((found, token), tokens) ]
    | _ ↦ elim (with_token language before token) [ Err refusal ↦ refused refusal token | Ok after ↦ flags_behind language after tokens ]
  ]

  -- one token, and then the others
  one-token : (before : FlagsSoFar) (token : Placed) (tokens : List Placed) → flags_behind language before (token ∷ tokens) ≡ read_then (outcome before token) token tokens
  one-token before token tokens = by token.token.kind
    where
      brace : (found : Option Flags)
          → (elim found [ None ↦ refused BadToken token | Some found ↦ Ok ((found, token), tokens) ]) ≡ read_then (of_finished found) token tokens
      brace None = refl
      brace (Some found) = refl

      other : (found : Result FlagsSoFar GrammarRefusal)
          → (elim found [ Err refusal ↦ refused refusal token | Ok after ↦ flags_behind language after tokens ]) ≡ read_then (of_found found) token tokens
      other (Err refusal) = refl
      other (Ok after) = refl

      by : (kind : TokenKind) → read_at before token tokens kind ≡ read_then (outcome_at before token kind) token tokens
      by OpenBrace = brace (finished before)
      by Word = other (with_token language before token)
      by Comma = other (with_token language before token)
      by (Include if_exists) = other (with_token language before token)
      by (Assign append) = other (with_token language before token)
      by Value = other (with_token language before token)
      by Quoted = other (with_token language before token)
      by CloseBrace = other (with_token language before token)

  -- the same, by what comes of the token
  token-gives : (before : FlagsSoFar) (token : Placed) (tokens : List Placed) (given : Outcome) → outcome before token ≡ given
      → flags_behind language before (token ∷ tokens) ≡ read_then given token tokens
  token-gives before token tokens given e = one-token before token tokens ∙ ap (λ given. read_then given token tokens) e

  -- tokens can go on, from how far FLAGS were read before them
  abbrev GoesOn : FlagsSoFar → List Placed → Type 0
  GoesOn before tokens =
      (more : List Placed) × (brace : Placed) × (list_all is_flag_token more ≡ true) × (brace.token.kind ≡ OpenBrace)
      × IsOk (flags_behind language before (tokens ++ (more ++ brace ∷ [])))

  abbrev token_of : TokenKind → List ℕ → Placed
  token_of kind text = record { file = 0; token = record { kind = kind; text = text; start = 0; end = 0 } }

  abbrev brace : Placed
  brace = token_of OpenBrace (codes "{")

  -- wherever FLAGS have come to, they can go on
  can-go_on : (before : FlagsSoFar) → GoesOn before []
  can-go_on Absent = ([], brace, refl, refl, refl)
  can-go_on Keyword = (token_of Word (codes "=()") ∷ [], brace, refl, refl, refl)
  can-go_on Sign = (token_of Word (codes "()") ∷ [], brace, refl, refl, refl)
  can-go_on (Listing found) = (token_of Word (codes ")") ∷ [], brace, refl, refl, refl)
  can-go_on (Closed found) = ([], brace, refl, refl, refl)

  -- one more token before those that can go on
  goes_on-behind : (before after : FlagsSoFar) (token : Placed) (tokens : List Placed) → outcome before token ≡ Goes after → GoesOn after tokens → GoesOn before (token ∷ tokens)
  goes_on-behind before after token tokens e (more, brace, are, is, read) =
      (more, brace, are, is, subst IsOk (sym (token-gives before token (tokens ++ (more ++ brace ∷ [])) (Goes after) e)) read)

  -- tokens are refused at the first with which they can't go on, from how far FLAGS were read before them
  record RefusedFrom (from : FlagsSoFar) (tokens : List Placed) (fault : Fault) : Type 0 where
    before : List Placed
    token : Placed
    behind : List Placed
    refusal : GrammarRefusal
    stands : tokens ≡ before ++ token ∷ behind
    told : fault ≡ At refusal (place_of token)
    goes_on : GoesOn from before
    ends : (more : List Placed) → flags_behind language from (before ++ token ∷ more) ≡ Err fault

  -- the same, or they run out
  abbrev FaultFrom : FlagsSoFar → List Placed → Fault → Type 0
  FaultFrom from tokens fault = RefusedFrom from tokens fault ⊎ ((fault ≡ RanOut) × GoesOn from tokens)

  abbrev failed : Fault → Part (Flags × Placed)
  failed fault = Err fault

  same-fault : (own fault : Fault) → failed own ≡ failed fault → fault ≡ own
  same-fault own fault h = cc

  not-failed : (read : (Flags × Placed) × List Placed) (fault : Fault) → Ok read ≡ failed fault → ⊥
  not-failed read fault h = absurd (cc)

  -- one more token before those in which a fault is found
  fault-behind : (from after : FlagsSoFar) (token : Placed) (tokens : List Placed) (fault : Fault) → outcome from token ≡ Goes after → FaultFrom after tokens fault
      → FaultFrom from (token ∷ tokens) fault
  fault-behind from after token tokens fault e (inl rest) = inl (record {
    before = token ∷ rest.before;
    token = rest.token;
    behind = rest.behind;
    refusal = rest.refusal;
    stands = ap (λ tokens. token ∷ tokens) rest.stands;
    told = rest.told;
    goes_on = goes_on-behind from after token rest.before e rest.goes_on;
    ends = λ others. token-gives from token (rest.before ++ rest.token ∷ others) (Goes after) e ∙ rest.ends others;
  })
  fault-behind from after token tokens fault e (inr rest) = inr (rest.0, goes_on-behind from after token tokens e rest.1)

  fault-from : (from : FlagsSoFar) (tokens : List Placed) (fault : Fault) → flags_behind language from tokens ≡ Err fault → FaultFrom from tokens fault
  fault-from from [] fault h = inr (same-fault RanOut fault h, can-go_on from)
  fault-from from (token ∷ tokens) fault h =
      by (outcome from token) refl (sym (one-token from token tokens) ∙ h) (λ (after : FlagsSoFar). fault-from after tokens fault)
    where
      by : (given : Outcome) → outcome from token ≡ given → read_then given token tokens ≡ Err fault
          → ((after : FlagsSoFar) → flags_behind language after tokens ≡ Err fault → FaultFrom after tokens fault)
          → FaultFrom from (token ∷ tokens) fault
      by (Refuses own) e h more = inl (record {
        before = [];
        token = token;
        behind = tokens;
        refusal = own;
        stands = refl;
        told = same-fault (At own (place_of token)) fault h;
        goes_on = can-go_on from;
        ends = λ others. token-gives from token others (Refuses own) e ∙ h;
      })
      by (Ends found) e h more = absurd (not-failed ((found, token), tokens) fault h)
      by (Goes after) e h more = fault-behind from after token tokens fault e (more after h)

-- each refusal is at the first token with which nothing that could follow would be accepted, and tokens run out only where they can go on
pub faults-are_the_first : FaultsAreTheFirst
faults-are_the_first language tokens fault h = elim (fault-from language Absent tokens fault h) [
  | inl found ↦ inl (record {
    before = found.before;
    token = found.token;
    behind = found.behind;
    refusal = found.refusal;
    stands = found.stands;
    told = found.told;
    goes_on = found.goes_on;
    ends = found.ends;
  })
  | inr found ↦ inr found
]
