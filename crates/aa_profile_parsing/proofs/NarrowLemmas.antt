-- The mode flags of language 3.
use Rattle.std.proofs.Common.{ℕ, Bool, true, false, List, [], ◌∷◌, take, drop, Option, None, Some, Result, Ok, Err}
use Rattle.std.specs.Prelude.{◌==◌, ◌≢◌, IfOk, IfSome, if◌then◌else◌, codes, not}
use Rattle.std.specs.List.{prefix_len, slice_split}
use Rattle.std.specs.Str.{bytes_eq}
use Rattle.aa_bytes.specs.Bytes.{closing_parenthesis, equals, opening_parenthesis}
use Rattle.aa_bytes.specs.Texts.{begins_with, begins_with_byte, is_empty}
use Rattle.aa_text_tokens.specs.Splicing.{Placed}
use Rattle.aa_text_tokens.specs.declared.cut.TokenKind.{TokenKind}
use Rattle.aa_text_tokens.specs.declared.cut.TokenKind.TheVariants.{Include, Assign, Value, Quoted, Word, Comma, OpenBrace, CloseBrace}
use Rattle.aa_profile_parsing.specs.Parts.{Part, refused}
use Rattle.aa_profile_parsing.specs.Tokens.{text_of}
use Rattle.aa_profile_parsing.specs.declared.fault.GrammarRefusal.{GrammarRefusal}
use Rattle.aa_profile_parsing.specs.declared.fault.GrammarRefusal.TheVariants.{BadFlag, BadToken}
use Rattle.aa_profile_parsing.specs.declared.language.Language.TheVariants.{Three}
use Rattle.aa_profile_parsing.specs.Flags.{behind_keyword, behind_sign, finished, flags, flags_behind, is_idle, listed, mode_flag, opened, refusal_of_word, same_mode, separates, unflagged, with_comma, with_flag, with_flags, with_item, with_mode, with_token, with_word}
use Rattle.aa_profile_parsing.specs.NarrowFlags.{HasNarrowMode}
use Rattle.aa_profile_parsing.specs.declared.flags.Flags.{Flags}
use Rattle.aa_profile_parsing.specs.declared.flags.FlagsSoFar.{FlagsSoFar}
use Rattle.aa_profile_parsing.specs.declared.flags.FlagsSoFar.TheVariants.{Absent, Keyword, Sign, Listing, Closed}
use Rattle.aa_profile_parsing.specs.declared.flags.ModeFlag.{ModeFlag}
use Rattle.aa_profile_parsing.specs.declared.flags.ModeFlag.TheVariants.{Complain, DefaultAllow, Enforce, Unconfined}

-- what comes of what was found has a property, where it has it whatever was found
found-then : {A B E : Type 0} (P : A → Type 0) (Q : B → Type 0) (found : Result A E) (next : A → Result B E) → IfOk found P
    → ((a : A) → P a → IfOk (next a) Q) → IfOk (elim found [ Err refusal ↦ Err refusal | Ok a ↦ next a ]) Q
found-then P Q (Err refusal) next h more = tt
found-then P Q (Ok a) next h more = more a h

-- what is found has a property, where it has it whichever is taken
either : {A E : Type 0} (P : A → Type 0) (test : Bool) (one other : Result A E) → IfOk one P → IfOk other P → IfOk (if test then one else other) P
either P true one other h k = h
either P false one other h k = k

-- a mode flag, if there is one, is none of language 4 alone
abbrev Narrow : Option ModeFlag → Type 0
Narrow mode = (mode ≢ Some Unconfined) × (mode ≢ Some DefaultAllow)

none-narrow : Narrow None
none-narrow = ((λ wrong. absurd (cc)), (λ wrong. absurd (cc)))

-- language 3 has no others
mode_flag-narrow : (word : List ℕ) → Narrow (mode_flag Three word)
mode_flag-narrow word = by (bytes_eq word (codes "enforce")) (bytes_eq word (codes "complain"))
  where
    by : (enforces complains : Bool) → Narrow (if enforces then Some Enforce else if complains then Some Complain else None)
    by true complains = ((λ wrong. absurd (cc)), (λ wrong. absurd (cc)))
    by false true = ((λ wrong. absurd (cc)), (λ wrong. absurd (cc)))
    by false false = none-narrow

with_mode-narrow : (before : Option ModeFlag) (audit : Bool) (mode : ModeFlag) → Narrow before → Narrow (Some mode)
    → IfOk (with_mode (record { mode = before; audit = audit }) mode) HasNarrowMode
with_mode-narrow None audit mode h k = k
with_mode-narrow (Some before) audit mode h k =
    either HasNarrowMode (same_mode before mode) (Ok (record { mode = Some before; audit = audit })) (Err BadFlag) h tt

with_flag-narrow : (before : Flags) (word : List ℕ) → HasNarrowMode before → IfOk (with_flag Three before word) HasNarrowMode
with_flag-narrow before word h = by (mode_flag Three word) (mode_flag-narrow word)
  where
    other : Bool → Bool → Result Flags GrammarRefusal
    other audit idle =
        if audit then Ok (record { mode = before.mode; audit = true }) else if idle then Ok before else Err (refusal_of_word Three word)

    idle-narrow : (audit idle : Bool) → IfOk (other audit idle) HasNarrowMode
    idle-narrow true idle = h
    idle-narrow false true = h
    idle-narrow false false = tt

    told : Option ModeFlag → Result Flags GrammarRefusal
    told found = elim found [ Some mode ↦ with_mode before mode | None ↦ other (bytes_eq word (codes "audit")) (is_idle Three word) ]

    by : (found : Option ModeFlag) → Narrow found → IfOk (told found) HasNarrowMode
    by None k = idle-narrow (bytes_eq word (codes "audit")) (is_idle Three word)
    by (Some mode) k = with_mode-narrow before.mode before.audit mode h k

with_flags-narrow : (before : Flags) (words : List (List ℕ)) → HasNarrowMode before → IfOk (with_flags Three before words) HasNarrowMode
with_flags-narrow before [] h = h
with_flags-narrow before (word ∷ words) h =
    found-then HasNarrowMode HasNarrowMode (with_item Three before word) (λ more. with_flags Three more words)
    (either HasNarrowMode (is_empty word) (Ok before) (with_flag Three before word) h (with_flag-narrow before word h))
    (λ more k. with_flags-narrow more words k)

-- so far as FLAGS were read
abbrev NarrowSoFar : FlagsSoFar → Type 0
NarrowSoFar Absent = Unit {0}
NarrowSoFar Keyword = Unit {0}
NarrowSoFar Sign = Unit {0}
NarrowSoFar (Listing found) = HasNarrowMode found
NarrowSoFar (Closed found) = HasNarrowMode found

listed-narrow : (before : Flags) (text : List ℕ) → HasNarrowMode before → IfOk (listed Three before text) NarrowSoFar
listed-narrow before text h =
    let size = prefix_len (λ b. not (b == closing_parenthesis)) text in
    found-then HasNarrowMode NarrowSoFar (with_flags Three before (slice_split separates (take size text))) (λ more. ended more (drop size text))
    (with_flags-narrow before (slice_split separates (take size text)) h) (λ more k. by more (drop size text) k)
  where
    ended : Flags → List ℕ → Result FlagsSoFar GrammarRefusal
    ended more behind = elim behind [ [] ↦ Ok (Listing more) | parenthesis ∷ behind ↦ if is_empty behind then Ok (Closed more) else Err BadToken ]

    by : (more : Flags) (behind : List ℕ) → HasNarrowMode more → IfOk (ended more behind) NarrowSoFar
    by more [] k = k
    by more (parenthesis ∷ behind) k = either NarrowSoFar (is_empty behind) (Ok (Closed more)) (Err BadToken) k tt

opened-narrow : (text : List ℕ) → IfOk (opened Three text) NarrowSoFar
opened-narrow text =
    either NarrowSoFar (begins_with_byte opening_parenthesis text) (listed Three unflagged (drop 1 text)) (Err BadToken)
    (listed-narrow unflagged (drop 1 text) none-narrow) tt

behind_sign-narrow : (text : List ℕ) → IfOk (behind_sign Three text) NarrowSoFar
behind_sign-narrow text = either NarrowSoFar (is_empty text) (Ok Sign) (opened Three text) tt (opened-narrow text)

behind_keyword-narrow : (text : List ℕ) → IfOk (behind_keyword Three text) NarrowSoFar
behind_keyword-narrow text =
    either NarrowSoFar (is_empty text) (Ok Keyword) (signed (begins_with_byte equals text)) tt
    (either NarrowSoFar (begins_with_byte equals text) (behind_sign Three (drop 1 text)) (Err BadToken) (behind_sign-narrow (drop 1 text)) tt)
  where
    signed : Bool → Result FlagsSoFar GrammarRefusal
    signed sign = if sign then behind_sign Three (drop 1 text) else Err BadToken

with_word-narrow : (before : FlagsSoFar) (text : List ℕ) → NarrowSoFar before → IfOk (with_word Three before text) NarrowSoFar
with_word-narrow Absent text h =
    either NarrowSoFar (begins_with (codes "flags") text) (behind_keyword Three (drop 5 text)) (opened Three text)
    (behind_keyword-narrow (drop 5 text)) (opened-narrow text)
with_word-narrow Keyword text h = behind_keyword-narrow text
with_word-narrow Sign text h = behind_sign-narrow text
with_word-narrow (Listing found) text h = listed-narrow found text h
with_word-narrow (Closed found) text h = tt

with_comma-narrow : (before : FlagsSoFar) → NarrowSoFar before → IfOk (with_comma before) NarrowSoFar
with_comma-narrow Absent h = tt
with_comma-narrow Keyword h = tt
with_comma-narrow Sign h = tt
with_comma-narrow (Listing found) h = h
with_comma-narrow (Closed found) h = tt

with_token-narrow : (before : FlagsSoFar) (token : Placed) → NarrowSoFar before → IfOk (with_token Three before token) NarrowSoFar
with_token-narrow before token h = by token.token.kind
  where
    told : TokenKind → Result FlagsSoFar GrammarRefusal
    told kind = elim kind [ Word ↦ with_word Three before (text_of token) | Comma ↦ with_comma before | _ ↦ Err BadToken ]

    by : (kind : TokenKind) → IfOk (told kind) NarrowSoFar
    by Word = with_word-narrow before (text_of token) h
    by Comma = with_comma-narrow before h
    by (Include if_exists) = tt
    by (Assign append) = tt
    by Value = tt
    by Quoted = tt
    by OpenBrace = tt
    by CloseBrace = tt

finished-narrow : (read : FlagsSoFar) → NarrowSoFar read → IfSome (finished read) HasNarrowMode
finished-narrow Absent h = none-narrow
finished-narrow Keyword h = tt
finished-narrow Sign h = tt
finished-narrow (Listing found) h = tt
finished-narrow (Closed found) h = h

behind-narrow : (before : FlagsSoFar) (tokens : List Placed) → NarrowSoFar before → IfOk (flags_behind Three before tokens) (λ read. HasNarrowMode read.0.0)
behind-narrow before [] h = tt
behind-narrow before (token ∷ tokens) h = by token.token.kind (other (with_token Three before token) (with_token-narrow before token h) (λ after k. behind-narrow after tokens k))
  where
    ended : Option Flags → Part (Flags × Placed)
    ended found = elim found [ None ↦ refused BadToken token | Some found ↦ Ok ((found, token), tokens) ]

    brace : (found : Option Flags) → IfSome found HasNarrowMode → IfOk (ended found) (λ read. HasNarrowMode read.0.0)
    brace None k = tt
    brace (Some found) k = k

    goes : Result FlagsSoFar GrammarRefusal → Part (Flags × Placed)
    goes found = elim found [ Err refusal ↦ refused refusal token | Ok after ↦ flags_behind Three after tokens ]

    other : (found : Result FlagsSoFar GrammarRefusal) → IfOk found NarrowSoFar
        → ((after : FlagsSoFar) → NarrowSoFar after → IfOk (flags_behind Three after tokens) (λ read. HasNarrowMode read.0.0))
        → IfOk (goes found) (λ read. HasNarrowMode read.0.0)
    other (Err refusal) k more = tt
    other (Ok after) k more = more after k

    told : TokenKind → Part (Flags × Placed)
    told kind = elim kind [ OpenBrace ↦ ended (finished before) | _ ↦ goes (with_token Three before token) ]

    by : (kind : TokenKind) → IfOk (goes (with_token Three before token)) (λ read. HasNarrowMode read.0.0) → IfOk (told kind) (λ read. HasNarrowMode read.0.0)
    by OpenBrace k = brace (finished before) (finished-narrow before h)
    by Word k = k
    by Comma k = k
    by (Include if_exists) k = k
    by (Assign append) k = k
    by Value k = k
    by Quoted k = k
    by CloseBrace k = k

-- whatever FLAGS are read
pub flags-narrow : (tokens : List Placed) → IfOk (flags Three tokens) (λ read. HasNarrowMode read.0.0)
flags-narrow tokens = behind-narrow Absent tokens tt
