-- What a parse gives, where no argument has to be there and none has a default.
use Rattle.std.proofs.Common.{◌≡◌, ◌∙◌, false, true, [], ◌∷◌, List, Option, None, Some, refl, sym, ap, subst}
use Rattle.std.specs.Prelude.{option_map, unwrap_or}
use Rattle.std.specs.Borrow.{Bor}
use Rattle.aa_start.specs.Given.{FailsAs, GivesRows}
use Rattle.aa_start.specs.Options.{Asked, ForHelp, ForThis, ForVersion, Nothing}
use Rattle.aa_start.specs.Parsing.{IsReadAs, with_defaults}
use Rattle.aa_start.specs.Texts.{words_of}
use Rattle.aa_start.proofs.FaultLemmas.{AreKindsFor, Fails}
use Rattle.clap.specs.Simple.{built}
use Rattle.clap.specs.Faults.{check_fault}
use Rattle.clap.specs.Words.{App, Row, Text, fault_of, is_simple, is_simple_and_free, matches_of}
use Rattle.clap.specs.declared.error.kind.ErrorKind.TheVariants as kind

-- no argument has to be there, and none has a default
abbrev pub WantsNothing : App → Type 0
WantsNothing line = ((rows : List Row) → with_defaults line rows ≡ rows) × ((rows : List Row) → check_fault (built line).top rows false ≡ [])

pub kinds_asked : {A : Type 0} (line : App) (Shows : A → List Row → Type 0) (words : List Text) (a : Asked A) → WantsNothing line → IsReadAs line Shows words a
    → AreKindsFor a (fault_of line words)
kinds_asked line Shows words (ForThis given) free is = is.3 ∙ free.1 (with_defaults line is.0)
kinds_asked line Shows words ForHelp free is = is
kinds_asked line Shows words ForVersion free is = is
kinds_asked line Shows words Nothing free is = is

-- where there is no fault, the rows show what is asked for
pub rows_asked : {A : Type 0} (line : App) (Shows : A → List Row → Type 0) (words : List Text) (a : Asked A) → WantsNothing line → IsReadAs line Shows words a
    → fault_of line words ≡ [] → (given : A) × (a ≡ ForThis given) × Shows given (matches_of line words)
rows_asked line Shows words (ForThis given) free is none = (given, refl, subst (Shows given) (sym (is.2 ∙ free.0 is.0)) is.1)
rows_asked line Shows words ForHelp free is none = absurd (let bad : kind.DisplayHelp ∷ [] ≡ [] = sym is ∙ none in cc)
rows_asked line Shows words ForVersion free is none = absurd (let bad : kind.DisplayVersion ∷ [] ≡ [] = sym is ∙ none in cc)
rows_asked line Shows words Nothing free is none = absurd (let bad : is.0 ∷ [] ≡ [] = sym is.1 ∙ none in cc)

-- what is said of the line that was built is said of the line that is meant
pub fails_of : (app line : App) (words : List Text) (fault : _) → app ≡ line → is_simple_and_free line ≡ true → FailsAs app words fault → Fails (fault_of line words) fault
fails_of app line words fault same free fails = subst (λ (app : App). FailsAs app words fault) same fails free

pub rows_of_line : (app line : App) (words : List Text) (rows : List Row) → app ≡ line → is_simple_and_free line ≡ true → is_simple line ≡ true → GivesRows app words rows
    → (fault_of line words ≡ []) × (rows ≡ matches_of line words)
rows_of_line app line words rows same free simple gives = subst (λ (app : App). GivesRows app words rows) same gives free simple

-- a text that is given, or the one in its place
pub text_or : (found : Option (Bor Text)) (other : Bor Text) → (unwrap_or found other).now ≡ unwrap_or (option_map (λ text. text.now) found) other.now
text_or None other = refl
text_or (Some text) other = refl

-- the words that are given, or none
pub words_or : (found : Option (Bor (List (Bor Text)))) (other : Bor (List (Bor Text))) → other.now ≡ []
    → words_of (unwrap_or found other).now ≡ unwrap_or (option_map (λ given. words_of given.now) found) []
words_or None other none = ap words_of none
words_or (Some given) other none = refl
