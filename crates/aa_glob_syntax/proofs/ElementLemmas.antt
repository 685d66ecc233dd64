-- What comes next in a text, and the set of a class.
use Rattle.std.proofs.Common.{◌≡◌, ◌≢◌, ◌∙◌, ℕ, ◌==◌, ◌&&◌, Bool, true, false, not, List, [], ◌∷◌, refl, sym, ap, inl, inr, if◌then◌else◌, Result, Ok, Err, is_ok}
use Rattle.std.proofs.lemmas.Bool.{cases_Bool, false≢true, ne_eqb}
use Rattle.aa_bytes.specs.ByteSets.{has, is_listed}
use Rattle.aa_bytes.specs.declared.byte_set.ByteRange.{ByteRange}
use Rattle.aa_bytes.specs.declared.byte_set.ByteSet.{ByteSet}
use Rattle.aa_bytes.specs.declared.byte_set.ByteSet.TheVariants.{Class}
use Rattle.aa_glob_syntax.specs.Classes.{class, set_of, set_read}
use Rattle.aa_glob_syntax.specs.Cursor.{BeginWithFault}
use Rattle.aa_glob_syntax.specs.Elements.{behind_class, behind_stars, class_element, elements}
use Rattle.aa_glob_syntax.specs.declared.context.Context.{Context}
use Rattle.aa_glob_syntax.specs.declared.context.Context.TheVariants.{AfterStar, Elsewhere}
use Rattle.aa_glob_syntax.specs.declared.pattern_error.PatternError.{PatternError}
use Rattle.aa_glob_syntax.specs.declared.symbol.Symbol.{Symbol}
use Rattle.aa_glob_syntax.specs.declared.symbol.Symbol.TheVariants.{Plain, Escaped, Broken}
use mathlib.Core.Bool.{beq}

-- the members of a class that reads as a set
pub set_of-read : (negated : Bool) (read : Result (List ByteRange) PatternError) (set : Result ByteSet PatternError) → set ≡ set_of negated read → is_ok set ≡ true
    → (ranges : List ByteRange) × (read ≡ Ok ranges) × (set_read set ≡ Class negated ranges)
set_of-read negated (Err error) set is_set reads = absurd (false≢true (sym (ap is_ok is_set) ∙ reads))
set_of-read negated (Ok []) set is_set reads = absurd (false≢true (sym (ap is_ok is_set) ∙ reads))
set_of-read negated (Ok (range ∷ ranges)) set is_set reads = (range ∷ ranges, refl, ap set_read is_set)

pub Ok-set_read : (set : Result ByteSet PatternError) → is_ok set ≡ true → set ≡ Ok (set_read set)
Ok-set_read (Ok set) reads = refl
Ok-set_read (Err error) reads = absurd (false≢true reads)

differs : (negated listed : Bool) → not (beq negated listed) ≡ (if negated then not listed else listed)
differs true true = refl
differs true false = refl
differs false true = refl
differs false false = refl

-- a class has a byte that it lists, or, where it is negated, one that it doesn't list
pub has-class : (negated listed : Bool) (b : ℕ) (ranges : List ByteRange) (set : ByteSet) → b ≢ 0 → set ≡ Class negated ranges → listed ≡ is_listed b ranges → not (beq negated listed) ≡ has set b
has-class negated listed b ranges set some is_set is_in =
    differs negated listed ∙ ap (λ l. if negated then not l else l) is_in
    ∙ ap (λ z. not z && (if negated then not (is_listed b ranges) else is_listed b ranges)) (sym (ne_eqb b 0 some))
    ∙ ap (λ s. has s b) (sym is_set)

-- a class at fault
pub BeginWithFault-class : (context : Context) (ls : List Symbol) (error : PatternError) → class ls ≡ Err error → BeginWithFault error (elements context (Plain 91 ∷ ls))
BeginWithFault-class context ls error refused = (behind_class ls, ap (λ set. class_element set ∷ behind_class ls) refused)

-- stars that go on add nothing
elements-behind_stars : (ls : List Symbol) → elements AfterStar ls ≡ elements Elsewhere (behind_stars ls)
elements-behind_stars [] = refl
elements-behind_stars (Broken ∷ ls) = refl
elements-behind_stars (Escaped b ∷ ls) = refl
elements-behind_stars (Plain b ∷ ls) = elim (cases_Bool (b == 42)) [
  | inl goes_on ↦ rw goes_on (elements-behind_stars ls)
  | inr other ↦ rw (other, other) refl
]

pub elements-passed : (context : Context) (ls ms : List Symbol) → context ≡ AfterStar → ms ≡ behind_stars ls → elements context ls ≡ elements Elsewhere ms
elements-passed context ls ms in_run passed = ap (λ x. elements x ls) in_run ∙ elements-behind_stars ls ∙ ap (elements Elsewhere) (sym passed)
