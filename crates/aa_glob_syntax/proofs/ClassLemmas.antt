-- What the members of a class come to, by the symbol that comes first.
use Rattle.std.proofs.Common.{◌≡◌, ◌∙◌, ◌≤◌, nat_lt, arith, ap, refl, true, false, List, ◌∷◌, [], ◌++◌, if◌then◌else◌, Result, Ok, Err}
use Rattle.std.proofs.lemmas.Bool.{false≢true}
use Rattle.std.proofs.lemmas.Bool.Decides.{nat_tests}
use Rattle.aa_bytes.specs.Bytes.{closing_bracket, dash}
use Rattle.aa_glob_syntax.specs.Classes.{behind_range, is_range, members, range}
use Rattle.aa_glob_syntax.specs.Elements.{behind_class}
use Rattle.aa_glob_syntax.specs.Symbols.{byte_of, is_broken, is_plain}
use Rattle.aa_glob_syntax.specs.code.Parts.{ReachesTo}
use Rattle.aa_bytes.specs.declared.byte_set.ByteRange.{ByteRange}
use Rattle.aa_glob_syntax.specs.declared.pattern_error.PatternError.{PatternError}
use Rattle.aa_glob_syntax.specs.declared.pattern_error.PatternError.TheVariants.{BadEscape}
use Rattle.aa_glob_syntax.specs.declared.symbol.Symbol.{Symbol}
use Rattle.aa_glob_syntax.specs.declared.symbol.Symbol.TheVariants.{Plain, Escaped, Broken}

-- what they come to behind a member's first symbol
abbrev pub behind_first : List ByteRange → Symbol → List Symbol → Result (List ByteRange) PatternError
behind_first before first (link ∷ end ∷ ls) =
    if is_range (link ∷ end ∷ ls) then behind_range first end (members (before ++ range first end ∷ []) ls) else members (before ++ range first first ∷ []) (link ∷ end ∷ ls)
behind_first before first ls = members (before ++ range first first ∷ []) ls

pub members-first : (before : List ByteRange) (first : Symbol) (ls : List Symbol)
    → members before (first ∷ ls) ≡ (if is_plain closing_bracket first then Ok before else if is_broken first then Err BadEscape else behind_first before first ls)
members-first before first [] = refl
members-first before first (link ∷ []) = refl
members-first before first (link ∷ end ∷ ls) = refl

pub behind_first-alone : (before : List ByteRange) (first : Symbol) (ls : List Symbol) → is_range ls ≡ false → behind_first before first ls ≡ members (before ++ range first first ∷ []) ls
behind_first-alone before first [] other = refl
behind_first-alone before first (l ∷ []) other = refl
behind_first-alone before first (l ∷ end ∷ ls) other = rw other refl

-- a member that is one byte alone, and a range
pub members-alone : (before : List ByteRange) (first : Symbol) (ls : List Symbol) → is_plain closing_bracket first ≡ false → is_broken first ≡ false → is_range ls ≡ false
    → members before (first ∷ ls) ≡ members (before ++ range first first ∷ []) ls
members-alone before first ls opens whole other = members-first before first ls ∙ rw (opens, whole) (behind_first-alone before first ls other)

pub members-range : (before : List ByteRange) (first link end : Symbol) (ls : List Symbol) → is_plain closing_bracket first ≡ false → is_broken first ≡ false → is_plain dash link ≡ true → is_plain closing_bracket end ≡ false
    → members before (first ∷ link ∷ end ∷ ls) ≡ behind_range first end (members (before ++ range first end ∷ []) ls)
members-range before first link end ls opens whole dash inner = rw (opens, whole, dash, inner) refl

-- a range has no `]` that closes its class
pub is_dash : (l : Symbol) → is_plain dash l ≡ true → l ≡ Plain dash
is_dash (Plain c) plain = ap Plain (grind (arith, nat_tests))
is_dash (Escaped c) plain = absurd (false≢true plain)
is_dash Broken plain = absurd (false≢true plain)

pub behind_class-range : (first link end : Symbol) (ls : List Symbol) → is_plain closing_bracket first ≡ false → is_plain dash link ≡ true → is_plain closing_bracket end ≡ false → behind_class (first ∷ link ∷ end ∷ ls) ≡ behind_class ls
behind_class-range first link end ls opens dash inner = rw (opens, is_dash link dash, inner) refl

-- what was read of a class, whatever members came before
abbrev Reads : Symbol → List Symbol → ByteRange → List Symbol → Type 0
Reads first ls member rest =
    ((before : List ByteRange) → members before (first ∷ ls) ≡ members (before ++ member ∷ []) rest)
    × (behind_class (first ∷ ls) ≡ behind_class rest)

pub Reads-alone : (first : Symbol) (ls : List Symbol) (member : ByteRange) → is_plain closing_bracket first ≡ false → is_broken first ≡ false → is_range ls ≡ false → member ≡ range first first → Reads first ls member ls
Reads-alone first ls member opens whole other is_member = (λ before. rw is_member (members-alone before first ls opens whole other), rw opens refl)

pub Reads-range : (first end : Symbol) (ls rest : List Symbol) (member : ByteRange) → is_plain closing_bracket first ≡ false → is_broken first ≡ false → ReachesTo end rest ls
    → is_broken end ≡ false → byte_of first ≤ byte_of end → member ≡ range first end → Reads first ls member rest
Reads-range first end ls rest member opens whole reaches unbroken ordered is_member =
    let fits : nat_lt (byte_of end) (byte_of first) ≡ false = grind (arith, nat_tests) in (
      λ before. rw (is_member, reaches.1) (members-range before first reaches.0 end rest opens whole reaches.2 reaches.3 ∙ rw (unbroken, fits) refl),
      rw reaches.1 (behind_class-range first reaches.0 end rest opens reaches.2 reaches.3),
    )
