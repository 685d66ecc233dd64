-- No element of a text is a group: the braces and commas of groups are elements of their own.
use Rattle.std.proofs.Common.{ℕ, Bool, true, false, ◌==◌, if◌then◌else◌, List, [], ◌∷◌, ◌++◌, Result, Ok, Err}
use Rattle.aa_bytes.specs.Bytes.{closing_brace, closing_bracket, comma, opening_brace, opening_bracket, question_mark, star}
use Rattle.aa_bytes.specs.declared.byte_set.ByteSet.{ByteSet}
use Rattle.aa_glob_syntax.specs.Classes.{class}
use Rattle.aa_glob_syntax.specs.Elements.{Element, Single, Open, Comma, Close, Fault, begins_plain, behind_class, class_element, context_after, elements, is_whole_segment, run, stars}
use Rattle.aa_glob_syntax.specs.Items.{Byte, Set, Star, DoubleStar, Group}
use Rattle.aa_glob_syntax.specs.Symbols.{is_plain, symbols}
use Rattle.aa_glob_syntax.specs.declared.context.Context.{Context}
use Rattle.aa_glob_syntax.specs.declared.context.Context.TheVariants.{AfterSlash, AfterStar, Elsewhere}
use Rattle.aa_glob_syntax.specs.declared.pattern_error.PatternError.{PatternError}
use Rattle.aa_glob_syntax.specs.declared.symbol.Symbol.{Symbol}
use Rattle.aa_glob_syntax.specs.declared.symbol.Symbol.TheVariants.{Plain, Escaped, Broken}
use Rattle.aa_glob_pattern.specs.Elements.{elements_of}
use Rattle.aa_glob_pattern.specs.Trails.{depth_behind, grouped}

-- an element is no group
abbrev pub IsPlain : Element → Type 0
IsPlain (Single (Byte b)) = Unit
IsPlain (Single (Set set)) = Unit
IsPlain (Single Star) = Unit
IsPlain (Single DoubleStar) = Unit
IsPlain (Single (Group first second others)) = ⊥
IsPlain Open = Unit
IsPlain Comma = Unit
IsPlain Close = Unit
IsPlain (Fault error) = Unit

-- none of these elements is one
abbrev pub ArePlain : List Element → Type 0
ArePlain [] = Unit
ArePlain (e ∷ es) = IsPlain e × ArePlain es

plain-if : (c : Bool) (es fs : List Element) → ArePlain es → ArePlain fs → ArePlain (if c then es else fs)
plain-if true es fs first second = first
plain-if false es fs first second = second

plain-append : (es fs : List Element) → ArePlain es → ArePlain fs → ArePlain (es ++ fs)
plain-append [] fs first second = second
plain-append (e ∷ es) fs first second = (first.0, plain-append es fs first.1 second)

plain-stars : (ls : List Symbol) → IsPlain (stars ls)
plain-stars ls = by_test (begins_plain star ls)
  where
    by_test : (c : Bool) → IsPlain (Single (if c then DoubleStar else Star))
    by_test true = tt
    by_test false = tt

plain-run : (context : Context) (ls : List Symbol) → ArePlain (run context ls)
plain-run AfterStar ls = tt
plain-run AfterSlash ls = plain-if (is_whole_segment AfterSlash ls) _ _ (tt, (plain-stars ls, tt)) (plain-stars ls, tt)
plain-run Elsewhere ls = (plain-stars ls, tt)

plain-class : (r : Result ByteSet PatternError) → IsPlain (class_element r)
plain-class (Ok set) = tt
plain-class (Err error) = tt

mutual
  plain-elements : (context : Context) (ls : List Symbol) → ArePlain (elements context ls)
  plain-elements context [] = tt
  plain-elements context (Broken ∷ ls) = (tt, tt)
  plain-elements context (Escaped b ∷ ls) = (tt, plain-elements (context_after b) ls)
  plain-elements context (Plain b ∷ ls) =
      plain-if (b == star) _ _ (plain-append (run context ls) (elements AfterStar ls) (plain-run context ls) (plain-elements AfterStar ls))
      (plain-if (b == opening_bracket) _ _ (plain-class (class ls), plain-behind_class ls)
      (plain-if (b == question_mark) _ _ (tt, plain-elements Elsewhere ls)
      (plain-if (b == opening_brace) _ _ (tt, plain-elements Elsewhere ls)
      (plain-if (b == comma) _ _ (tt, plain-elements Elsewhere ls)
      (plain-if (b == closing_brace) _ _ (tt, plain-elements Elsewhere ls) (tt, plain-elements (context_after b) ls))))))

  plain-behind_class : (ls : List Symbol) → ArePlain (behind_class ls)
  plain-behind_class [] = tt
  plain-behind_class (l ∷ ls) = plain-if (is_plain closing_bracket l) _ _ (plain-elements Elsewhere ls) (plain-behind_class ls)

plain-grouped : (es : List Element) (depth : ℕ) → ArePlain es → ArePlain (grouped depth es)
plain-grouped [] depth plain = tt
plain-grouped (Single item ∷ es) depth plain = (plain.0, plain-grouped es depth plain.1)
plain-grouped (Open ∷ es) depth plain = (tt, plain-grouped es (depth_behind depth Open) plain.1)
plain-grouped (Comma ∷ es) depth plain = (by_test (depth == 0), plain-grouped es depth plain.1)
  where
    by_test : (c : Bool) → IsPlain (if c then Single (Byte comma) else Comma)
    by_test true = tt
    by_test false = tt
plain-grouped (Close ∷ es) depth plain = (tt, plain-grouped es (depth_behind depth Close) plain.1)
plain-grouped (Fault error ∷ es) depth plain = (tt, plain-grouped es depth plain.1)

-- No element of a text is a group.
pub plain-of : (text : List ℕ) → ArePlain (elements_of text)
plain-of text = plain-grouped (elements Elsewhere (symbols text)) 0 (plain-elements Elsewhere (symbols text))
