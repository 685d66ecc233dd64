-- No pattern has a longer literal beginning than a pattern may have bytes.
use Rattle.std.proofs.Common.{◌≡◌, ℕ, ◌+◌, ◌<◌, ◌≤◌, Bool, true, false, List, [], ◌∷◌, ◌++◌, length, Ok, Err, arith, refl}
use Rattle.std.specs.Prelude.{if◌then◌else◌, nat_le, not}
use Rattle.std.proofs.lemmas.Bool.{leb-true}
use Rattle.aa_glob_syntax.specs.Classes.{class}
use Rattle.aa_glob_syntax.specs.Elements.{Close, Comma, Element, Fault, Open, Single, behind_class, class_element, context_after, elements, run, stars}
use Rattle.aa_glob_syntax.specs.Exactness.{is_exact, literal_prefix}
use Rattle.aa_glob_syntax.specs.Items.{Byte, DoubleStar, Group, More, NoMore, Pattern, Patterns, Set, Star}
use Rattle.aa_glob_syntax.specs.Matching.{matches}
use Rattle.aa_glob_syntax.specs.Reading.{Closed, Ended, Ending, Pieces, Refused, begins_with_slash, ending_of, first_of, group_of, has_zero, items_of, items_read, longest, others_of, pieces, whole, whole_of}
use Rattle.aa_glob_syntax.specs.Symbols.{symbols}
use Rattle.aa_glob_syntax.specs.declared.context.Context.{Context}
use Rattle.aa_glob_syntax.specs.declared.context.Context.TheVariants.{AfterSlash, AfterStar, Elsewhere}
use Rattle.aa_glob_syntax.specs.declared.pattern_error.PatternError.TheVariants.{NotAbsolute, TooLong, ZeroByte}
use Rattle.aa_glob_syntax.specs.declared.symbol.Symbol.{Symbol}
use Rattle.aa_glob_syntax.specs.declared.symbol.Symbol.TheVariants.{Broken, Escaped, Plain}
use Rattle.aa_decide_rules.specs.Ranks.{exact_rank, rank}

-- how many elements stand before the first that can't be a byte
abbrev lead : List Element → ℕ
lead [] = 0
lead (Single (Byte b) ∷ es) = 1 + lead es
lead (Comma ∷ es) = 1 + lead es
lead (e ∷ es) = 0

-- a group is no byte
group-lead : (first : Pattern) (others : Patterns) (ending : Ending) → literal_prefix (first_of (group_of first others ending)) ≤ 0
group-lead first others Ended = omega arith
group-lead first others (Refused error) = omega arith
group-lead first NoMore (Closed after) = omega arith
group-lead first (More second others) (Closed after) = omega arith

pieces-lead : (depth : ℕ) (es : List Element) → literal_prefix (first_of (pieces depth es)) ≤ lead es
pieces-lead depth [] = omega arith
pieces-lead depth (Single (Byte b) ∷ es) = let rest = pieces-lead depth es in omega arith
pieces-lead depth (Single (Set set) ∷ es) = omega arith
pieces-lead depth (Single Star ∷ es) = omega arith
pieces-lead depth (Single DoubleStar ∷ es) = omega arith
pieces-lead depth (Single (Group first second others) ∷ es) = omega arith
pieces-lead depth (Open ∷ es) =
    let none = group-lead (first_of (pieces (depth + 1) es)) (others_of (pieces (depth + 1) es)) (ending_of (pieces (depth + 1) es)) in
    grind (arith)
pieces-lead depth (Comma ∷ es) = let rest = pieces-lead depth es in grind (arith)
pieces-lead depth (Close ∷ es) = omega arith
pieces-lead depth (Fault error ∷ es) = omega arith

-- nor is a run of stars
stars-lead : (ls : List Symbol) (es : List Element) → lead (stars ls ∷ es) ≡ 0
stars-lead ls es = grind (arith)

run-lead : (context : Context) (ls : List Symbol) (es : List Element) → lead (run context ls ++ es) ≤ lead es
run-lead AfterStar ls es = omega arith
run-lead AfterSlash ls es = let none = stars-lead ls es in grind (arith)
run-lead Elsewhere ls es = let none = stars-lead ls es in omega arith

-- nor a class
class-lead : (ls : List Symbol) (es : List Element) → lead (class_element (class ls) ∷ es) ≡ 0
class-lead ls es = elim (class ls) as (λ read. lead (class_element read ∷ es) ≡ 0) [ Ok set ↦ refl | Err error ↦ refl ]

elements-lead : (context : Context) (ls : List Symbol) → lead (elements context ls) ≤ length ls
elements-lead context [] = omega arith
elements-lead context (Broken ∷ ls) = omega arith
elements-lead context (Escaped b ∷ ls) = let rest = elements-lead (context_after b) ls in omega arith
elements-lead context (Plain b ∷ ls) =
    let few = run-lead context ls (elements AfterStar ls) in
    let none = class-lead ls (behind_class ls) in
    let behind = elements-lead AfterStar ls in
    let elsewhere = elements-lead Elsewhere ls in
    let after = elements-lead (context_after b) ls in
    grind (arith)

-- a text has no more symbols than bytes
symbols-length : (text : List ℕ) → length (symbols text) ≤ length text
symbols-length [] = omega arith
symbols-length (b ∷ []) = omega arith
symbols-length (b ∷ c ∷ bs) = let behind = symbols-length bs in let rest = symbols-length (c ∷ bs) in grind (arith)

whole-lead : (first : Pattern) (ending : Ending) → literal_prefix (items_read (whole_of first ending)) ≤ literal_prefix first
whole-lead first Ended = omega arith
whole-lead first (Closed after) = omega arith
whole-lead first (Refused error) = omega arith

-- the literal beginning of a pattern is no longer than the longest pattern
pub beginning-least : (text : List ℕ) → literal_prefix (items_of text) ≤ longest
beginning-least text = by (nat_le (length text) longest) refl (has_zero text) (begins_with_slash text)
  where
    read : Pieces
    read = pieces 0 (elements Elsewhere (symbols text))

    by : (short : Bool) → nat_le (length text) longest ≡ short → (zero slash : Bool)
        → literal_prefix (items_read (if not short then Err TooLong else if zero then Err ZeroByte else if not slash then Err NotAbsolute else whole read)) ≤ longest
    by false e zero slash = omega arith
    by true e true slash = omega arith
    by true e false false = omega arith
    by true e false true =
        let few = whole-lead (first_of read) (ending_of read) in
        let lead = pieces-lead 0 (elements Elsewhere (symbols text)) in
        let read = elements-lead Elsewhere (symbols text) in
        let bytes = symbols-length text in
        let short = leb-true (length text) longest e in
        omega arith

-- no pattern ranks as high as exact ones
pub rank-least : (path pattern : List ℕ) → is_exact (items_of pattern) ≡ false → rank path pattern < exact_rank
rank-least path pattern inexact = by (matches (items_of pattern) path) (is_exact (items_of pattern)) inexact (beginning-least pattern)
  where
    by : (fits exact : Bool) → exact ≡ false → literal_prefix (items_of pattern) ≤ longest
        → (if fits then (if exact then exact_rank else literal_prefix (items_of pattern) + 1) else 0) < exact_rank
    by false exact not_exact least = omega arith
    by true true not_exact least = absurd (cc)
    by true false not_exact least = omega arith
