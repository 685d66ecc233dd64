-- What comes next in a class, by the part that was read.
use Rattle.std.specs.Prelude.{◌≡◌, ℕ, List, [], ◌∷◌, ◌++◌, length, true, false, Ok}
use Rattle.aa_bytes.specs.Bytes.{closing_bracket, dash}
use Rattle.aa_glob_syntax.specs.Classes.{members}
use Rattle.aa_glob_syntax.specs.Elements.{behind_class, elements}
use Rattle.aa_glob_syntax.specs.Symbols.{is_plain, symbols}
use Rattle.aa_bytes.specs.declared.byte_set.ByteRange.{ByteRange}
use Rattle.aa_glob_syntax.specs.declared.part.Part.{Part}
use Rattle.aa_glob_syntax.specs.declared.part.Part.TheVariants.{End, Member}
use Rattle.aa_glob_syntax.specs.declared.context.Context.TheVariants.{Elsewhere}
use Rattle.aa_glob_syntax.specs.declared.symbol.Symbol.{Symbol}

-- whatever members came before, this member follows them, or they are all
abbrev pub IsPart : List Symbol → Part → Type 0
IsPart ls (Member range rest) =
    ((before : List ByteRange) → members before ls ≡ members (before ++ range ∷ []) (symbols rest.now))
    × (behind_class ls ≡ behind_class (symbols rest.now))
IsPart ls (End rest) =
    ((before : List ByteRange) → members before ls ≡ Ok before)
    × (behind_class ls ≡ elements Elsewhere (symbols rest.now))

-- how many bytes are left
abbrev pub bytes_left : Part → ℕ
bytes_left (Member range rest) = length rest.now
bytes_left (End rest) = length rest.now

-- a text of symbols begins with `-` and a range's last symbol, after which this is left
abbrev pub ReachesTo : Symbol → List Symbol → List Symbol → Type 0
ReachesTo end rest ls = (link : Symbol) × (ls ≡ link ∷ end ∷ rest) × (is_plain dash link ≡ true) × (is_plain closing_bracket end ≡ false)
