-- Files that are taken, some of which weren't read.
use Rattle.std.proofs.Common.{◌≡◌, ◌≤◌, ◌<◌, ◌+◌, ◌∙◌, ℕ, List, [], ◌∷◌, ◌++◌, add-one, arith, drop, drop-cons, get_or, length, map, refl, sym}
use Rattle.std.specs.Prelude.{Option}
use Rattle.std.specs.Str.{chars}
use Rattle.aa_text_files.specs.Files.{File}
use Rattle.aa_text_files.specs.Limit.{most_bytes}
use Rattle.aa_start.specs.Known.{Known}
use Rattle.aa_start.specs.Readable.{AreTakenSo, IsTakenSo, stand_in}
use Rattle.aa_start.specs.declared.readable.UnreadFault.{UnreadFault}

-- what stands in place of a file is short
pub stand_in-short : length stand_in ≤ most_bytes
unfolding chars
stand_in-short = omega arith

-- no file was taken yet
pub none-taken : (known : Known) (base : List ℕ) (files : List File) (unread : List (Option UnreadFault)) → files ≡ [] → unread ≡ [] → AreTakenSo known base files unread
none-taken known base [] unread no_file none = none
none-taken known base (file ∷ files) unread no_file none = absurd (let bad : file ∷ files ≡ [] = no_file in cc)

-- one more file stands behind those that were taken, with why it wasn't read
pub taken-more : (known : Known) (base : List ℕ) (files : List File) (unread : List (Option UnreadFault)) (file : File) (fault : Option UnreadFault)
    → AreTakenSo known base files unread → IsTakenSo known base file fault → AreTakenSo known base (files ++ file ∷ []) (unread ++ fault ∷ [])
taken-more known base [] [] file fault taken own = (own, refl)
taken-more known base [] (other ∷ unread) file fault taken own = absurd (let bad : other ∷ unread ≡ [] = taken in cc)
taken-more known base (one ∷ files) [] file fault taken own = absurd taken
taken-more known base (one ∷ files) (other ∷ unread) file fault taken own = (taken.0, taken-more known base files unread file fault taken.1 own)

-- the next of a list stands before those that are left behind it
pub next_left : {S : Type 0} (f : S → List ℕ) (xs : List S) (i : ℕ) (x : S) → i < length xs → x ≡ get_or xs i x
    → map f (drop i xs) ≡ f x ∷ map f (drop (i + 1) xs)
next_left f xs i x within is = rw (add-one, drop-cons xs i x within, sym is)
