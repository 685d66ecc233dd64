-- What comes of one name behind the names that were found.
use Rattle.std.proofs.Common.{◌≡◌, ◌+◌, ◌<◌, ℕ, List, [], ◌++◌, refl, sym, ap, subst, ◌∙◌, length, get_or, length-append}
use Rattle.std.specs.Prelude.{String, map, string_bytes}
use Rattle.std.proofs.lemmas.List.{get_or-map}
use Rattle.aatry_folder.specs.Told.{ToldFolders}
use Rattle.aatry_folder.specs.NamesBelow.{most_names}
use Rattle.aatry_folder.specs.code.Step.{ComeOf, IsFaultBehind, IsFaultOfMore, IsFaultSince, name_at}
use Rattle.aatry_folder.specs.declared.below.FolderFault.{FolderFault}
use Rattle.aatry_folder.specs.declared.below.FolderFault.TheVariants.{Unreadable, TooMany, Memory}

-- the fault of names that come of one, where they can't be put behind the others
pub IsFaultBehind-more : (told : ToldFolders) (base : List ℕ) (names more : List (List ℕ)) (name : List ℕ)
    (count : ℕ) (fault : FolderFault)
    → ComeOf told base name more → count ≡ length names + length more → IsFaultOfMore count fault
    → IsFaultBehind told base names name fault
IsFaultBehind-more told base names more name count (Unreadable text) come counted h = absurd h
IsFaultBehind-more told base names more name count TooMany come counted many =
    (names ++ more, (more, come, refl), subst (λ n. most_names < n) (counted ∙ sym (length-append names more)) many)
IsFaultBehind-more told base names more name count Memory come counted h = tt

-- the name at a place, as it is read from the strings
pub name_at-read : {A : Type 0} (items : List (String A)) (at : ℕ) (read : String A) → at < length items → read ≡ get_or items at read
    → string_bytes read ≡ name_at (map string_bytes items) at
name_at-read items at read within is_read = ap string_bytes is_read ∙ sym (get_or-map string_bytes items at read [] within)

-- the fault of a folder that can't be read, since this holds, where it leads to another that holds
pub IsFaultSince-weaker : (One Other : Type 0) (base name : List ℕ) (fault : FolderFault) → (One → Other) → IsFaultSince One base name fault
    → IsFaultSince Other base name fault
IsFaultSince-weaker One Other base name (Unreadable text) leads (is_one, one, told) = (is_one, leads one, told)
IsFaultSince-weaker One Other base name TooMany leads fault = fault
IsFaultSince-weaker One Other base name Memory leads fault = fault
