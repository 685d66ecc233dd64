-- Properties of accesses, by what is read from their texts.
use Rattle.std.specs.Prelude.{◌≡◌, ◌↔◌, ℕ, List, Some}
use Rattle.aa_profile_data.specs.AccessText.{AccessPart, IsWrittenOf, said}
use Rattle.aa_profile_data.specs.WrittenAccess.{access_with, nothing_written}
use Rattle.aa_profile_data.specs.declared.written.WrittenAccess.{WrittenAccess}

-- An access is read from a text exactly where known parts say it of which the text consists. So where there are no such parts, nothing is read.
abbrev pub ReadAsItsPartsSay : Type 0
ReadAsItsPartsSay =
    (text : List ℕ) (written : WrittenAccess)
    → ((access_with nothing_written text ≡ Some written) ↔ ((parts : List AccessPart) × IsWrittenOf text parts × (said parts ≡ written)))

-- No text consists of known parts in two ways: no exec word begins another or begins with a letter.
abbrev pub WrittenInOneWay : Type 0
WrittenInOneWay = (text : List ℕ) (parts others : List AccessPart) → IsWrittenOf text parts → IsWrittenOf text others → parts ≡ others
