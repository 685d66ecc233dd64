-- Definitions for the law on files that differ.
use Rattle.std.specs.Prelude.{◌≡◌, ℕ, false, List, []}
use Rattle.aa_text_files.specs.Files.{File, file_named}
use Rattle.aatry_session_told.specs.Differing.{differences, is_apart}

-- Where no file differs, the disk has what was read under each name that is compared: the same bytes, or none.
abbrev pub WhatDoesNotDifferIsTheSame : Type 0
WhatDoesNotDifferIsTheSame =
    (read disk : List File) (name : List ℕ)
    → differences read disk ≡ []
    → is_apart name ≡ false
    → file_named disk name ≡ file_named read name
