-- Logs that gzip wrote, whose bytes are no lines.
use Rattle.std.specs.Prelude.{◌≡◌, ℕ, Bool, true, false, List, [], ◌∷◌, Option, None, Some, IfSome, codes, string_bytes}
use Rattle.aa_bytes.specs.Texts.{begins_with}
use Rattle.aa_set_commands.specs.Lines.{lines}
use Rattle.aatry_folder.specs.declared.fault.Fault.{Fault}
use Rattle.aatry_folder.specs.declared.fault.Fault.TheVariants.{Compressed}

-- the bytes with which a file of gzip begins (RFC 1952, section 2.3.1)
abbrev pub gzip_mark : List ℕ
gzip_mark = 31 ∷ 139 ∷ []

-- the bytes of a file, or of its first line, begin like a file of gzip
abbrev pub is_compressed : List ℕ → Bool
is_compressed bytes = begins_with gzip_mark bytes

-- the first of lines begins like a file of gzip
abbrev pub begin_compressed : List (List ℕ) → Bool
begin_compressed [] = false
begin_compressed (line ∷ more) = is_compressed line

-- the name by which a log is reported: its path, or that of standard input
abbrev pub told_name : Option (List ℕ) → List ℕ
told_name None = codes "-"
told_name (Some path) = path

-- a fault has the name of a log that gzip wrote
abbrev pub IsNamedCompressed : Option (List ℕ) → Fault → Type 0
IsNamedCompressed file (Compressed name) = string_bytes name ≡ told_name file
IsNamedCompressed file fault = ⊥

-- A fault has the name of a log that gzip wrote, and where the bytes of the log are known its first line begins like a file of gzip.
abbrev pub IsOfCompressed : (file left : Option (List ℕ)) → Fault → Type 0
IsOfCompressed file left fault = IsNamedCompressed file fault × IfSome left (λ bytes. begin_compressed (lines bytes) ≡ true)
