-- Texts of files and names, as they are shown at a terminal, which obeys some bytes.
use Rattle.std.specs.Prelude.{ℕ, Bool, List, map, not, ◌==◌, ◌&&◌, ◌||◌, nat_lt, if◌then◌else◌}
use Rattle.aa_bytes.specs.Bytes.{line_feed, space, tab}

abbrev pub delete : ℕ
delete = 127

abbrev pub question_mark : ℕ
question_mark = 63

-- A control byte for a terminal: one below the space, but not the tab, or that of the delete key. What several bytes of UTF-8 stand for isn't looked
-- at.
abbrev pub is_obeyed : ℕ → Bool
is_obeyed b = (nat_lt b space && not (b == tab)) || b == delete

-- a byte as it is shown: a question mark in place of one that a terminal obeys
abbrev pub shown_byte : ℕ → ℕ
shown_byte b = if is_obeyed b then question_mark else b

abbrev pub shown : List ℕ → List ℕ
shown text = map shown_byte text

-- a byte of lines as it is shown: a line feed ends a line, and each other byte is shown as in a text
abbrev pub shown_line_byte : ℕ → ℕ
shown_line_byte b = if b == line_feed then b else shown_byte b

-- lines as they are shown
abbrev pub shown_lines : List ℕ → List ℕ
shown_lines lines = map shown_line_byte lines
