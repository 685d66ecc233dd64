-- What is reported, once for both forms: a kind, and fields, each of which stands in the line, in the record, or in both.
use Rattle.std.specs.Prelude.{ℕ, ◌==◌, if◌then◌else◌, List, [], ◌∷◌, ◌++◌, codes, flat_map, Option, None, Some}
use Rattle.std.specs.Fmt.{decimal}
use Rattle.serde_json.specs.Data.{Members as Record}
use Rattle.aa_bytes.specs.Bytes.{line_feed}
use Rattle.aa_bytes.specs.Quoting.{written_text}
use Rattle.aatry_report.specs.Faults.{line_place_text}
use Rattle.aatry_report.specs.FilePlaces.{with_line_place}
use Rattle.aatry_report.specs.Records.{record_line, record_of, with_number, with_text, with_texts}
use Rattle.aatry_report.specs.Shown.{shown}
use Rattle.aatry_report.specs.declared.form.Form.{Form}
use Rattle.aatry_report.specs.declared.form.Form.TheVariants.{Lines, Records}
use Rattle.aatry_report.specs.declared.place.LinePlace.{LinePlace}

-- A field of what is reported. The line alone has words, and bytes that are shown already. Both have a text, which the line shows; one that is shown
-- already; one that the line quotes; a word; a number; how often something occurred; how many there are of something, in the line where there are
-- some; and a place in a file, or the file alone. The record alone has members.
pub data Said : Type 0 where
  Words : List ℕ → Said
  Bytes : List ℕ → Said
  Text : (name text : List ℕ) → Said
  Plain : (name text : List ℕ) → Said
  Quoted : (name text : List ℕ) → Said
  Word : (name word : List ℕ) → Said
  Number : List ℕ → ℕ → Said
  Times : List ℕ → ℕ → Said
  Share : List ℕ → ℕ → List ℕ → Said
  Place : List ℕ → Option LinePlace → Said
  Member : (name text : List ℕ) → Said
  MemberWord : (name word : List ℕ) → Said
  MemberNumber : List ℕ → ℕ → Said
  MemberTexts : List ℕ → List (List ℕ) → Said

-- how often something occurred
abbrev pub times_text : ℕ → List ℕ
times_text times = if times == 1 then codes "once" else decimal times ++ codes " times"

-- how many there are of something, in these words, where there are some
abbrev pub share : ℕ → List ℕ → List ℕ
share n words = if n == 0 then [] else codes ", " ++ decimal n ++ words

-- a file, and the place in it, if there is one
abbrev pub file_place_text : List ℕ → Option LinePlace → List ℕ
file_place_text path None = shown path ++ codes ": "
file_place_text path (Some place) = line_place_text path place.line place.column

abbrev pub with_file_place : List ℕ → Option LinePlace → Record → Record
with_file_place path None made = with_text (codes "file") path made
with_file_place path (Some place) made = with_line_place path place.line place.column made

-- what of a field stands in the line
abbrev pub in_line : Said → List ℕ
in_line (Words words) = words
in_line (Bytes bytes) = bytes
in_line (Text name text) = shown text
in_line (Plain name text) = text
in_line (Quoted name text) = written_text text
in_line (Word name word) = word
in_line (Number name n) = decimal n
in_line (Times name times) = times_text times
in_line (Share name n words) = share n words
in_line (Place path place) = file_place_text path place
in_line (Member name text) = []
in_line (MemberWord name word) = []
in_line (MemberNumber name n) = []
in_line (MemberTexts name texts) = []

-- a record with what of a field stands in it
abbrev pub with_field : Said → Record → Record
with_field (Words words) made = made
with_field (Bytes bytes) made = made
with_field (Text name text) made = with_text name text made
with_field (Plain name text) made = with_text name text made
with_field (Quoted name text) made = with_text name text made
with_field (Word name word) made = with_text name word made
with_field (Number name n) made = with_number name n made
with_field (Times name times) made = with_number name times made
with_field (Share name n words) made = with_number name n made
with_field (Place path place) made = with_file_place path place made
with_field (Member name text) made = with_text name text made
with_field (MemberWord name word) made = with_text name word made
with_field (MemberNumber name n) made = with_number name n made
with_field (MemberTexts name texts) made = with_texts name texts made

-- a record with these fields, the first put first
abbrev pub with_fields : List Said → Record → Record
with_fields [] made = made
with_fields (field ∷ fields) made = with_fields fields (with_field field made)

-- what is reported: a line of the fields, one after another, or a record of the kind with them
abbrev pub told : Form → List ℕ → List Said → List ℕ
told Lines kind fields = flat_map in_line fields ++ line_feed ∷ []
told Records kind fields = record_line (with_fields fields (record_of kind))
