-- Findings as records: objects of JSON, one a line, by serde_json's own definitions of a value and its text.
use Rattle.std.specs.Prelude.{ℕ, List, [], ◌∷◌, ◌++◌, codes, if◌then◌else◌, map}
use Rattle.std.specs.Str.{is_utf8}
use Rattle.hex.specs.Hex.{encode_lower}
use Rattle.serde_json.specs.Data.{Data, Items, Members, array, member, no_members, number, object, put, string, unsigned}
use Rattle.serde_json.specs.View.{items_of}
use Rattle.serde_json.specs.Written.{compact_text}
use Rattle.aa_bytes.specs.Bytes.{line_feed}

-- the bytes of a text in hexadecimal digits
abbrev pub digits_data : List ℕ → Data
digits_data text = object (member (codes "hex") (string (encode_lower text)) no_members)

-- a text in a record: itself where it is UTF-8, and else an object with its bytes
abbrev pub text_data : List ℕ → Data
text_data text = if is_utf8 text then string text else digits_data text

-- texts in a record, in their order
abbrev pub texts_data : List (List ℕ) → Items
texts_data texts = items_of (map text_data texts)

-- a record of a kind, with no other member
abbrev pub record_of : List ℕ → Members
record_of kind = member (codes "kind") (string kind) no_members

-- a record with a text by this name
abbrev pub with_text : List ℕ → List ℕ → Members → Members
with_text name text members = put name (text_data text) members

-- a record with a number by this name
abbrev pub with_number : List ℕ → ℕ → Members → Members
with_number name n members = put name (number (unsigned n)) members

-- a record with texts by this name
abbrev pub with_texts : List ℕ → List (List ℕ) → Members → Members
with_texts name texts members = put name (array (texts_data texts)) members

-- a record on a line of its own
abbrev pub record_line : Members → List ℕ
record_line members = compact_text (object members) ++ line_feed ∷ []
