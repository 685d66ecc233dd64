-- The message of a line that is a record of the system's journal, as `journalctl -o json` writes one: an object of JSON on a line of its own, whose
-- member `MESSAGE` is a text, or a list of the numbers of the message's bytes, where these are no UTF-8 or some of them are control bytes
-- (journalctl(1), systemd.journal-fields(7), and systemd's Journal Export Formats, "Journal JSON Format").
use Rattle.std.specs.Prelude.{ℕ, nat_lt, ◌&&◌, if◌then◌else◌, List, [], ◌∷◌, Option, None, Some, codes, option_and_then, option_map}
use Rattle.std.specs.Str.{is_utf8}
use Rattle.serde_json.specs.Data.{Data, Items, item, no_items}
use Rattle.serde_json.specs.Find.{as_array, as_number, as_str, as_u64, get}
use Rattle.serde_json.specs.Read.{read}
use Rattle.aa_bytes.specs.Bytes.{opening_brace}
use Rattle.aa_bytes.specs.Texts.{begins_with_byte}
use Rattle.aatry_log_lines.specs.declared.messages.Message.{Message as CodeMessage}
use Rattle.aatry_log_lines.specs.declared.messages.Message.TheVariants as code

-- the message of a line: none, since it is no record with one; the message's bytes; or one that can't be read
pub data Message : Type 0 where
  NoMessage : Message
  Whole : (bytes : List ℕ) → Message
  Broken : Message

-- the message of the code
abbrev pub seen_message : CodeMessage → Message
seen_message code.NoMessage = NoMessage
seen_message (code.Whole bytes) = Whole bytes.items
seen_message code.Broken = Broken

-- the byte of a number, if it is one of a byte
abbrev pub as_byte : ℕ → Option ℕ
as_byte number = if nat_lt number 256 then Some number else None

abbrev pub byte_of : Data → Option ℕ
byte_of value = option_and_then as_byte (option_and_then as_u64 (as_number value))

-- the bytes of a list, if each of its values is a byte
abbrev pub bytes_of : Items → Option (List ℕ)
bytes_of no_items = Some []
bytes_of (item value values) = elim (byte_of value) [ None ↦ None | Some byte ↦ option_map (λ bytes. byte ∷ bytes) (bytes_of values) ]

-- the message of bytes that were read, if they could be
abbrev pub message_read : Option (List ℕ) → Message
message_read None = Broken
message_read (Some bytes) = Whole bytes

-- the message of a value that is no text
abbrev pub message_listed : Option Items → Message
message_listed None = NoMessage
message_listed (Some values) = message_read (bytes_of values)

-- the message of a value
abbrev pub message_by : Data → Message
message_by value = elim (as_str value) [ None ↦ message_listed (as_array value) | Some text ↦ Whole text ]

-- the message of a record
abbrev pub message_of : Data → Message
message_of value = elim (get (codes "MESSAGE") value) [ None ↦ NoMessage | Some message ↦ message_by message ]

-- the message of a line
abbrev pub message_in : List ℕ → Message
message_in line =
    if begins_with_byte opening_brace line && is_utf8 line then elim (read line) [ None ↦ NoMessage | Some value ↦ message_of value ] else NoMessage
