-- The token cut: a file's text as blanks, comments and tokens from left to right (apparmor.d(5); see docs/policy.md, "Tokens").
use Rattle.std.specs.Prelude.{ℕ, zero, suc, ◌+◌, ◌-◌, Bool, true, false, not, ◌==◌, ◌&&◌, ◌||◌, if◌then◌else◌, List, [], ◌∷◌, take, drop, slice_index, slice_index_or, Option, None, Some, Result, Ok, Err, codes, option_and_then}
use Rattle.std.specs.List.{prefix_len}
use Rattle.std.specs.Option.{option_map}
use Rattle.aa_bytes.specs.Texts.{begins, begins_with}
use Rattle.aa_bytes.specs.Bytes.{backslash, closing_brace, closing_parenthesis, comma, greater, hash, is_blank, is_letter, is_letter_or_digit, underscore, is_space_or_tab, line_feed, opening_brace, quote, smaller}
use Rattle.aa_text_tokens.specs.declared.include.Opening.{Opening}
use Rattle.aa_text_tokens.specs.declared.cut.CutRefusal.{CutRefusal}
use Rattle.aa_text_tokens.specs.declared.cut.CutRefusal.TheVariants.{OpenQuote, OpenOther}
use Rattle.aa_text_tokens.specs.declared.cut.TokenKind.{TokenKind}
use Rattle.aa_text_tokens.specs.declared.cut.TokenKind.TheVariants.{Include, Assign, Value, Quoted, Word, Comma, OpenBrace, CloseBrace}

-- What a text has at an offset where a token may begin: a token with its own text, or a comment, each with how many bytes its span has, or neither.
-- What follows comes after the span.
pub data Piece : Type 0 where
  Token : (kind : TokenKind) (text : List ℕ) (size : ℕ) → Piece
  Comment : (size : ℕ) → Piece
  Fault : (refusal : CutRefusal) → Piece

-- what a variable's name is made of: letters, digits and `_`
abbrev pub is_name_byte : ℕ → Bool
is_name_byte b = is_letter_or_digit b || b == underscore

-- how many spaces and tabs a text begins with
abbrev pub spaces : List ℕ → ℕ
spaces text = prefix_len is_space_or_tab text

-- how many bytes the word of an Include has
abbrev pub include_word : List ℕ → Option ℕ
include_word text =
    if begins_with (codes "include") text then Some 7 else
    if begins_with (codes "#include") text then Some 8 else
    None

abbrev pub opens_name : List ℕ → Bool
opens_name text = begins (λ b. b == smaller || b == quote) text

-- After `if`: spaces or tabs, `exists`, and spaces or tabs again.
abbrev pub opening_if_exists : ℕ → List ℕ → Option Opening
opening_if_exists at text =
    let before = spaces (drop at text) in
    let word = at + before in
    let after = spaces (drop (word + 6) text) in
    if not (before == 0) && begins_with (codes "exists") (drop word text) && not (after == 0) && opens_name (drop (word + 6 + after) text)
    then Some (record { at = word + 6 + after; if_exists = true })
    else None

-- After the word of an Include: spaces or tabs, and maybe `if exists`.
abbrev pub opening_behind : List ℕ → ℕ → Option Opening
opening_behind text word =
    let at = word + spaces (drop word text) in
    if opens_name (drop at text) then Some (record { at = at; if_exists = false }) else
    if begins_with (codes "if") (drop at text) then opening_if_exists (at + 2) text else
    None

abbrev pub opening : List ℕ → Option Opening
opening text = option_and_then (opening_behind text) (include_word text)

-- the byte that closes a name, from the one that opens it
abbrev pub closing : ℕ → ℕ
closing b = if b == smaller then greater else b

-- the fault of a name whose line ends before it is closed
abbrev pub unclosed : ℕ → CutRefusal
unclosed b = if b == smaller then OpenOther else OpenQuote

-- an Include, from where its name begins: it reaches to the next byte that closes the name, in its line
abbrev pub include_from : List ℕ → Opening → Piece
include_from text o =
    let first = slice_index_or text o.at 0 in
    let behind = drop (o.at + 1) text in
    let size = prefix_len (λ b. not (b == closing first) && not (b == line_feed)) behind in
    if begins (λ b. b == closing first) (drop size behind) then Token (Include o.if_exists) (take size behind) (o.at + size + 2) else Fault (unclosed first)

-- a comment reaches to the end of its line
abbrev pub comment : List ℕ → Piece
comment text = Comment (prefix_len (λ b. not (b == line_feed)) text)

-- An Assign: `@{`, a name, `}`, spaces or tabs, and `=` or `+=`.
abbrev pub assign : List ℕ → Option Piece
assign text =
    let size = prefix_len is_name_byte (drop 2 text) in
    let name = take size (drop 2 text) in
    let end = 2 + size in
    let sign = end + 1 + spaces (drop (end + 1) text) in
    if begins_with (codes "@{") text && begins is_letter (drop 2 text) && begins (λ b. b == closing_brace) (drop end text) then
    (if begins_with (codes "=") (drop sign text) then Some (Token (Assign false) name (sign + 1)) else
    if begins_with (codes "+=") (drop sign text) then Some (Token (Assign true) name (sign + 2)) else None)
    else None

-- how many bytes come before the quote that closes a text, in its line; a backslash belongs to the byte after it
abbrev pub before_quote : List ℕ → Option ℕ
before_quote [] = None
before_quote (b ∷ []) = if b == quote then Some 0 else None
before_quote (b ∷ c ∷ bs) =
    if b == quote then Some 0 else
    if b == line_feed then None else
    if b == backslash && not (c == line_feed) then option_map (λ n. n + 2) (before_quote bs) else
    option_map (λ n. n + 1) (before_quote (c ∷ bs))

-- a quoted text, as a token of this kind
abbrev pub quoted : TokenKind → List ℕ → Piece
quoted kind text = elim (before_quote (drop 1 text)) [ None ↦ Fault OpenQuote | Some n ↦ Token kind (take n (drop 1 text)) (n + 2) ]

-- how many bytes a value has: it reaches to a blank, and a backslash belongs to the byte after it
abbrev pub value_size : List ℕ → ℕ
value_size [] = 0
value_size (b ∷ []) = if is_blank b then 0 else 1
value_size (b ∷ c ∷ bs) =
    if is_blank b then 0 else
    if b == backslash && not (c == line_feed) then value_size bs + 2 else
    value_size (c ∷ bs) + 1

-- a comma ends a word, by what follows the comma
abbrev pub ends_item : List ℕ → Bool
ends_item [] = true
ends_item (b ∷ bs) = is_blank b || b == hash || b == closing_brace

-- outside braces a word ends before this byte, by the byte before it and the text after it
abbrev pub ends_word : ℕ → ℕ → List ℕ → Bool
ends_word before b after =
    b == closing_brace
    || (b == opening_brace && before == closing_parenthesis)
    || (b == comma && ends_item after)

-- how many braces are open after a byte
abbrev pub depth_behind : ℕ → ℕ → ℕ
depth_behind depth b = if b == opening_brace then depth + 1 else if b == closing_brace then depth - 1 else depth

-- How many bytes are left of a word after a byte, within so many braces; `None` where a blank or the text's end comes within braces. A backslash
-- belongs to the byte after it.
abbrev pub word_left : ℕ → ℕ → List ℕ → Option ℕ
word_left depth before [] = if depth == 0 then Some 0 else None
word_left depth before (b ∷ []) =
    if is_blank b then (if depth == 0 then Some 0 else None) else
    if depth == 0 && ends_word before b [] then Some 0 else
    if depth_behind depth b == 0 then Some 1 else None
word_left depth before (b ∷ c ∷ bs) =
    if is_blank b then (if depth == 0 then Some 0 else None) else
    if depth == 0 && ends_word before b (c ∷ bs) then Some 0 else
    if b == backslash && not (c == line_feed) then option_map (λ n. n + 2) (word_left depth c bs) else
    option_map (λ n. n + 1) (word_left (depth_behind depth b) b (c ∷ bs))

-- a word, of which nothing was read yet
abbrev pub word : List ℕ → Piece
word text = elim (word_left 0 0 text) [ None ↦ Fault OpenOther | Some n ↦ Token Word (take n text) n ]

-- what begins with this byte, where it is no Include and no Assign
abbrev pub plain : ℕ → List ℕ → Piece
plain b text =
    if b == hash then comment text else
    if b == quote then quoted Quoted text else
    if b == comma then Token Comma (take 1 text) 1 else
    if b == opening_brace then Token OpenBrace (take 1 text) 1 else
    if b == closing_brace then Token CloseBrace (take 1 text) 1 else
    word text

-- what a text has at an offset outside values: the first of the kinds that fits
abbrev pub piece : ℕ → List ℕ → Piece
piece b text = elim (opening text) [
  | Some o ↦ include_from text o
  | None ↦ elim (assign text) [ Some token ↦ token | None ↦ plain b text ]
]

-- what a text has at an offset where a value may begin
abbrev pub value_piece : ℕ → List ℕ → Piece
value_piece b text =
    if b == hash then comment text else
    if b == quote then quoted Value text else
    Token Value (take (value_size text) text) (value_size text)

-- what a text has at an offset, where a value may begin or where none may
abbrev pub piece_at : Bool → List ℕ → Piece
piece_at values text = if values then value_piece (slice_index text 0) text else piece (slice_index text 0) text

-- a token as the text has it: its kind, its own text, and the bytes of its span
pub record Seen : Type 0 where
  pub kind : TokenKind
  pub text : List ℕ
  pub start : ℕ
  pub end : ℕ

abbrev pub is_assign : TokenKind → Bool
is_assign (Assign append) = true
is_assign kind = false

abbrev pub before_tokens : Seen → Result (List Seen) (CutRefusal × ℕ) → Result (List Seen) (CutRefusal × ℕ)
before_tokens token (Ok tokens) = Ok (token ∷ tokens)
before_tokens token (Err fault) = Err fault

-- the tokens of a piece at an offset and of what follows it, by how many bytes of the piece are left and whether values follow in its line
abbrev pub cut_on : ℕ → Bool → Piece → (ℕ → Bool → Result (List Seen) (CutRefusal × ℕ)) → Result (List Seen) (CutRefusal × ℕ)
cut_on at values (Token kind text size) more = before_tokens (record { kind = kind; text = text; start = at; end = at + size }) (more (size - 1) (values || is_assign kind))
cut_on at values (Comment size) more = more (size - 1) values
cut_on at values (Fault refusal) more = Err (refusal, at)

-- The tokens of a text at an offset of its source, or its first fault with its offset. So many bytes belong to the token or comment before. After an
-- Assign values follow, to the end of its line.
abbrev pub cut : ℕ → ℕ → Bool → List ℕ → Result (List Seen) (CutRefusal × ℕ)
cut at left values [] = Ok []
cut at (suc left) values (b ∷ bs) = cut (at + 1) left values bs
cut at zero values (b ∷ bs) =
    if is_blank b then cut (at + 1) 0 (values && not (b == line_feed)) bs else
    cut_on at values (piece_at values (b ∷ bs)) (λ left values. cut (at + 1) left values bs)
