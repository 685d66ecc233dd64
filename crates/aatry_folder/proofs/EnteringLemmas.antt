-- Nothing is entered of a file that wasn't read: where includes lead to one, splicing comes to a fault.
use Rattle.std.proofs.Common.{◌≡◌, ◌∙◌, ◌+◌, ◌==◌, ℕ, zero, suc, Bool, true, false, not, List, [], ◌∷◌, ◌++◌, Option, None, Some, Result, Ok, Err, length, refl, ap, subst, sym, arith}
use Rattle.std.specs.Prelude.{nat_le, if◌then◌else◌, is_err}
use Rattle.std.specs.List.{Contains, prefix_len}
use Rattle.std.specs.Str.{chars}
use Rattle.aa_bytes.specs.Texts.{has_byte}
use Rattle.aa_text_files.specs.Files.{File, bytes_at, file_at}
use Rattle.aa_text_files.specs.Limit.{most_bytes}
use Rattle.aa_text_files.specs.declared.text_error.Place.{Place}
use Rattle.aa_text_files.specs.declared.text_error.TextRefusal.TheVariants.{NoFile, TextTooBig, ZeroByte}
use Rattle.aa_text_tokens.specs.Splicing.{Absent, Entered, Entering, Fault, Placed, Way, and_then, deepest, each, entered, included, refusal_of, spliced, target, tokens_of, walked, within}
use Rattle.aa_text_tokens.specs.Cut.{Seen, cut}
use Rattle.aa_text_tokens.specs.declared.cut.CutRefusal.{CutRefusal}
use Rattle.aa_text_tokens.specs.declared.cut.TokenKind.{TokenKind}
use Rattle.aa_text_tokens.specs.declared.cut.TokenKind.TheVariants.{Include, Assign, Value, Quoted, Word, Comma, OpenBrace, CloseBrace}
use Rattle.aa_start.specs.Known.{Known}
use Rattle.aa_start.specs.Readable.{AreTakenSo, IsTakenSo, stand_in, unread_at}
use Rattle.aa_start.specs.declared.readable.UnreadFault.{UnreadFault}
use Rattle.aatry_folder.specs.Reaching.{Includes, Reaches}

-- what is entered comes to a fault
abbrev Fails : Entered → Type 0
Fails all = is_err all ≡ true

first-fails : (first : Entered) (more : ℕ → Entered) → Fails first → Fails (and_then first more)
unfolding and_then
first-fails (Err fault) more fails = refl
first-fails (Ok first) more fails = absurd (let bad : false ≡ true = fails in cc)

more-fails : (first : Entered) (more : ℕ → Entered) → ((total : ℕ) → Fails (more total)) → Fails (and_then first more)
unfolding and_then
more-fails (Err fault) more fails = refl
more-fails (Ok first) more fails = by (more first.1) (fails first.1)
  where
    by : (behind : Entered) → Fails behind → Fails (elim behind [ Err fault ↦ Err fault | Ok rest ↦ Ok (first.0 ++ rest.0, rest.1) ])
    by (Err fault) fails = refl
    by (Ok rest) fails = absurd (let bad : false ≡ true = fails in cc)

-- files that are entered in turn, one of which comes to a fault
each-fails : (enter : ℕ → ℕ → Option Place → Entered) (other : ℕ) → ((total : ℕ) (place : Option Place) → Fails (enter other total place))
    → (place : Option Place) (found : List ℕ) → Contains found other → (total : ℕ) → Fails (each enter place found total)
unfolding each
each-fails enter other fails place [] (k, lt, at) total = absurd (omega (arith, lt))
each-fails enter other fails place (file ∷ found) (zero, lt, at) total =
    first-fails (enter file total place) (each enter place found) (subst (λ f. Fails (enter f total place)) (sym at) (fails total place))
each-fails enter other fails place (file ∷ found) (suc k, lt, at) total =
    more-fails (enter file total place) (each enter place found) (each-fails enter other fails place found (k, omega (arith, lt), at))

-- a way that files are entered by comes to a fault with this one, or enters none
abbrev FailsBy : Way → ℕ → Type 0
FailsBy None other = Unit {0}
FailsBy (Some enter) other = (total : ℕ) (place : Option Place) → Fails (enter other total place)

-- an include that puts it in
included-fails : (way : Way) (other : ℕ) → FailsBy way other → (place : Place) (found : List ℕ) → Contains found other → (total : ℕ)
    → Fails (included way place (Entering found) total)
unfolding included
included-fails None other fails place found has total = refl
included-fails (Some enter) other fails place found has total = each-fails enter other fails (Some place) found has total

-- one that finds nothing
absent-fails : (way : Way) (place : Place) (total : ℕ) → Fails (included way place Absent total)
unfolding included
absent-fails None place total = refl
absent-fails (Some enter) place total = refl

-- tokens behind which others come to a fault, whatever the first is
behind-fails : (files : List File) (way : Way) (file : ℕ) (first : Seen) (tokens : List Seen) → ((total : ℕ) → Fails (walked files way file tokens total)) → (total : ℕ)
    → Fails (walked files way file (first ∷ tokens) total)
unfolding walked
behind-fails files way file first tokens rest total = by first.kind
  where
    place : Place
    place = record { file = file; at = first.start }

    plain : Fails (and_then (Ok (record { file = file; token = first } ∷ [], total)) (walked files way file tokens))
    plain = more-fails (Ok (record { file = file; token = first } ∷ [], total)) (walked files way file tokens) rest

    by : (kind : TokenKind)
        → Fails (elim kind [
          | Include if_exists ↦ and_then (included way place (target files first.text if_exists) total) (walked files way file tokens)
          | _ ↦ and_then (Ok (record { file = file; token = first } ∷ [], total)) (walked files way file tokens)
        ])
    by (Include flag) = more-fails (included way place (target files first.text flag) total) (walked files way file tokens) rest
    by (Assign append) = plain
    by Value = plain
    by Quoted = plain
    by Word = plain
    by Comma = plain
    by OpenBrace = plain
    by CloseBrace = plain

-- the tokens of a file, among which there is one that comes to a fault wherever it is entered
module _ (files : List File) (way : Way) (file : ℕ) (token : Seen) (if_exists : Bool) (asks : token.kind ≡ Include if_exists)
    (fails : (total : ℕ) → Fails (included way (record { file = file; at = token.start }) (target files token.text if_exists) total)) where
  own-fails : (tokens : List Seen) (total : ℕ) → Fails (walked files way file (token ∷ tokens) total)
  unfolding walked
  own-fails tokens total = by token.kind asks
    where
      place : Place
      place = record { file = file; at = token.start }

      by : (kind : TokenKind) → kind ≡ Include if_exists
          → Fails (elim kind [
            | Include if_exists ↦ and_then (included way place (target files token.text if_exists) total) (walked files way file tokens)
            | _ ↦ and_then (Ok (record { file = file; token = token } ∷ [], total)) (walked files way file tokens)
          ])
      by (Include flag) is =
          let same : if_exists ≡ flag = cc in
          first-fails (included way place (target files token.text flag) total) (walked files way file tokens)
          (subst (λ b. Fails (included way place (target files token.text b) total)) same (fails total))
      by (Assign append) is = absurd (cc)
      by Value is = absurd (cc)
      by Quoted is = absurd (cc)
      by Word is = absurd (cc)
      by Comma is = absurd (cc)
      by OpenBrace is = absurd (cc)
      by CloseBrace is = absurd (cc)

  walked-fails : (tokens : List Seen) → Contains tokens token → (total : ℕ) → Fails (walked files way file tokens total)
  walked-fails [] (k, lt, at) total = absurd (omega (arith, lt))
  walked-fails (first ∷ tokens) (zero, lt, at) total = subst (λ t. Fails (walked files way file (t ∷ tokens) total)) (sym at) (own-fails tokens total)
  walked-fails (first ∷ tokens) (suc k, lt, at) total = behind-fails files way file first tokens (walked-fails tokens (k, omega (arith, lt), at)) total

-- a file whose tokens come to a fault, however many bytes were entered before
entered-fails : (files : List File) (way : Way) (file : ℕ) (tokens : List Seen) → cut 0 0 false (bytes_at files file) ≡ Ok tokens
    → ((total : ℕ) → Fails (walked files way file tokens total)) → (total : ℕ) (place : Option Place) → Fails (entered files way file total place)
unfolding entered
entered-fails files way file tokens read fails total place = by (not (nat_le (total + length bytes) most_bytes))
  where
    bytes : List ℕ
    bytes = bytes_at files file

    zero_place : Place
    zero_place = record { file = file; at = prefix_len (λ b. not (b == 0)) bytes }

    cut_out : (out : Result (List Seen) (CutRefusal × ℕ)) → out ≡ Ok tokens
        → Fails (elim out [
          | Err fault ↦ Err (refusal_of fault.0, Some (record { file = file; at = fault.1 }))
          | Ok tokens ↦ walked files way file tokens (total + length bytes)
        ])
    cut_out (Err fault) is = refl
    cut_out (Ok all) is = let same : tokens ≡ all = cc in subst (λ ts. Fails (walked files way file ts (total + length bytes))) same (fails (total + length bytes))

    zeros : (b : Bool)
        → Fails (if b then Err (ZeroByte, Some zero_place) else elim (cut 0 0 false bytes) [
          | Err fault ↦ Err (refusal_of fault.0, Some (record { file = file; at = fault.1 }))
          | Ok tokens ↦ walked files way file tokens (total + length bytes)
        ])
    zeros true = refl
    zeros false = cut_out (cut 0 0 false bytes) read

    by : (b : Bool)
        → Fails (if b then Err (TextTooBig, place) else if has_byte 0 bytes then Err (ZeroByte, Some zero_place) else elim (cut 0 0 false bytes) [
          | Err fault ↦ Err (refusal_of fault.0, Some (record { file = file; at = fault.1 }))
          | Ok tokens ↦ walked files way file tokens (total + length bytes)
        ])
    by true = refl
    by false = zeros (has_byte 0 bytes)

-- the one token of what stands in place of a file that wasn't read
abbrev nameless : Seen
nameless = record { kind = Include false; text = []; start = 0; end = 10 }

cut-stand_in : cut 0 0 false stand_in ≡ Ok (nameless ∷ [])
unfolding chars
cut-stand_in = refl

-- no file has no name
target-nameless : (files : List File) → target files [] false ≡ Absent
unfolding target
target-nameless files = refl

-- so what stands there comes to a fault
unread-fails : (files : List File) (file : ℕ) → bytes_at files file ≡ stand_in → (way : Way) (total : ℕ) (place : Option Place)
    → Fails (entered files way file total place)
unread-fails files file is way =
    entered-fails files way file (nameless ∷ []) (ap (cut 0 0 false) is ∙ cut-stand_in)
    (walked-fails files way file nameless false refl
    (λ total. subst (λ found. Fails (included way (record { file = file; at = 0 }) found total)) (sym (target-nameless files)) (absent-fails way (record { file = file; at = 0 }) total))
    (nameless ∷ []) (zero, omega arith, refl))

-- and a file that includes one which does
including-fails : (files : List File) (way : Way) (one other : ℕ) → Includes files one other → FailsBy way other → (total : ℕ) (place : Option Place)
    → Fails (entered files way one total place)
including-fails files way one other has fails =
    entered-fails files way one has.tokens has.read
    (walked-fails files way one has.token has.if_exists has.asks
    (λ total. subst (λ found. Fails (included way (record { file = one; at = has.token.start }) found total)) (sym has.puts)
    (included-fails way other fails (record { file = one; at = has.token.start }) has.entered has.stands total))
    has.tokens has.among)

-- and one that leads to it, at each depth
reaching-fails : (files : List File) (way : List ℕ) (one other : ℕ) → Reaches files one way other → bytes_at files other ≡ stand_in
    → (depth total : ℕ) (place : Option Place) → Fails (within files depth one total place)
unfolding within
reaching-fails files [] one other reaches is zero = unread-fails files one (ap (bytes_at files) reaches ∙ is) None
reaching-fails files [] one other reaches is (suc depth) = unread-fails files one (ap (bytes_at files) reaches ∙ is) (Some (within files depth))
reaching-fails files (next ∷ way) one other reaches is zero = including-fails files None one next reaches.0 tt
reaching-fails files (next ∷ way) one other reaches is (suc depth) =
    including-fails files (Some (within files depth)) one next reaches.0 (reaching-fails files way next other reaches.1 is depth)

tokens-fail : (all : Entered) → Fails all → is_err (tokens_of all) ≡ true
tokens-fail (Ok all) fails = absurd (let bad : false ≡ true = fails in cc)
tokens-fail (Err fault) fails = refl

-- so it can't be spliced by its name
pub spliced-fails : (files : List File) (name : List ℕ) (one other : ℕ) (way : List ℕ) → file_at files name ≡ Some one → Reaches files one way other
    → bytes_at files other ≡ stand_in → is_err (spliced files name) ≡ true
unfolding spliced
spliced-fails files name one other way found reaches is = by (file_at files name) found
  where
    tokens_at : Option ℕ → Result (List Placed) Fault
    tokens_at None = Err (NoFile, None)
    tokens_at (Some file) = tokens_of (within files deepest file 0 None)

    by : (at : Option ℕ) → at ≡ Some one → is_err (tokens_at at) ≡ true
    by None same = refl
    by (Some file) same =
        let own : one ≡ file = cc in
        tokens-fail (within files deepest file 0 None)
        (subst (λ f. Fails (within files deepest f 0 None)) own (reaching-fails files way one other reaches is deepest 0 None))

-- where there is a reason why a file wasn't read, that text stands in its place
pub unread-stands_in : (known : Known) (base : List ℕ) (files : List File) (unread : List (Option UnreadFault)) (other : ℕ) (fault : UnreadFault)
    → AreTakenSo known base files unread → unread_at unread other ≡ Some fault → bytes_at files other ≡ stand_in
unread-stands_in known base [] [] other fault taken is = absurd (let bad : None ≡ Some fault = is in cc)
unread-stands_in known base [] (first ∷ unread) other fault taken is = absurd (let bad : first ∷ unread ≡ [] = taken in cc)
unread-stands_in known base (file ∷ files) [] other fault taken is = absurd taken
unread-stands_in known base (file ∷ files) (first ∷ unread) zero fault taken is = own first is taken.0
  where
    own : (first : Option UnreadFault) → first ≡ Some fault → IsTakenSo known base file first → file.1 ≡ stand_in
    own None is so = absurd (cc)
    own (Some other) is so = so.0
unread-stands_in known base (file ∷ files) (first ∷ unread) (suc other) fault taken is = unread-stands_in known base files unread other fault taken.1 is
