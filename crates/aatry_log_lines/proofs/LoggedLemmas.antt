-- Lines that log answers, read back.
use Rattle.std.proofs.Common.{◌≡◌, ℕ, zero, ◌+◌, ◌/◌, ◌%◌, ◌<◌, ◌==◌, ◌++◌, ◌&&◌, ◌||◌, not, Bool, true, false, List, [], ◌∷◌, refl, sym, ap, append_assoc, append-nil, subst, suc, arith, inl, inr, ◌∙◌, None, Some, codes}
use Rattle.std.specs.Prelude.{if◌then◌else◌, map, nat_le, slice_index}
use Rattle.std.specs.Fmt.{decimal}
use Rattle.std.specs.Int.Digits.{digits_of}
use Rattle.std.specs.List.{list_all, list_any}
use Rattle.std.specs.Str.{bytes_eq}
use Rattle.std.proofs.lemmas.Bool.{and_parts, cases_Bool, or_parts}
use Rattle.std.proofs.lemmas.Bool.Decides.{nat_tests}
use Rattle.std.proofs.lemmas.Fmt.{decimal-digits_of, decimal_digit}
use Rattle.std.proofs.lemmas.List.Folds.{list_any-append}
use Rattle.std.proofs.lemmas.List.Splits.{slice_split_at, slice_split_none}
use Rattle.hex.specs.Hex.{IsBytes, encode_with, upper_digits}
use Rattle.aa_bytes.specs.Bytes.{line_feed, quote, space}
use Rattle.aa_bytes.specs.Quoting.{hexadecimal, is_shown, quoted, written_text}
use Rattle.aa_decide_rules.specs.LogLines.{beginning, capability_subject, file_subject, mask_key, socket_subject, tag_word, tagged_exec_line, tagged_line}
use Rattle.aa_decide_rules.specs.declared.verdict.Tag.{Tag}
use Rattle.aa_decide_rules.specs.declared.verdict.Tag.TheVariants.{Allowed, Audit, Denied}
use Rattle.aa_profile_data.specs.Access.{EXEC, asked_letters, has, letters_of}
use Rattle.aa_profile_data.specs.Request.{ForCapability, ForFile, ForSockets, Request}
use Rattle.aa_profile_data.specs.Capabilities.{capability_name}
use Rattle.aa_profile_data.specs.Domains.{domain_name}
use Rattle.aa_profile_data.specs.Kinds.{kind_name}
use Rattle.aa_profile_data.specs.TableNames.{name_or_none}
use Rattle.aa_set_commands.specs.Question.{OfAccess, OfExec, is_path, type_number}
use Rattle.aa_set_commands.specs.Lines.{is_line_feed, lines}
use Rattle.aatry_log_lines.specs.Laws.{CanBeLogged, as_logged}
use Rattle.aatry_log_lines.specs.Lines.{Asks, Told, asked_by, asked_of, asker_of, file_told, has_asked_class, is_disconnected, is_local, is_of_host, owned_in, request_told, sockets_told, told_as, told_by, told_by_message, told_of}
use Rattle.aatry_log_lines.specs.Messages.{NoMessage, message_in}
use Rattle.aatry_log_lines.specs.LoggedQuestions.{path_question}
use Rattle.aatry_words.specs.Masks.{needs_of_mask}
use Rattle.aatry_log_lines.specs.Pairs.{is_gap, value_among, value_of, words}
use Rattle.aatry_log_lines.specs.Values.{quoted_text}
use Rattle.aatry_log_lines.proofs.LineLemmas.{lines-ended, none-pass}
use Rattle.aatry_log_lines.proofs.NameLemmas.{below, capability-read, domain-read, none-space, reads, reads-is}
use Rattle.aatry_log_lines.proofs.WrittenLemmas.{quoted-back, written-back}

-- a word before a gap, and the words behind it
word-first : (word rest : List ℕ) → list_any is_gap word ≡ false → words (word ++ space ∷ rest) ≡ word ∷ words rest
word-first word rest none = slice_split_at is_gap word space rest (none-pass is_gap word none) refl

word-last : (word : List ℕ) → list_any is_gap word ≡ false → words word ≡ word ∷ []
word-last word none = slice_split_none is_gap word (none-pass is_gap word none)

-- ---- what has no gap

shown-no_gap : (b : ℕ) → is_shown b ≡ true → is_gap b ≡ false
shown-no_gap b shown =
    let parts = and_parts (nat_le 33 b && nat_le b 126) (not (b == quote)) shown in
    let least : nat_le 33 b ≡ true = (and_parts (nat_le 33 b) (nat_le b 126) parts.0).0 in
    grind (arith, nat_tests, least)

all_shown-no_gap : (text : List ℕ) → list_all is_shown text ≡ true → list_any is_gap text ≡ false
all_shown-no_gap [] shown = refl
all_shown-no_gap (b ∷ bs) shown =
    let parts = and_parts (is_shown b) (list_all is_shown bs) shown in
    let first = shown-no_gap b parts.0 in
    rw first (all_shown-no_gap bs parts.1)

-- between quotes
quoted-no_gap : (text : List ℕ) → list_any is_gap text ≡ false → list_any is_gap (quoted text) ≡ false
quoted-no_gap text none = list_any-append is_gap text (quote ∷ []) ∙ ap (λ b. b || false) none

digit-no_gap : (n : ℕ) → n < 16 → is_gap (slice_index upper_digits n) ≡ false
digit-no_gap n within = none-space (is_gap (slice_index upper_digits n)) (below 16 (λ n. not (is_gap (slice_index upper_digits n))) refl n within)

digits-no_gap : (bytes : List ℕ) → IsBytes bytes → list_any is_gap (hexadecimal bytes) ≡ false
unfolding encode_with
digits-no_gap [] fit = refl
digits-no_gap (b ∷ bs) fit =
    let first : b < 256 = fit 0 in
    rw (digit-no_gap (b / 16) (omega arith), digit-no_gap (b % 16) (omega arith)) (digits-no_gap bs (λ i. fit (suc i)))

written-no_gap : (text : List ℕ) → IsBytes text → list_any is_gap (written_text text) ≡ false
written-no_gap text fit = elim (cases_Bool (list_all is_shown text)) [
  | inl shown ↦ rw shown (quoted-no_gap text (all_shown-no_gap text shown))
  | inr unshown ↦ rw unshown (digits-no_gap text fit)
]

letter-no_gap : (there : Bool) (letter : ℕ) (rest : List ℕ) → is_gap letter ≡ false → list_any is_gap rest ≡ false
    → list_any is_gap ((if there then letter ∷ [] else []) ++ rest) ≡ false
letter-no_gap true letter rest none more = rw none more
letter-no_gap false letter rest none more = more

-- the letters of any set
letters-no_gap : (set : ℕ) → list_any is_gap (letters_of set) ≡ false
letters-no_gap set =
    letter-no_gap (has set 1) 114 _ refl (letter-no_gap (has set 2) 119 _ refl (letter-no_gap (has set 4) 97 _ refl (letter-no_gap (has set 8) 108 _ refl
    (letter-no_gap (has set 16) 107 _ refl (letter-no_gap (has set 32) 109 _ refl (letter-no_gap (has set 64) 120 [] refl refl))))))

-- ---- what is read of letters and names

letters-shown : (needs : ℕ) → needs < asked_letters → list_all is_shown (letters_of needs) ≡ true
letters-shown needs within = below asked_letters (λ n. list_all is_shown (letters_of n)) refl needs within

mask-read : (needs : ℕ) → 0 < needs → needs < asked_letters → needs_of_mask (letters_of needs) ≡ Some needs
mask-read needs some within = elim (cases_Bool (needs == 0)) [
  | inl none ↦ absurd (grind (arith, nat_tests, none, some))
  | inr other ↦ reads-is (needs_of_mask (letters_of needs)) needs
      (subst (λ b. (b || reads (needs_of_mask (letters_of needs)) needs) ≡ true) other
      (below asked_letters (λ n. (n == 0) || reads (needs_of_mask (letters_of n)) n) refl needs within))
]

mask-no_exec : (needs : ℕ) → needs < asked_letters → bytes_eq (letters_of needs) (codes "x") ≡ false
mask-no_exec needs within =
    none-space (bytes_eq (letters_of needs) (codes "x")) (below asked_letters (λ n. not (bytes_eq (letters_of n) (codes "x"))) refl needs within)

capability-shown : (number : ℕ) → number < 41 → list_all is_shown (name_or_none (capability_name number)) ≡ true
capability-shown number within = below 41 (λ n. list_all is_shown (name_or_none (capability_name n))) refl number within

domain-shown : (number : ℕ) → number < 44 → list_all is_shown (name_or_none (domain_name number)) ≡ true
domain-shown number within = below 44 (λ n. list_all is_shown (name_or_none (domain_name n))) refl number within

kind-shown : (number : ℕ) → number < 6 → list_all is_shown (name_or_none (kind_name number)) ≡ true
kind-shown number within = below 6 (λ n. list_all is_shown (name_or_none (kind_name n))) refl number within

type-read : (number : ℕ) → number < 6 → type_number (name_or_none (kind_name number)) ≡ Some number
type-read number within =
    reads-is (type_number (name_or_none (kind_name number))) number
    (below 6 (λ n. reads (type_number (name_or_none (kind_name n))) n) refl number within)

-- digits are no gaps
digits-no_gap_of : (digits : List ℕ) → list_any is_gap (map (λ d. 48 + d) digits) ≡ false
digits-no_gap_of [] = refl
digits-no_gap_of (d ∷ ds) = let first : is_gap (48 + d) ≡ false = grind (arith, nat_tests) in rw first (digits-no_gap_of ds)

decimal-no_gap : (number : ℕ) → number < 41 → list_any is_gap (decimal number) ≡ false
decimal-no_gap zero within = ap (list_any is_gap) (decimal_digit 0 (omega arith))
decimal-no_gap (suc n) within = ap (list_any is_gap) (decimal-digits_of (suc n) (omega arith) (omega (arith, within))) ∙ digits-no_gap_of (digits_of 10 (suc n))

-- ---- the words of lines

-- the word of the answer
abbrev answer_of : Tag → List ℕ
answer_of tag = codes "apparmor=" ++ quoted (tag_word tag)

answer-no_gap : (tag : Tag) → list_any is_gap (answer_of tag) ≡ false
answer-no_gap Denied = refl
answer-no_gap Allowed = refl
answer-no_gap Audit = refl

-- the words that each line begins with
begun-words : (tag : Tag) (operation asker behind : List ℕ) → list_any is_gap (quoted operation) ≡ false → IsBytes asker
    → words (beginning tag operation asker ++ (space ∷ behind))
    ≡ answer_of tag ∷ (codes "operation=" ++ quoted operation) ∷ (codes "profile=" ++ written_text asker) ∷ words behind
begun-words tag operation asker behind none fit =
    let first = answer_of tag in
    let second = codes " operation=" in
    let name = quoted operation in
    let third = codes " profile=" in
    let who = written_text asker in
    let last = space ∷ behind in
    ap words (append_assoc (first ++ second ++ name ++ third) who last
    ∙ append_assoc (first ++ second ++ name) third (who ++ last)
    ∙ append_assoc (first ++ second) name (third ++ (who ++ last))
    ∙ append_assoc first second (name ++ (third ++ (who ++ last))))
    ∙ word-first first (codes "operation=" ++ (name ++ (third ++ (who ++ last)))) (answer-no_gap tag)
    ∙ ap (λ ws. first ∷ ws) (word-first (codes "operation=" ++ name) (codes "profile=" ++ (who ++ last)) none)
    ∙ ap (λ ws. first ∷ (codes "operation=" ++ name) ∷ ws) (word-first (codes "profile=" ++ who) behind (written-no_gap asker fit))

-- the word of the mask that is told
abbrev mask_word : Tag → ℕ → List ℕ
mask_word Audit mask = codes "audit_mask=" ++ quoted (letters_of mask)
mask_word Denied mask = codes "denied_mask=" ++ quoted (letters_of mask)
mask_word Allowed mask = codes "denied_mask=" ++ quoted (letters_of mask)

mask_word-no_gap : (tag : Tag) (mask : ℕ) → list_any is_gap (mask_word tag mask) ≡ false
mask_word-no_gap Audit mask = quoted-no_gap (letters_of mask) (letters-no_gap mask)
mask_word-no_gap Denied mask = quoted-no_gap (letters_of mask) (letters-no_gap mask)
mask_word-no_gap Allowed mask = quoted-no_gap (letters_of mask) (letters-no_gap mask)

mask_key-word : (tag : Tag) (mask : ℕ) → mask_key tag ++ quoted (letters_of mask) ≡ space ∷ mask_word tag mask
mask_key-word Audit mask = refl
mask_key-word Denied mask = refl
mask_key-word Allowed mask = refl

-- what stands behind the gap of a file's subject
abbrev file_behind : Tag → ℕ → ℕ → List ℕ → List ℕ
file_behind tag mask needs path =
    codes "name=" ++ written_text path ++ codes " requested_mask=" ++ quoted (letters_of needs) ++ mask_key tag ++ quoted (letters_of mask)

file-words : (tag : Tag) (mask needs : ℕ) (path : List ℕ) → IsBytes path
    → words (file_behind tag mask needs path)
    ≡ (codes "name=" ++ written_text path) ∷ (codes "requested_mask=" ++ quoted (letters_of needs)) ∷ mask_word tag mask ∷ []
file-words tag mask needs path fit =
    let name = codes "name=" ++ written_text path in
    let requested = codes " requested_mask=" in
    let letters = quoted (letters_of needs) in
    let told = quoted (letters_of mask) in
    ap words (append_assoc (name ++ requested ++ letters) (mask_key tag) told
    ∙ append_assoc (name ++ requested) letters (mask_key tag ++ told)
    ∙ append_assoc name requested (letters ++ (mask_key tag ++ told))
    ∙ ap (λ last. name ++ (requested ++ (letters ++ last))) (mask_key-word tag mask))
    ∙ word-first name (codes "requested_mask=" ++ (letters ++ (space ∷ mask_word tag mask))) (written-no_gap path fit)
    ∙ ap (λ ws. name ∷ ws) (word-first (codes "requested_mask=" ++ letters) (mask_word tag mask) (quoted-no_gap (letters_of needs) (letters-no_gap needs)))
    ∙ ap (λ ws. name ∷ (codes "requested_mask=" ++ letters) ∷ ws) (word-last (mask_word tag mask) (mask_word-no_gap tag mask))

-- ---- what the words tell

-- the word of the answer tells of a request
answer-tells : (tag : Tag) (line : List ℕ) → told_as line (quoted (tag_word tag)) (quoted_text (quoted (tag_word tag))) ≡ request_told line
answer-tells Denied line = refl
answer-tells Allowed line = refl
answer-tells Audit line = refl

-- the values of a line on a file
record FileValues (line : List ℕ) (tag : Tag) (asker path : List ℕ) (needs : ℕ) : Type 0 where
  answer : value_of (codes "apparmor=") line ≡ Some (quoted (tag_word tag))
  namespace : value_of (codes "namespace=") line ≡ None
  kind : value_of (codes "class=") line ≡ None
  profile : value_of (codes "profile=") line ≡ Some (written_text asker)
  capname : value_of (codes "capname=") line ≡ None
  family : value_of (codes "family=") line ≡ None
  requested : value_of (codes "requested_mask=") line ≡ Some (quoted (letters_of needs))
  name : value_of (codes "name=") line ≡ Some (written_text path)
  info : value_of (codes "info=") line ≡ None
  process : value_of (codes "pid=") line ≡ None
  user : value_of (codes "fsuid=") line ≡ None
  owner : value_of (codes "ouid=") line ≡ None

file-values : (line : List ℕ) (tag : Tag) (operation asker path : List ℕ) (needs mask : ℕ)
    → words line ≡ answer_of tag ∷ (codes "operation=" ++ operation) ∷ (codes "profile=" ++ written_text asker) ∷ (codes "name=" ++ written_text path)
    ∷ (codes "requested_mask=" ++ quoted (letters_of needs)) ∷ mask_word tag mask ∷ [] → FileValues line tag asker path needs
file-values line Denied operation asker path needs mask ws = record {
  answer = ap (value_among (codes "apparmor=")) ws;
  namespace = ap (value_among (codes "namespace=")) ws;
  kind = ap (value_among (codes "class=")) ws;
  profile = ap (value_among (codes "profile=")) ws;
  capname = ap (value_among (codes "capname=")) ws;
  family = ap (value_among (codes "family=")) ws;
  requested = ap (value_among (codes "requested_mask=")) ws;
  name = ap (value_among (codes "name=")) ws;
  info = ap (value_among (codes "info=")) ws;
  process = ap (value_among (codes "pid=")) ws;
  user = ap (value_among (codes "fsuid=")) ws;
  owner = ap (value_among (codes "ouid=")) ws;
}
file-values line Allowed operation asker path needs mask ws = record {
  answer = ap (value_among (codes "apparmor=")) ws;
  namespace = ap (value_among (codes "namespace=")) ws;
  kind = ap (value_among (codes "class=")) ws;
  profile = ap (value_among (codes "profile=")) ws;
  capname = ap (value_among (codes "capname=")) ws;
  family = ap (value_among (codes "family=")) ws;
  requested = ap (value_among (codes "requested_mask=")) ws;
  name = ap (value_among (codes "name=")) ws;
  info = ap (value_among (codes "info=")) ws;
  process = ap (value_among (codes "pid=")) ws;
  user = ap (value_among (codes "fsuid=")) ws;
  owner = ap (value_among (codes "ouid=")) ws;
}
file-values line Audit operation asker path needs mask ws = record {
  answer = ap (value_among (codes "apparmor=")) ws;
  namespace = ap (value_among (codes "namespace=")) ws;
  kind = ap (value_among (codes "class=")) ws;
  profile = ap (value_among (codes "profile=")) ws;
  capname = ap (value_among (codes "capname=")) ws;
  family = ap (value_among (codes "family=")) ws;
  requested = ap (value_among (codes "requested_mask=")) ws;
  name = ap (value_among (codes "name=")) ws;
  info = ap (value_among (codes "info=")) ws;
  process = ap (value_among (codes "pid=")) ws;
  user = ap (value_among (codes "fsuid=")) ws;
  owner = ap (value_among (codes "ouid=")) ws;
}

-- a line on a file asks for its path by its mask
file-told : (line : List ℕ) (tag : Tag) (asker path : List ℕ) (needs : ℕ) → FileValues line tag asker path needs → IsBytes asker
    → IsBytes path
    → list_all is_shown (letters_of needs) ≡ true → told_by_message line ≡ told_of (path_question asker (letters_of needs) false path)
file-told line tag asker path needs values who fit shown =
    let answer = values.answer in
    let namespace = values.namespace in
    let kind = values.kind in
    let profile = values.profile in
    let capname = values.capname in
    let family = values.family in
    let requested = values.requested in
    let name = values.name in
    let info = values.info in
    let process = values.process in
    let user = values.user in
    let owner = values.owner in
    let letters = quoted-back (letters_of needs) shown in
    let own = written-back path fit in
    let asked = written-back asker who in
    rw (told_by_message, answer) (answer-tells tag line
    ∙ rw (request_told, is_of_host, has_asked_class, namespace, kind, asker_of, profile, asked_by, asked, process, asked_of, capname, family, requested, file_told, name, is_disconnected, info, letters, own, asked, owned_in, user, owner) refl)

-- the question for a path by the letters of a request
path-asked : (asker path : List ℕ) (needs : ℕ) → 0 < needs → needs < asked_letters → is_path path ≡ true
    → told_of (path_question asker (letters_of needs) false path) ≡ Asks (OfAccess asker (ForFile needs false path))
path-asked asker path needs some within is =
    let no_exec = mask-no_exec needs within in
    let read = mask-read needs some within in
    rw (no_exec, read, is) refl

-- ---- lines on capabilities and on sockets

abbrev capability_behind : ℕ → List ℕ
capability_behind number = codes "capability=" ++ decimal number ++ codes " capname=" ++ quoted (name_or_none (capability_name number))

capability-words : (number : ℕ) → number < 41
    → words (capability_behind number) ≡ (codes "capability=" ++ decimal number) ∷ (codes "capname=" ++ quoted (name_or_none (capability_name number))) ∷ []
capability-words number within =
    let first = codes "capability=" ++ decimal number in
    let name = quoted (name_or_none (capability_name number)) in
    let none = quoted-no_gap (name_or_none (capability_name number)) (all_shown-no_gap (name_or_none (capability_name number)) (capability-shown number within)) in
    ap words (append_assoc first (codes " capname=") name)
    ∙ word-first first (codes "capname=" ++ name) (decimal-no_gap number within)
    ∙ ap (λ ws. first ∷ ws) (word-last (codes "capname=" ++ name) none)

capability-told : (line : List ℕ) (tag : Tag) (operation asker : List ℕ) (number : ℕ) → IsBytes asker → number < 41
    → words line ≡ answer_of tag ∷ (codes "operation=" ++ operation) ∷ (codes "profile=" ++ written_text asker) ∷ (codes "capability=" ++ decimal number)
    ∷ (codes "capname=" ++ quoted (name_or_none (capability_name number))) ∷ [] → told_by_message line ≡ Asks (OfAccess asker (ForCapability number))
capability-told line tag operation asker number who within ws =
    let values = values_of tag ws in
    let answer = values.0 in
    let namespace = values.1 in
    let kind = values.2 in
    let profile = values.3 in
    let capname = values.4 in
    let process = values.5 in
    let name = quoted-back (name_or_none (capability_name number)) (capability-shown number within) in
    let asked = written-back asker who in
    let read = capability-read number within in
    rw (told_by_message, answer) (answer-tells tag line
    ∙ rw (request_told, is_of_host, has_asked_class, namespace, kind, asker_of, profile, asked_by, asked, process, asked_of, capname, name, asked, read) refl)
  where
    values_of : (tag : Tag)
        → words line ≡ answer_of tag ∷ (codes "operation=" ++ operation) ∷ (codes "profile=" ++ written_text asker) ∷ (codes "capability=" ++ decimal number)
        ∷ (codes "capname=" ++ quoted (name_or_none (capability_name number))) ∷ []
        → (value_of (codes "apparmor=") line ≡ Some (quoted (tag_word tag))) × (value_of (codes "namespace=") line ≡ None)
        × (value_of (codes "class=") line ≡ None) × (value_of (codes "profile=") line ≡ Some (written_text asker))
        × (value_of (codes "capname=") line ≡ Some (quoted (name_or_none (capability_name number)))) × (value_of (codes "pid=") line ≡ None)
    values_of Denied ws = (
      ap (value_among (codes "apparmor=")) ws,
      ap (value_among (codes "namespace=")) ws,
      ap (value_among (codes "class=")) ws,
      ap (value_among (codes "profile=")) ws,
      ap (value_among (codes "capname=")) ws,
      ap (value_among (codes "pid=")) ws,
    )
    values_of Allowed ws = (
      ap (value_among (codes "apparmor=")) ws,
      ap (value_among (codes "namespace=")) ws,
      ap (value_among (codes "class=")) ws,
      ap (value_among (codes "profile=")) ws,
      ap (value_among (codes "capname=")) ws,
      ap (value_among (codes "pid=")) ws,
    )
    values_of Audit ws = (
      ap (value_among (codes "apparmor=")) ws,
      ap (value_among (codes "namespace=")) ws,
      ap (value_among (codes "class=")) ws,
      ap (value_among (codes "profile=")) ws,
      ap (value_among (codes "capname=")) ws,
      ap (value_among (codes "pid=")) ws,
    )

abbrev sockets_behind : ℕ → ℕ → List ℕ
sockets_behind domain kind = codes "family=" ++ quoted (name_or_none (domain_name domain)) ++ codes " sock_type=" ++ quoted (name_or_none (kind_name kind))

sockets-words : (domain kind : ℕ) → domain < 44 → kind < 6
    → words (sockets_behind domain kind)
    ≡ (codes "family=" ++ quoted (name_or_none (domain_name domain))) ∷ (codes "sock_type=" ++ quoted (name_or_none (kind_name kind))) ∷ []
sockets-words domain kind in_domains in_kinds =
    let family = quoted (name_or_none (domain_name domain)) in
    let sort = quoted (name_or_none (kind_name kind)) in
    let no_gap = quoted-no_gap (name_or_none (domain_name domain)) (all_shown-no_gap (name_or_none (domain_name domain)) (domain-shown domain in_domains)) in
    let none = quoted-no_gap (name_or_none (kind_name kind)) (all_shown-no_gap (name_or_none (kind_name kind)) (kind-shown kind in_kinds)) in
    ap words (append_assoc (codes "family=" ++ family) (codes " sock_type=") sort)
    ∙ word-first (codes "family=" ++ family) (codes "sock_type=" ++ sort) no_gap
    ∙ ap (λ ws. (codes "family=" ++ family) ∷ ws) (word-last (codes "sock_type=" ++ sort) none)

-- the operation of a line that is told here
own-asks : (line family : List ℕ) → value_of (codes "operation=") line ≡ Some (quoted (codes "net")) → is_local line family ≡ false
own-asks line family is = by (bytes_eq family (quoted (codes "unix")))
  where
    by : (b : Bool) → (b && not (elim (value_of (codes "operation=") line) [ None ↦ false | Some value ↦ bytes_eq value (quoted (codes "net")) ])) ≡ false
    by true = rw is refl
    by false = refl

sockets-told : (line : List ℕ) (tag : Tag) (asker : List ℕ) (domain kind : ℕ) → IsBytes asker → domain < 44 → kind < 6
    → words line ≡ answer_of tag ∷ (codes "operation=" ++ quoted (codes "net")) ∷ (codes "profile=" ++ written_text asker)
    ∷ (codes "family=" ++ quoted (name_or_none (domain_name domain))) ∷ (codes "sock_type=" ++ quoted (name_or_none (kind_name kind))) ∷ []
    → told_by_message line ≡ Asks (OfAccess asker (ForSockets domain kind))
sockets-told line tag asker domain kind who in_domains in_kinds ws =
    let values = values_of tag ws in
    let answer = values.0 in
    let namespace = values.1 in
    let class = values.2 in
    let profile = values.3 in
    let capname = values.4 in
    let family = values.5 in
    let sort = values.6 in
    let operation = values.7 in
    let process = values.8 in
    let domain_text = quoted-back (name_or_none (domain_name domain)) (domain-shown domain in_domains) in
    let kind_text = quoted-back (name_or_none (kind_name kind)) (kind-shown kind in_kinds) in
    let asked = written-back asker who in
    let domain_found = domain-read domain in_domains in
    let kind_found = type-read kind in_kinds in
    let own = own-asks line (quoted (name_or_none (domain_name domain))) operation in
    rw (told_by_message, answer) (answer-tells tag line
    ∙ rw (request_told, is_of_host, has_asked_class, namespace, class, asker_of, profile, asked_by, asked, process, asked_of, capname, family, sockets_told, own, sort, domain_text, kind_text, asked, domain_found, kind_found) refl)
  where
    values_of : (tag : Tag)
        → words line ≡ answer_of tag ∷ (codes "operation=" ++ quoted (codes "net")) ∷ (codes "profile=" ++ written_text asker)
        ∷ (codes "family=" ++ quoted (name_or_none (domain_name domain))) ∷ (codes "sock_type=" ++ quoted (name_or_none (kind_name kind))) ∷ []
        → (value_of (codes "apparmor=") line ≡ Some (quoted (tag_word tag))) × (value_of (codes "namespace=") line ≡ None)
        × (value_of (codes "class=") line ≡ None) × (value_of (codes "profile=") line ≡ Some (written_text asker)) × (value_of (codes "capname=") line ≡ None)
        × (value_of (codes "family=") line ≡ Some (quoted (name_or_none (domain_name domain))))
        × (value_of (codes "sock_type=") line ≡ Some (quoted (name_or_none (kind_name kind))))
        × (value_of (codes "operation=") line ≡ Some (quoted (codes "net"))) × (value_of (codes "pid=") line ≡ None)
    values_of Denied ws = (
      ap (value_among (codes "apparmor=")) ws,
      ap (value_among (codes "namespace=")) ws,
      ap (value_among (codes "class=")) ws,
      ap (value_among (codes "profile=")) ws,
      ap (value_among (codes "capname=")) ws,
      ap (value_among (codes "family=")) ws,
      ap (value_among (codes "sock_type=")) ws,
      ap (value_among (codes "operation=")) ws,
      ap (value_among (codes "pid=")) ws,
    )
    values_of Allowed ws = (
      ap (value_among (codes "apparmor=")) ws,
      ap (value_among (codes "namespace=")) ws,
      ap (value_among (codes "class=")) ws,
      ap (value_among (codes "profile=")) ws,
      ap (value_among (codes "capname=")) ws,
      ap (value_among (codes "family=")) ws,
      ap (value_among (codes "sock_type=")) ws,
      ap (value_among (codes "operation=")) ws,
      ap (value_among (codes "pid=")) ws,
    )
    values_of Audit ws = (
      ap (value_among (codes "apparmor=")) ws,
      ap (value_among (codes "namespace=")) ws,
      ap (value_among (codes "class=")) ws,
      ap (value_among (codes "profile=")) ws,
      ap (value_among (codes "capname=")) ws,
      ap (value_among (codes "family=")) ws,
      ap (value_among (codes "sock_type=")) ws,
      ap (value_among (codes "operation=")) ws,
      ap (value_among (codes "pid=")) ws,
    )

-- ---- each is one line

-- what has no gap has no line feed
no_gap-no_feed : (text : List ℕ) → list_any is_gap text ≡ false → list_any is_line_feed text ≡ false
no_gap-no_feed [] none = refl
no_gap-no_feed (b ∷ bs) none =
    let parts = or_parts (is_gap b) (list_any is_gap bs) none in
    let first : is_line_feed b ≡ false = grind (arith, nat_tests, parts.0) in
    rw first (no_gap-no_feed bs parts.1)

both-no_feed : (first last : List ℕ) → list_any is_line_feed first ≡ false → list_any is_line_feed last ≡ false → list_any is_line_feed (first ++ last) ≡ false
both-no_feed first last none more = list_any-append is_line_feed first last ∙ rw none more

answer-no_feed : (tag : Tag) → list_any is_line_feed (answer_of tag) ≡ false
answer-no_feed Denied = refl
answer-no_feed Allowed = refl
answer-no_feed Audit = refl

begun-no_feed : (tag : Tag) (operation asker : List ℕ) → list_any is_line_feed (quoted operation) ≡ false → IsBytes asker
    → list_any is_line_feed (beginning tag operation asker) ≡ false
begun-no_feed tag operation asker none fit =
    both-no_feed (answer_of tag ++ codes " operation=" ++ quoted operation ++ codes " profile=") (written_text asker)
    (both-no_feed (answer_of tag ++ codes " operation=" ++ quoted operation) (codes " profile=")
    (both-no_feed (answer_of tag ++ codes " operation=") (quoted operation)
    (both-no_feed (answer_of tag) (codes " operation=") (answer-no_feed tag) refl) none) refl)
    (no_gap-no_feed (written_text asker) (written-no_gap asker fit))

mask_key-no_feed : (tag : Tag) → list_any is_line_feed (mask_key tag) ≡ false
mask_key-no_feed Denied = refl
mask_key-no_feed Allowed = refl
mask_key-no_feed Audit = refl

letters-no_feed : (set : ℕ) → list_any is_line_feed (quoted (letters_of set)) ≡ false
letters-no_feed set = no_gap-no_feed (quoted (letters_of set)) (quoted-no_gap (letters_of set) (letters-no_gap set))

file-no_feed : (tag : Tag) (mask needs : ℕ) (path : List ℕ) → IsBytes path → list_any is_line_feed (file_subject tag mask needs path) ≡ false
file-no_feed tag mask needs path fit =
    let name = codes " name=" ++ written_text path in
    let requested = name ++ codes " requested_mask=" in
    let letters = requested ++ quoted (letters_of needs) in
    both-no_feed (letters ++ mask_key tag) (quoted (letters_of mask))
    (both-no_feed letters (mask_key tag)
    (both-no_feed requested (quoted (letters_of needs))
    (both-no_feed name (codes " requested_mask=") (no_gap-no_feed (written_text path) (written-no_gap path fit)) refl) (letters-no_feed needs)) (mask_key-no_feed tag))
    (letters-no_feed mask)

capability-no_feed : (number : ℕ) → number < 41 → list_any is_line_feed (capability_subject number) ≡ false
capability-no_feed number within =
    let first = codes " capability=" ++ decimal number in
    both-no_feed (first ++ codes " capname=") (quoted (name_or_none (capability_name number)))
    (both-no_feed first (codes " capname=") (no_gap-no_feed (decimal number) (decimal-no_gap number within)) refl)
    (no_gap-no_feed (quoted (name_or_none (capability_name number)))
    (quoted-no_gap (name_or_none (capability_name number)) (all_shown-no_gap (name_or_none (capability_name number)) (capability-shown number within))))

sockets-no_feed : (domain kind : ℕ) → domain < 44 → kind < 6 → list_any is_line_feed (socket_subject domain kind) ≡ false
sockets-no_feed domain kind in_domains in_kinds =
    let family = codes " family=" ++ quoted (name_or_none (domain_name domain)) in
    both-no_feed (family ++ codes " sock_type=") (quoted (name_or_none (kind_name kind)))
    (both-no_feed family (codes " sock_type=")
    (no_gap-no_feed (quoted (name_or_none (domain_name domain)))
    (quoted-no_gap (name_or_none (domain_name domain)) (all_shown-no_gap (name_or_none (domain_name domain)) (domain-shown domain in_domains)))) refl)
    (no_gap-no_feed (quoted (name_or_none (kind_name kind)))
    (quoted-no_gap (name_or_none (kind_name kind)) (all_shown-no_gap (name_or_none (kind_name kind)) (kind-shown kind in_kinds))))

-- a text that is one line tells what the line tells, which is no record
one-line : (line : List ℕ) (told : Told) → list_any is_line_feed line ≡ false → message_in line ≡ NoMessage → told_by_message line ≡ told
    → map told_by (lines (line ++ line_feed ∷ [])) ≡ told ∷ []
one-line line told none no_record is =
    ap (map told_by) (ap lines (sym (append-nil (line ++ line_feed ∷ []))) ∙ lines-ended line [] none)
    ∙ ap (λ told. told ∷ []) (rw (told_by, no_record) is)

-- each begins with the word of the answer
no-record : (tag : Tag) (operation asker behind : List ℕ) → message_in (beginning tag operation asker ++ behind) ≡ NoMessage
no-record tag operation asker behind = refl

-- ---- whole lines

pub access-back : (asker : List ℕ) (request : Request) (tag : Tag) (mask : ℕ) → IsBytes asker → CanBeLogged request
    → map told_by (lines (tagged_line asker request tag mask)) ≡ Asks (as_logged asker request) ∷ []
access-back asker (ForFile needs owned path) tag mask who can =
    let line = beginning tag (codes "file") asker ++ file_subject tag mask needs path in
    let ws = begun-words tag (codes "file") asker (file_behind tag mask needs path) refl who
    ∙ ap (λ ws. answer_of tag ∷ (codes "operation=" ++ quoted (codes "file")) ∷ (codes "profile=" ++ written_text asker) ∷ ws) (file-words tag mask needs path can.2) in
    let told = file-told line tag asker path needs (file-values line tag (quoted (codes "file")) asker path needs mask ws) who can.2 (letters-shown needs can.1) in
    one-line line (Asks (OfAccess asker (ForFile needs false path)))
    (both-no_feed (beginning tag (codes "file") asker) (file_subject tag mask needs path) (begun-no_feed tag (codes "file") asker refl who) (file-no_feed tag mask needs path can.2))
    (no-record tag (codes "file") asker (file_subject tag mask needs path))
    (told ∙ path-asked asker path needs can.0 can.1 can.3)
access-back asker (ForCapability number) tag mask who within =
    let line = beginning tag (codes "capable") asker ++ capability_subject number in
    let ws = begun-words tag (codes "capable") asker (capability_behind number) refl who
    ∙ ap (λ ws. answer_of tag ∷ (codes "operation=" ++ quoted (codes "capable")) ∷ (codes "profile=" ++ written_text asker) ∷ ws) (capability-words number within) in
    one-line line (Asks (OfAccess asker (ForCapability number)))
    (both-no_feed (beginning tag (codes "capable") asker) (capability_subject number) (begun-no_feed tag (codes "capable") asker refl who) (capability-no_feed number within))
    (no-record tag (codes "capable") asker (capability_subject number))
    (capability-told line tag (quoted (codes "capable")) asker number who within ws)
access-back asker (ForSockets domain kind) tag mask who can =
    let line = beginning tag (codes "net") asker ++ socket_subject domain kind in
    let ws = begun-words tag (codes "net") asker (sockets_behind domain kind) refl who
    ∙ ap (λ ws. answer_of tag ∷ (codes "operation=" ++ quoted (codes "net")) ∷ (codes "profile=" ++ written_text asker) ∷ ws) (sockets-words domain kind can.0 can.1) in
    one-line line (Asks (OfAccess asker (ForSockets domain kind)))
    (both-no_feed (beginning tag (codes "net") asker) (socket_subject domain kind) (begun-no_feed tag (codes "net") asker refl who) (sockets-no_feed domain kind can.0 can.1))
    (no-record tag (codes "net") asker (socket_subject domain kind))
    (sockets-told line tag asker domain kind who can.0 can.1 ws)

pub exec-back : (asker path : List ℕ) (tag : Tag) (mask : ℕ) → IsBytes asker → IsBytes path → is_path path ≡ true
    → map told_by (lines (tagged_exec_line asker path tag mask)) ≡ Asks (OfExec asker false path) ∷ []
exec-back asker path tag mask who fit is =
    let line = beginning tag (codes "exec") asker ++ file_subject tag mask EXEC path in
    let ws = begun-words tag (codes "exec") asker (file_behind tag mask EXEC path) refl who
    ∙ ap (λ ws. answer_of tag ∷ (codes "operation=" ++ quoted (codes "exec")) ∷ (codes "profile=" ++ written_text asker) ∷ ws) (file-words tag mask EXEC path fit) in
    let told = file-told line tag asker path EXEC (file-values line tag (quoted (codes "exec")) asker path EXEC mask ws) who fit refl in
    one-line line (Asks (OfExec asker false path))
    (both-no_feed (beginning tag (codes "exec") asker) (file_subject tag mask EXEC path) (begun-no_feed tag (codes "exec") asker refl who) (file-no_feed tag mask EXEC path fit))
    (no-record tag (codes "exec") asker (file_subject tag mask EXEC path))
    (told ∙ rw is refl)
