-- Texts of questions, read back.
use Rattle.std.proofs.Common.{◌≡◌, ℕ, suc, ◌/◌, ◌%◌, ◌<◌, ◌==◌, ◌++◌, ◌||◌, ◌-◌, not, Bool, true, false, List, [], ◌∷◌, drop, length, take, refl, sym, ap, append_assoc, subst, arith, inl, inr, ◌∙◌, Option, None, Some, codes, true≢false}
use Rattle.std.specs.Prelude.{if◌then◌else◌, slice_index}
use Rattle.std.specs.List.{list_any, slice_split}
use Rattle.std.specs.Str.{bytes_eq}
use Rattle.std.proofs.lemmas.Bool.{and_parts, cases_Bool, cond-false, cond-true, eqb-true}
use Rattle.std.proofs.lemmas.List.{length-append}
use Rattle.std.proofs.lemmas.List.Folds.{list_any-append}
use Rattle.std.proofs.lemmas.List.Splits.{slice_split_at, slice_split_none}
use Rattle.std.proofs.lemmas.Slice.Eq.{bytes_eq-Decides}
use Rattle.hex.specs.Hex.{IsBytes, encode_with, hex_digit_value, upper_digits}
use Rattle.hex.proofs.HexLemmas.{IsDigits-upper_digits}
use Rattle.aa_bytes.specs.Bytes.{quote, space}
use Rattle.aa_profile_data.specs.Access.{asked_letters, letters_of, letters_onto}
use Rattle.aa_profile_data.specs.Request.{ForCapability, ForFile, ForSockets}
use Rattle.aa_profile_data.specs.Capabilities.{capability_name, capability_number}
use Rattle.aa_profile_data.specs.Domains.{domain_name, domain_number}
use Rattle.aa_profile_data.specs.Kinds.{kind_name, kind_number}
use Rattle.aa_profile_data.specs.TableNames.{name_or_none}
use Rattle.aa_bytes.specs.Quoting.{digits_of, is_shown}
use Rattle.aa_set_commands.specs.Question.{OfAccess, OfExec, Question, owned_of}
use Rattle.aatry_requests.specs.Laws.{CanBeAsked}
use Rattle.aatry_requests.specs.Texts.{is_same, owned_text, question_text}
use Rattle.aatry_questions.specs.Names.{backslash, escaped, escaped_byte, is_backslash, is_plain, letter_of_escape, name_text, unescaped}
use Rattle.aatry_questions.proofs.NameLemmas.{plain-first}
use Rattle.aatry_log_lines.proofs.LineLemmas.{none-pass}
use Rattle.aatry_log_lines.proofs.NameLemmas.{below, capability-read, domain-read, kind-read, none-space, reads, reads-is}

-- the words of a text of a question, between its spaces
abbrev is_space : ℕ → Bool
is_space b = b == space

abbrev words : List ℕ → List (List ℕ)
words text = slice_split is_space text

-- a word before a space, and the words behind it
word-first : (word rest : List ℕ) → list_any is_space word ≡ false → words (word ++ space ∷ rest) ≡ word ∷ words rest
word-first word rest none = slice_split_at is_space word space rest (none-pass is_space word none) refl

word-last : (word : List ℕ) → list_any is_space word ≡ false → words word ≡ word ∷ []
word-last word none = slice_split_none is_space word (none-pass is_space word none)

-- a name that is told has no space

shown-no_space : (b : ℕ) → is_shown b ≡ true → is_space b ≡ false
shown-no_space b shown = elim (cases_Bool (is_space b)) [
  | inl same ↦ let bad : is_shown space ≡ true = subst (λ n. is_shown n ≡ true) (eqb-true b space same) shown in absurd (true≢false (sym bad))
  | inr other ↦ other
]

Some-None : {n : ℕ} → Some n ≡ None → ⊥
Some-None h = cc

digit-no_space : (n : ℕ) → n < 16 → is_space (slice_index upper_digits n) ≡ false
digit-no_space n within = elim (cases_Bool (is_space (slice_index upper_digits n))) [
  | inl same ↦ absurd (Some-None (sym (IsDigits-upper_digits n within) ∙ ap hex_digit_value (eqb-true (slice_index upper_digits n) space same)))
  | inr other ↦ other
]

escape-no_space : (b : ℕ) → b < 256 → list_any is_space (backslash ∷ letter_of_escape ∷ digits_of b) ≡ false
unfolding encode_with
escape-no_space b fit = rw (digit-no_space (b / 16) (omega (arith, fit)), digit-no_space (b % 16) (omega (arith, fit))) refl

byte-no_space : (b : ℕ) → b < 256 → list_any is_space (escaped_byte b) ≡ false
byte-no_space b fit = elim (cases_Bool (is_plain b)) [
  | inl plain ↦
      ap (list_any is_space) (cond-true (is_plain b) (b ∷ []) (backslash ∷ letter_of_escape ∷ digits_of b) plain)
      ∙ ap (λ one. one || false) (shown-no_space b (and_parts (is_shown b) (not (is_backslash b)) plain).0)
  | inr unshown ↦
      ap (list_any is_space) (cond-false (is_plain b) (b ∷ []) (backslash ∷ letter_of_escape ∷ digits_of b) unshown) ∙ escape-no_space b fit
]

bytes-no_space : (name : List ℕ) → IsBytes name → list_any is_space (escaped name) ≡ false
bytes-no_space [] fit = refl
bytes-no_space (b ∷ bs) fit =
    list_any-append is_space (escaped_byte b) (escaped bs)
    ∙ ap (λ one. one || list_any is_space (escaped bs)) (byte-no_space b (fit 0))
    ∙ bytes-no_space bs (λ i. fit (suc i))

written-no_space : (name : List ℕ) → IsBytes name → list_any is_space (name_text name) ≡ false
written-no_space name fit =
    list_any-append is_space (escaped name) (quote ∷ []) ∙ ap (λ one. one || false) (bytes-no_space name fit)

-- letters and names have no space, and are read back

letters-read : (needs : ℕ) → needs < asked_letters → letters_onto 0 (letters_of needs) ≡ Some needs
letters-read needs within =
    reads-is (letters_onto 0 (letters_of needs)) needs (below asked_letters (λ n. reads (letters_onto 0 (letters_of n)) n) refl needs within)

letters-no_space : (needs : ℕ) → needs < asked_letters → not (list_any is_space (letters_of needs)) ≡ true
letters-no_space needs within = below asked_letters (λ n. not (list_any is_space (letters_of n))) refl needs within

capability-no_space : (number : ℕ) → number < 41 → not (list_any is_space (name_or_none (capability_name number))) ≡ true
capability-no_space number within = below 41 (λ n. not (list_any is_space (name_or_none (capability_name n)))) refl number within

domain-no_space : (number : ℕ) → number < 44 → not (list_any is_space (name_or_none (domain_name number))) ≡ true
domain-no_space number within = below 44 (λ n. not (list_any is_space (name_or_none (domain_name n)))) refl number within

kind-no_space : (number : ℕ) → number < 6 → not (list_any is_space (name_or_none (kind_name number))) ≡ true
kind-no_space number within = below 6 (λ n. not (list_any is_space (name_or_none (kind_name n)))) refl number within

abbrev owner_word : Bool → List ℕ
owner_word owned = if owned then codes "owner" else codes "other"

-- a question by its parts, where each could be read

abbrev read_file : Option (List ℕ) → Option ℕ → Option Bool → Option (List ℕ) → Option Question
read_file (Some who) (Some needs) (Some owned) (Some path) = Some (OfAccess who (ForFile needs owned path))
read_file _ _ _ _ = None

abbrev read_exec : Option (List ℕ) → Option Bool → Option (List ℕ) → Option Question
read_exec (Some who) (Some owned) (Some path) = Some (OfExec who owned path)
read_exec _ _ _ = None

abbrev read_capability : Option (List ℕ) → Option ℕ → Option Question
read_capability (Some who) (Some number) = Some (OfAccess who (ForCapability number))
read_capability _ _ = None

abbrev read_sockets : Option (List ℕ) → Option ℕ → Option ℕ → Option Question
read_sockets (Some who) (Some domain) (Some kind) = Some (OfAccess who (ForSockets domain kind))
read_sockets _ _ _ = None

-- the name of a word that tells one: what stands between the quotes
abbrev name_of : List ℕ → Option (List ℕ)
name_of word = Some (take (length (drop 1 (unescaped word)) - 1) (drop 1 (unescaped word)))

-- the question of the words of a text
abbrev read : List (List ℕ) → Option Question
read (word ∷ who ∷ name ∷ []) = read_capability (name_of who) (capability_number name)
read (word ∷ who ∷ third ∷ fourth ∷ []) =
    if bytes_eq word (codes "net") then read_sockets (name_of who) (domain_number third) (kind_number fourth)
    else read_exec (name_of who) (owned_of third) (name_of fourth)
read (word ∷ who ∷ letters ∷ owner ∷ path ∷ []) = read_file (name_of who) (letters_onto 0 letters) (owned_of owner) (name_of path)
read _ = None

-- names are read back from their bytes as these are written, whatever stands behind them
abbrev pub ReadBack : Type 0
ReadBack = (name rest : List ℕ) → IsBytes name → unescaped (escaped name ++ rest) ≡ name ++ unescaped rest

-- the first of a list behind which one more stands
take-front : (name rest : List ℕ) → take (length name) (name ++ rest) ≡ name
take-front [] rest = refl
take-front (b ∷ bs) rest = ap (λ more. b ∷ more) (take-front bs rest)

all-but-last : (name : List ℕ) (last : ℕ) → take (length (name ++ last ∷ []) - 1) (name ++ last ∷ []) ≡ name
all-but-last name last =
    let size : length (name ++ last ∷ []) - 1 ≡ length name = omega (arith, length-append name (last ∷ [])) in
    ap (λ n. take n (name ++ last ∷ [])) size ∙ take-front name (last ∷ [])

name-read : ReadBack → (name : List ℕ) → IsBytes name → name_of (name_text name) ≡ Some name
name-read back name fit =
    ap (λ bytes. Some (take (length (drop 1 bytes) - 1) (drop 1 bytes)))
    (plain-first quote (escaped name ++ quote ∷ []) refl ∙ ap (λ bytes. quote ∷ bytes) (back name (quote ∷ []) fit))
    ∙ ap Some (all-but-last name quote)

owner-read : (owned : Bool) → owned_of (owner_word owned) ≡ Some owned
owner-read true = refl
owner-read false = refl

-- a word before the word of the owner
before-owner : (word : List ℕ) (owned : Bool) (rest : List ℕ) → list_any is_space word ≡ false
    → words (word ++ (owned_text owned ++ rest)) ≡ word ∷ owner_word owned ∷ words rest
before-owner word true rest none = word-first word (codes "owner" ++ (space ∷ rest)) none ∙ ap (λ ws. word ∷ ws) (word-first (codes "owner") rest refl)
before-owner word false rest none = word-first word (codes "other" ++ (space ∷ rest)) none ∙ ap (λ ws. word ∷ ws) (word-first (codes "other") rest refl)

file-words : (who : List ℕ) (needs : ℕ) (owned : Bool) (path : List ℕ) → CanBeAsked (OfAccess who (ForFile needs owned path))
    → words (question_text (OfAccess who (ForFile needs owned path))) ≡ codes "file" ∷ name_text who ∷ letters_of needs ∷ owner_word owned ∷ name_text path ∷ []
file-words who needs owned path can =
    let name = name_text who in
    let set = letters_of needs in
    let owner = owned_text owned in
    let last = name_text path in
    ap words (append_assoc (codes "file " ++ name ++ codes " " ++ set) owner last
    ∙ append_assoc (codes "file " ++ name ++ codes " ") set (owner ++ last)
    ∙ append_assoc (codes "file " ++ name) (codes " ") (set ++ (owner ++ last))
    ∙ append_assoc (codes "file ") name (codes " " ++ (set ++ (owner ++ last))))
    ∙ word-first (codes "file") (name ++ (space ∷ (set ++ (owner ++ last)))) refl
    ∙ ap (λ ws. codes "file" ∷ ws) (word-first name (set ++ (owner ++ last)) (written-no_space who can.0))
    ∙ ap (λ ws. codes "file" ∷ name ∷ ws) (before-owner set owned last (none-space (list_any is_space set) (letters-no_space needs can.1.0)))
    ∙ ap (λ ws. codes "file" ∷ name ∷ set ∷ owner_word owned ∷ ws) (word-last last (written-no_space path can.1.1))

exec-words : (who : List ℕ) (owned : Bool) (path : List ℕ) → CanBeAsked (OfExec who owned path)
    → words (question_text (OfExec who owned path)) ≡ codes "exec" ∷ name_text who ∷ owner_word owned ∷ name_text path ∷ []
exec-words who owned path can =
    let name = name_text who in
    let owner = owned_text owned in
    let last = name_text path in
    ap words (append_assoc (codes "exec " ++ name) owner last ∙ append_assoc (codes "exec ") name (owner ++ last))
    ∙ word-first (codes "exec") (name ++ (owner ++ last)) refl
    ∙ ap (λ ws. codes "exec" ∷ ws) (before-owner name owned last (written-no_space who can.0))
    ∙ ap (λ ws. codes "exec" ∷ name ∷ owner_word owned ∷ ws) (word-last last (written-no_space path can.1))

capability-words : (who : List ℕ) (number : ℕ) → CanBeAsked (OfAccess who (ForCapability number))
    → words (question_text (OfAccess who (ForCapability number))) ≡ codes "cap" ∷ name_text who ∷ name_or_none (capability_name number) ∷ []
capability-words who number can =
    let name = name_text who in
    let last = name_or_none (capability_name number) in
    ap words (append_assoc (codes "cap " ++ name) (codes " ") last ∙ append_assoc (codes "cap ") name (codes " " ++ last))
    ∙ word-first (codes "cap") (name ++ (space ∷ last)) refl
    ∙ ap (λ ws. codes "cap" ∷ ws) (word-first name last (written-no_space who can.0))
    ∙ ap (λ ws. codes "cap" ∷ name ∷ ws) (word-last last (none-space (list_any is_space last) (capability-no_space number can.1)))

sockets-words : (who : List ℕ) (domain kind : ℕ) → CanBeAsked (OfAccess who (ForSockets domain kind))
    → words (question_text (OfAccess who (ForSockets domain kind)))
    ≡ codes "net" ∷ name_text who ∷ name_or_none (domain_name domain) ∷ name_or_none (kind_name kind) ∷ []
sockets-words who domain kind can =
    let name = name_text who in
    let family = name_or_none (domain_name domain) in
    let sort = name_or_none (kind_name kind) in
    ap words (append_assoc (codes "net " ++ name ++ codes " " ++ family) (codes " ") sort
    ∙ append_assoc (codes "net " ++ name ++ codes " ") family (codes " " ++ sort)
    ∙ append_assoc (codes "net " ++ name) (codes " ") (family ++ (codes " " ++ sort))
    ∙ append_assoc (codes "net ") name (codes " " ++ (family ++ (codes " " ++ sort))))
    ∙ word-first (codes "net") (name ++ (space ∷ (family ++ (space ∷ sort)))) refl
    ∙ ap (λ ws. codes "net" ∷ ws) (word-first name (family ++ (space ∷ sort)) (written-no_space who can.0))
    ∙ ap (λ ws. codes "net" ∷ name ∷ ws) (word-first family sort (none-space (list_any is_space family) (domain-no_space domain can.1.0)))
    ∙ ap (λ ws. codes "net" ∷ name ∷ family ∷ ws) (word-last sort (none-space (list_any is_space sort) (kind-no_space kind can.1.1)))

-- a question is read back from its text
reads-back : ReadBack → (question : Question) → CanBeAsked question → read (words (question_text question)) ≡ Some question
reads-back back (OfAccess who (ForFile needs owned path)) can =
    ap read (file-words who needs owned path can)
    ∙ ap (λ one. read_file one (letters_onto 0 (letters_of needs)) (owned_of (owner_word owned)) (name_of (name_text path))) (name-read back who can.0)
    ∙ ap (λ set. read_file (Some who) set (owned_of (owner_word owned)) (name_of (name_text path))) (letters-read needs can.1.0)
    ∙ ap (λ word. read_file (Some who) (Some needs) word (name_of (name_text path))) (owner-read owned)
    ∙ ap (read_file (Some who) (Some needs) (Some owned)) (name-read back path can.1.1)
reads-back back (OfAccess who (ForCapability number)) can =
    ap read (capability-words who number can)
    ∙ ap (λ one. read_capability one (capability_number (name_or_none (capability_name number)))) (name-read back who can.0)
    ∙ ap (read_capability (Some who)) (capability-read number can.1)
reads-back back (OfAccess who (ForSockets domain kind)) can =
    ap read (sockets-words who domain kind can)
    ∙ ap (λ one. read_sockets one (domain_number (name_or_none (domain_name domain))) (kind_number (name_or_none (kind_name kind)))) (name-read back who can.0)
    ∙ ap (λ found. read_sockets (Some who) found (kind_number (name_or_none (kind_name kind)))) (domain-read domain can.1.0)
    ∙ ap (read_sockets (Some who) (Some domain)) (kind-read kind can.1.1)
reads-back back (OfExec who owned path) can =
    ap read (exec-words who owned path can)
    ∙ ap (λ one. read_exec one (owned_of (owner_word owned)) (name_of (name_text path))) (name-read back who can.0)
    ∙ ap (λ word. read_exec (Some who) word (name_of (name_text path))) (owner-read owned)
    ∙ ap (read_exec (Some who) (Some owned)) (name-read back path can.1)

one-of : (question other : Question) → Some question ≡ Some other → question ≡ other
one-of question other h = cc (h)

-- questions of one text are one
pub told-apart : ReadBack → (question other : Question) → CanBeAsked question → CanBeAsked other → is_same question other ≡ true → question ≡ other
told-apart back question other can can_other same =
    one-of question other
    (sym (reads-back back question can) ∙ ap (λ text. read (words text)) ((bytes_eq-Decides (question_text question) (question_text other)).0 same)
    ∙ reads-back back other can_other)
