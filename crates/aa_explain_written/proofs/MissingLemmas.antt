-- The rules that requests lack, as they are written.
use Rattle.std.proofs.Common.{◌≡◌, ℕ, ◌<◌, ◌≤◌, ◌==◌, ◌&&◌, ◌||◌, Bool, true, false, not, List, [], ◌∷◌, length, Option, None, Some, Ok, refl, sym, ap, ◌∙◌, arith, inl, inr, nat_le, nat_lt}
use Rattle.std.specs.Prelude.{if◌then◌else◌, is_ok, is_none, is_some}
use Rattle.std.proofs.lemmas.Bool.{and_parts, cases_Bool, leb-true, lt-leb, lt-ltb}
use Rattle.std.proofs.lemmas.Nat.{and_le_l}
use Rattle.aa_glob.specs.Laws.{bytes_pattern, needs_backslash, quoted}
use Rattle.aa_glob_syntax.specs.Exactness.{is_exact}
use Rattle.aa_glob_syntax.specs.Reading.{HasNoFirstFault, begins_with_slash, has_zero, items_of, items_read, longest, reading}
use Rattle.aa_decide_rules.specs.Verdict.{denied}
use Rattle.aa_explain_rules.specs.Missing.{cap_rule_for, file_rule_for, lacked, letters_for, missing_rule, net_rule_for, rank_for, rule_for, transition_for}
use Rattle.aa_profile_data.specs.Access.{APPEND, EXEC, WRITE, asked_letters, has}
use Rattle.aa_profile_data.specs.Request.{ForCapability, ForFile, ForSockets, Request}
use Rattle.aa_profile_data.specs.Ranks.{same_rank}
use Rattle.aa_profile_data.specs.declared.profile.FileRule.{FileRule}
use Rattle.aa_profile_data.specs.declared.profile.Rule.{Rule}
use Rattle.aa_profile_data.specs.declared.profile.Rule.TheVariants.{Cap, File, Net, Other}
use Rattle.aa_profile_data.specs.Kinds.{is_protocol}
use Rattle.aa_explain_written.specs.Quotes.{between_quotes, fits_quotes, needs_escape}
use Rattle.aa_explain_written.specs.ReadBack.{IsOfOne, IsOfPath, needs_no_escape, needs_none_behind}
use Rattle.aa_explain_written.specs.Written.{file_text, has_access, has_no_more, is_file_written, rank_of_one, written_rule}
use Rattle.aa_explain_written.proofs.MarkLemmas.{marked, quoted-marked}
use Rattle.aa_explain_written.proofs.PatternLemmas.{exact-bytes, fine-marked, reading-marked}
use Rattle.aa_explain_written.proofs.TableLemmas.{all_below, one-below}

-- a text that reads has none of the faults that are told first
pub fine-read : (text : List ℕ) → is_ok (reading text) ≡ true → HasNoFirstFault text
fine-read text h = elim (cases_Bool (nat_le (length text) longest)) [
  | inr long ↦ let there : false ≡ true = rw (long, reading) at h in absurd cc
  | inl short ↦ elim (cases_Bool (has_zero text)) [
    | inl zero_byte ↦ let there : false ≡ true = rw (short, zero_byte, reading) at h in absurd cc
    | inr whole ↦ elim (cases_Bool (begins_with_slash text)) [
      | inr other ↦ let there : false ≡ true = rw (short, whole, other, reading) at h in absurd cc
      | inl begins ↦ (leb-true (length text) longest short, whole, begins)
    ]
  ]
]

-- that a text with backslashes reads as its bytes
abbrev pub ReadsAsItself : Type 0
ReadsAsItself = (text : List ℕ) → HasNoFirstFault (quoted text) → reading (quoted text) ≡ Ok (bytes_pattern text)

-- a pattern of one path reads the same between quotes
pub items-same : ReadsAsItself → (path pattern : List ℕ) → IsOfPath path pattern → fits_quotes (between_quotes pattern) ≡ true → items_of (between_quotes pattern) ≡ items_of pattern
items-same reads path pattern is fits =
    let body : between_quotes pattern ≡ marked 0 path = ap between_quotes is.0 ∙ quoted-marked 0 path in
    let short = leb-true (length (between_quotes pattern)) longest (and_parts _ (nat_le (length (between_quotes pattern)) longest) fits).1 in
    let same_long = ap length body in
    let fine = fine-marked path is.1 (omega (arith, short, same_long)) in
    ap items_of body ∙ ap items_read (reading-marked path fine) ∙ sym (ap items_of is.0 ∙ ap items_read (reads path is.1))

-- one that needs no more backslashes stays as it is
marked-quoted : (before : ℕ) (path : List ℕ) → needs_none_behind before path ≡ true → marked before path ≡ quoted path
marked-quoted before [] h = refl
marked-quoted before (b ∷ bs) h =
    let both = and_parts (not (needs_escape before b)) (needs_none_behind b bs) h in
    let none : needs_escape before b ≡ false = not-true (needs_escape before b) both.0 in
    elim (cases_Bool (needs_backslash b)) [
      | inl needs ↦ rw (needs) (ap (λ rest. 92 ∷ b ∷ rest) (marked-quoted b bs both.1))
      | inr plain ↦ rw (plain, none) (ap (λ rest. b ∷ rest) (marked-quoted b bs both.1))
    ]
  where
    not-true : (t : Bool) → not t ≡ true → t ≡ false
    not-true true g = absurd cc
    not-true false g = refl

pub quotes-stay : (path : List ℕ) → needs_no_escape path ≡ true → between_quotes (quoted path) ≡ quoted path
quotes-stay path h = quoted-marked 0 path ∙ marked-quoted 0 path h

-- what a request lacks, where it lacks a rule
some-lacked : (request : Request) (rules : List Rule) (rule : Rule) → missing_rule request rules ≡ Some rule → ((lacked request rules == 0) ≡ false) × (rule_for request (lacked request rules) ≡ Some rule)
some-lacked request rules rule h = elim (cases_Bool (lacked request rules == 0)) [
  | inl none ↦ let there : ◌≡◌ {A = Option Rule} None (Some rule) = rw (none, missing_rule) at h in absurd cc
  | inr some ↦ (some, rw (some, missing_rule) at h)
]

-- a rule for a request is on one path
file-for : (letters : ℕ) (owned : Bool) (path : List ℕ) (needs : ℕ) (rule : Rule) → rule_for (ForFile letters owned path) needs ≡ Some rule
    → (is_ok (reading (quoted path)) ≡ true) × (File (file_rule_for owned path needs) ≡ rule)
file-for letters owned path needs rule h = elim (cases_Bool (is_ok (reading (quoted path)))) [
  | inl reads ↦ let there : Some (File (file_rule_for owned path needs)) ≡ Some rule = rw (reads, rule_for) at h in (reads, cc)
  | inr refused ↦ let there : ◌≡◌ {A = Option Rule} None (Some rule) = rw (refused, rule_for) at h in absurd cc
]

-- a missing rule is on one path
pub missing-one : (request : Request) (rules : List Rule) (rule : Rule) → missing_rule request rules ≡ Some rule → IsOfOne rule
missing-one request rules rule h = by request (lacked request rules) rule (some-lacked request rules rule h).1
  where
    by : (request : Request) (needs : ℕ) (rule : Rule) → rule_for request needs ≡ Some rule → IsOfOne rule
    by (ForFile letters owned path) needs (File rule) e =
        let made = file-for letters owned path needs (File rule) e in
        let same : quoted path ≡ rule.pattern = cc in
        (path, (sym same, fine-read (quoted path) made.0))
    by (ForFile letters owned path) needs (Cap rule) e = tt
    by (ForFile letters owned path) needs (Net rule) e = tt
    by (ForFile letters owned path) needs (Other rule) e = tt
    by (ForCapability number) needs (File rule) e = absurd (capability-file number rule e)
      where
        capability-file : (number : ℕ) (rule : FileRule) → (if nat_lt number 64 then Some (Cap (cap_rule_for number)) else None) ≡ Some (File rule) → ⊥
        capability-file number rule e = elim (cases_Bool (nat_lt number 64)) [
          | inl small ↦ let there : ◌≡◌ {A = Option Rule} (Some (Cap (cap_rule_for number))) (Some (File rule)) = rw small at e in cc
          | inr large ↦ let there : ◌≡◌ {A = Option Rule} None (Some (File rule)) = rw large at e in cc
        ]
    by (ForCapability number) needs (Cap rule) e = tt
    by (ForCapability number) needs (Net rule) e = tt
    by (ForCapability number) needs (Other rule) e = tt
    by (ForSockets domain kind) needs (File rule) e = absurd (sockets-file domain kind rule e)
      where
        sockets-file : (domain kind : ℕ) (rule : FileRule) → (if is_protocol kind then None else Some (Net (net_rule_for domain kind))) ≡ Some (File rule) → ⊥
        sockets-file domain kind rule e = elim (cases_Bool (is_protocol kind)) [
          | inr type ↦ let there : ◌≡◌ {A = Option Rule} (Some (Net (net_rule_for domain kind))) (Some (File rule)) = rw type at e in cc
          | inl protocol ↦ let there : ◌≡◌ {A = Option Rule} None (Some (File rule)) = rw protocol at e in cc
        ]
    by (ForSockets domain kind) needs (Cap rule) e = tt
    by (ForSockets domain kind) needs (Net rule) e = tt
    by (ForSockets domain kind) needs (Other rule) e = tt

-- Each set of needs makes an access that is written: the letters that are told, or an exec word.
abbrev pub makes_access : ℕ → Bool
makes_access needs = needs == 0 || (nat_lt (letters_for needs) asked_letters && not (has (letters_for needs) WRITE && has (letters_for needs) APPEND)
    && not (letters_for needs == 0 && is_none (transition_for needs)))

all-make : all_below makes_access 128 ≡ true
all-make = refl

access-made : (owned : Bool) (path : List ℕ) (needs : ℕ) → needs < 128 → (needs == 0) ≡ false → has_access (file_rule_for owned path needs) ≡ true
access-made owned path needs below some =
    let all : (needs == 0 || has_access (file_rule_for owned path needs)) ≡ true = one-below makes_access 128 needs all-make below in
    rw some at all

more-made : (owned : Bool) (path : List ℕ) (needs : ℕ) → has_no_more (file_rule_for owned path needs) ≡ true
more-made owned path needs = elim (cases_Bool (has needs EXEC)) [ inl runs ↦ rw runs refl | inr stays ↦ rw stays refl ]

rank-made : (owned : Bool) (path : List ℕ) (needs : ℕ) → is_exact (items_of (quoted path)) ≡ true
    → same_rank (rank_for (quoted path) needs) (rank_of_one (file_rule_for owned path needs)) ≡ true
rank-made owned path needs exact = elim (cases_Bool (has needs EXEC)) [ inl runs ↦ rw (runs, exact) refl | inr stays ↦ rw stays refl ]

both-true : (a b : Bool) → a ≡ true → b ≡ true → (a && b) ≡ true
both-true a b first second = rw (first, second) refl

-- the rule that needs of a file make is written
file-written : ReadsAsItself → (owned : Bool) (path : List ℕ) (needs : ℕ) → is_ok (reading (quoted path)) ≡ true → needs < 128 → (needs == 0) ≡ false
    → fits_quotes (between_quotes (quoted path)) ≡ true → is_some (written_rule (File (file_rule_for owned path needs))) ≡ true
file-written reads owned path needs ok below some fits =
    let rule = file_rule_for owned path needs in
    let exact : is_exact (items_of (quoted path)) ≡ true = ap (λ read. is_exact (items_read read)) (reads path (fine-read (quoted path) ok)) ∙ exact-bytes path in
    let can : is_file_written rule ≡ true =
    both-true (has_no_more rule && has_access rule && same_rank rule.rank (rank_of_one rule) && is_exact (items_of rule.pattern)) (fits_quotes (between_quotes rule.pattern))
    (both-true (has_no_more rule && has_access rule && same_rank rule.rank (rank_of_one rule)) (is_exact (items_of rule.pattern))
    (both-true (has_no_more rule && has_access rule) (same_rank rule.rank (rank_of_one rule))
    (both-true (has_no_more rule) (has_access rule) (more-made owned path needs) (access-made owned path needs below some)) (rank-made owned path needs exact)) exact) fits in
    some-if (file_text rule) (is_file_written rule) can
  where
    some-if : (text : List ℕ) (t : Bool) → t ≡ true → is_some (if t then Some text else None) ≡ true
    some-if text t h = rw h refl

pub missing-of-path : ReadsAsItself → (letters : ℕ) (owned : Bool) (path : List ℕ) (rules : List Rule) (rule : Rule) → letters < 128 → fits_quotes (between_quotes (quoted path)) ≡ true
    → missing_rule (ForFile letters owned path) rules ≡ Some rule → is_some (written_rule rule) ≡ true
missing-of-path reads letters owned path rules rule below fits h =
    let request = ForFile letters owned path in
    let (some, made) = some-lacked request rules rule h in
    let (ok, same) = file-for letters owned path (lacked request rules) rule made in
    let fewer : lacked request rules ≤ letters = fewer-lacked in
    ap (λ r. is_some (written_rule r)) (sym same) ∙ file-written reads owned path (lacked request rules) ok (omega (arith, fewer, below)) some fits
  where
    fewer-lacked : lacked (ForFile letters owned path) rules ≤ letters
    fewer-lacked = elim (cases_Bool (denied (ForFile letters owned path) rules == 0)) [
      | inl none ↦ rw (none, lacked) (and_le_l letters _)
      | inr some ↦ rw (some, lacked) (omega arith)
    ]

-- the rule that a capability makes
abbrev pub capability_is_written : ℕ → Bool
capability_is_written number = is_some (written_rule (Cap (cap_rule_for number)))

all-capabilities : all_below capability_is_written 41 ≡ true
all-capabilities = refl

pub missing-of-capability : (number : ℕ) (rules : List Rule) (rule : Rule) → number < 41 → missing_rule (ForCapability number) rules ≡ Some rule → is_some (written_rule rule) ≡ true
missing-of-capability number rules rule below h =
    let made = (some-lacked (ForCapability number) rules rule h).1 in
    let small : nat_lt number 64 ≡ true = lt-ltb number 64 (omega arith) in
    let there : Some (Cap (cap_rule_for number)) ≡ Some rule = rw (small, rule_for) at made in
    let same : Cap (cap_rule_for number) ≡ rule = cc in
    ap (λ r. is_some (written_rule r)) (sym same) ∙ one-below capability_is_written 41 number all-capabilities below

-- the rule that a domain and a type make
abbrev pub type_is_written : ℕ → ℕ → Bool
type_is_written domain kind = is_some (written_rule (Net (net_rule_for domain kind)))

abbrev pub types_are_written : ℕ → Bool
types_are_written domain = all_below (type_is_written domain) 6

all-types : all_below types_are_written 44 ≡ true
all-types = refl

pub missing-of-type : (domain kind : ℕ) (rules : List Rule) (rule : Rule) → domain < 44 → kind < 6 → missing_rule (ForSockets domain kind) rules ≡ Some rule → is_some (written_rule rule) ≡ true
missing-of-type domain kind rules rule below typed h =
    let made = (some-lacked (ForSockets domain kind) rules rule h).1 in
    let type : is_protocol kind ≡ false = lt-leb 6 kind (omega arith) in
    let there : Some (Net (net_rule_for domain kind)) ≡ Some rule = rw (type, rule_for) at made in
    let same : Net (net_rule_for domain kind) ≡ rule = cc in
    ap (λ r. is_some (written_rule r)) (sym same)
    ∙ one-below (type_is_written domain) 6 kind (one-below types_are_written 44 domain all-types below) typed
