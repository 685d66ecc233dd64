-- Facts of tables, tested row by row.
use Rattle.std.proofs.Common.{◌≡◌, ℕ, zero, suc, ◌<◌, ◌==◌, ◌&&◌, Bool, true, false, not, List, [], ◌++◌, Option, None, Some, Result, Ok, Err, refl, ap, ◌∙◌, arith, inl, inr, if◌then◌else◌}
use Rattle.std.specs.Prelude.{◌||◌, codes, slice_get}
use Rattle.std.proofs.lemmas.Option.{slice_get_within}
use Rattle.aa_profile_parsing.specs.declared.fault.GrammarRefusal.{GrammarRefusal}
use Rattle.std.proofs.lemmas.Bool.{and_parts, cases_eq, eqb-true}
use Rattle.aa_profile_data.specs.Access.{APPEND, WRITE, has, letters_of}
use Rattle.aa_profile_data.specs.ExecWords.{same_word}
use Rattle.aa_profile_rules.specs.Access.{access_of}
use Rattle.aa_profile_rules.specs.declared.access.Access.{Access}
use Rattle.aa_profile_data.specs.declared.exec_word.ExecWord.{ExecWord}
use Rattle.aa_profile_data.specs.declared.exec_word.ExecWord.TheVariants.{Inherit}
use Rattle.aa_profile_data.specs.Capabilities.{capability_number, names}
use Rattle.aa_profile_data.specs.Domains.{domain_number, names as domains}
use Rattle.aa_profile_data.specs.Kinds.{kind_number, names as kinds}
use Rattle.aa_explain_written.proofs.TokenLemmas.{is_name}

-- each number below one passes a test
abbrev pub all_below : (ℕ → Bool) → ℕ → Bool
all_below test zero = true
all_below test (suc n) = test n && all_below test n

pub one-below : (test : ℕ → Bool) (n k : ℕ) → all_below test n ≡ true → k < n → test k ≡ true
one-below test zero k all below = absurd (omega arith)
one-below test (suc n) k all below =
    let both = and_parts (test n) (all_below test n) all in
    elim (cases_eq k n) [
      | inl same ↦ rw same both.0
      | inr other ↦ one-below test n k both.1 (omega arith)
    ]

-- a table finds the number of this name
abbrev pub finds : (List ℕ → Option ℕ) → List ℕ → ℕ → Bool
finds number_of name number = elim (number_of name) [ None ↦ false | Some found ↦ found == number ]

finds-it : (number_of : List ℕ → Option ℕ) (name : List ℕ) (number : ℕ) → finds number_of name number ≡ true → number_of name ≡ Some number
finds-it number_of name number h = by (number_of name) refl
  where
    by : (found : Option ℕ) → number_of name ≡ found → number_of name ≡ Some number
    by None e = let there : false ≡ true = rw (e, finds) at h in absurd cc
    by (Some found) e = let same : (found == number) ≡ true = rw (e, finds) at h in e ∙ ap Some (eqb-true found number same)

-- the name at a place of a table is one that a word can be, and the table finds its number
abbrev pub is_row : (List ℕ → Option ℕ) → List (List ℕ) → ℕ → Bool
is_row number_of table number = elim (slice_get table number) [ None ↦ false | Some name ↦ is_name name && finds number_of name number ]

row-name : (number_of : List ℕ → Option ℕ) (table : List (List ℕ)) (number : ℕ) (name : List ℕ) → is_row number_of table number ≡ true → slice_get table number ≡ Some name
    → (is_name name ≡ true) × (number_of name ≡ Some number)
row-name number_of table number name row here =
    let both : (is_name name && finds number_of name number) ≡ true = rw (here, is_row) at row in
    let parts = and_parts (is_name name) (finds number_of name number) both in
    (parts.0, finds-it number_of name number parts.1)

-- the name of a capability, of a domain, and of a type or a protocol
pub capability-row : (number : ℕ) (name : List ℕ) → slice_get names number ≡ Some name → (is_name name ≡ true) × (capability_number name ≡ Some number)
capability-row number name here = row-name capability_number names number name (one-below (is_row capability_number names) 41 number refl (slice_get_within names number name here)) here

pub domain-row : (number : ℕ) (name : List ℕ) → slice_get domains number ≡ Some name → (is_name name ≡ true) × (domain_number name ≡ Some number)
domain-row number name here = row-name domain_number domains number name (one-below (is_row domain_number domains) 44 number refl (slice_get_within domains number name here)) here

pub kind-row : (number : ℕ) (name : List ℕ) → slice_get kinds number ≡ Some name → (is_name name ≡ true) × (kind_number name ≡ Some number)
kind-row number name here = row-name kind_number kinds number name (one-below (is_row kind_number kinds) 9 number refl (slice_get_within kinds number name here)) here

-- the word of an access: its letters, and maybe `ix` behind them
abbrev pub access_word : ℕ → Bool → List ℕ
access_word letters runs = letters_of letters ++ (if runs then codes "ix" else [])

-- the access that it is to be
abbrev pub access_for : ℕ → Bool → Access
access_for letters runs = record { letters = record { 0 = letters }; word = if runs then Some Inherit else None }

-- an access can't be written: `w` stands beside `a`, or it lets nothing
abbrev pub is_unwritten : ℕ → Bool → Bool
is_unwritten letters runs = (has letters WRITE && has letters APPEND) || (letters == 0 && not runs)

-- the exec word of an access that was read is `ix`, where there is to be one
abbrev pub runs_as : Option ExecWord → Bool → Bool
runs_as None runs = not runs
runs_as (Some word) runs = runs && same_word word Inherit

abbrev pub is_access : Result Access GrammarRefusal → ℕ → Bool → Bool
is_access (Err refusal) letters runs = false
is_access (Ok found) letters runs = found.letters.0 == letters && runs_as found.word runs

-- an access is written so that it is read
abbrev pub is_read : Bool → ℕ → Bool
is_read runs letters = is_unwritten letters runs || (is_name (access_word letters runs) && is_access (access_of false (access_word letters runs)) letters runs)

all-read : (runs : Bool) → all_below (is_read runs) 64 ≡ true
all-read true = refl
all-read false = refl

pub is-inherit : (word : ExecWord) → same_word word Inherit ≡ true → word ≡ Inherit
is-inherit Inherit h = refl
is-inherit _ h = absurd cc

runs-as : (word : Option ExecWord) (runs : Bool) → runs_as word runs ≡ true → word ≡ (if runs then Some Inherit else None)
runs-as None false h = refl
runs-as None true h = absurd cc
runs-as (Some word) false h = absurd cc
runs-as (Some word) true h = ap Some (is-inherit word h)

found-access : (found : Result Access GrammarRefusal) (letters : ℕ) (runs : Bool) → is_access found letters runs ≡ true → found ≡ Ok (access_for letters runs)
found-access (Err refusal) letters runs h = absurd cc
found-access (Ok found) letters runs h =
    let both = and_parts (found.letters.0 == letters) (runs_as found.word runs) h in
    let same_letters : found.letters.0 ≡ letters = eqb-true found.letters.0 letters both.0 in
    let same_word : found.word ≡ (if runs then Some Inherit else None) = runs-as found.word runs both.1 in
    ap (λ (n : ℕ). Ok (record { letters = record { 0 = n }; word = found.word })) same_letters
    ∙ ap (λ (w : Option ExecWord). Ok (record { letters = record { 0 = letters }; word = w })) same_word

-- each access that can be written is read
pub access-read : (letters : ℕ) (runs : Bool) → letters < 64 → is_unwritten letters runs ≡ false
    → (is_name (access_word letters runs) ≡ true) × (access_of false (access_word letters runs) ≡ Ok (access_for letters runs))
access-read letters runs below written =
    let row = one-below (is_read runs) 64 letters (all-read runs) below in
    let both : (is_name (access_word letters runs) && is_access (access_of false (access_word letters runs)) letters runs) ≡ true = rw written at row in
    let parts = and_parts (is_name (access_word letters runs)) (is_access (access_of false (access_word letters runs)) letters runs) both in
    (parts.0, found-access (access_of false (access_word letters runs)) letters runs parts.1)
