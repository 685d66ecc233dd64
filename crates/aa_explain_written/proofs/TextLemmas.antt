-- What the text of a written rule is cut into, in a profile.
use Rattle.std.proofs.Common.{◌≡◌, ℕ, true, List, [], ◌∷◌, ◌++◌, length, Some, refl}
use Rattle.std.specs.Prelude.{codes}
use Rattle.std.specs.List.{list_all}
use Rattle.std.proofs.lemmas.Bool.{and_parts}
use Rattle.aa_bytes.specs.Bytes.{closing_brace, comma, is_blank, quote, space}
use Rattle.aa_text_tokens.specs.Cut.{before_quote, ends_item}
use Rattle.aa_explain_written.proofs.Spelling.{Bare, Spells, a_closing, a_comma, an_opening, in_quotes, word}
use Rattle.aa_explain_written.proofs.TokenLemmas.{is_name, spells-blanks, spells-close, spells-comma, spells-name, spells-none, spells-open, spells-quoted}

-- a pattern in quotes, and its access
abbrev pub access_part : List ℕ → List ℕ → List ℕ → List ℕ
access_part body access rest = quote ∷ (body ++ (quote ∷ space ∷ (access ++ (comma ∷ rest))))

abbrev pub access_tokens : List ℕ → List ℕ → List Bare → List Bare
access_tokens body access tokens = in_quotes body ∷ word access ∷ a_comma ∷ tokens

-- a word, a blank and what follows
spells-word : (name rest : List ℕ) (tokens : List Bare) → is_name name ≡ true → Spells rest tokens → Spells (name ++ (space ∷ rest)) (word name ∷ tokens)
spells-word name rest tokens h more = spells-name name (space ∷ rest) tokens h refl (spells-blanks (space ∷ []) rest tokens refl more)

-- a pattern in quotes, an access and the comma that ends them
spells-access : (body access rest : List ℕ) (tokens : List Bare) → before_quote (body ++ (quote ∷ space ∷ (access ++ (comma ∷ rest)))) ≡ Some (length body) → is_name access ≡ true
    → ends_item rest ≡ true → Spells rest tokens → Spells (access_part body access rest) (access_tokens body access tokens)
spells-access body access rest tokens closed named ends more =
    spells-quoted body (space ∷ (access ++ (comma ∷ rest))) (word access ∷ a_comma ∷ tokens) closed
    (spells-blanks (space ∷ []) (access ++ (comma ∷ rest)) (word access ∷ a_comma ∷ tokens) refl
    (spells-name access (comma ∷ rest) (a_comma ∷ tokens) named ends (spells-comma rest tokens more)))

-- a rule on files
pub spells-file : (body access rest : List ℕ) (tokens : List Bare) → before_quote (body ++ (quote ∷ space ∷ (access ++ (comma ∷ rest)))) ≡ Some (length body) → is_name access ≡ true
    → ends_item rest ≡ true → Spells rest tokens → Spells (codes "file " ++ access_part body access rest) (word (codes "file") ∷ access_tokens body access tokens)
spells-file body access rest tokens closed named ends more =
    spells-word (codes "file") (access_part body access rest) (access_tokens body access tokens) refl (spells-access body access rest tokens closed named ends more)

-- one on the owner's
pub spells-owned : (body access rest : List ℕ) (tokens : List Bare) → before_quote (body ++ (quote ∷ space ∷ (access ++ (comma ∷ rest)))) ≡ Some (length body) → is_name access ≡ true
    → ends_item rest ≡ true → Spells rest tokens
    → Spells (codes "owner " ++ (codes "file " ++ access_part body access rest)) (word (codes "owner") ∷ word (codes "file") ∷ access_tokens body access tokens)
spells-owned body access rest tokens closed named ends more =
    spells-word (codes "owner") (codes "file " ++ access_part body access rest) (word (codes "file") ∷ access_tokens body access tokens) refl (spells-file body access rest tokens closed named ends more)

-- a rule on a capability
pub spells-capability : (name rest : List ℕ) (tokens : List Bare) → is_name name ≡ true → ends_item rest ≡ true → Spells rest tokens
    → Spells (codes "capability " ++ (name ++ (comma ∷ rest))) (word (codes "capability") ∷ word name ∷ a_comma ∷ tokens)
spells-capability name rest tokens named ends more =
    spells-word (codes "capability") (name ++ (comma ∷ rest)) (word name ∷ a_comma ∷ tokens) refl (spells-name name (comma ∷ rest) (a_comma ∷ tokens) named ends (spells-comma rest tokens more))

-- a rule on the sockets of a domain and a type
pub spells-network : (domain kind rest : List ℕ) (tokens : List Bare) → is_name domain ≡ true → is_name kind ≡ true → ends_item rest ≡ true → Spells rest tokens
    → Spells (codes "network " ++ (domain ++ (space ∷ (kind ++ (comma ∷ rest))))) (word (codes "network") ∷ word domain ∷ word kind ∷ a_comma ∷ tokens)
spells-network domain kind rest tokens first second ends more =
    spells-word (codes "network") (domain ++ (space ∷ (kind ++ (comma ∷ rest)))) (word domain ∷ word kind ∷ a_comma ∷ tokens) refl
    (spells-word domain (kind ++ (comma ∷ rest)) (word kind ∷ a_comma ∷ tokens) first (spells-name kind (comma ∷ rest) (a_comma ∷ tokens) second ends (spells-comma rest tokens more)))

-- the end of a profile, behind blanks
pub spells-end : (after : List ℕ) → list_all is_blank after ≡ true → Spells (after ++ (closing_brace ∷ [])) (a_closing ∷ [])
spells-end after blank = spells-blanks after (closing_brace ∷ []) (a_closing ∷ []) blank (spells-close [] [] spells-none)

-- it ends what stands before it
pub ends-before : (after : List ℕ) → list_all is_blank after ≡ true → ends_item (after ++ (closing_brace ∷ [])) ≡ true
ends-before [] blank = refl
ends-before (b ∷ bs) blank = rw (and_parts (is_blank b) (list_all is_blank bs) blank).0 refl

-- the beginning of a profile, and blanks
pub spells-profile : (before rest : List ℕ) (tokens : List Bare) → list_all is_blank before ≡ true → Spells rest tokens
    → Spells (codes "profile p {" ++ (before ++ rest)) (word (codes "profile") ∷ word (codes "p") ∷ an_opening ∷ tokens)
spells-profile before rest tokens blank more =
    spells-word (codes "profile") (codes "p {" ++ (before ++ rest)) (word (codes "p") ∷ an_opening ∷ tokens) refl
    (spells-word (codes "p") (codes "{" ++ (before ++ rest)) (an_opening ∷ tokens) refl
    (spells-open (before ++ rest) tokens (spells-blanks before rest tokens blank more)))
