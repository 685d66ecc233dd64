-- Names of capabilities, as words mean them.
use Rattle.std.proofs.Common.{◌≡◌, ℕ, ◌+◌, not, Bool, true, false, List, [], ◌∷◌, ◌++◌, drop, refl, sym, ap, subst, ◌∙◌, inl, inr, Option, None, Some, true≢false}
use Rattle.std.specs.Prelude.{◌||◌, codes, is_some, if◌then◌else◌}
use Rattle.std.specs.Char.{to_ascii_lowercase}
use Rattle.std.specs.List.{list_all, list_any}
use Rattle.std.specs.Str.{bytes_eq, str_eq_ignore_ascii_case, str_to_ascii_lowercase, str_to_ascii_uppercase}
use Rattle.std.proofs.lemmas.Bool.{and_parts, cases_Bool, cond-false, cond-true}
use Rattle.std.proofs.lemmas.Slice.Eq.{bytes_eq-Decides}
use Rattle.std.proofs.lemmas.Str.Ascii.{lowercase-uppercase}
use Rattle.aa_profile_data.specs.Capabilities.{capability_number, names}
use Rattle.aa_profile_data.specs.TableNames.{number_from}
use Rattle.aatry_words.specs.Capabilities.{capability_meant, is_prefixed, known_name, name_or, named}
use Rattle.aatry_words.specs.Laws.{IsMeant, IsWrittenFor, MeansNoOther}

not-true : (b : Bool) → not b ≡ true → b ≡ false
not-true true h = sym h
not-true false h = refl

-- ---- tables of names

-- a name of a table passes what each of them passes
passes : (test : List ℕ → Bool) (first : ℕ) (table : List (List ℕ)) (name : List ℕ)
    → list_all test table ≡ true → is_some (number_from first table name) ≡ true → test name ≡ true
passes test first [] name all some = absurd (true≢false (sym some))
passes test first (own ∷ table) name all some =
    let parts = and_parts (test own) (list_all test table) all in
    by (bytes_eq own name) refl parts.0 (passes test (first + 1) table name parts.1) some
  where
    by : (same : Bool) → bytes_eq own name ≡ same → test own ≡ true → (is_some (number_from (first + 1) table name) ≡ true → test name ≡ true)
        → is_some (if same then Some first else number_from (first + 1) table name) ≡ true → test name ≡ true
    by true e passed behind some = subst (λ n. test n ≡ true) ((bytes_eq-Decides own name).0 e) passed
    by false e passed behind some = behind some

-- a name has no letter in upper case
abbrev is_lower : List ℕ → Bool
is_lower name = bytes_eq (str_to_ascii_lowercase name) name

lower-is : (name : List ℕ) → is_lower name ≡ true → str_to_ascii_lowercase name ≡ name
lower-is name h = (bytes_eq-Decides (str_to_ascii_lowercase name) name).0 h

-- a word that is a name of a table but for the case of its letters, where all names are in lower case
found : (first : ℕ) (table : List (List ℕ)) (word name : List ℕ) → list_all is_lower table ≡ true → str_to_ascii_lowercase word ≡ name
    → is_some (number_from first table name) ≡ true → named table word ≡ Some name
found first [] word name lower is some = absurd (true≢false (sym some))
found first (own ∷ table) word name lower is some =
    let parts = and_parts (is_lower own) (list_all is_lower table) lower in
    by (bytes_eq own name) refl (lower-is own parts.0) (found (first + 1) table word name parts.1 is) some
  where
    by : (same : Bool) → bytes_eq own name ≡ same → str_to_ascii_lowercase own ≡ own
        → (is_some (number_from (first + 1) table name) ≡ true → named table word ≡ Some name)
        → is_some (if same then Some first else number_from (first + 1) table name) ≡ true → named (own ∷ table) word ≡ Some name
    by true e lower behind some =
        let here : own ≡ name = (bytes_eq-Decides own name).0 e in
        let same : str_eq_ignore_ascii_case word own ≡ true =
        (bytes_eq-Decides (str_to_ascii_lowercase word) (str_to_ascii_lowercase own)).1 (is ∙ sym here ∙ sym lower) in
        cond-true (str_eq_ignore_ascii_case word own) (Some own) (named table word) same ∙ ap Some here
    by false e lower behind some = elim (cases_Bool (str_eq_ignore_ascii_case word own)) [
      | inl same ↦
          let here : own ≡ name = sym lower ∙ sym ((bytes_eq-Decides (str_to_ascii_lowercase word) (str_to_ascii_lowercase own)).0 same) ∙ is in
          absurd (true≢false (sym ((bytes_eq-Decides own name).1 here) ∙ e))
      | inr other ↦ cond-false (str_eq_ignore_ascii_case word own) (Some own) (named table word) other ∙ behind some
    ]

-- what is found is a name of the table, and the word but for the case of its letters
named-is : (table : List (List ℕ)) (word name : List ℕ) → named table word ≡ Some name
    → (list_any (bytes_eq name) table ≡ true) × (str_eq_ignore_ascii_case word name ≡ true)
named-is [] word name h = absurd (cc)
named-is (own ∷ table) word name h = by (str_eq_ignore_ascii_case word own) refl (named-is table word name) h
  where
    or-right : (a b : Bool) → b ≡ true → (a || b) ≡ true
    or-right true b h = refl
    or-right false b h = h

    by : (same : Bool) → str_eq_ignore_ascii_case word own ≡ same
        → (named table word ≡ Some name → (list_any (bytes_eq name) table ≡ true) × (str_eq_ignore_ascii_case word name ≡ true))
        → (if same then Some own else named table word) ≡ Some name
        → (list_any (bytes_eq name) (own ∷ table) ≡ true) × (str_eq_ignore_ascii_case word name ≡ true)
    by true e behind h =
        let here : own ≡ name = cc in
        (ap (λ b. b || list_any (bytes_eq name) table) ((bytes_eq-Decides name own).1 (sym here)), subst (λ n. str_eq_ignore_ascii_case word n ≡ true) here e)
    by false e behind h =
        let more = behind h in
        (or-right (bytes_eq name own) (list_any (bytes_eq name) table) more.0, more.1)

-- ---- the words that mean them

names-lower : list_all is_lower names ≡ true
names-lower = refl

names-bare : list_all (λ name. not (is_prefixed name)) names ≡ true
names-bare = refl

upper-lower : (name : List ℕ) → str_to_ascii_lowercase (str_to_ascii_uppercase name) ≡ str_to_ascii_lowercase name
upper-lower [] = refl
upper-lower (c ∷ cs) =
    ap (λ first. first ∷ str_to_ascii_lowercase (str_to_ascii_uppercase cs)) (lowercase-uppercase c)
    ∙ ap (λ rest. to_ascii_lowercase c ∷ rest) (upper-lower cs)

known-is : (word : List ℕ) → known_name word ≡ named names word
unfolding known_name
known-is word = refl

bare-means : (word : List ℕ) → is_prefixed word ≡ false → capability_meant word ≡ word
unfolding capability_meant
bare-means word bare = cond-false (is_prefixed word) (name_or word (known_name (drop 4 word))) word bare

prefixed-means : (word : List ℕ) → is_prefixed word ≡ true → capability_meant word ≡ name_or word (known_name (drop 4 word))
unfolding capability_meant
prefixed-means word prefixed = cond-true (is_prefixed word) (name_or word (known_name (drop 4 word))) word prefixed

-- a word behind a prefix, that is a name but for the case of its letters
behind-means : (word name : List ℕ) → is_prefixed word ≡ true → str_to_ascii_lowercase (drop 4 word) ≡ name → is_some (capability_number name) ≡ true
    → capability_meant word ≡ name
behind-means word name prefixed is some =
    prefixed-means word prefixed ∙ ap (name_or word) (known-is (drop 4 word) ∙ found 0 names (drop 4 word) name names-lower is some)

pub names-mean : (name : List ℕ) → is_some (capability_number name) ≡ true → IsMeant name
names-mean name some =
    let same : str_to_ascii_lowercase name ≡ name = lower-is name (passes is_lower 0 names name names-lower some) in
    record {
      plain = bare-means name (not-true (is_prefixed name) (passes (λ name. not (is_prefixed name)) 0 names name names-bare some));
      lower = behind-means (codes "cap_" ++ name) name refl same some;
      upper = behind-means (codes "CAP_" ++ str_to_ascii_uppercase name) name refl (upper-lower name ∙ same) some;
    }

pub means-no_other : (word : List ℕ) → MeansNoOther word
means-no_other word = by (is_prefixed word) refl
  where
    of_name : (found : Option (List ℕ)) → known_name (drop 4 word) ≡ found → is_prefixed word ≡ true → capability_meant word ≡ name_or word found → MeansNoOther word
    of_name None is prefixed means = inl means
    of_name (Some name) is prefixed means =
        let facts = named-is names (drop 4 word) name (sym (known-is (drop 4 word)) ∙ is) in
        let written : IsWrittenFor word name = record { prefixed = prefixed; known = facts.0; same = facts.1 } in
        inr (subst (IsWrittenFor word) (sym means) written)

    by : (prefixed : Bool) → is_prefixed word ≡ prefixed → MeansNoOther word
    by false is = inl (bare-means word is)
    by true is = of_name (known_name (drop 4 word)) refl is (prefixed-means word is)
