-- Which words stand in the list of FLAGS: those that decide something, as FLAGS say, and those that are kept.
use Rattle.std.proofs.Common.{◌≡◌, ℕ, suc, ◌+◌, Bool, true, false, List, [], ◌∷◌, ◌++◌, take, drop, Option, None, Some, refl, ap, sym, ◌∙◌, subst, arith}
use Rattle.std.specs.Prelude.{not, ◌==◌, ◌&&◌, ◌||◌, if◌then◌else◌, codes, is_some}
use Rattle.std.specs.List.{filter, list_all, prefix_len}
use Rattle.std.specs.Str.{bytes_eq}
use Rattle.std.proofs.lemmas.Bool.{eqb-true}
use Rattle.std.proofs.lemmas.Bool.Decides.{nat_tests}
use Rattle.std.proofs.lemmas.List.{take-append-drop}
use Rattle.std.proofs.lemmas.Slice.Eq.{bytes_eq-Decides}
use Rattle.aa_bytes.specs.Bytes.{closing_parenthesis, equals, is_blank, opening_parenthesis}
use Rattle.aa_bytes.specs.Texts.{begins_with}
use Rattle.aa_profile_parsing.specs.declared.language.Language.{Language}
use Rattle.aa_profile_parsing.specs.Flags.{is_idle, mode_flag, name_of_mode}
use Rattle.aa_profile_parsing.specs.FlagText.{behind_blanks, flags_of, has_word, is_flag, mode_flags, modes_among, one_mode, said, said_behind_sign, said_in_parentheses, words_of}
use Rattle.aa_profile_parsing.specs.IdleFlags.{idle_words, list_text, up_to_parenthesis}
use Rattle.aa_profile_parsing.specs.KeptFlags.{is_mode, stands}
use Rattle.aa_profile_parsing.specs.declared.flags.Flags.{Flags}
use Rattle.aa_profile_parsing.specs.declared.flags.ModeFlag.{ModeFlag}
use Rattle.aa_profile_parsing.specs.declared.flags.ModeFlag.TheVariants.{Complain, DefaultAllow, Enforce, Unconfined}
use Rattle.aa_profile_parsing.proofs.FlagListLemmas.{by_mode, holds-of-one, mode-named, other-text, told_by}

-- what stands from the first `(` on
abbrev other : ℕ → Bool
other b = not (b == opening_parenthesis)

abbrev from_parenthesis : List ℕ → List ℕ
from_parenthesis text = drop (prefix_len other text) text

abbrev list_from : List ℕ → List ℕ
list_from text = up_to_parenthesis (drop 1 text)

-- another byte before it makes no difference
skips : (b : ℕ) (text : List ℕ) → (b == opening_parenthesis) ≡ false → from_parenthesis (b ∷ text) ≡ from_parenthesis text
skips b text h = let one : 1 + prefix_len other text ≡ suc (prefix_len other text) = omega arith in rw h (ap (λ n. drop n (b ∷ text)) one)

blank-differs : (b : ℕ) → is_blank b ≡ true → (b == opening_parenthesis) ≡ false
blank-differs b h = by (b == opening_parenthesis) refl
  where
    by : (same : Bool) → (b == opening_parenthesis) ≡ same → (b == opening_parenthesis) ≡ false
    by true e = let wrong : false ≡ true = subst (λ n. is_blank n ≡ true) (eqb-true b opening_parenthesis e) h in absurd (cc)
    by false e = e

-- and neither do blanks
past-blanks : (text : List ℕ) → from_parenthesis (behind_blanks text) ≡ from_parenthesis text
past-blanks [] = refl
past-blanks (b ∷ text) = by (is_blank b) refl (past-blanks text)
  where
    by : (blank : Bool) → is_blank b ≡ blank → from_parenthesis (behind_blanks text) ≡ from_parenthesis text
        → from_parenthesis (behind_blanks (b ∷ text)) ≡ from_parenthesis (b ∷ text)
    by true e rest = rw e (rest ∙ sym (skips b text (blank-differs b e)))
    by false e rest = rw e refl

-- what a list says is what its words do
abbrev Says : Language → List ℕ → Flags → Type 0
Says language text flags = flags_of language (words_of (list_text text)) ≡ Some flags

closed-says : (found : Option Flags) (rest : List ℕ) (flags : Flags)
    → ◌≡◌ {A = Option Flags} (elim rest [ [] ↦ None | parenthesis ∷ behind ↦ if list_all is_blank behind then found else None ]) (Some flags) → found ≡ Some flags
closed-says found [] flags h = absurd (cc)
closed-says found (p ∷ behind) flags h = by (list_all is_blank behind) h
  where
    by : (blank : Bool) → ◌≡◌ {A = Option Flags} (if blank then found else None) (Some flags) → found ≡ Some flags
    by true h = h
    by false h = absurd (cc)

in-parentheses : (language : Language) (text : List ℕ) (flags : Flags) → said_in_parentheses language text ≡ Some flags → Says language text flags
in-parentheses language [] flags h = absurd (cc)
in-parentheses language (b ∷ text) flags h = by (b == opening_parenthesis) refl
  where
    by : (opens : Bool) → (b == opening_parenthesis) ≡ opens → Says language (b ∷ text) flags
    by true e =
        let q : ℕ → Bool = λ b. not (b == closing_parenthesis) in
        let here : from_parenthesis (b ∷ text) ≡ b ∷ text = rw e refl in
        let said = closed-says (flags_of language (words_of (take (prefix_len q text) text))) (drop (prefix_len q text) text) flags (rw e at h) in
        ap (λ list. flags_of language (words_of (list_from list))) here ∙ said
    by false e = let wrong : ◌≡◌ {A = Option Flags} None (Some flags) = rw e at h in absurd (cc)

-- the same behind the sign
behind-sign : (language : Language) (text : List ℕ) (flags : Flags) → said_behind_sign language text ≡ Some flags → Says language text flags
behind-sign language [] flags h = absurd (cc)
behind-sign language (b ∷ text) flags h = by (b == equals) refl
  where
    by : (signs : Bool) → (b == equals) ≡ signs → Says language (b ∷ text) flags
    by true e =
        let differs : (b == opening_parenthesis) ≡ false = grind (arith, nat_tests) in
        ap (λ list. flags_of language (words_of (list_from list))) (skips b text differs ∙ sym (past-blanks text)) ∙ in-parentheses language (behind_blanks text) flags (rw e at h)
    by false e = let wrong : ◌≡◌ {A = Option Flags} None (Some flags) = rw e at h in absurd (cc)

-- and behind the word `flags`
past-keyword : (text : List ℕ) → begins_with (codes "flags") text ≡ true → from_parenthesis (drop 5 text) ≡ from_parenthesis text
past-keyword text h =
    let front : take 5 text ≡ codes "flags" = (bytes_eq-Decides (take 5 text) (codes "flags")).0 h in
    let rest = drop 5 text in
    let whole : codes "flags" ++ rest ≡ text = ap (λ front. front ++ rest) (sym front) ∙ take-append-drop 5 text in
    sym (skips 102 (108 ∷ 97 ∷ 103 ∷ 115 ∷ rest) refl ∙ (skips 108 (97 ∷ 103 ∷ 115 ∷ rest) refl ∙ (skips 97 (103 ∷ 115 ∷ rest) refl
    ∙ (skips 103 (115 ∷ rest) refl ∙ skips 115 rest refl)))) ∙ ap from_parenthesis whole

list-says : (language : Language) (text : List ℕ) (flags : Flags) → said language text ≡ Some flags → Says language text flags
list-says language [] flags h = h
list-says language (b ∷ text) flags h = by (begins_with (codes "flags") (b ∷ text)) refl
  where
    by : (keyword : Bool) → begins_with (codes "flags") (b ∷ text) ≡ keyword → Says language (b ∷ text) flags
    by true e =
        let behind = behind_blanks (drop 5 (b ∷ text)) in
        let same : from_parenthesis (b ∷ text) ≡ from_parenthesis behind = sym (past-blanks (drop 5 (b ∷ text)) ∙ past-keyword (b ∷ text) e) in
        ap (λ list. flags_of language (words_of (list_from list))) same ∙ behind-sign language behind flags (rw e at h)
    by false e = in-parentheses language (b ∷ text) flags (rw e at h)

none : (test : Bool) → (test && false) ≡ false
none true = refl
none false = refl

-- a word is kept exactly where it is one of them and decides nothing
has-kept : (language : Language) (word : List ℕ) (words : List (List ℕ)) → has_word word (filter (is_idle language) words) ≡ (has_word word words && is_idle language word)
has-kept language word [] = refl
has-kept language word (first ∷ words) = by (bytes_eq first word) (is_idle language first) refl refl (has-kept language word words)
  where
    by : (same idle : Bool) → bytes_eq first word ≡ same → is_idle language first ≡ idle → has_word word (filter (is_idle language) words) ≡ (has_word word words && is_idle language word)
        → has_word word (filter (is_idle language) (first ∷ words)) ≡ (has_word word (first ∷ words) && is_idle language word)
    by true true e i rest =
        let own : is_idle language word ≡ true = ap (is_idle language) (sym ((bytes_eq-Decides first word).0 e)) ∙ i in rw (i, e, own) refl
    by true false e i rest =
        let own : is_idle language word ≡ false = ap (is_idle language) (sym ((bytes_eq-Decides first word).0 e)) ∙ i in rw (i, e) (rest ∙ rw own (none (has_word word words)))
    by false true e i rest = rw (i, e) rest
    by false false e i rest = rw (i, e) rest

-- a word is another one that stands among words exactly where it is that other one and stands there itself
same-word : (word flag : List ℕ) (words : List (List ℕ)) → (has_word flag words && bytes_eq word flag) ≡ (has_word word words && bytes_eq word flag)
same-word word flag words = by (bytes_eq word flag) refl
  where
    by : (same : Bool) → bytes_eq word flag ≡ same → (has_word flag words && bytes_eq word flag) ≡ (has_word word words && bytes_eq word flag)
    by true e = ap (λ w. has_word w words && bytes_eq word flag) (sym ((bytes_eq-Decides word flag).0 e))
    by false e = rw e (none (has_word flag words) ∙ sym (none (has_word word words)))

-- the mode flags that stand among words, where a word is one of them
abbrev is_one_of : List (List ℕ) → List ℕ → Bool
is_one_of words word =
    (has_word (codes "enforce") words && bytes_eq word (codes "enforce")) || (has_word (codes "complain") words && bytes_eq word (codes "complain"))
    || (has_word (codes "unconfined") words && bytes_eq word (codes "unconfined")) || (has_word (codes "default_allow") words && bytes_eq word (codes "default_allow"))

-- one of four tests that is asked alone
only-first : (a b c d : Bool) → a ≡ ((true && a) || (false && b) || (false && c) || (false && d))
only-first true b c d = refl
only-first false b c d = refl

only-second : (a b c d : Bool) → b ≡ ((false && a) || (true && b) || (false && c) || (false && d))
only-second a true c d = refl
only-second a false c d = refl

only-third : (a b c d : Bool) → c ≡ ((false && a) || (false && b) || (true && c) || (false && d))
only-third a b true d = refl
only-third a b false d = refl

only-fourth : (a b c d : Bool) → d ≡ ((false && a) || (false && b) || (false && c) || (true && d))
only-fourth a b c true = refl
only-fourth a b c false = refl

same-one : (one other : Option ModeFlag) → ◌≡◌ {A = Option (Option ModeFlag)} (Some one) (Some other) → one ≡ other
same-one one other h = ap (λ (found : Option (Option ModeFlag)). elim found [ None ↦ one | Some own ↦ own ]) h

-- a word is the mode flag that was found exactly where it is one that stands there
mode-word : (e c u d : Bool) (mode : Option ModeFlag) (word : List ℕ) → one_mode (filter (by_mode e c u d) mode_flags) ≡ Some mode
    → is_mode mode word
    ≡ ((e && bytes_eq word (codes "enforce")) || (c && bytes_eq word (codes "complain")) || (u && bytes_eq word (codes "unconfined")) || (d && bytes_eq word (codes "default_allow")))
mode-word true true true true mode word h = absurd (cc)
mode-word true true true false mode word h = absurd (cc)
mode-word true true false true mode word h = absurd (cc)
mode-word true true false false mode word h = absurd (cc)
mode-word true false true true mode word h = absurd (cc)
mode-word true false true false mode word h = absurd (cc)
mode-word true false false true mode word h = absurd (cc)
mode-word true false false false mode word h = ap (λ (own : Option ModeFlag). is_mode own word) (sym (same-one (Some Enforce) mode h))
    ∙ only-first (bytes_eq word (codes "enforce")) (bytes_eq word (codes "complain")) (bytes_eq word (codes "unconfined")) (bytes_eq word (codes "default_allow"))
mode-word false true true true mode word h = absurd (cc)
mode-word false true true false mode word h = absurd (cc)
mode-word false true false true mode word h = absurd (cc)
mode-word false true false false mode word h = ap (λ (own : Option ModeFlag). is_mode own word) (sym (same-one (Some Complain) mode h))
    ∙ only-second (bytes_eq word (codes "enforce")) (bytes_eq word (codes "complain")) (bytes_eq word (codes "unconfined")) (bytes_eq word (codes "default_allow"))
mode-word false false true true mode word h = absurd (cc)
mode-word false false true false mode word h = ap (λ (own : Option ModeFlag). is_mode own word) (sym (same-one (Some Unconfined) mode h))
    ∙ only-third (bytes_eq word (codes "enforce")) (bytes_eq word (codes "complain")) (bytes_eq word (codes "unconfined")) (bytes_eq word (codes "default_allow"))
mode-word false false false true mode word h = ap (λ (own : Option ModeFlag). is_mode own word) (sym (same-one (Some DefaultAllow) mode h))
    ∙ only-fourth (bytes_eq word (codes "enforce")) (bytes_eq word (codes "complain")) (bytes_eq word (codes "unconfined")) (bytes_eq word (codes "default_allow"))
mode-word false false false false mode word h = ap (λ (own : Option ModeFlag). is_mode own word) (sym (same-one None mode h))

-- a flag is one of six kinds
named-mode : (language : Language) (mode : ModeFlag)
    → (bytes_eq (name_of_mode mode) (codes "enforce") || bytes_eq (name_of_mode mode) (codes "complain") || bytes_eq (name_of_mode mode) (codes "unconfined")
    || bytes_eq (name_of_mode mode) (codes "default_allow") || bytes_eq (name_of_mode mode) (codes "audit") || is_idle language (name_of_mode mode)) ≡ true
named-mode language Enforce = refl
named-mode language Complain = refl
named-mode language Unconfined = refl
named-mode language DefaultAllow = refl

abbrev is_named : Language → List ℕ → Bool
is_named language word =
    bytes_eq word (codes "enforce") || bytes_eq word (codes "complain") || bytes_eq word (codes "unconfined") || bytes_eq word (codes "default_allow")
    || bytes_eq word (codes "audit") || is_idle language word

flag-named : (language : Language) (word : List ℕ) → is_flag language word ≡ true → is_named language word ≡ true
flag-named language word h = by (mode_flag language word) refl
  where
    by : (found : Option ModeFlag) → mode_flag language word ≡ found → is_named language word ≡ true
    by (Some mode) e = ap (is_named language) (mode-named language word mode e) ∙ named-mode language mode
    by None e =
        let plain : (bytes_eq word (codes "audit") || is_idle language word) ≡ true =
        ap (λ (found : Option ModeFlag). is_some found || bytes_eq word (codes "audit") || is_idle language word) (sym e) ∙ h
        in
        let no_e : bytes_eq word (codes "enforce") ≡ false = other-text language word Enforce plain in
        let no_c : bytes_eq word (codes "complain") ≡ false = other-text language word Complain plain in
        let no_u : bytes_eq word (codes "unconfined") ≡ false = other-text language word Unconfined plain in
        let no_d : bytes_eq word (codes "default_allow") ≡ false = other-text language word DefaultAllow plain in
        rw (no_e, no_c, no_u, no_d) plain

-- a word that stands there is one of these, or there is none
picked : (has e c u d audit idle : Bool) → (has ≡ true → (e || c || u || d || audit || idle) ≡ true)
    → has ≡ (((has && e) || (has && c) || (has && u) || (has && d)) || (audit && has) || (has && idle))
picked true true c u d audit idle h = refl
picked true false true u d audit idle h = refl
picked true false false true d audit idle h = refl
picked true false false false true audit idle h = refl
picked true false false false false true idle h = refl
picked true false false false false false idle h = sym (h refl)
picked false e c u d true idle h = refl
picked false e c u d false idle h = refl

-- what words say of one mode flag, where all of them are flags
abbrev says : Option ModeFlag → List (List ℕ) → Flags
says mode words = record { mode = mode; audit = has_word (codes "audit") words }

audit-word : (word : List ℕ) (words : List (List ℕ))
    → (bytes_eq word (codes "audit") && has_word (codes "audit") words) ≡ (bytes_eq word (codes "audit") && has_word word words)
audit-word word words = by (bytes_eq word (codes "audit")) refl
  where
    by : (same : Bool) → bytes_eq word (codes "audit") ≡ same
        → (bytes_eq word (codes "audit") && has_word (codes "audit") words) ≡ (bytes_eq word (codes "audit") && has_word word words)
    by true e = ap (λ w. bytes_eq word (codes "audit") && has_word w words) (sym ((bytes_eq-Decides word (codes "audit")).0 e))
    by false e = rw e refl

-- a word that stands there is one of the mode flags that do exactly where it is one at all
one-of : (words : List (List ℕ)) (word : List ℕ)
    → is_one_of words word
    ≡ ((has_word word words && bytes_eq word (codes "enforce")) || (has_word word words && bytes_eq word (codes "complain"))
    || (has_word word words && bytes_eq word (codes "unconfined")) || (has_word word words && bytes_eq word (codes "default_allow")))
one-of words word =
    ap (λ b. b || (has_word (codes "complain") words && bytes_eq word (codes "complain")) || (has_word (codes "unconfined") words && bytes_eq word (codes "unconfined")) || (has_word (codes "default_allow") words && bytes_eq word (codes "default_allow")))
    (same-word word (codes "enforce") words)
    ∙ (ap (λ b. (has_word word words && bytes_eq word (codes "enforce")) || b || (has_word (codes "unconfined") words && bytes_eq word (codes "unconfined")) || (has_word (codes "default_allow") words && bytes_eq word (codes "default_allow")))
    (same-word word (codes "complain") words)
    ∙ (ap (λ b. (has_word word words && bytes_eq word (codes "enforce")) || (has_word word words && bytes_eq word (codes "complain")) || b || (has_word (codes "default_allow") words && bytes_eq word (codes "default_allow")))
    (same-word word (codes "unconfined") words)
    ∙ ap (λ b. (has_word word words && bytes_eq word (codes "enforce")) || (has_word word words && bytes_eq word (codes "complain")) || (has_word word words && bytes_eq word (codes "unconfined")) || b)
    (same-word word (codes "default_allow") words)))

stands-all : (language : Language) (words : List (List ℕ)) (mode : Option ModeFlag) (word : List ℕ) → list_all (is_flag language) words ≡ true
    → one_mode (modes_among words) ≡ Some mode → has_word word words ≡ stands (says mode words) (filter (is_idle language) words) word
stands-all language words mode word all one =
    let found : is_mode mode word ≡ is_one_of words word =
    mode-word (has_word (codes "enforce") words) (has_word (codes "complain") words) (has_word (codes "unconfined") words) (has_word (codes "default_allow") words) mode word one
    in
    picked (has_word word words) (bytes_eq word (codes "enforce")) (bytes_eq word (codes "complain")) (bytes_eq word (codes "unconfined")) (bytes_eq word (codes "default_allow"))
    (bytes_eq word (codes "audit")) (is_idle language word)
    (λ there. flag-named language word (holds-of-one (is_flag language) word words there all))
    ∙ (ap (λ b. b || (bytes_eq word (codes "audit") && has_word word words) || (has_word word words && is_idle language word)) (sym (found ∙ one-of words word))
    ∙ (ap (λ b. is_mode mode word || b || (has_word word words && is_idle language word)) (sym (audit-word word words))
    ∙ ap (λ b. is_mode mode word || (bytes_eq word (codes "audit") && has_word (codes "audit") words) || b) (sym (has-kept language word words))))

words-stand : (language : Language) (words : List (List ℕ)) (flags : Flags) (word : List ℕ) → flags_of language words ≡ Some flags
    → has_word word words ≡ stands flags (filter (is_idle language) words) word
words-stand language words flags word h = by (list_all (is_flag language) words) (one_mode (modes_among words)) refl refl
  where
    told : (all : Bool) (found : Option (Option ModeFlag)) → list_all (is_flag language) words ≡ all → one_mode (modes_among words) ≡ found
        → told_by all (has_word (codes "audit") words) found ≡ Some flags
    told all found e o =
        sym (ap (λ (all : Bool). told_by all (has_word (codes "audit") words) (one_mode (modes_among words))) e ∙ ap (told_by all (has_word (codes "audit") words)) o) ∙ h

    by : (all : Bool) (found : Option (Option ModeFlag)) → list_all (is_flag language) words ≡ all → one_mode (modes_among words) ≡ found
        → has_word word words ≡ stands flags (filter (is_idle language) words) word
    by false found e o = let wrong : ◌≡◌ {A = Option Flags} None (Some flags) = told false found e o in absurd (cc)
    by true None e o = let wrong : ◌≡◌ {A = Option Flags} None (Some flags) = told true None e o in absurd (cc)
    by true (Some mode) e o =
        let same : says mode words ≡ flags = ap (λ (found : Option Flags). elim found [ None ↦ says mode words | Some own ↦ own ]) (told true (Some mode) e o) in
        stands-all language words mode word e o ∙ ap (λ (own : Flags). stands own (filter (is_idle language) words) word) same

-- so no word of FLAGS is lost
pub all-kept : (language : Language) (text : List ℕ) (flags : Flags) (word : List ℕ) → said language text ≡ Some flags
    → has_word word (words_of (list_text text)) ≡ stands flags (idle_words language (list_text text)) word
all-kept language text flags word h = words-stand language (words_of (list_text text)) flags word (list-says language text flags h)
