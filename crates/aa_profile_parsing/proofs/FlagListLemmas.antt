-- What a list of flags says, word by word.
use Rattle.std.proofs.Common.{◌≡◌, ℕ, Bool, true, false, List, [], ◌∷◌, ◌++◌, Option, None, Some, Result, Ok, Err, refl, ap, sym, ◌∙◌, subst}
use Rattle.std.specs.Prelude.{not, ◌&&◌, ◌||◌, if◌then◌else◌, codes, is_some}
use Rattle.std.specs.List.{filter, list_all, onto_first, slice_split}
use Rattle.std.specs.Str.{bytes_eq}
use Rattle.std.proofs.lemmas.Bool.{and_parts}
use Rattle.std.proofs.lemmas.Slice.Eq.{bytes_eq-Decides}
use Rattle.aa_bytes.specs.Texts.{is_empty}
use Rattle.aa_profile_parsing.specs.declared.fault.GrammarRefusal.{GrammarRefusal}
use Rattle.aa_profile_parsing.specs.declared.language.Language.{Language}
use Rattle.aa_profile_parsing.specs.declared.language.Language.TheVariants.{Four, Three}
use Rattle.aa_profile_parsing.specs.Flags.{is_idle, mode_flag, name_of_mode, refusal_of_word, same_mode, separates, unflagged, wider_mode_flag, with_flag, with_flags, with_item, with_mode}
use Rattle.aa_profile_parsing.specs.FlagText.{flags_of, has_word, has_words, is_flag, mode_flags, one_mode, words_of}
use Rattle.aa_profile_parsing.specs.declared.flags.Flags.{Flags}
use Rattle.aa_profile_parsing.specs.declared.flags.ModeFlag.{ModeFlag}
use Rattle.aa_profile_parsing.specs.declared.flags.ModeFlag.TheVariants.{Complain, DefaultAllow, Enforce, Unconfined}
use Rattle.aa_profile_parsing.proofs.FlagLemmas.{first_word}

-- the flags that are read of words, where none is refused
abbrev pub given : Result Flags GrammarRefusal → Option Flags
given found = elim found [ Err refusal ↦ None | Ok flags ↦ Some flags ]

-- what comes of flags, where none is refused
abbrev pub then_flags : Result Flags GrammarRefusal → (Flags → Result Flags GrammarRefusal) → Result Flags GrammarRefusal
then_flags found next = elim found [ Err refusal ↦ Err refusal | Ok more ↦ next more ]

-- four tests, one for each mode flag
abbrev pub by_mode : Bool → Bool → Bool → Bool → ModeFlag → Bool
by_mode e c u d Enforce = e
by_mode e c u d Complain = c
by_mode e c u d Unconfined = u
by_mode e c u d DefaultAllow = d

-- a mode flag stood before
abbrev is_before : Option ModeFlag → ModeFlag → Bool
is_before None mode = false
is_before (Some before) mode = same_mode before mode

-- what is said, from whether all words are flags, whether `audit` is among them, and from the one mode flag that is
abbrev pub told_by : Bool → Bool → Option (Option ModeFlag) → Option Flags
told_by all audit found = if all then elim found [ None ↦ None | Some mode ↦ Some (record { mode = mode; audit = audit }) ] else None

-- flags that stood before, and what further words say: whether all are flags, and which of those that decide something are among them
abbrev together : Flags → Bool → Bool → Bool → Bool → Bool → Bool → Option Flags
together flags all e c u d audit =
    told_by all (flags.audit || audit) (one_mode (filter (λ mode. is_before flags.mode mode || by_mode e c u d mode) mode_flags))

abbrev behind : Language → Flags → List (List ℕ) → Option Flags
behind language flags words =
    together flags (list_all (is_flag language) words) (has_word (codes "enforce") words) (has_word (codes "complain") words) (has_word (codes "unconfined") words)
    (has_word (codes "default_allow") words) (has_word (codes "audit") words)

-- no more than these
none-behind : (mode : Option ModeFlag) (audit : Bool)
    → Some (record { mode = mode; audit = audit }) ≡ together (record { mode = mode; audit = audit }) true false false false false false
none-behind None true = refl
none-behind None false = refl
none-behind (Some Enforce) true = refl
none-behind (Some Enforce) false = refl
none-behind (Some Complain) true = refl
none-behind (Some Complain) false = refl
none-behind (Some Unconfined) true = refl
none-behind (Some Unconfined) false = refl
none-behind (Some DefaultAllow) true = refl
none-behind (Some DefaultAllow) false = refl

-- two mode flags say nothing
two-ec : (all audit u d : Bool) → None ≡ told_by all audit (one_mode (filter (by_mode true true u d) mode_flags))
two-ec false audit u d = refl
two-ec true audit u d = refl

two-eu : (all audit c d : Bool) → None ≡ told_by all audit (one_mode (filter (by_mode true c true d) mode_flags))
two-eu false audit c d = refl
two-eu true audit true d = refl
two-eu true audit false d = refl

two-ed : (all audit c u : Bool) → None ≡ told_by all audit (one_mode (filter (by_mode true c u true) mode_flags))
two-ed false audit c u = refl
two-ed true audit true true = refl
two-ed true audit true false = refl
two-ed true audit false true = refl
two-ed true audit false false = refl

two-cu : (all audit e d : Bool) → None ≡ told_by all audit (one_mode (filter (by_mode e true true d) mode_flags))
two-cu false audit e d = refl
two-cu true audit true d = refl
two-cu true audit false d = refl

two-cd : (all audit e u : Bool) → None ≡ told_by all audit (one_mode (filter (by_mode e true u true) mode_flags))
two-cd false audit e u = refl
two-cd true audit true true = refl
two-cd true audit true false = refl
two-cd true audit false true = refl
two-cd true audit false false = refl

two-ud : (all audit e c : Bool) → None ≡ told_by all audit (one_mode (filter (by_mode e c true true) mode_flags))
two-ud false audit e c = refl
two-ud true audit true true = refl
two-ud true audit true false = refl
two-ud true audit false true = refl
two-ud true audit false false = refl

-- a mode flag first, and then the others
mode-first : (mode : Option ModeFlag) (audit : Bool) (first : ModeFlag) (next : Flags → Result Flags GrammarRefusal) (all e c u d a : Bool)
    → ((more : Flags) → given (next more) ≡ together more all e c u d a)
    → given (then_flags (with_mode (record { mode = mode; audit = audit }) first) next)
    ≡ together (record { mode = mode; audit = audit }) all (bytes_eq (name_of_mode first) (codes "enforce") || e) (bytes_eq (name_of_mode first) (codes "complain") || c)
    (bytes_eq (name_of_mode first) (codes "unconfined") || u) (bytes_eq (name_of_mode first) (codes "default_allow") || d) (bytes_eq (name_of_mode first) (codes "audit") || a)
mode-first None audit Enforce next all e c u d a more = more (record { mode = Some Enforce; audit = audit })
mode-first None audit Complain next all e c u d a more = more (record { mode = Some Complain; audit = audit })
mode-first None audit Unconfined next all e c u d a more = more (record { mode = Some Unconfined; audit = audit })
mode-first None audit DefaultAllow next all e c u d a more = more (record { mode = Some DefaultAllow; audit = audit })
mode-first (Some Enforce) audit Enforce next all e c u d a more = more (record { mode = Some Enforce; audit = audit })
mode-first (Some Enforce) audit Complain next all e c u d a more = two-ec all (audit || a) u d
mode-first (Some Enforce) audit Unconfined next all e c u d a more = two-eu all (audit || a) c d
mode-first (Some Enforce) audit DefaultAllow next all e c u d a more = two-ed all (audit || a) c u
mode-first (Some Complain) audit Enforce next all e c u d a more = two-ec all (audit || a) u d
mode-first (Some Complain) audit Complain next all e c u d a more = more (record { mode = Some Complain; audit = audit })
mode-first (Some Complain) audit Unconfined next all e c u d a more = two-cu all (audit || a) e d
mode-first (Some Complain) audit DefaultAllow next all e c u d a more = two-cd all (audit || a) e u
mode-first (Some Unconfined) audit Enforce next all e c u d a more = two-eu all (audit || a) c d
mode-first (Some Unconfined) audit Complain next all e c u d a more = two-cu all (audit || a) e d
mode-first (Some Unconfined) audit Unconfined next all e c u d a more = more (record { mode = Some Unconfined; audit = audit })
mode-first (Some Unconfined) audit DefaultAllow next all e c u d a more = two-ud all (audit || a) e c
mode-first (Some DefaultAllow) audit Enforce next all e c u d a more = two-ed all (audit || a) c u
mode-first (Some DefaultAllow) audit Complain next all e c u d a more = two-cd all (audit || a) e u
mode-first (Some DefaultAllow) audit Unconfined next all e c u d a more = two-ud all (audit || a) e c
mode-first (Some DefaultAllow) audit DefaultAllow next all e c u d a more = more (record { mode = Some DefaultAllow; audit = audit })

-- `audit` first, and then the others
audit-first : (mode : Option ModeFlag) (audit : Bool) (next : Flags → Result Flags GrammarRefusal) (all e c u d a : Bool)
    → ((more : Flags) → given (next more) ≡ together more all e c u d a)
    → given (next (record { mode = mode; audit = true })) ≡ together (record { mode = mode; audit = audit }) all e c u d true
audit-first mode true next all e c u d a more = more (record { mode = mode; audit = true })
audit-first mode false next all e c u d a more = more (record { mode = mode; audit = true })

-- flags and a word of which it is known which mode flag it is, if it is one, whether it is `audit`, and whether it is a flag that decides nothing
abbrev with_known : Flags → Option ModeFlag → Bool → Bool → GrammarRefusal → Result Flags GrammarRefusal
with_known flags found audit idle refusal = elim found [
  | Some mode ↦ with_mode flags mode
  | None ↦
      if audit then Ok (record { mode = flags.mode; audit = true }) else
      if idle then Ok flags else
      Err refusal
]

-- a word that is no mode flag first, and then the others
plain-first : (flags : Flags) (next : Flags → Result Flags GrammarRefusal) (is_e is_c is_u is_d is_audit idle : Bool) (refusal : GrammarRefusal) (all e c u d a : Bool)
    → ((is_audit || idle) ≡ true → (is_e ≡ false) × (is_c ≡ false) × (is_u ≡ false) × (is_d ≡ false))
    → ((more : Flags) → given (next more) ≡ together more all e c u d a)
    → given (then_flags (with_known flags None is_audit idle refusal) next)
    ≡ together flags ((is_audit || idle) && all) (is_e || e) (is_c || c) (is_u || u) (is_d || d) (is_audit || a)
plain-first flags next is_e is_c is_u is_d true idle refusal all e c u d a none more =
    let other = none refl in rw (other.0, other.1, other.2, other.3) (audit-first flags.mode flags.audit next all e c u d a more)
plain-first flags next is_e is_c is_u is_d false true refusal all e c u d a none more =
    let other = none refl in rw (other.0, other.1, other.2, other.3) (more flags)
plain-first flags next is_e is_c is_u is_d false false refusal all e c u d a none more = refl

-- no mode flag is another flag
not-plain : (language : Language) (mode : ModeFlag) → (bytes_eq (name_of_mode mode) (codes "audit") || is_idle language (name_of_mode mode)) ≡ false
not-plain Three Enforce = refl
not-plain Three Complain = refl
not-plain Three Unconfined = refl
not-plain Three DefaultAllow = refl
not-plain Four Enforce = refl
not-plain Four Complain = refl
not-plain Four Unconfined = refl
not-plain Four DefaultAllow = refl

pub other-text : (language : Language) (word : List ℕ) (mode : ModeFlag) → (bytes_eq word (codes "audit") || is_idle language word) ≡ true
    → bytes_eq word (name_of_mode mode) ≡ false
other-text language word mode h = by (bytes_eq word (name_of_mode mode)) refl
  where
    by : (same : Bool) → bytes_eq word (name_of_mode mode) ≡ same → bytes_eq word (name_of_mode mode) ≡ false
    by true e =
        let own = ap (λ (text : List ℕ). bytes_eq text (codes "audit") || is_idle language text) (sym ((bytes_eq-Decides word (name_of_mode mode)).0 e)) in
        let wrong : false ≡ true = sym (not-plain language mode) ∙ (own ∙ h) in
        absurd (cc)
    by false e = e

-- a word that is a mode flag is its name
same-mode_flag : (one other : ModeFlag) → ◌≡◌ {A = Option ModeFlag} (Some one) (Some other) → one ≡ other
same-mode_flag one other h = ap (λ (found : Option ModeFlag). elim found [ None ↦ one | Some own ↦ own ]) h

wider-named : (language : Language) (word : List ℕ) (mode : ModeFlag) → wider_mode_flag language word ≡ Some mode → word ≡ name_of_mode mode
wider-named Three word mode h = absurd (cc)
wider-named Four word mode h = by (bytes_eq word (codes "unconfined")) (bytes_eq word (codes "default_allow")) refl refl h
  where
    by : (u d : Bool) → bytes_eq word (codes "unconfined") ≡ u → bytes_eq word (codes "default_allow") ≡ d
        → ◌≡◌ {A = Option ModeFlag} (if u then Some Unconfined else if d then Some DefaultAllow else None) (Some mode) → word ≡ name_of_mode mode
    by true d e f is = (bytes_eq-Decides word (codes "unconfined")).0 e ∙ ap name_of_mode (same-mode_flag Unconfined mode is)
    by false true e f is = (bytes_eq-Decides word (codes "default_allow")).0 f ∙ ap name_of_mode (same-mode_flag DefaultAllow mode is)
    by false false e f is = absurd (cc)

pub mode-named : (language : Language) (word : List ℕ) (mode : ModeFlag) → mode_flag language word ≡ Some mode → word ≡ name_of_mode mode
mode-named language word mode h = by (bytes_eq word (codes "enforce")) (bytes_eq word (codes "complain")) refl refl h
  where
    by : (e c : Bool) → bytes_eq word (codes "enforce") ≡ e → bytes_eq word (codes "complain") ≡ c
        → ◌≡◌ {A = Option ModeFlag} (if e then Some Enforce else if c then Some Complain else wider_mode_flag language word) (Some mode) → word ≡ name_of_mode mode
    by true c p q is = (bytes_eq-Decides word (codes "enforce")).0 p ∙ ap name_of_mode (same-mode_flag Enforce mode is)
    by false true p q is = (bytes_eq-Decides word (codes "complain")).0 q ∙ ap name_of_mode (same-mode_flag Complain mode is)
    by false false p q is = wider-named language word mode is

-- a word first, and then the others
word-first : (language : Language) (flags : Flags) (word : List ℕ) (words others : List (List ℕ)) (found : Option ModeFlag) → mode_flag language word ≡ found
    → ((more : Flags) → given (with_flags language more words) ≡ behind language more others)
    → given (then_flags (with_flag language flags word) (λ more. with_flags language more words)) ≡ behind language flags (word ∷ others)
word-first language flags word words others found is more =
    ap (λ (found : Option ModeFlag). given (then_flags (with_known flags found (bytes_eq word (codes "audit")) (is_idle language word) (refusal_of_word language word)) next)) is
    ∙ (by found is
    ∙ ap (λ (found : Option ModeFlag). by_first ((is_some found || bytes_eq word (codes "audit") || is_idle language word) && all) word) (sym is))
  where
    next : Flags → Result Flags GrammarRefusal
    next more = with_flags language more words

    all : Bool
    all = list_all (is_flag language) others

    by_first : Bool → List ℕ → Option Flags
    by_first all word =
        together flags all (bytes_eq word (codes "enforce") || has_word (codes "enforce") others) (bytes_eq word (codes "complain") || has_word (codes "complain") others)
        (bytes_eq word (codes "unconfined") || has_word (codes "unconfined") others) (bytes_eq word (codes "default_allow") || has_word (codes "default_allow") others)
        (bytes_eq word (codes "audit") || has_word (codes "audit") others)

    by : (found : Option ModeFlag) → mode_flag language word ≡ found
        → given (then_flags (with_known flags found (bytes_eq word (codes "audit")) (is_idle language word) (refusal_of_word language word)) next)
        ≡ by_first ((is_some found || bytes_eq word (codes "audit") || is_idle language word) && all) word
    by (Some mode) is =
        mode-first flags.mode flags.audit mode next all (has_word (codes "enforce") others) (has_word (codes "complain") others) (has_word (codes "unconfined") others)
        (has_word (codes "default_allow") others) (has_word (codes "audit") others) more
        ∙ ap (by_first all) (sym (mode-named language word mode is))
    by None is =
        plain-first flags next (bytes_eq word (codes "enforce")) (bytes_eq word (codes "complain")) (bytes_eq word (codes "unconfined")) (bytes_eq word (codes "default_allow"))
        (bytes_eq word (codes "audit")) (is_idle language word) (refusal_of_word language word) all (has_word (codes "enforce") others) (has_word (codes "complain") others)
        (has_word (codes "unconfined") others) (has_word (codes "default_allow") others) (has_word (codes "audit") others)
        (λ h. (other-text language word Enforce h, other-text language word Complain h, other-text language word Unconfined h, other-text language word DefaultAllow h)) more

-- words behind flags say what the flags and the words do
words-behind : (language : Language) (flags : Flags) (words : List (List ℕ))
    → given (with_flags language flags words) ≡ behind language flags (filter (λ word. not (is_empty word)) words)
words-behind language flags [] = none-behind flags.mode flags.audit
words-behind language flags ([] ∷ words) = words-behind language flags words
words-behind language flags ((b ∷ bs) ∷ words) =
    word-first language flags (b ∷ bs) words (filter (λ word. not (is_empty word)) words) (mode_flag language (b ∷ bs)) refl (λ more. words-behind language more words)

-- what a list says goes by its words, wherever they stand
pub list-said : (language : Language) (text : List ℕ) → given (with_flags language unflagged (slice_split separates text)) ≡ flags_of language (words_of text)
list-said language text = words-behind language unflagged (slice_split separates text)

-- flags of some words, and of more
pub with_flags-more : (language : Language) (words more : List (List ℕ)) (flags : Flags)
    → with_flags language flags (words ++ more) ≡ then_flags (with_flags language flags words) (λ found. with_flags language found more)
with_flags-more language [] more flags = refl
with_flags-more language (word ∷ words) more flags = by (with_item language flags word) (λ found. with_flags-more language words more found)
  where
    by : (first : Result Flags GrammarRefusal)
        → ((found : Flags) → with_flags language found (words ++ more) ≡ then_flags (with_flags language found words) (λ found. with_flags language found more))
        → then_flags first (λ found. with_flags language found (words ++ more)) ≡ then_flags (then_flags first (λ found. with_flags language found words)) (λ found. with_flags language found more)
    by (Err refusal) rest = refl
    by (Ok found) rest = rest found

-- a separator stands between words
pub split-at : (text rest : List ℕ) (b : ℕ) → separates b ≡ true → slice_split separates (text ++ b ∷ rest) ≡ slice_split separates text ++ slice_split separates rest
split-at [] rest b h = rw h refl
split-at (c ∷ text) rest b h = by (separates c) refl (split-at text rest b h)
  where
    onto : onto_first c (slice_split separates text ++ slice_split separates rest) ≡ onto_first c (slice_split separates text) ++ slice_split separates rest
    onto = subst (λ (parts : List (List ℕ)). onto_first c (parts ++ slice_split separates rest) ≡ onto_first c parts ++ slice_split separates rest) (sym (first_word separates text)) refl

    by : (passes : Bool) → separates c ≡ passes → slice_split separates (text ++ b ∷ rest) ≡ slice_split separates text ++ slice_split separates rest
        → slice_split separates (c ∷ (text ++ b ∷ rest)) ≡ slice_split separates (c ∷ text) ++ slice_split separates rest
    by true e more = rw e (ap (λ parts. [] ∷ parts) more)
    by false e more = rw e (ap (onto_first c) more ∙ onto)

-- words that aren't empty, of two parts
words-of-both : (words more : List (List ℕ)) → filter (λ word. not (is_empty word)) (words ++ more) ≡ filter (λ word. not (is_empty word)) words ++ filter (λ word. not (is_empty word)) more
words-of-both [] more = refl
words-of-both ([] ∷ words) more = words-of-both words more
words-of-both ((b ∷ bs) ∷ words) more = ap (λ words. (b ∷ bs) ∷ words) (words-of-both words more)

-- the words on both sides of a separator
pub words-at : (text rest : List ℕ) (b : ℕ) → separates b ≡ true → words_of (text ++ b ∷ rest) ≡ words_of text ++ words_of rest
words-at text rest b h = ap (filter (λ word. not (is_empty word))) (split-at text rest b h) ∙ words-of-both (slice_split separates text) (slice_split separates rest)

-- separators before a list are none of its words
words-behind-gap : (gap text : List ℕ) → list_all separates gap ≡ true → words_of (gap ++ text) ≡ words_of text
words-behind-gap [] text h = refl
words-behind-gap (b ∷ gap) text h =
    let parts = and_parts (separates b) (list_all separates gap) h in
    words-at [] (gap ++ text) b parts.0 ∙ words-behind-gap gap text parts.1

-- whatever separates two words
pub words-apart : (text gap rest : List ℕ) → list_all separates gap ≡ true → is_empty gap ≡ false → words_of (text ++ (gap ++ rest)) ≡ words_of text ++ words_of rest
words-apart text [] rest h some = absurd (cc)
words-apart text (b ∷ gap) rest h some =
    let parts = and_parts (separates b) (list_all separates gap) h in
    words-at text (gap ++ rest) b parts.0 ∙ ap (λ words. words_of text ++ words) (words-behind-gap gap rest parts.1)

-- two tests that lead to each other
same-test : (a b : Bool) → (a ≡ true → b ≡ true) → (b ≡ true → a ≡ true) → a ≡ b
same-test true b there back = sym (there refl)
same-test false true there back = back refl
same-test false false there back = refl

-- what holds of all words, holds of one of them
pub holds-of-one : (p : List ℕ → Bool) (word : List ℕ) (others : List (List ℕ)) → has_word word others ≡ true → list_all p others ≡ true → p word ≡ true
holds-of-one p word [] is all = absurd (cc)
holds-of-one p word (other ∷ others) is all = by (bytes_eq other word) refl (holds-of-one p word others)
  where
    parts : (p other ≡ true) × (list_all p others ≡ true)
    parts = and_parts (p other) (list_all p others) all

    by : (same : Bool) → bytes_eq other word ≡ same → (has_word word others ≡ true → list_all p others ≡ true → p word ≡ true) → p word ≡ true
    by true e more = ap p (sym ((bytes_eq-Decides other word).0 e)) ∙ parts.0
    by false e more = let there : has_word word others ≡ true = rw e at is in more there parts.1

-- what holds of all words, holds of all that stand among them
holds-of-all : (p : List ℕ → Bool) (words others : List (List ℕ)) → has_words words others ≡ true → list_all p others ≡ true → list_all p words ≡ true
holds-of-all p [] others among all = refl
holds-of-all p (word ∷ words) others among all =
    let parts = and_parts (has_word word others) (has_words words others) among in
    rw (holds-of-one p word others parts.0 all, holds-of-all p words others parts.1 all) refl

-- a word that stands among some, stands among others that have them
stands-among : (word : List ℕ) (words others : List (List ℕ)) → has_words words others ≡ true → has_word word words ≡ true → has_word word others ≡ true
stands-among word [] others among is = absurd (cc)
stands-among word (first ∷ words) others among is = by (bytes_eq first word) refl (stands-among word words others)
  where
    parts : (has_word first others ≡ true) × (has_words words others ≡ true)
    parts = and_parts (has_word first others) (has_words words others) among

    by : (same : Bool) → bytes_eq first word ≡ same → (has_words words others ≡ true → has_word word words ≡ true → has_word word others ≡ true) → has_word word others ≡ true
    by true e more = ap (λ text. has_word text others) (sym ((bytes_eq-Decides first word).0 e)) ∙ parts.0
    by false e more = let there : has_word word words ≡ true = rw e at is in more parts.1 there

-- the same words say the same, in whatever order and however often they stand
pub order-is-free : (language : Language) (words others : List (List ℕ)) → has_words words others ≡ true → has_words others words ≡ true
    → flags_of language words ≡ flags_of language others
order-is-free language words others there back =
    let test : (word : List ℕ) → has_word word words ≡ has_word word others =
    λ word. same-test (has_word word words) (has_word word others) (stands-among word words others there) (stands-among word others words back)
    in
    let all = same-test (list_all (is_flag language) words) (list_all (is_flag language) others) (holds-of-all (is_flag language) others words back) (holds-of-all (is_flag language) words others there) in
    ap (λ all. together unflagged all (has_word (codes "enforce") words) (has_word (codes "complain") words) (has_word (codes "unconfined") words) (has_word (codes "default_allow") words) (has_word (codes "audit") words)) all
    ∙ (ap (λ e. together unflagged (list_all (is_flag language) others) e (has_word (codes "complain") words) (has_word (codes "unconfined") words) (has_word (codes "default_allow") words) (has_word (codes "audit") words)) (test (codes "enforce"))
    ∙ (ap (λ c. together unflagged (list_all (is_flag language) others) (has_word (codes "enforce") others) c (has_word (codes "unconfined") words) (has_word (codes "default_allow") words) (has_word (codes "audit") words)) (test (codes "complain"))
    ∙ (ap (λ u. together unflagged (list_all (is_flag language) others) (has_word (codes "enforce") others) (has_word (codes "complain") others) u (has_word (codes "default_allow") words) (has_word (codes "audit") words)) (test (codes "unconfined"))
    ∙ (ap (λ d. together unflagged (list_all (is_flag language) others) (has_word (codes "enforce") others) (has_word (codes "complain") others) (has_word (codes "unconfined") others) d (has_word (codes "audit") words)) (test (codes "default_allow"))
    ∙ ap (together unflagged (list_all (is_flag language) others) (has_word (codes "enforce") others) (has_word (codes "complain") others) (has_word (codes "unconfined") others) (has_word (codes "default_allow") others)) (test (codes "audit"))))))
