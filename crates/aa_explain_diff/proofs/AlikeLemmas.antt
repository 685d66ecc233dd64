-- Sections that are alike have one head and the same rules.
use Rattle.std.proofs.Common.{◌≡◌, ℕ, zero, suc, ◌+◌, Bool, true, false, not, ◌&&◌, ◌||◌, cond, List, [], ◌∷◌, ◌++◌, map, Option, arith, refl, sym, ap, subst, ◌∙◌}
use Rattle.std.proofs.Math.Bool.{or-false}
use Rattle.std.proofs.lemmas.List.Folds.{list_any-append}
use Rattle.std.proofs.lemmas.Slice.Eq.{bytes_eq-Decides}
use Rattle.std.specs.Cmp.{both_ways}
use Rattle.std.specs.List.{Contains, list_any}
use Rattle.std.specs.Str.{bytes_eq}
use Rattle.aa_bytes.specs.Texts.{is_empty}
use Rattle.aa_profile_data.proofs.SameLemmas.{rule-equal}
use Rattle.aa_profile_data.specs.SameRules.{HaveSameRules, same_rule}
use Rattle.aa_profile_data.specs.declared.profile.Mode.{Mode}
use Rattle.aa_profile_data.specs.declared.profile.Rule.{Rule}
use Rattle.aa_explain_diff.specs.Alike.{HaveSameHead}
use Rattle.aa_explain_diff.specs.Features.{Feature, OfAttachment, OfAudit, OfFlag, OfHat, OfMode, OfRule, are_alike, feature_if, features_of, has_feature, lacking, rules_from, same_feature, same_state}
use Rattle.aa_explain_diff.specs.Sections.{Section}
use Rattle.aa_explain_diff.specs.code.SameKeys.{state-equal}

-- others have each of some features
abbrev pub HaveAll : List Feature → List Feature → Type 0
HaveAll others [] = Unit {0}
HaveAll others (feature ∷ features) = (has_feature others feature ≡ true) × HaveAll others features

-- where others lack none, they have each
none-lacking : (others features : List Feature) → is_empty (lacking others features) ≡ true → HaveAll others features
none-lacking others [] none = tt
none-lacking others (feature ∷ features) none = by (has_feature others feature) refl none (none-lacking others features)
  where
    by : (has : Bool) → has_feature others feature ≡ has
        → is_empty (cond (not has) (feature ∷ lacking others features) (lacking others features)) ≡ true
        → (is_empty (lacking others features) ≡ true → HaveAll others features)
        → (has_feature others feature ≡ true) × HaveAll others features
    by true e none rest = (e, rest none)
    by false e none rest = absurd (cc)

-- they have each of two lists where they have each of both
all-first : (others front behind : List Feature) → HaveAll others (front ++ behind) → HaveAll others front
all-first others [] behind all = tt
all-first others (feature ∷ front) behind all = (all.0, all-first others front behind all.1)

all-second : (others front behind : List Feature) → HaveAll others (front ++ behind) → HaveAll others behind
all-second others [] behind all = all
all-second others (feature ∷ front) behind all = all-second others front behind all.1

-- the parts of all that a section has, the last first
abbrev pub head-mode : Section → List Feature
head-mode section = OfMode section.mode ∷ []

abbrev pub to-hat : Section → List Feature
to-hat section = head-mode section ++ feature_if section.hat OfHat

abbrev pub to-audit : Section → List Feature
to-audit section = to-hat section ++ feature_if section.audit OfAudit

abbrev pub to-flags : Section → List Feature
to-flags section = to-audit section ++ map OfFlag section.flags

abbrev pub to-attachments : Section → List Feature
to-attachments section = to-flags section ++ map OfAttachment section.attachments

-- a feature is among all where it is among one of the parts
in-parts : (section : Section) (feature : Feature)
    → has_feature (features_of section) feature
    ≡ (same_feature feature (OfMode section.mode) || has_feature (feature_if section.hat OfHat) feature || has_feature (feature_if section.audit OfAudit) feature
    || has_feature (map OfFlag section.flags) feature || has_feature (map OfAttachment section.attachments) feature
    || has_feature (rules_from 0 section.rules) feature)
in-parts section feature =
    let test = same_feature feature in
    let rules = rules_from 0 section.rules in
    list_any-append test (to-attachments section) rules
    ∙ ap (λ b. b || list_any test rules)
    (list_any-append test (to-flags section) (map OfAttachment section.attachments)
    ∙ ap (λ b. b || list_any test (map OfAttachment section.attachments))
    (list_any-append test (to-audit section) (map OfFlag section.flags)
    ∙ ap (λ b. b || list_any test (map OfFlag section.flags))
    (list_any-append test (to-hat section) (feature_if section.audit OfAudit)
    ∙ ap (λ b. b || list_any test (feature_if section.audit OfAudit))
    (list_any-append test (head-mode section) (feature_if section.hat OfHat)
    ∙ ap (λ b. b || list_any test (feature_if section.hat OfHat)) (or-false (test (OfMode section.mode)))))))

-- what no feature of a part is the same as, isn't among it
no-flag : (feature : Feature) (flags : List (List ℕ)) → ((flag : List ℕ) → same_feature feature (OfFlag flag) ≡ false)
    → has_feature (map OfFlag flags) feature ≡ false
no-flag feature [] none = refl
no-flag feature (flag ∷ flags) none = λ i. none flag i || no-flag feature flags none i

no-attachment : (feature : Feature) (patterns : List (List ℕ)) → ((pattern : List ℕ) → same_feature feature (OfAttachment pattern) ≡ false)
    → has_feature (map OfAttachment patterns) feature ≡ false
no-attachment feature [] none = refl
no-attachment feature (pattern ∷ patterns) none = λ i. none pattern i || no-attachment feature patterns none i

no-rule : (feature : Feature) (number : ℕ) (rules : List Rule) → ((rule : Rule) (at : ℕ) → same_feature feature (OfRule rule at) ≡ false)
    → has_feature (rules_from number rules) feature ≡ false
no-rule feature number [] none = refl
no-rule feature number (rule ∷ rules) none = λ i. none rule number i || no-rule feature (number + 1) rules none i

no-feature : (feature other : Feature) (holds : Bool) → same_feature feature other ≡ false → has_feature (feature_if holds other) feature ≡ false
no-feature feature other false none = refl
no-feature feature other true none = λ i. none i || false

-- rules, by what they are
rule-there : (number : ℕ) (rules : List Rule) (rule : Rule) (at : ℕ)
    → has_feature (rules_from number rules) (OfRule rule at) ≡ list_any (same_rule rule) rules
rule-there number [] rule at = refl
rule-there number (first ∷ rules) rule at = ap (λ b. same_rule rule first || b) (rule-there (number + 1) rules rule at)

flag-there : (flags : List (List ℕ)) (flag : List ℕ) → has_feature (map OfFlag flags) (OfFlag flag) ≡ list_any (bytes_eq flag) flags
flag-there [] flag = refl
flag-there (first ∷ flags) flag = ap (λ b. bytes_eq flag first || b) (flag-there flags flag)

pattern-there : (patterns : List (List ℕ)) (pattern : List ℕ)
    → has_feature (map OfAttachment patterns) (OfAttachment pattern) ≡ list_any (bytes_eq pattern) patterns
pattern-there [] pattern = refl
pattern-there (first ∷ patterns) pattern = ap (λ b. bytes_eq pattern first || b) (pattern-there patterns pattern)

-- what is among some is one of them
among : {X : Type 0} (same : X → X → Bool) → ((one other : X) → same one other ≡ true → one ≡ other)
    → (x : X) (xs : List X) → list_any (same x) xs ≡ true → Contains xs x
among same equal x [] there = absurd (cc)
among {X} same equal x (first ∷ xs) there = by (same x first) refl there (among same equal x xs)
  where
    by : (b : Bool) → same x first ≡ b → (b || list_any (same x) xs) ≡ true → (list_any (same x) xs ≡ true → Contains xs x) → Contains (first ∷ xs) x
    by true e there rest = (0, omega arith, sym (equal x first e))
    by false e there rest = let (k, within, is) = rest there in (suc k, omega (arith, within), is)

-- what is neither before nor behind something
tail-1 : (b : Bool) → (b || false) ≡ b
tail-1 true = refl
tail-1 false = refl

tail-2 : (b : Bool) → (b || false || false) ≡ b
tail-2 true = refl
tail-2 false = refl

tail-3 : (b : Bool) → (b || false || false || false) ≡ b
tail-3 true = refl
tail-3 false = refl

tail-4 : (b : Bool) → (b || false || false || false || false) ≡ b
tail-4 true = refl
tail-4 false = refl

tail-5 : (b : Bool) → (b || false || false || false || false || false) ≡ b
tail-5 true = refl
tail-5 false = refl

if-there : (feature : Feature) (holds : Bool) → same_feature feature feature ≡ true → has_feature (feature_if holds feature) feature ≡ holds
if-there feature true same = ap (λ b. b || false) same
if-there feature false same = refl

-- of a section, each kind of feature alone
has-mode : (section : Section) (mode : Option Mode) → has_feature (features_of section) (OfMode mode) ≡ same_state mode section.mode
has-mode section mode =
    in-parts section (OfMode mode)
    ∙ (λ i. same_state mode section.mode || no-feature (OfMode mode) OfHat section.hat refl i || no-feature (OfMode mode) OfAudit section.audit refl i
    || no-flag (OfMode mode) section.flags (λ flag. refl) i || no-attachment (OfMode mode) section.attachments (λ pattern. refl) i
    || no-rule (OfMode mode) 0 section.rules (λ rule at. refl) i)
    ∙ tail-5 (same_state mode section.mode)

has-hat : (section : Section) → has_feature (features_of section) OfHat ≡ section.hat
has-hat section =
    in-parts section OfHat
    ∙ (λ i. false || if-there OfHat section.hat refl i || no-feature OfHat OfAudit section.audit refl i
    || no-flag OfHat section.flags (λ flag. refl) i || no-attachment OfHat section.attachments (λ pattern. refl) i
    || no-rule OfHat 0 section.rules (λ rule at. refl) i)
    ∙ tail-4 section.hat

has-audit : (section : Section) → has_feature (features_of section) OfAudit ≡ section.audit
has-audit section =
    in-parts section OfAudit
    ∙ (λ i. false || no-feature OfAudit OfHat section.hat refl i || if-there OfAudit section.audit refl i
    || no-flag OfAudit section.flags (λ flag. refl) i || no-attachment OfAudit section.attachments (λ pattern. refl) i
    || no-rule OfAudit 0 section.rules (λ rule at. refl) i)
    ∙ tail-3 section.audit

has-flag : (section : Section) (flag : List ℕ) → has_feature (features_of section) (OfFlag flag) ≡ list_any (bytes_eq flag) section.flags
has-flag section flag =
    in-parts section (OfFlag flag)
    ∙ (λ i. false || no-feature (OfFlag flag) OfHat section.hat refl i || no-feature (OfFlag flag) OfAudit section.audit refl i
    || flag-there section.flags flag i || no-attachment (OfFlag flag) section.attachments (λ pattern. refl) i
    || no-rule (OfFlag flag) 0 section.rules (λ rule at. refl) i)
    ∙ tail-2 (list_any (bytes_eq flag) section.flags)

has-attachment : (section : Section) (pattern : List ℕ)
    → has_feature (features_of section) (OfAttachment pattern) ≡ list_any (bytes_eq pattern) section.attachments
has-attachment section pattern =
    in-parts section (OfAttachment pattern)
    ∙ (λ i. false || no-feature (OfAttachment pattern) OfHat section.hat refl i || no-feature (OfAttachment pattern) OfAudit section.audit refl i
    || no-flag (OfAttachment pattern) section.flags (λ flag. refl) i || pattern-there section.attachments pattern i
    || no-rule (OfAttachment pattern) 0 section.rules (λ rule at. refl) i)
    ∙ tail-1 (list_any (bytes_eq pattern) section.attachments)

has-rule : (section : Section) (rule : Rule) (at : ℕ)
    → has_feature (features_of section) (OfRule rule at) ≡ list_any (same_rule rule) section.rules
has-rule section rule at =
    in-parts section (OfRule rule at)
    ∙ (λ i. false || no-feature (OfRule rule at) OfHat section.hat refl i || no-feature (OfRule rule at) OfAudit section.audit refl i
    || no-flag (OfRule rule at) section.flags (λ flag. refl) i || no-attachment (OfRule rule at) section.attachments (λ pattern. refl) i
    || rule-there 0 section.rules rule at i)

-- each thing of some is had
all-flags : (others : List Feature) (flags : List (List ℕ)) → HaveAll others (map OfFlag flags) → (flag : List ℕ) → Contains flags flag
    → has_feature others (OfFlag flag) ≡ true
all-flags others [] all flag c = absurd (omega (arith, c.1))
all-flags others (first ∷ flags) all flag (zero, within, is) = subst (λ flag. has_feature others (OfFlag flag) ≡ true) is all.0
all-flags others (first ∷ flags) all flag (suc k, within, is) = all-flags others flags all.1 flag (k, omega (arith, within), is)

all-patterns : (others : List Feature) (patterns : List (List ℕ)) → HaveAll others (map OfAttachment patterns) → (pattern : List ℕ) → Contains patterns pattern
    → has_feature others (OfAttachment pattern) ≡ true
all-patterns others [] all pattern c = absurd (omega (arith, c.1))
all-patterns others (first ∷ patterns) all pattern (zero, within, is) = subst (λ pattern. has_feature others (OfAttachment pattern) ≡ true) is all.0
all-patterns others (first ∷ patterns) all pattern (suc k, within, is) = all-patterns others patterns all.1 pattern (k, omega (arith, within), is)

all-rules : (others : List Feature) (number : ℕ) (rules : List Rule) → HaveAll others (rules_from number rules) → (rule : Rule) → Contains rules rule
    → (at : ℕ) × (has_feature others (OfRule rule at) ≡ true)
all-rules others number [] all rule c = absurd (omega (arith, c.1))
all-rules others number (first ∷ rules) all rule (zero, within, is) = (number, subst (λ (rule : Rule). has_feature others (OfRule rule number) ≡ true) is all.0)
all-rules others number (first ∷ rules) all rule (suc k, within, is) = all-rules others (number + 1) rules all.1 rule (k, omega (arith, within), is)

bytes-among : (text : List ℕ) (texts : List (List ℕ)) → list_any (bytes_eq text) texts ≡ true → Contains texts text
bytes-among text texts there = among bytes_eq (λ one other. (bytes_eq-Decides one other).0) text texts there

-- What another section has, where it has all that one has: the same mode, and whatever else that has.
module _ (one other : Section) (all : HaveAll (features_of other) (features_of one)) where
  abbrev pub others : List Feature
  others = features_of other

  before-rules : HaveAll others (to-attachments one)
  before-rules = all-first others (to-attachments one) (rules_from 0 one.rules) all

  before-attachments : HaveAll others (to-flags one)
  before-attachments = all-first others (to-flags one) (map OfAttachment one.attachments) before-rules

  before-flags : HaveAll others (to-audit one)
  before-flags = all-first others (to-audit one) (map OfFlag one.flags) before-attachments

  before-audit : HaveAll others (to-hat one)
  before-audit = all-first others (to-hat one) (feature_if one.audit OfAudit) before-flags

  before-hat : HaveAll others (head-mode one)
  before-hat = all-first others (head-mode one) (feature_if one.hat OfHat) before-audit

  pub same-mode : one.mode ≡ other.mode
  same-mode = state-equal one.mode other.mode (sym (has-mode other one.mode) ∙ before-hat.0)

  pub hat-too : one.hat ≡ true → other.hat ≡ true
  hat-too is =
      let own = all-second others (head-mode one) (feature_if one.hat OfHat) before-audit in
      sym (has-hat other) ∙ (subst (λ holds. HaveAll others (feature_if holds OfHat)) is own).0

  pub audit-too : one.audit ≡ true → other.audit ≡ true
  audit-too is =
      let own = all-second others (to-hat one) (feature_if one.audit OfAudit) before-flags in
      sym (has-audit other) ∙ (subst (λ holds. HaveAll others (feature_if holds OfAudit)) is own).0

  pub flags-too : (flag : List ℕ) → Contains one.flags flag → Contains other.flags flag
  flags-too flag c =
      let own = all-second others (to-audit one) (map OfFlag one.flags) before-attachments in
      bytes-among flag other.flags (sym (has-flag other flag) ∙ all-flags others one.flags own flag c)

  pub attachments-too : (pattern : List ℕ) → Contains one.attachments pattern → Contains other.attachments pattern
  attachments-too pattern c =
      let own = all-second others (to-flags one) (map OfAttachment one.attachments) before-rules in
      bytes-among pattern other.attachments (sym (has-attachment other pattern) ∙ all-patterns others one.attachments own pattern c)

  pub rules-too : (rule : Rule) → Contains one.rules rule → Contains other.rules rule
  rules-too rule c =
      let own = all-second others (to-attachments one) (rules_from 0 one.rules) all in
      let (at, there) = all-rules others 0 one.rules own rule c in
      among same_rule rule-equal rule other.rules (sym (has-rule other rule at) ∙ there)

and-both : (a b : Bool) → (a && b) ≡ true → (a ≡ true) × (b ≡ true)
and-both true true both = (refl, refl)
and-both true false both = absurd (cc)
and-both false b both = absurd (cc)

-- each of two sections that are alike has all that the other has
both-ways-all : (one other : Section) → are_alike one other ≡ true
    → HaveAll (features_of other) (features_of one) × HaveAll (features_of one) (features_of other)
both-ways-all one other alike =
    let (there, back) = and-both (is_empty (lacking (features_of other) (features_of one))) (is_empty (lacking (features_of one) (features_of other))) alike in
    (none-lacking (features_of other) (features_of one) there, none-lacking (features_of one) (features_of other) back)

pub one-head : (one other : Section) → are_alike one other ≡ true → HaveSameHead one other
one-head one other alike =
    let (there, back) = both-ways-all one other alike in
    record {
      mode = same-mode one other there;
      hat = both_ways one.hat other.hat (hat-too one other there) (hat-too other one back);
      audit = both_ways one.audit other.audit (audit-too one other there) (audit-too other one back);
      flags = (flags-too one other there, flags-too other one back);
      attachments = (attachments-too one other there, attachments-too other one back);
    }

pub one-rules : (one other : Section) → are_alike one other ≡ true → HaveSameRules one.rules other.rules
one-rules one other alike =
    let (there, back) = both-ways-all one other alike in
    (rules-too one other there, rules-too other one back)
