-- What is read of a file with a rule as it is written.
use Rattle.std.proofs.Common.{◌≡◌, ℕ, suc, ◌+◌, ◌^◌, ◌<◌, ◌≤◌, ◌==◌, ◌&&◌, ◌||◌, Bool, true, false, not, List, [], ◌∷◌, ◌++◌, length, Option, None, Some, Ok, refl, sym, ap, ◌∙◌, arith, append_assoc, inl, inr, nat_le, nat_lt, subst}
use Rattle.std.specs.Prelude.{codes, if◌then◌else◌, is_none, is_some, option_and_then, slice_get}
use Rattle.std.specs.Option.{option_map}
use Rattle.std.proofs.lemmas.Bool.{and_parts, cases_Bool, eqb-true, leb-true, ltb-true, or_parts}
use Rattle.aa_bytes.specs.Bytes.{comma, line_feed, space}
use Rattle.aa_bytes.specs.Texts.{has_byte}
use Rattle.aa_glob.specs.Laws.{quoted}
use Rattle.aa_glob_syntax.specs.Exactness.{is_exact}
use Rattle.aa_glob_syntax.specs.Reading.{HasNoFirstFault, items_of, longest}
use Rattle.aa_text_files.specs.Files.{File as HandedIn}
use Rattle.aa_profile.specs.FileReading.{file_profiles_in}
use Rattle.aa_profile_data.specs.Access.{APPEND, WRITE, asked_letters, has, letters_of}
use Rattle.aa_profile_data.specs.ExecWords.{same_word}
use Rattle.aa_profile_data.specs.declared.exec_word.ExecWord.TheVariants.{Inherit}
use Rattle.aa_profile_data.specs.Ranks.{same_rank}
use Rattle.aa_profile_data.specs.declared.profile.CapRule.{CapRule}
use Rattle.aa_profile_data.specs.declared.profile.FileRule.{FileRule}
use Rattle.aa_profile_data.specs.declared.profile.NetRule.{NetRule}
use Rattle.aa_profile_data.specs.declared.profile.Rank.{Rank}
use Rattle.aa_profile_data.specs.declared.profile.Rank.TheVariants.{Last, Loose, Plain}
use Rattle.aa_profile_data.specs.declared.profile.Rule.{Rule}
use Rattle.aa_profile_data.specs.declared.profile.Rule.TheVariants.{Cap, File as OfFile, Net, Other}
use Rattle.aa_profile_data.specs.declared.profile.Transition.{Transition}
use Rattle.aa_profile_parsing.specs.declared.language.Language.{Language}
use Rattle.aa_profile_rules.specs.Qualifiers.{unqualified}
use Rattle.aa_profile_rules.specs.Rules.{OnCapabilities, OnNetwork}
use Rattle.aa_profile_rules.specs.declared.networks.Sockets.{Sockets}
use Rattle.aa_profile_data.specs.Capabilities.{names}
use Rattle.aa_profile_data.specs.Domains.{domain_name}
use Rattle.aa_profile_data.specs.Kinds.{is_protocol, kind_name}
use Rattle.aa_explain_written.specs.Quotes.{between_quotes, fits_quotes}
use Rattle.aa_explain_written.specs.ReadBack.{HasFileOf, IsOfOne, as_read, profile_of_one}
use Rattle.aa_explain_written.specs.Written.{access_text, file_text, has_access, has_no_more, is_file_written, is_inherited, name_of_one, rank_of_one, type_name, word_text, written_capability, written_file, written_network, written_rule}
use Rattle.aa_explain_written.proofs.FileLemmas.{file-one}
use Rattle.aa_explain_written.proofs.MarkLemmas.{marked, quoted-marked}
use Rattle.aa_explain_written.proofs.ProfileLemmas.{file_with, profiles-capability, profiles-network}
use Rattle.aa_explain_written.proofs.ReadBackLemmas.{SpellProfiles, has-append, name-zero, profile_tokens, read_rule, reads-file, reads-one, text_of}
use Rattle.aa_explain_written.proofs.RuleLemmas.{read-capability, read-network}
use Rattle.aa_explain_written.proofs.Spelling.{Spans, Spells, a_closing, a_comma, placed, placed_at, word}
use Rattle.aa_explain_written.proofs.TableLemmas.{access_word, capability-row, domain-row, is-inherit, is_unwritten, kind-row}
use Rattle.aa_explain_written.proofs.TextLemmas.{spells-capability, spells-network}
use Rattle.aa_explain_written.proofs.TokenLemmas.{not-true}

-- what a value comes from that is mapped
mapped : {A B : Type 0} (f : A → B) (o : Option A) (b : B) → option_map f o ≡ Some b → (a : A) × (o ≡ Some a) × (f a ≡ b)
mapped f None b h = absurd cc
mapped f (Some a) b h = (a, refl, cc)

-- and what one that follows another
followed : {A B : Type 0} (f : A → Option B) (o : Option A) (b : B) → option_and_then f o ≡ Some b → (a : A) × (o ≡ Some a) × (f a ≡ Some b)
followed f None b h = absurd cc
followed f (Some a) b h = (a, refl, h)

-- the one capability of a set has the name that is found
name-of-one : (set first : ℕ) (table : List (List ℕ)) (name : List ℕ) → name_of_one set first table ≡ Some name → (k : ℕ) × (set ≡ 2 ^ (first + k)) × (slice_get table k ≡ Some name)
name-of-one set first [] name h = absurd cc
name-of-one set first (own ∷ table) name h = elim (cases_Bool (set == 2 ^ first)) [
  | inl is ↦
      let same : Some own ≡ Some name = rw is at h in
      let none : first ≡ first + 0 = omega arith in
      (0, eqb-true set (2 ^ first) is ∙ ap (λ n. 2 ^ n) none, same)
  | inr other ↦
      let (k, power, there) = name-of-one set (first + 1) table name (rw other at h) in
      let further : first + 1 + k ≡ first + suc k = omega arith in
      (suc k, power ∙ ap (λ n. 2 ^ n) further, there)
]

-- a capability's rule
capability-spells : (language : Language) (number : ℕ) (name : List ℕ) → slice_get names number ≡ Some name
    → SpellProfiles language (profile_tokens (word (codes "capability") ∷ word name ∷ a_comma ∷ a_closing ∷ [])) (profile_of_one (Cap (record { caps = 2 ^ number; deny = false; audit = false })) ∷ [])
capability-spells language number name there at spans =
    let block : Spans = λ index. spans (suc (suc (suc index))) in
    let end = placed at (spans 6) a_closing in
    let rule = OnCapabilities unqualified (placed at (spans 3) (word (codes "capability"))) (2 ^ number) in (
      file_with at spans rule,
      file-one language at spans (placed at (spans 3) (word (codes "capability"))) (placed_at at (λ index. block (suc index)) (word name ∷ a_comma ∷ a_closing ∷ [])) rule end
          (record { no_end = refl; no_version = refl; no_child = refl }) refl (read-capability language at block name number (end ∷ []) (capability-row number name there).1),
      profiles-capability language at spans unqualified (placed at (spans 3) (word (codes "capability"))) (2 ^ number) (Cap (record { caps = 2 ^ number; deny = false; audit = false })) refl,
    )

reads-capability : (language : Language) (files : List HandedIn) (name : List ℕ) (number : ℕ) (own : List ℕ) → slice_get names number ≡ Some own
    → HasFileOf files name (codes "capability " ++ own ++ comma ∷ [])
    → file_profiles_in language files name ≡ Ok (profile_of_one (Cap (record { caps = 2 ^ number; deny = false; audit = false })) ∷ [])
reads-capability language files name number own there has =
    let named = (capability-row number own there).0 in
    reads-one language files name (codes "capability " ++ own ++ comma ∷ []) (word (codes "capability") ∷ word own ∷ a_comma ∷ a_closing ∷ []) _ has
    (has-append 0 (codes "capability " ++ own) (comma ∷ []) (has-append 0 (codes "capability ") own refl (name-zero own named)) refl)
    (λ rest ends more. subst (λ t. Spells t (word (codes "capability") ∷ word own ∷ a_comma ∷ a_closing ∷ [])) (sym (front own rest)) (spells-capability own rest (a_closing ∷ []) named ends more))
    refl (capability-spells language number own there)
  where
    front : (own rest : List ℕ) → (codes "capability " ++ own ++ comma ∷ []) ++ rest ≡ codes "capability " ++ (own ++ (comma ∷ rest))
    front own rest = simp append_assoc

-- a rule on sockets
network-spells : (language : Language) (domain kind : ℕ) (first second : List ℕ) → domain_name domain ≡ Some first → kind_name kind ≡ Some second → is_protocol kind ≡ false
    → SpellProfiles language (profile_tokens (word (codes "network") ∷ word first ∷ word second ∷ a_comma ∷ a_closing ∷ []))
    (profile_of_one (Net (record { domain = Some domain; kind = Some kind; deny = false; audit = false })) ∷ [])
network-spells language domain kind first second here there type at spans =
    let block : Spans = λ index. spans (suc (suc (suc index))) in
    let end = placed at (spans 7) a_closing in
    let both : Sockets = record { domain = Some domain; kind = Some kind } in
    let rule = OnNetwork unqualified (placed at (spans 3) (word (codes "network"))) both in (
      file_with at spans rule,
      file-one language at spans (placed at (spans 3) (word (codes "network"))) (placed_at at (λ index. block (suc index)) (word first ∷ word second ∷ a_comma ∷ a_closing ∷ [])) rule end
          (record { no_end = refl; no_version = refl; no_child = refl }) refl
          (read-network language at block first second domain kind (end ∷ []) (domain-row domain first here).1 (kind-row kind second there).1 type),
      profiles-network language at spans unqualified (placed at (spans 3) (word (codes "network"))) both (Net (record { domain = Some domain; kind = Some kind; deny = false; audit = false })) refl,
    )

reads-network : (language : Language) (files : List HandedIn) (name : List ℕ) (domain kind : ℕ) (first second : List ℕ) → domain_name domain ≡ Some first → kind_name kind ≡ Some second
    → is_protocol kind ≡ false → HasFileOf files name (codes "network " ++ first ++ space ∷ second ++ comma ∷ [])
    → file_profiles_in language files name ≡ Ok (profile_of_one (Net (record { domain = Some domain; kind = Some kind; deny = false; audit = false })) ∷ [])
reads-network language files name domain kind first second here there type has =
    let one = (domain-row domain first here).0 in
    let two = (kind-row kind second there).0 in
    reads-one language files name (codes "network " ++ first ++ space ∷ second ++ comma ∷ []) (word (codes "network") ∷ word first ∷ word second ∷ a_comma ∷ a_closing ∷ []) _ has
    (has-append 0 (codes "network " ++ first ++ space ∷ second) (comma ∷ [])
    (has-append 0 (codes "network " ++ first) (space ∷ second) (has-append 0 (codes "network ") first refl (name-zero first one)) (name-zero second two)) refl)
    (λ rest ends more. subst (λ t. Spells t (word (codes "network") ∷ word first ∷ word second ∷ a_comma ∷ a_closing ∷ [])) (sym (front first second rest))
    (spells-network first second rest (a_closing ∷ []) one two ends more))
    refl (network-spells language domain kind first second here there type)
  where
    front : (first second rest : List ℕ) → (codes "network " ++ first ++ space ∷ second ++ comma ∷ []) ++ rest ≡ codes "network " ++ (first ++ (space ∷ (second ++ (comma ∷ rest))))
    front first second rest = simp append_assoc

-- neither holds
neither : (a b : Bool) → not (a || b) ≡ true → (a ≡ false) × (b ≡ false)
neither a b h = or_parts a b (not-true (a || b) h)

is-none : {A : Type 0} (o : Option A) → is_none o ≡ true → o ≡ None
is-none None h = refl
is-none (Some a) h = absurd cc

-- what a rule on capabilities is that is written
pub capability-back : (language : Language) (files : List HandedIn) (name : List ℕ) (rule : CapRule) (text : List ℕ) → written_capability rule ≡ Some text → HasFileOf files name text
    → file_profiles_in language files name ≡ Ok (profile_of_one (Cap rule) ∷ [])
capability-back language files name rule text h has = elim (cases_Bool (rule.deny || rule.audit)) [
  | inl more ↦ let none : ◌≡◌ {A = Option (List ℕ)} None (Some text) = rw more at h in absurd cc
  | inr no_more ↦
      let own_text : option_map (λ name. codes "capability " ++ name ++ comma ∷ []) (name_of_one rule.caps 0 names) ≡ Some text = rw no_more at h in
      let (own, found, is) = mapped (λ name. codes "capability " ++ name ++ comma ∷ []) (name_of_one rule.caps 0 names) text own_text in
      let (k, power, there) = name-of-one rule.caps 0 names own found in
      let flags = or_parts rule.deny rule.audit no_more in
      let zero_less : 0 + k ≡ k = omega arith in
      let same : Cap (record { caps = 2 ^ k; deny = false; audit = false }) ≡ Cap rule =
      ap (λ n. Cap (record { caps = 2 ^ n; deny = false; audit = false })) (sym zero_less) ∙ ap (λ n. Cap (record { caps = n; deny = false; audit = false })) (sym power)
      ∙ ap (λ d. Cap (record { caps = rule.caps; deny = d; audit = false })) (sym flags.0) ∙ ap (λ a. Cap (record { caps = rule.caps; deny = rule.deny; audit = a })) (sym flags.1) in
      reads-capability language files name k own there (subst (λ t. HasFileOf files name t) (sym is) has) ∙ ap (λ r. Ok (profile_of_one r ∷ [])) same
]

-- the name of a type
type-name : (kind : ℕ) (name : List ℕ) → type_name kind ≡ Some name → (is_protocol kind ≡ false) × (kind_name kind ≡ Some name)
type-name kind name h = elim (cases_Bool (is_protocol kind)) [
  | inl protocol ↦ let none : ◌≡◌ {A = Option (List ℕ)} None (Some name) = rw protocol at h in absurd cc
  | inr type ↦ (type, rw type at h)
]

-- what a rule on sockets is that is written
pub network-back : (language : Language) (files : List HandedIn) (name : List ℕ) (rule : NetRule) (text : List ℕ) → written_network rule ≡ Some text → HasFileOf files name text
    → file_profiles_in language files name ≡ Ok (profile_of_one (Net rule) ∷ [])
network-back language files name rule text h has = elim (cases_Bool (rule.deny || rule.audit)) [
  | inl more ↦ let none : ◌≡◌ {A = Option (List ℕ)} None (Some text) = rw more at h in absurd cc
  | inr no_more ↦
      let in_domain = λ (first : List ℕ). option_map (λ second. codes "network " ++ first ++ space ∷ second ++ comma ∷ []) (option_and_then type_name rule.kind) in
      let own_text : option_and_then in_domain (option_and_then domain_name rule.domain) ≡ Some text = rw no_more at h in
      let (first, found, behind) = followed in_domain (option_and_then domain_name rule.domain) text own_text in
      let (domain, is_domain, here) = followed domain_name rule.domain first found in
      let (second, found_kind, is) = mapped (λ second. codes "network " ++ first ++ space ∷ second ++ comma ∷ []) (option_and_then type_name rule.kind) text behind in
      let (kind, is_kind, typed) = followed type_name rule.kind second found_kind in
      let type = type-name kind second typed in
      let flags = or_parts rule.deny rule.audit no_more in
      let same : Net (record { domain = Some domain; kind = Some kind; deny = false; audit = false }) ≡ Net rule =
      ap (λ d. Net (record { domain = d; kind = Some kind; deny = false; audit = false })) (sym is_domain) ∙ ap (λ k. Net (record { domain = rule.domain; kind = k; deny = false; audit = false })) (sym is_kind)
      ∙ ap (λ d. Net (record { domain = rule.domain; kind = rule.kind; deny = d; audit = false })) (sym flags.0)
      ∙ ap (λ a. Net (record { domain = rule.domain; kind = rule.kind; deny = rule.deny; audit = a })) (sym flags.1) in
      reads-network language files name domain kind first second here type.1 type.0 (subst (λ t. HasFileOf files name t) (sym is) has) ∙ ap (λ r. Ok (profile_of_one r ∷ [])) same
]

-- the exec word of a rule by which a program runs under who starts it
abbrev pub inherited : Bool → Option Transition
inherited runs = if runs then Some (record { word = Inherit; target = None }) else None

exec-of : (exec : Option Transition) → is_inherited exec ≡ true → exec ≡ inherited (is_some exec)
exec-of None h = refl
exec-of (Some transition) h =
    let both = and_parts (same_word transition.word Inherit) (is_none transition.target) h in
    ap (λ w. Some (record { word = w; target = transition.target })) (is-inherit transition.word both.0)
    ∙ ap (λ t. Some (record { word = Inherit; target = t })) (is-none transition.target both.1)

same-rank : (one other : Rank) → same_rank one other ≡ true → one ≡ other
same-rank Last Last h = refl
same-rank Last Loose h = absurd cc
same-rank Last Plain h = absurd cc
same-rank Loose Last h = absurd cc
same-rank Loose Loose h = refl
same-rank Loose Plain h = absurd cc
same-rank Plain Last h = absurd cc
same-rank Plain Loose h = absurd cc
same-rank Plain Plain h = refl

-- the word of an access
word-of : (exec : Option Transition) → exec ≡ inherited (is_some exec) → word_text exec ≡ (if is_some exec then codes "ix" else [])
word-of None h = refl
word-of (Some transition) h = ap word_text h

none-not : {A : Type 0} (o : Option A) → is_none o ≡ not (is_some o)
none-not None = refl
none-not (Some a) = refl

or-false : (a b : Bool) → a ≡ false → b ≡ false → (a || b) ≡ false
or-false a b first second = rw (first, second) refl

-- what is known of a rule on files that is written
pub record IsWritten (rule : FileRule) : Type 0 where
  pub deny : rule.deny ≡ false
  pub audit : rule.audit ≡ false
  pub link : rule.link ≡ None
  pub exec : rule.exec ≡ inherited (is_some rule.exec)
  pub below : rule.access.0 < 64
  pub written : is_unwritten rule.access.0 (is_some rule.exec) ≡ false
  pub rank : rule.rank ≡ rank_of_one rule
  pub line : has_byte line_feed (between_quotes rule.pattern) ≡ false
  pub fits : length (between_quotes rule.pattern) ≤ longest

pub is-written : (rule : FileRule) → is_file_written rule ≡ true → IsWritten rule
is-written rule h =
    let four = and_parts (has_no_more rule && has_access rule && same_rank rule.rank (rank_of_one rule) && is_exact (items_of rule.pattern)) (fits_quotes (between_quotes rule.pattern)) h in
    let three = and_parts (has_no_more rule && has_access rule && same_rank rule.rank (rank_of_one rule)) (is_exact (items_of rule.pattern)) four.0 in
    let two = and_parts (has_no_more rule && has_access rule) (same_rank rule.rank (rank_of_one rule)) three.0 in
    let one = and_parts (has_no_more rule) (has_access rule) two.0 in
    let more = and_parts (not (rule.deny || rule.audit) && is_none rule.link) (is_inherited rule.exec) one.0 in
    let plain = and_parts (not (rule.deny || rule.audit)) (is_none rule.link) more.0 in
    let flags = neither rule.deny rule.audit plain.0 in
    let both_letters = has rule.access.0 WRITE && has rule.access.0 APPEND in
    let access = and_parts (nat_lt rule.access.0 asked_letters && not both_letters) (not (rule.access.0 == 0 && is_none rule.exec)) one.1 in
    let letters = and_parts (nat_lt rule.access.0 asked_letters) (not both_letters) access.0 in
    let quotes = and_parts (not (has_byte line_feed (between_quotes rule.pattern))) (nat_le (length (between_quotes rule.pattern)) longest) four.1 in
    let nothing : (rule.access.0 == 0 && not (is_some rule.exec)) ≡ false =
    ap (λ t. rule.access.0 == 0 && t) (sym (none-not rule.exec)) ∙ not-true (rule.access.0 == 0 && is_none rule.exec) access.1 in
    record {
      deny = flags.0;
      audit = flags.1;
      link = is-none rule.link plain.1;
      exec = exec-of rule.exec more.1;
      below = ltb-true rule.access.0 asked_letters letters.0;
      written = or-false both_letters (rule.access.0 == 0 && not (is_some rule.exec)) (not-true both_letters letters.1) nothing;
      rank = same-rank rule.rank (rank_of_one rule) two.1;
      line = not-true (has_byte line_feed (between_quotes rule.pattern)) quotes.0;
      fits = leb-true (length (between_quotes rule.pattern)) longest quotes.1;
    }

-- such a rule as it is read
as-read : (rule : FileRule) (path : List ℕ) → IsWritten rule → between_quotes rule.pattern ≡ marked 0 path → as_read (OfFile rule) ≡ OfFile (read_rule rule.owner path rule.access.0 (is_some rule.exec))
as-read rule path is body =
    let made = λ (p : List ℕ) (e : Option Transition) (r : Rank) (l : Option (List ℕ)) (d a : Bool).
    OfFile (record { pattern = p; access = rule.access; exec = e; rank = r; link = l; owner = rule.owner; deny = d; audit = a }) in
    let runs = is_some rule.exec in
    ap (λ p. made p rule.exec rule.rank rule.link rule.deny rule.audit) body
    ∙ ap (λ e. made (marked 0 path) e rule.rank rule.link rule.deny rule.audit) is.exec
    ∙ ap (λ r. made (marked 0 path) (inherited runs) r rule.link rule.deny rule.audit) is.rank
    ∙ ap (λ l. made (marked 0 path) (inherited runs) (rank_of_one rule) l rule.deny rule.audit) is.link
    ∙ ap (λ d. made (marked 0 path) (inherited runs) (rank_of_one rule) None d rule.audit) is.deny
    ∙ ap (λ a. made (marked 0 path) (inherited runs) (rank_of_one rule) None false a) is.audit

-- what a rule on one path is that is written
pub file-back : (language : Language) (files : List HandedIn) (name path : List ℕ) (rule : FileRule) (text : List ℕ) → rule.pattern ≡ quoted path → HasNoFirstFault (quoted path)
    → written_file rule ≡ Some text → HasFileOf files name text
    → file_profiles_in language files name ≡ Ok (profile_of_one (as_read (OfFile rule)) ∷ [])
file-back language files name path rule text of_path fine h has = elim (cases_Bool (is_file_written rule)) [
  | inr unwritten ↦ let none : ◌≡◌ {A = Option (List ℕ)} None (Some text) = rw unwritten at h in absurd cc
  | inl can ↦
      let is = is-written rule can in
      let body : between_quotes rule.pattern ≡ marked 0 path = ap between_quotes of_path ∙ quoted-marked 0 path in
      let access : access_text rule ≡ access_word rule.access.0 (is_some rule.exec) = ap (λ w. letters_of rule.access.0 ++ w) (word-of rule.exec is.exec) in
      let own_text : Some (file_text rule) ≡ Some text = rw can at h in
      let front : file_text rule ≡ text_of rule.owner (marked 0 path) (access_word rule.access.0 (is_some rule.exec)) =
      ap (λ b. text_of rule.owner b (access_text rule)) body ∙ ap (text_of rule.owner (marked 0 path)) access in
      let is_text : text ≡ text_of rule.owner (marked 0 path) (access_word rule.access.0 (is_some rule.exec)) = some-same own_text ∙ front in
      reads-file language files name rule.owner path rule.access.0 (is_some rule.exec) fine is.below is.written
      (ap (has_byte line_feed) (sym body) ∙ is.line) (subst (λ b. length b ≤ longest) body is.fits) (subst (λ t. HasFileOf files name t) is_text has)
      ∙ ap (λ r. Ok (profile_of_one r ∷ [])) (sym (as-read rule path is body))
]
  where
    some-same : {a b : List ℕ} → Some a ≡ Some b → b ≡ a
    some-same h = cc

-- what a rule is that is written
pub rule-back : (language : Language) (files : List HandedIn) (name : List ℕ) (rule : Rule) (text : List ℕ) → IsOfOne rule → written_rule rule ≡ Some text → HasFileOf files name text
    → file_profiles_in language files name ≡ Ok (profile_of_one (as_read rule) ∷ [])
rule-back language files name (OfFile rule) text (path, of_path) h has = file-back language files name path rule text of_path.0 of_path.1 h has
rule-back language files name (Cap rule) text one h has = capability-back language files name rule text h has
rule-back language files name (Net rule) text one h has = network-back language files name rule text h has
rule-back language files name (Other rule) text one h has = absurd cc
