-- What is read of a file with a written rule.
use Rattle.std.proofs.Common.{◌≡◌, ℕ, suc, ◌<◌, ◌≤◌, ◌==◌, Bool, true, false, List, [], ◌∷◌, ◌++◌, length, None, Some, Ok, refl, sym, ap, ◌∙◌, arith, append_assoc, subst}
use Rattle.std.specs.Prelude.{codes, if◌then◌else◌}
use Rattle.std.specs.List.{list_all}
use Rattle.std.proofs.lemmas.Bool.{and_parts, or_parts}
use Rattle.std.proofs.lemmas.Bool.Decides.{nat_tests}
use Rattle.aa_bytes.specs.Bytes.{closing_brace, comma, is_blank, line_feed, quote, space}
use Rattle.aa_bytes.specs.Texts.{has_byte}
use Rattle.aa_glob.specs.Laws.{quoted}
use Rattle.aa_glob_syntax.specs.Reading.{HasNoFirstFault, longest}
use Rattle.aa_text_files.specs.Files.{File as HandedIn}
use Rattle.aa_text_tokens.specs.Cut.{ends_item, is_name_byte}
use Rattle.aa_profile.specs.FileReading.{file_profiles_in, profiles_in}
use Rattle.aa_profile_data.specs.declared.profile.FileRule.{FileRule}
use Rattle.aa_profile_data.specs.declared.profile.Profile.{Profile}
use Rattle.aa_profile_data.specs.declared.profile.Rank.TheVariants.{Loose, Plain}
use Rattle.aa_profile_data.specs.declared.profile.Rule.TheVariants.{File as OfFile}
use Rattle.aa_profile_data.specs.declared.exec_word.ExecWord.TheVariants.{Inherit}
use Rattle.aa_profile_grammar.specs.Files.{File, file}
use Rattle.aa_profile.specs.Profiles.{rules_of_rule}
use Rattle.aa_profile_parsing.specs.declared.language.Language.{Language}
use Rattle.aa_profile_rules.specs.Qualifiers.{unqualified}
use Rattle.aa_profile_rules.specs.Rules.{OnFile}
use Rattle.aa_profile_rules.specs.declared.qualifiers.Qualifiers.{Qualifiers}
use Rattle.aa_explain_written.specs.ReadBack.{HasFileOf, in_profile, profile_of_one}
use Rattle.aa_explain_written.specs.Written.{owner_text}
use Rattle.aa_explain_written.proofs.FileLemmas.{file-one}
use Rattle.aa_explain_written.proofs.MarkLemmas.{closed-marked, marked}
use Rattle.aa_explain_written.proofs.PatternLemmas.{fine-marked}
use Rattle.aa_explain_written.proofs.PlainLemmas.{rank-marked, rules-marked}
use Rattle.aa_explain_written.proofs.ProfileLemmas.{file-profiles, file_with, profiles-file}
use Rattle.aa_explain_written.proofs.RuleLemmas.{owners, read-file, read-owned}
use Rattle.aa_explain_written.proofs.Spelling.{Bare, Spans, Spells, a_closing, an_opening, in_quotes, placed, placed_at, word}
use Rattle.aa_explain_written.proofs.SplicingLemmas.{are_own, spliced-own}
use Rattle.aa_explain_written.proofs.TableLemmas.{access-read, access_for, access_word, is_unwritten}
use Rattle.aa_explain_written.proofs.TextLemmas.{access_part, access_tokens, ends-before, spells-end, spells-file, spells-owned, spells-profile}
use Rattle.aa_explain_written.proofs.TokenLemmas.{is_name}

-- a byte that neither of two texts has
pub has-append : (byte : ℕ) (xs ys : List ℕ) → has_byte byte xs ≡ false → has_byte byte ys ≡ false → has_byte byte (xs ++ ys) ≡ false
has-append byte [] ys first second = second
has-append byte (x ∷ xs) ys first second = let both = or_parts (x == byte) (has_byte byte xs) first in rw both.0 (has-append byte xs ys both.1 second)

blank-zero : (gap : List ℕ) → list_all is_blank gap ≡ true → has_byte 0 gap ≡ false
blank-zero [] blank = refl
blank-zero (b ∷ bs) blank =
    let both = and_parts (is_blank b) (list_all is_blank bs) blank in
    let some : (b == 0) ≡ false = byte-some b both.0 in
    rw some (blank-zero bs both.1)
  where
    byte-some : (b : ℕ) → is_blank b ≡ true → (b == 0) ≡ false
    byte-some b h = grind (arith, nat_tests)

bytes-zero : (name : List ℕ) → list_all is_name_byte name ≡ true → has_byte 0 name ≡ false
bytes-zero [] each = refl
bytes-zero (b ∷ bs) each =
    let both = and_parts (is_name_byte b) (list_all is_name_byte bs) each in
    let some : (b == 0) ≡ false = byte-some b both.0 in
    rw some (bytes-zero bs both.1)
  where
    byte-some : (b : ℕ) → is_name_byte b ≡ true → (b == 0) ≡ false
    byte-some b h = grind (arith, nat_tests)

-- no zero byte stands in a name
pub name-zero : (name : List ℕ) → is_name name ≡ true → has_byte 0 name ≡ false
name-zero [] h = refl
name-zero (b ∷ bs) h = bytes-zero (b ∷ bs) (and_parts (list_all is_name_byte (b ∷ bs)) _ h).0

-- the file of a profile, from its front on
in-profile : (before text after : List ℕ) → in_profile before text after ≡ codes "profile p {" ++ (before ++ (text ++ (after ++ (closing_brace ∷ []))))
in-profile before text after = simp append_assoc

profile-zero : (before text after : List ℕ) → list_all is_blank before ≡ true → list_all is_blank after ≡ true → has_byte 0 text ≡ false → has_byte 0 (in_profile before text after) ≡ false
profile-zero before text after blank_before blank_after whole =
    ap (has_byte 0) (in-profile before text after)
    ∙ has-append 0 (codes "profile p {") (before ++ (text ++ (after ++ (closing_brace ∷ [])))) refl
    (has-append 0 before (text ++ (after ++ (closing_brace ∷ []))) (blank-zero before blank_before)
    (has-append 0 text (after ++ (closing_brace ∷ [])) whole (has-append 0 after (closing_brace ∷ []) (blank-zero after blank_after) refl)))

-- the tokens of a profile with these in its block
abbrev pub profile_tokens : List Bare → List Bare
profile_tokens tokens = word (codes "profile") ∷ word (codes "p") ∷ an_opening ∷ tokens

-- these tokens spell some profiles, wherever they stand
abbrev pub SpellProfiles : Language → List Bare → List Profile → Type 0
SpellProfiles language tokens profiles =
    (at : ℕ) (spans : Spans) → (written : File) × (file language (placed_at at spans tokens) ≡ Ok written) × (profiles_in language written ≡ Ok profiles)

-- what is read of a file, from what its text is cut into and from what that spells
pub reads-one : (language : Language) (files : List HandedIn) (name text : List ℕ) (tokens : List Bare) (profiles : List Profile) → HasFileOf files name text → has_byte 0 text ≡ false
    → ((rest : List ℕ) → ends_item rest ≡ true → Spells rest (a_closing ∷ []) → Spells (text ++ rest) tokens)
    → are_own (profile_tokens tokens) ≡ true → SpellProfiles language (profile_tokens tokens) profiles
    → file_profiles_in language files name ≡ Ok profiles
reads-one language files name text tokens profiles has whole spells own reads =
    let end = has.after ++ (closing_brace ∷ []) in
    let block = spells end (ends-before has.after has.blank_after) (spells-end has.after has.blank_after) in
    let all : Spells (in_profile has.before text has.after) (profile_tokens tokens) =
    subst (λ t. Spells t (profile_tokens tokens)) (sym (in-profile has.before text has.after)) (spells-profile has.before (text ++ end) tokens has.blank_before block) in
    let (spans, spelled) = all 0 in
    let (at, found) = spliced-own files name (in_profile has.before text has.after) (profile_tokens tokens) has.bytes has.fits
    (profile-zero has.before text has.after has.blank_before has.blank_after whole) own spans spelled in
    let (written, read, made) = reads at spans in
    file-profiles language files name (placed_at at spans (profile_tokens tokens)) written profiles found read made

-- a rule on one path, as it is read
abbrev pub read_rule : Bool → List ℕ → ℕ → Bool → FileRule
read_rule owner path letters runs = record {
  pattern = marked 0 path;
  access = record { 0 = letters };
  exec = if runs then Some (record { word = Inherit; target = None }) else None;
  rank = if runs then Plain else Loose;
  link = None;
  owner = owner;
  deny = false;
  audit = false;
}

-- the words before a rule
abbrev pub qualifiers_of : Bool → Qualifiers
qualifiers_of owner = record { audit = false; allow = false; deny = false; owner = owner }

-- the one rule that its token makes
made-file : (language : Language) (owner : Bool) (at : ℕ) (span : ℕ × ℕ) (path : List ℕ) (letters : ℕ) (runs : Bool) → HasNoFirstFault (marked 0 path)
    → rules_of_rule language [] (OnFile (qualifiers_of owner) (placed at span (in_quotes (marked 0 path))) (access_for letters runs) None) ≡ OfFile (read_rule owner path letters runs) ∷ []
made-file language owner at span path letters true fine =
    rules-marked language (qualifiers_of owner) at span path (access_for letters true)
    ∙ ap (λ rank. OfFile (record (read_rule owner path letters true) { rank = rank }) ∷ []) (rank-marked language path fine)
made-file language owner at span path letters false fine = rules-marked language (qualifiers_of owner) at span path (access_for letters false)

-- the tokens of a rule on files, by whether it is the owner's
abbrev pub file_tokens : Bool → List ℕ → List ℕ → List Bare → List Bare
file_tokens true body access tokens = word (codes "owner") ∷ word (codes "file") ∷ access_tokens body access tokens
file_tokens false body access tokens = word (codes "file") ∷ access_tokens body access tokens

-- they spell its profile
file-spells : (language : Language) (owner : Bool) (path : List ℕ) (letters : ℕ) (runs : Bool) → HasNoFirstFault (marked 0 path) → letters < 64 → is_unwritten letters runs ≡ false
    → SpellProfiles language (profile_tokens (file_tokens owner (marked 0 path) (access_word letters runs) (a_closing ∷ []))) (profile_of_one (OfFile (read_rule owner path letters runs)) ∷ [])
file-spells language true path letters runs fine below written at spans =
    let body = marked 0 path in
    let access = access_word letters runs in
    let block : Spans = λ index. spans (suc (suc (suc index))) in
    let end = placed at (spans 8) a_closing in
    let read = read-owned language at block body access (access_for letters runs) (end ∷ []) (access-read letters runs below written).1 in
    let tokens = placed_at at (λ index. block (suc index)) (word (codes "file") ∷ access_tokens body access (a_closing ∷ [])) in
    let rule = OnFile owners (placed at (block 2) (in_quotes body)) (access_for letters runs) None in (
      file_with at spans rule,
      file-one language at spans (placed at (spans 3) (word (codes "owner"))) tokens rule end (record { no_end = refl; no_version = refl; no_child = refl }) refl read,
      profiles-file language at spans (qualifiers_of true) (spans 5) path (access_for letters runs) (read_rule true path letters runs) fine refl (made-file language true at (spans 5) path letters runs fine),
    )
file-spells language false path letters runs fine below written at spans =
    let body = marked 0 path in
    let access = access_word letters runs in
    let block : Spans = λ index. spans (suc (suc (suc index))) in
    let end = placed at (spans 7) a_closing in
    let read = read-file language at block body access (access_for letters runs) (end ∷ []) (access-read letters runs below written).1 in
    let tokens = placed_at at (λ index. block (suc index)) (access_tokens body access (a_closing ∷ [])) in
    let rule = OnFile unqualified (placed at (block 1) (in_quotes body)) (access_for letters runs) None in (
      file_with at spans rule,
      file-one language at spans (placed at (spans 3) (word (codes "file"))) tokens rule end (record { no_end = refl; no_version = refl; no_child = refl }) refl read,
      profiles-file language at spans (qualifiers_of false) (spans 4) path (access_for letters runs) (read_rule false path letters runs) fine refl (made-file language false at (spans 4) path letters runs fine),
    )

-- the text of a rule on files
abbrev pub text_of : Bool → List ℕ → List ℕ → List ℕ
text_of owner body access = owner_text owner ++ codes "file " ++ quote ∷ body ++ quote ∷ space ∷ access ++ comma ∷ []

-- the text before others, from its front on
text-front : (owner : Bool) (body access rest : List ℕ) → text_of owner body access ++ rest ≡ owner_text owner ++ (codes "file " ++ access_part body access rest)
text-front owner body access rest = simp append_assoc

-- what it is cut into
file-cut : (owner : Bool) (path : List ℕ) (access rest : List ℕ) → has_byte line_feed (marked 0 path) ≡ false → is_name access ≡ true → ends_item rest ≡ true → Spells rest (a_closing ∷ [])
    → Spells (text_of owner (marked 0 path) access ++ rest) (file_tokens owner (marked 0 path) access (a_closing ∷ []))
file-cut true path access rest line named ends more =
    subst (λ t. Spells t (file_tokens true (marked 0 path) access (a_closing ∷ []))) (sym (text-front true (marked 0 path) access rest))
    (spells-owned (marked 0 path) access rest (a_closing ∷ []) (closed-marked 0 path (space ∷ (access ++ (comma ∷ rest))) line) named ends more)
file-cut false path access rest line named ends more =
    subst (λ t. Spells t (file_tokens false (marked 0 path) access (a_closing ∷ []))) (sym (text-front false (marked 0 path) access rest))
    (spells-file (marked 0 path) access rest (a_closing ∷ []) (closed-marked 0 path (space ∷ (access ++ (comma ∷ rest))) line) named ends more)

file-own : (owner : Bool) (body access : List ℕ) → are_own (profile_tokens (file_tokens owner body access (a_closing ∷ []))) ≡ true
file-own true body access = refl
file-own false body access = refl

-- no zero byte stands in it
text-zero : (owner : Bool) (body access : List ℕ) → has_byte 0 body ≡ false → has_byte 0 access ≡ false → has_byte 0 (text_of owner body access) ≡ false
text-zero owner body access body_whole access_whole =
    has-append 0 (owner_text owner ++ codes "file " ++ quote ∷ body ++ quote ∷ space ∷ access) (comma ∷ []) (
    has-append 0 (owner_text owner ++ codes "file " ++ quote ∷ body) (quote ∷ space ∷ access) (
    has-append 0 (owner_text owner ++ codes "file ") (quote ∷ body) (has-append 0 (owner_text owner) (codes "file ") (owner-zero owner) refl) body_whole) access_whole) refl
  where
    owner-zero : (owner : Bool) → has_byte 0 (owner_text owner) ≡ false
    owner-zero true = refl
    owner-zero false = refl

-- what is read of a file with it
pub reads-file : (language : Language) (files : List HandedIn) (name : List ℕ) (owner : Bool) (path : List ℕ) (letters : ℕ) (runs : Bool) → HasNoFirstFault (quoted path)
    → letters < 64 → is_unwritten letters runs ≡ false → has_byte line_feed (marked 0 path) ≡ false → length (marked 0 path) ≤ longest
    → HasFileOf files name (text_of owner (marked 0 path) (access_word letters runs))
    → file_profiles_in language files name ≡ Ok (profile_of_one (OfFile (read_rule owner path letters runs)) ∷ [])
reads-file language files name owner path letters runs fine below written line fits has =
    let body_fine = fine-marked path fine fits in
    let named = (access-read letters runs below written).0 in
    reads-one language files name (text_of owner (marked 0 path) (access_word letters runs)) (file_tokens owner (marked 0 path) (access_word letters runs) (a_closing ∷ [])) _ has
    (text-zero owner (marked 0 path) (access_word letters runs) body_fine.1 (name-zero (access_word letters runs) named))
    (λ rest ends more. file-cut owner path (access_word letters runs) rest line named ends more)
    (file-own owner (marked 0 path) (access_word letters runs))
    (file-spells language owner path letters runs body_fine below written)
