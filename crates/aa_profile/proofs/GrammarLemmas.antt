-- What a file's grammar keeps true: of what is read in a row, and of its assignments, which have values.
use Rattle.std.proofs.Common.{◌≡◌, ℕ, zero, suc, ◌+◌, Bool, true, false, List, [], ◌∷◌, ◌++◌, take, drop, length, None, Result, Ok, Err, refl, sym, ap, ◌∙◌, subst, arith}
use Rattle.std.specs.Prelude.{◌==◌, if◌then◌else◌, codes}
use Rattle.std.specs.List.{list_any}
use Rattle.std.proofs.lemmas.Bool.{or_parts}
use Rattle.aa_bytes.specs.Texts.{is_empty}
use Rattle.aa_text_tokens.specs.Splicing.{Placed}
use Rattle.aa_profile_grammar.specs.Blocks.{Profile as WrittenProfile, next_profile, profile}
use Rattle.aa_profile_grammar.specs.Files.{File, file}
use Rattle.aa_profile_grammar.specs.Preamble.{Assignment, assignment, behind_version, is_value, next_assignment, preamble, value_count}
use Rattle.aa_profile_parsing.specs.GrammarError.{told}
use Rattle.aa_profile_parsing.specs.declared.language.Language.{Language}
use Rattle.aa_profile_parsing.specs.declared.grammar_error.GrammarError.{GrammarError}
use Rattle.aa_profile.specs.Assignments.{has_no_value}
use Rattle.aa_text_tokens.specs.declared.cut.TokenKind.{TokenKind}
use Rattle.aa_text_tokens.specs.declared.cut.TokenKind.TheVariants.{Include, Assign, Value, Quoted, Word, Comma, OpenBrace, CloseBrace}
use Rattle.aa_profile_grammar.specs.Sequences.{row, rows, skipped}
use Rattle.aa_profile_grammar.specs.declared.sequence.Next.{Next}
use Rattle.aa_profile_grammar.specs.declared.sequence.Next.TheVariants.{Item, Nothing, End}
use Rattle.aa_profile_parsing.specs.Parts.{Part, followed, unexpected}
use Rattle.aa_profile_parsing.specs.Tokens.{is_word_of}
use Rattle.aa_profile_parsing.specs.declared.fault.GrammarRefusal.TheVariants.{NoProfile}
use Rattle.aa_profile_parsing.specs.declared.fault.Fault.{Fault}

-- what was read is one, where it is told twice
pub first-told : {A : Type 0} (x y : A × List Placed) → ◌≡◌ {A = Part A} (Ok x) (Ok y) → x.0 ≡ y.0
first-told x y h = let same : x ≡ y = cc in ap (λ read. read.0) same

-- what each further part keeps true, all of a row keep true
pub row-keeps : {A : Type 0} (next : List A → List Placed → Part (Next A)) (P : List A → Type 0)
    → ((read : List A) (tokens more : List Placed) (item : A) → P read → next read tokens ≡ Ok (Item item, more) → P (read ++ item ∷ []))
    → (most : ℕ) (read all : List A) (tokens rest : List Placed) → P read → row next most read tokens ≡ Ok (all, rest) → P all
row-keeps next P step zero read all tokens rest p h = absurd (cc)
row-keeps {A = A} next P step (suc most) read all tokens rest p h = by (next read tokens) refl (λ more read q h. row-keeps next P step most read all more rest q h)
  where
    by : (found : Part (Next A)) → next read tokens ≡ found
        → ((more : List Placed) (read : List A) → P read → row next most read more ≡ Ok (all, rest) → P all) → P all
    by (Err fault) e more = let wrong : ◌≡◌ {A = Part (List A)} (Err fault) (Ok (all, rest)) = rw (row, e) at h in absurd (cc)
    by (Ok (Item item, behind)) e more = more behind (read ++ item ∷ []) (step read tokens behind item p e) (rw (row, e) at h)
    by (Ok (Nothing, behind)) e more = more behind read p (rw (row, e) at h)
    by (Ok (End, behind)) e more =
        let same : read ≡ all = first-told (read, behind) (all, rest) (rw (row, e) at h) in
        subst P same p

-- what a part and what follows it read
pub followed-ok : {A B : Type 0} (part : Part A) (next : A → List Placed → Result B Fault) (b : B) → followed part next ≡ Ok b
    → (a : A) × (behind : List Placed) × (part ≡ Ok (a, behind)) × (next a behind ≡ Ok b)
followed-ok (Err fault) next b h = absurd (cc)
followed-ok (Ok (a, behind)) next b h = (a, behind, refl, h)

-- no item comes of what isn't kept
pub no-skipped : {A X : Type 0} (behind : Result (List Placed) Fault) (more : List Placed) (item : A) → ◌≡◌ {A = Part (Next A)} (skipped behind) (Ok (Item item, more)) → X
no-skipped (Err fault) more item h = absurd (cc)
no-skipped (Ok rest) more item h = let wrong : Nothing ≡ Item item = first-told (Nothing, rest) (Item item, more) h in absurd (cc)

no-item : {X : Type 0} (is_version : Bool) (token : Placed) (tokens more : List Placed) (item : Assignment)
    → ◌≡◌ {A = Part (Next Assignment)} (if is_version then skipped (behind_version tokens) else Ok (End, token ∷ tokens)) (Ok (Item item, more)) → X
no-item true token tokens more item h = no-skipped (behind_version tokens) more item h
no-item false token tokens more item h = let wrong : End ≡ Item item = first-told (End, token ∷ tokens) (Item item, more) h in absurd (cc)

-- as many values as are counted are at least one, where the count isn't zero
some-values : (tokens : List Placed) → (value_count tokens == 0) ≡ false → is_empty (take (value_count tokens) tokens) ≡ false
some-values [] h = absurd (cc)
some-values (token ∷ tokens) h = by (is_value token.token.kind) refl
  where
    by : (passes : Bool) → is_value token.token.kind ≡ passes → is_empty (take (value_count (token ∷ tokens)) (token ∷ tokens)) ≡ false
    by true e =
        let one_more : suc (value_count tokens) ≡ 1 + value_count tokens = omega arith in
        let count : value_count (token ∷ tokens) ≡ 1 + value_count tokens = rw (value_count, e) refl in
        ap (λ n. is_empty (take n (token ∷ tokens))) (count ∙ sym one_more)
    by false e = let wrong : true ≡ false = rw (value_count, e) at h in absurd (cc)

assignment-valued : (sign : Placed) (append : Bool) (tokens behind : List Placed) (item : Assignment) → assignment sign append tokens ≡ Ok (item, behind) → has_no_value item ≡ false
assignment-valued sign append tokens behind item h = by (value_count tokens == 0) refl
  where
    by : (none : Bool) → (value_count tokens == 0) ≡ none → has_no_value item ≡ false
    by true e = let wrong : ◌≡◌ {A = Part Assignment} (Err (unexpected tokens)) (Ok (item, behind)) = rw (assignment, e) at h in absurd (cc)
    by false e =
        let values = take (value_count tokens) tokens in
        let same : record { sign = sign; append = append; values = values } ≡ item =
        first-told (record { sign = sign; append = append; values = values }, drop (value_count tokens) tokens) (item, behind) (rw (assignment, e) at h)
        in
        ap has_no_value (sym same) ∙ some-values tokens e

-- an assignment that comes next has a value
next-valued : (tokens more : List Placed) (item : Assignment) → next_assignment tokens ≡ Ok (Item item, more) → has_no_value item ≡ false
next-valued [] more item h = let wrong : End ≡ Item item = first-told (End, []) (Item item, more) h in absurd (cc)
next-valued (token ∷ tokens) more item h = by token.token.kind refl
  where
    by : (kind : TokenKind) → token.token.kind ≡ kind → has_no_value item ≡ false
    by (Assign append) e =
        let there : followed (assignment token append tokens) (λ assignment behind. Ok (Item assignment, behind)) ≡ Ok (Item item, more) = rw (next_assignment, e) at h in
        let read = followed-ok (assignment token append tokens) (λ assignment behind. Ok (Item assignment, behind)) (Item item, more) there in
        let told : Item read.0 ≡ Item item = first-told (Item read.0, read.1) (Item item, more) read.3 in
        let same : read.0 ≡ item = cc in
        ap has_no_value (sym same) ∙ assignment-valued token append tokens read.1 read.0 read.2
    by (Include if_exists) e = no-item (is_word_of (codes "abi") token) token tokens more item (rw (next_assignment, e) at h)
    by Value e = no-item (is_word_of (codes "abi") token) token tokens more item (rw (next_assignment, e) at h)
    by Quoted e = no-item (is_word_of (codes "abi") token) token tokens more item (rw (next_assignment, e) at h)
    by Word e = no-item (is_word_of (codes "abi") token) token tokens more item (rw (next_assignment, e) at h)
    by Comma e = no-item (is_word_of (codes "abi") token) token tokens more item (rw (next_assignment, e) at h)
    by OpenBrace e = no-item (is_word_of (codes "abi") token) token tokens more item (rw (next_assignment, e) at h)
    by CloseBrace e = no-item (is_word_of (codes "abi") token) token tokens more item (rw (next_assignment, e) at h)

-- one more at the end, of which the test fails as of the others
pub any-push : {X : Type 0} (p : X → Bool) (xs : List X) (x : X) → list_any p xs ≡ false → p x ≡ false → list_any p (xs ++ x ∷ []) ≡ false
any-push p [] x none h = rw h refl
any-push p (y ∷ xs) x none h = let parts = or_parts (p y) (list_any p xs) none in rw (parts.0, any-push p xs x parts.1 h) refl

-- the assignments of a file have values
pub assignments-valued : (language : Language) (tokens : List Placed) (read : File) → file language tokens ≡ Ok read → list_any has_no_value read.assignments ≡ false
assignments-valued language tokens read h = by (preamble tokens) refl
  where
    told_file : List Assignment → Part (List WrittenProfile) → Result File GrammarError
    told_file assignments profiles = elim profiles [
      | Err fault ↦ Err (told fault)
      | Ok read ↦ if is_empty read.0 then Err (record { refusal = NoProfile; place = None }) else Ok (record { assignments = assignments; profiles = read.0 })
    ]

    same : (assignments : List Assignment) (profiles : Part (List WrittenProfile)) → told_file assignments profiles ≡ Ok read → assignments ≡ read.assignments
    same assignments (Err fault) h = absurd (cc)
    same assignments (Ok ([], rest)) h = absurd (cc)
    same assignments (Ok (profile ∷ profiles, rest)) h =
        let e : record { assignments = assignments; profiles = profile ∷ profiles } ≡ read = cc in ap (λ file. file.assignments) e

    by : (opening : Part (List Assignment)) → preamble tokens ≡ opening → list_any has_no_value read.assignments ≡ false
    by (Err fault) e = let wrong : Err (told fault) ≡ Ok read = rw (file, e) at h in absurd (cc)
    by (Ok (assignments, rest)) e =
        let all = row-keeps (λ read. next_assignment) (λ read. list_any has_no_value read ≡ false)
        (λ read tokens more item none found. any-push has_no_value read item none (next-valued tokens more item found))
        (suc (length tokens)) [] assignments tokens rest refl e in
        ap (list_any has_no_value) (sym (same assignments (rows (next_profile language) rest) (rw (file, e) at h))) ∙ all

-- what each further profile keeps true, the profiles of a file keep true
pub profiles-keep : (language : Language) (P : List WrittenProfile → Type 0) → P []
    → ((read : List WrittenProfile) (tokens more : List Placed) (item : WrittenProfile) → P read → next_profile language read tokens ≡ Ok (Item item, more) → P (read ++ item ∷ []))
    → (tokens : List Placed) (read : File) → file language tokens ≡ Ok read → P read.profiles
profiles-keep language P none step tokens read h = by (preamble tokens) refl
  where
    told_file : List Assignment → Part (List WrittenProfile) → Result File GrammarError
    told_file assignments profiles = elim profiles [
      | Err fault ↦ Err (told fault)
      | Ok read ↦ if is_empty read.0 then Err (record { refusal = NoProfile; place = None }) else Ok (record { assignments = assignments; profiles = read.0 })
    ]

    kept : (tokens : List Placed) (assignments : List Assignment) (profiles : Part (List WrittenProfile)) → rows (next_profile language) tokens ≡ profiles → told_file assignments profiles ≡ Ok read → P read.profiles
    kept tokens assignments (Err fault) e h = absurd (cc)
    kept tokens assignments (Ok ([], rest)) e h = absurd (cc)
    kept tokens assignments (Ok (profile ∷ profiles, rest)) e h =
        let whole : record { assignments = assignments; profiles = profile ∷ profiles } ≡ read = cc in
        subst P (ap (λ file. file.profiles) whole) (row-keeps (next_profile language) P step (suc (length tokens)) [] (profile ∷ profiles) tokens rest none e)

    by : (opening : Part (List Assignment)) → preamble tokens ≡ opening → P read.profiles
    by (Err fault) e = let wrong : Err (told fault) ≡ Ok read = rw (file, e) at h in absurd (cc)
    by (Ok (assignments, rest)) e = kept rest assignments (rows (next_profile language) rest) refl (rw (file, e) at h)
