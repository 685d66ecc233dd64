-- Names of a file's profiles, children and hats: as the grammar says, and no two alike.
use Rattle.std.proofs.Common.{◌≡◌, ℕ, ◌++◌, Bool, true, false, List, [], ◌∷◌, Ok, map, length, suc, Some, None, refl, sym, ap, ◌∙◌, subst, Err}
use Rattle.std.specs.Prelude.{not, if◌then◌else◌, codes}
use Rattle.std.specs.List.{list_all, list_any}
use Rattle.std.specs.Str.{bytes_eq}
use Rattle.std.proofs.lemmas.Bool.{and_parts, not-true, or_parts}
use Rattle.std.proofs.lemmas.Grind.{flat_map-append}
use Rattle.std.proofs.lemmas.List.{append-nil, map-append}
use Rattle.std.proofs.lemmas.List.Folds.{list_all-append}
use Rattle.std.proofs.lemmas.Slice.Eq.{bytes_eq-Decides}
use Rattle.aa_text_tokens.specs.Splicing.{Placed}
use Rattle.aa_profile_data.specs.Names.{is_name, is_top_name}
use Rattle.aa_profile_parsing.specs.Parts.{Part, followed, refused}
use Rattle.aa_profile_parsing.specs.Tokens.{is_close_brace, is_word_of}
use Rattle.aa_profile_parsing.specs.declared.language.Language.{Language}
use Rattle.aa_profile_rules.specs.Rules.{rule}
use Rattle.aa_profile_grammar.specs.Blocks.{OfChild, OfRule, Child as WrittenChild, Member, Profile as WrittenProfile, child, child_behind, child_block, closed, is_child_of_name, is_hat, is_of_name, member, next_member, next_profile, profile, profile_behind, profile_block, refusal_of_name}
use Rattle.aa_profile_grammar.specs.Files.{File, file}
use Rattle.aa_profile_parsing.specs.Flags.{flags}
use Rattle.aa_profile_parsing.specs.IdleFlags.{flag_tokens}
use Rattle.aa_profile_grammar.specs.Heads.{Head, Named, attachment, begins_child, child_name, head, top_name}
use Rattle.aa_profile_grammar.specs.Preamble.{behind_version}
use Rattle.aa_profile_grammar.specs.Sequences.{skipped}
use Rattle.aa_profile_grammar.specs.declared.sequence.Next.{Next}
use Rattle.aa_profile_grammar.specs.declared.sequence.Next.TheVariants.{Item, End}
use Rattle.aa_profile_data.specs.Profile.{are_distinct, are_distinct_children, is_child_named, is_named}
use Rattle.aa_profile_data.specs.declared.profile.Child.{Child}
use Rattle.aa_profile_data.specs.declared.profile.Profile.{Profile}
use Rattle.aa_profile.specs.ProfileNames.{has_distinct_children, is_child_named_well, is_named_well}
use Rattle.aa_profile.specs.Profiles.{child_of, children_of, children_of_member, profile_of}
use Rattle.aa_text_variables.specs.Variables.{Variable}
use Rattle.aa_profile.proofs.GrammarLemmas.{any-push, first-told, followed-ok, no-skipped, profiles-keep, row-keeps}

-- names that differ, differ the other way round
names-differ : (xs ys : List ℕ) → bytes_eq xs ys ≡ false → bytes_eq ys xs ≡ false
names-differ xs ys h = by (bytes_eq ys xs) refl
  where
    by : (b : Bool) → bytes_eq ys xs ≡ b → bytes_eq ys xs ≡ false
    by true e =
        let same : ys ≡ xs = (bytes_eq-Decides ys xs).0 e in
        let there : bytes_eq xs ys ≡ true = (bytes_eq-Decides xs ys).1 (sym same) in
        absurd (cc)
    by false e = e

-- one more at the end that passes, behind others that do
pub all-push : {X : Type 0} (p : X → Bool) (xs : List X) (x : X) → list_all p xs ≡ true → p x ≡ true → list_all p (xs ++ x ∷ []) ≡ true
all-push p xs x all h = rw (list_all-append p xs (x ∷ []), all, h) refl

-- one more profile, whose name none has
distinct-push : (profiles : List Profile) (item : Profile) → are_distinct profiles ≡ true → list_any (is_named item.name) profiles ≡ false → are_distinct (profiles ++ item ∷ []) ≡ true
distinct-push [] item distinct fresh = refl
distinct-push (first ∷ profiles) item distinct fresh =
    let others = and_parts (not (list_any (is_named first.name) profiles)) (are_distinct profiles) distinct in
    let differ = or_parts (bytes_eq first.name item.name) (list_any (is_named item.name) profiles) fresh in
    let alone = any-push (is_named first.name) profiles item (not-true (list_any (is_named first.name) profiles) others.0) (names-differ first.name item.name differ.0) in
    rw (are_distinct, alone, distinct-push profiles item others.1 differ.1) refl

-- one more child or hat, whose name none has
children-push : (children : List Child) (item : Child) → are_distinct_children children ≡ true → list_any (is_child_named item.name) children ≡ false → are_distinct_children (children ++ item ∷ []) ≡ true
children-push [] item distinct fresh = refl
children-push (first ∷ children) item distinct fresh =
    let others = and_parts (not (list_any (is_child_named first.name) children)) (are_distinct_children children) distinct in
    let differ = or_parts (bytes_eq first.name item.name) (list_any (is_child_named item.name) children) fresh in
    let alone = any-push (is_child_named first.name) children item (not-true (list_any (is_child_named first.name) children) others.0) (names-differ first.name item.name differ.0) in
    rw (are_distinct_children, alone, children-push children item others.1 differ.1) refl

-- what follows a name that isn't refused: it is accepted, and none has it
not-refused : {A : Type 0} (fits taken : Bool) (token : Placed) (part : Part A) (read : A × List Placed)
    → ◌≡◌ {A = Part A} (elim (refusal_of_name fits taken) [ Some refusal ↦ refused refusal token | None ↦ part ]) (Ok read) → (fits ≡ true) × (taken ≡ false) × (part ≡ Ok read)
not-refused false taken token part read h = absurd (cc)
not-refused true true token part read h = absurd (cc)
not-refused true false token part read h = (refl, refl, h)

-- what the inside of a block read
closed-ok : {A : Type 0} (brace : Placed) (inside : Part A) (read : A × List Placed) → closed brace inside ≡ Ok read → inside ≡ Ok read
closed-ok brace (Err fault) read h = absurd (cc)
closed-ok brace (Ok told) read h = h

-- the name of a head is the one that stands before it
head-named : (language : Language) (named : Named) (tokens rest : List Placed) (found : Head) → head language named tokens ≡ Ok (found, rest) → found.name ≡ named.name
head-named language named tokens rest found h =
    let flagged = followed-ok (flags language (attachment named tokens).1) (λ read behind. Ok (record { name = named.name; token = named.token; attachment = (attachment named tokens).0; flags = read.0; flag_tokens = flag_tokens (attachment named tokens).1; brace = read.1 }, behind)) (found, rest) h in
    let whole = first-told (record { name = named.name; token = named.token; attachment = (attachment named tokens).0; flags = flagged.0.0; flag_tokens = flag_tokens (attachment named tokens).1; brace = flagged.0.1 }, flagged.1) (found, rest) flagged.3 in
    ap (λ head. head.name) (sym whole)

-- a child or a hat has the name that stands before its head, its head, and holds what its block does
child-behind : (language : Language) (named : Named) (tokens rest : List Placed) (found : WrittenChild) → child_behind language named tokens ≡ Ok (found, rest)
    → (found.head.name ≡ named.name) × (inside : List Placed) × (behind : List Placed) × (child_block language inside ≡ Ok (found.rules, behind))
    × (head language named tokens ≡ Ok (found.head, inside))
child-behind language named tokens rest found h =
    let headed = followed-ok (head language named tokens) (λ head behind. followed (closed head.brace (child_block language behind)) (λ rules rest. Ok (record { hat = is_hat named.form; head = head; rules = rules }, rest))) (found, rest) h in
    let inside = followed-ok (closed headed.0.brace (child_block language headed.1)) (λ rules rest. Ok (record { hat = is_hat named.form; head = headed.0; rules = rules }, rest)) (found, rest) headed.3 in
    let whole = first-told (record { hat = is_hat named.form; head = headed.0; rules = inside.0 }, inside.1) (found, rest) inside.3 in
    let read = closed-ok headed.0.brace (child_block language headed.1) (inside.0, inside.1) inside.2 in (
      ap (λ child. child.head.name) (sym whole) ∙ head-named language named tokens headed.1 headed.0 headed.2,
      headed.1,
      inside.1,
      subst (λ (child : WrittenChild). child_block language headed.1 ≡ Ok (child.rules, inside.1)) whole read,
      subst (λ (child : WrittenChild). head language named tokens ≡ Ok (child.head, headed.1)) whole headed.2,
    )

-- a child or a hat of a block has an accepted name that none before it has, its head, and holds what its own block does
pub child-parts : (language : Language) (read : List Member) (token : Placed) (tokens rest : List Placed) (found : WrittenChild) → child language read token tokens ≡ Ok (found, rest)
    → (is_name found.head.name ≡ true) × (list_any (is_child_of_name found.head.name) read ≡ false) × (inside : List Placed) × (behind : List Placed) × (child_block language inside ≡ Ok (found.rules, behind))
    × (named : Named) × (before : List Placed) × (head language named before ≡ Ok (found.head, inside))
child-parts language read token tokens rest found h =
    let named = followed-ok (child_name token tokens) (λ named behind. elim (refusal_of_name (is_name named.name) (list_any (is_child_of_name named.name) read)) [ Some refusal ↦ refused refusal named.token | None ↦ child_behind language named behind ]) (found, rest) h in
    let fine = not-refused (is_name named.0.name) (list_any (is_child_of_name named.0.name) read) named.0.token (child_behind language named.0 named.1) (found, rest) named.3 in
    let parts = child-behind language named.0 named.1 rest found fine.2 in
    (ap is_name parts.0 ∙ fine.0, ap (λ name. list_any (is_child_of_name name) read) parts.0 ∙ fine.1, parts.1, parts.2, parts.3, named.0, named.1, parts.4)

-- a profile has the name that stands before its head, its head, and holds what its block does
profile-behind : (language : Language) (named : Named) (tokens rest : List Placed) (found : WrittenProfile) → profile_behind language named tokens ≡ Ok (found, rest)
    → (found.head.name ≡ named.name) × (inside : List Placed) × (behind : List Placed) × (profile_block language inside ≡ Ok (found.members, behind))
    × (head language named tokens ≡ Ok (found.head, inside))
profile-behind language named tokens rest found h =
    let headed = followed-ok (head language named tokens) (λ head behind. followed (closed head.brace (profile_block language behind)) (λ members rest. Ok (record { head = head; members = members }, rest))) (found, rest) h in
    let inside = followed-ok (closed headed.0.brace (profile_block language headed.1)) (λ members rest. Ok (record { head = headed.0; members = members }, rest)) (found, rest) headed.3 in
    let whole = first-told (record { head = headed.0; members = inside.0 }, inside.1) (found, rest) inside.3 in
    let read = closed-ok headed.0.brace (profile_block language headed.1) (inside.0, inside.1) inside.2 in (
      ap (λ profile. profile.head.name) (sym whole) ∙ head-named language named tokens headed.1 headed.0 headed.2,
      headed.1,
      inside.1,
      subst (λ (profile : WrittenProfile). profile_block language headed.1 ≡ Ok (profile.members, inside.1)) whole read,
      subst (λ (profile : WrittenProfile). head language named tokens ≡ Ok (profile.head, headed.1)) whole headed.2,
    )

-- a profile of a file has an accepted name that none before it has, its head, and holds what its block does
abbrev ProfileParts : Language → List WrittenProfile → WrittenProfile → Type 0
ProfileParts language read found =
    (is_top_name found.head.name ≡ true) × (list_any (is_of_name found.head.name) read ≡ false) × (inside : List Placed) × (behind : List Placed) × (profile_block language inside ≡ Ok (found.members, behind))
    × (named : Named) × (before : List Placed) × (head language named before ≡ Ok (found.head, inside))

pub profile-parts : (language : Language) (read : List WrittenProfile) (tokens more : List Placed) (item : WrittenProfile) → next_profile language read tokens ≡ Ok (Item item, more) → ProfileParts language read item
profile-parts language read [] more item h = let wrong : End ≡ Item item = first-told (End, []) (Item item, more) h in absurd (cc)
profile-parts language read (token ∷ tokens) more item h =
    let whole = followed-ok (profile language read token tokens) (λ profile behind. Ok (Item profile, behind)) (Item item, more) h in
    let one : Item whole.0 ≡ Item item = first-told (Item whole.0, whole.1) (Item item, more) whole.3 in
    let same : whole.0 ≡ item = cc in
    let named = followed-ok (top_name token tokens) (λ named behind. elim (refusal_of_name (is_top_name named.name) (list_any (is_of_name named.name) read)) [ Some refusal ↦ refused refusal named.token | None ↦ profile_behind language named behind ]) (whole.0, whole.1) whole.2 in
    let fine = not-refused (is_top_name named.0.name) (list_any (is_of_name named.0.name) read) named.0.token (profile_behind language named.0 named.1) (whole.0, whole.1) named.3 in
    let parts = profile-behind language named.0 named.1 whole.1 whole.0 fine.2 in
    subst (ProfileParts language read) same (ap is_top_name parts.0 ∙ fine.0, ap (λ name. list_any (is_of_name name) read) parts.0 ∙ fine.1, parts.1, parts.2, parts.3, named.0, named.1, parts.4)

-- a member may stand behind others: it is a rule, or a child or a hat whose name is accepted, and none of them has it
abbrev FitsBehind : List Member → Member → Type 0
FitsBehind read (OfRule rule) = Unit {0}
FitsBehind read (OfChild child) = (is_name child.head.name ≡ true) × (list_any (is_child_of_name child.head.name) read ≡ false)

child-fits : (language : Language) (read : List Member) (token : Placed) (tokens rest : List Placed) (found : WrittenChild) → child language read token tokens ≡ Ok (found, rest) → FitsBehind read (OfChild found)
child-fits language read token tokens rest found h = let parts = child-parts language read token tokens rest found h in (parts.0, parts.1)

member-fits : (language : Language) (read : List Member) (tokens rest : List Placed) (item : Member) → member language read tokens ≡ Ok (item, rest) → FitsBehind read item
member-fits language read [] rest item h = absurd (cc)
member-fits language read (token ∷ tokens) rest item h = by (begins_child token) h
  where
    by : (begins : Bool)
        → ◌≡◌ {A = Part Member} (if begins then followed (child language read token tokens) (λ child behind. Ok (OfChild child, behind)) else followed (rule language (token ∷ tokens)) (λ rule behind. Ok (OfRule rule, behind))) (Ok (item, rest))
        → FitsBehind read item
    by true h =
        let found = followed-ok (child language read token tokens) (λ child behind. Ok (OfChild child, behind)) (item, rest) h in
        subst (FitsBehind read) (first-told (OfChild found.0, found.1) (item, rest) found.3) (child-fits language read token tokens found.1 found.0 found.2)
    by false h =
        let found = followed-ok (rule language (token ∷ tokens)) (λ rule behind. Ok (OfRule rule, behind)) (item, rest) h in
        subst (FitsBehind read) (first-told (OfRule found.0, found.1) (item, rest) found.3) tt

-- so does a member that comes next in a block
next-fits : (language : Language) (read : List Member) (tokens more : List Placed) (item : Member) → next_member language read tokens ≡ Ok (Item item, more) → FitsBehind read item
next-fits language read [] more item h = absurd (cc)
next-fits language read (token ∷ tokens) more item h = by (is_close_brace token.token.kind) (is_word_of (codes "abi") token) h
  where
    by : (closes version : Bool)
        → ◌≡◌ {A = Part (Next Member)} (if closes then Ok (End, tokens) else if version then skipped (behind_version tokens) else followed (member language read (token ∷ tokens)) (λ member behind. Ok (Item member, behind))) (Ok (Item item, more))
        → FitsBehind read item
    by true version h = let wrong : End ≡ Item item = first-told (End, tokens) (Item item, more) h in absurd (cc)
    by false true h = no-skipped (behind_version tokens) more item h
    by false false h =
        let found = followed-ok (member language read (token ∷ tokens)) (λ member behind. Ok (Item member, behind)) (Item item, more) h in
        let told : Item found.0 ≡ Item item = first-told (Item found.0, found.1) (Item item, more) found.3 in
        let same : found.0 ≡ item = cc in
        subst (FitsBehind read) same (member-fits language read (token ∷ tokens) found.1 found.0 found.2)

-- the children and hats of a block: each name is accepted, and no two are alike
record ChildrenFit (children : List Child) : Type 0 where
  named : list_all is_child_named_well children ≡ true
  distinct : are_distinct_children children ≡ true

-- a name that no child or hat has as it is written, none has
fresh-child : (language : Language) (variables : List Variable) (name : List ℕ) (read : List Member) → list_any (is_child_of_name name) read ≡ false → list_any (is_child_named name) (children_of language variables read) ≡ false
fresh-child language variables name [] fresh = refl
fresh-child language variables name (OfRule rule ∷ read) fresh = fresh-child language variables name read fresh
fresh-child language variables name (OfChild child ∷ read) fresh =
    let parts = or_parts (bytes_eq child.head.name name) (list_any (is_child_of_name name) read) fresh in
    rw (parts.0, fresh-child language variables name read parts.1) refl

-- one more member
member-push : (language : Language) (variables : List Variable) (read : List Member) (item : Member) → ChildrenFit (children_of language variables read) → FitsBehind read item → ChildrenFit (children_of language variables (read ++ item ∷ []))
member-push language variables read (OfRule rule) before fits =
    subst ChildrenFit (sym (flat_map-append (children_of_member language variables) read (OfRule rule ∷ []) ∙ append-nil (children_of language variables read))) before
member-push language variables read (OfChild child) before fits =
    let children = children_of language variables read in
    subst ChildrenFit (sym (flat_map-append (children_of_member language variables) read (OfChild child ∷ []))) (record {
      named = all-push is_child_named_well children (child_of language variables child) before.named fits.0;
      distinct = children-push children (child_of language variables child) before.distinct (fresh-child language variables child.head.name read fits.1);
    })

block-fits : (language : Language) (variables : List Variable) (tokens rest : List Placed) (members : List Member) → profile_block language tokens ≡ Ok (members, rest) → ChildrenFit (children_of language variables members)
block-fits language variables tokens rest members h =
    row-keeps (next_member language) (λ read. ChildrenFit (children_of language variables read))
    (λ read tokens more item before found. member-push language variables read item before (next-fits language read tokens more item found))
    (suc (length tokens)) [] members tokens rest (record { named = refl; distinct = refl }) h

-- a file's profiles: no two names are alike, each is accepted, and so are those of children and hats, of which no two are alike in one profile
pub record ProfilesFit (profiles : List Profile) : Type 0 where
  pub distinct : are_distinct profiles ≡ true
  pub named : list_all is_named_well profiles ≡ true
  pub children : list_all has_distinct_children profiles ≡ true

-- a name that no profile has as it is written, none has
fresh-profile : (language : Language) (variables : List Variable) (name : List ℕ) (read : List WrittenProfile) → list_any (is_of_name name) read ≡ false → list_any (is_named name) (map (profile_of language variables) read) ≡ false
fresh-profile language variables name [] fresh = refl
fresh-profile language variables name (profile ∷ read) fresh =
    let parts = or_parts (bytes_eq profile.head.name name) (list_any (is_of_name name) read) fresh in
    rw (parts.0, fresh-profile language variables name read parts.1) refl

-- one more profile
profile-push : (language : Language) (variables : List Variable) (read : List WrittenProfile) (tokens more : List Placed) (item : WrittenProfile)
    → ProfilesFit (map (profile_of language variables) read) → next_profile language read tokens ≡ Ok (Item item, more) → ProfilesFit (map (profile_of language variables) (read ++ item ∷ []))
profile-push language variables read tokens more item before h =
    let profiles = map (profile_of language variables) read in
    let last = profile_of language variables item in
    let parts = profile-parts language read tokens more item h in
    let children = block-fits language variables parts.2 parts.3 item.members parts.4 in
    let accepted : is_top_name last.name ≡ true = parts.0 in
    let alone : list_any (is_named last.name) profiles ≡ false = fresh-profile language variables item.head.name read parts.1 in
    subst ProfilesFit (sym (map-append (profile_of language variables) read (item ∷ []))) (record {
      distinct = distinct-push profiles last before.distinct alone;
      named = all-push is_named_well profiles last before.named (rw (accepted, children.named) refl);
      children = all-push has_distinct_children profiles last before.children children.distinct;
    })

-- the profiles of a file, whatever its variables are
pub profiles-fit : (language : Language) (variables : List Variable) (tokens : List Placed) (read : File) → file language tokens ≡ Ok read → ProfilesFit (map (profile_of language variables) read.profiles)
profiles-fit language variables tokens read h =
    profiles-keep language (λ read. ProfilesFit (map (profile_of language variables) read)) (record { distinct = refl; named = refl; children = refl })
    (λ read tokens more item before found. profile-push language variables read tokens more item before found)
    tokens read h
