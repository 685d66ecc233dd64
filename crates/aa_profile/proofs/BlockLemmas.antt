-- What the children, hats and profiles of a file have, where their rules and flags give it to them.
use Rattle.std.proofs.Common.{◌≡◌, ◌++◌, Bool, true, false, List, [], ◌∷◌, Ok, map, length, suc, subst}
use Rattle.std.specs.Prelude.{IfOk, if◌then◌else◌, codes}
use Rattle.std.specs.List.{All}
use Rattle.std.proofs.lemmas.List.Elements.{All-append, All-cons, All-head, All-nil, All-tail}
use Rattle.std.proofs.lemmas.Result.{IfOk-at_ok}
use Rattle.aa_text_tokens.specs.Splicing.{Placed}
use Rattle.aa_text_variables.specs.Variables.{Variable}
use Rattle.aa_profile_parsing.specs.Parts.{Part, followed, refused}
use Rattle.aa_profile_parsing.specs.Tokens.{is_close_brace, is_word_of}
use Rattle.aa_profile_parsing.specs.declared.fault.GrammarRefusal.TheVariants.{NestedChild}
use Rattle.aa_profile_parsing.specs.declared.language.Language.{Language}
use Rattle.aa_profile_parsing.specs.Flags.{flags}
use Rattle.aa_profile_parsing.specs.IdleFlags.{flag_tokens}
use Rattle.aa_profile_parsing.specs.declared.flags.Flags.{Flags}
use Rattle.aa_profile_rules.specs.Rules.{Rule as WrittenRule, rule}
use Rattle.aa_profile_grammar.specs.Blocks.{OfChild, OfRule, Child as WrittenChild, Member, Profile as WrittenProfile, child, child_block, child_rule, member, next_member, next_profile, next_rule, profile_block}
use Rattle.aa_profile_grammar.specs.Files.{File, file}
use Rattle.aa_profile_grammar.specs.Heads.{Head, Named, attachment, begins_child, head}
use Rattle.aa_profile_grammar.specs.Preamble.{behind_version}
use Rattle.aa_profile_grammar.specs.Sequences.{skipped}
use Rattle.aa_profile_grammar.specs.declared.sequence.Next.{Next}
use Rattle.aa_profile_grammar.specs.declared.sequence.Next.TheVariants.{Item, End}
use Rattle.aa_profile_data.specs.declared.profile.Child.{Child}
use Rattle.aa_profile_data.specs.declared.profile.Mode.{Mode}
use Rattle.aa_profile_data.specs.declared.profile.Profile.{Profile}
use Rattle.aa_profile_data.specs.declared.profile.Rule.{Rule}
use Rattle.aa_profile.specs.Profiles.{child_of, children_of, mode_of, profile_of, rules_of, rules_of_members, rules_of_rule}
use Rattle.aa_profile.proofs.GrammarLemmas.{first-told, followed-ok, no-skipped, profiles-keep, row-keeps}
use Rattle.aa_profile.proofs.NameLemmas.{child-parts, profile-parts}

-- children, members and profiles, as they are written, whose rules and flags have what is asked of them
abbrev ChildHas : (WrittenRule → Type 0) → (Flags → Type 0) → WrittenChild → Type 0
ChildHas P Q child = Q child.head.flags × All P child.rules

abbrev MemberHas : (WrittenRule → Type 0) → (Flags → Type 0) → Member → Type 0
MemberHas P Q (OfRule rule) = P rule
MemberHas P Q (OfChild child) = ChildHas P Q child

abbrev ProfileHas : (WrittenRule → Type 0) → (Flags → Type 0) → WrittenProfile → Type 0
ProfileHas P Q profile = Q profile.head.flags × All (MemberHas P Q) profile.members

-- children and profiles whose rules and modes have what is asked of them
abbrev pub MadeChildHas : (Rule → Type 0) → (Mode → Type 0) → Child → Type 0
MadeChildHas R M child = M child.mode × All R child.rules

abbrev pub MadeProfileHas : (Rule → Type 0) → (Mode → Type 0) → Profile → Type 0
MadeProfileHas R M profile = M profile.mode × All R profile.rules × All (MadeChildHas R M) profile.children

-- one more at the end
All-push : {X : Type 0} (P : X → Type 0) (xs : List X) (x : X) → All P xs → P x → All P (xs ++ x ∷ [])
All-push P xs x all h = All-append P xs (x ∷ []) all (All-cons P x [] h (All-nil P))

-- what is read, where rules and flags that are read have what is asked
module _ (language : Language) (P : WrittenRule → Type 0) (Q : Flags → Type 0) (rules : (tokens : List Placed) → IfOk (rule language tokens) (λ read. P read.0))
    (flagged : (tokens : List Placed) → IfOk (flags language tokens) (λ read. Q read.0.0)) where
  rule-has : (tokens rest : List Placed) (item : WrittenRule) → rule language tokens ≡ Ok (item, rest) → P item
  rule-has tokens rest item h = IfOk-at_ok (λ read. P read.0) h (rules tokens)

  head-has : (named : Named) (tokens rest : List Placed) (found : Head) → head language named tokens ≡ Ok (found, rest) → Q found.flags
  head-has named tokens rest found h =
      let read = followed-ok (flags language (attachment named tokens).1) (λ read behind. Ok (record { name = named.name; token = named.token; attachment = (attachment named tokens).0; flags = read.0; flag_tokens = flag_tokens (attachment named tokens).1; brace = read.1 }, behind)) (found, rest) h in
      let whole = first-told (record { name = named.name; token = named.token; attachment = (attachment named tokens).0; flags = read.0.0; flag_tokens = flag_tokens (attachment named tokens).1; brace = read.0.1 }, read.1) (found, rest) read.3 in
      subst (λ (head : Head). Q head.flags) whole (IfOk-at_ok (λ read. Q read.0.0) read.2 (flagged (attachment named tokens).1))

  next_rule-has : (tokens more : List Placed) (item : WrittenRule) → next_rule language tokens ≡ Ok (Item item, more) → P item
  next_rule-has [] more item h = absurd (cc)
  next_rule-has (token ∷ tokens) more item h = by (is_close_brace token.token.kind) (is_word_of (codes "abi") token) h
    where
      within : (begins : Bool) (rest : List Placed) (found : WrittenRule)
          → ◌≡◌ {A = Part WrittenRule} (if begins then refused NestedChild token else rule language (token ∷ tokens)) (Ok (found, rest)) → P found
      within true rest found h = absurd (cc)
      within false rest found h = rule-has (token ∷ tokens) rest found h

      by : (closes version : Bool)
          → ◌≡◌ {A = Part (Next WrittenRule)} (if closes then Ok (End, tokens) else if version then skipped (behind_version tokens) else followed (child_rule language (token ∷ tokens)) (λ rule behind. Ok (Item rule, behind))) (Ok (Item item, more))
          → P item
      by true version h = let wrong : End ≡ Item item = first-told (End, tokens) (Item item, more) h in absurd (cc)
      by false true h = no-skipped (behind_version tokens) more item h
      by false false h =
          let found = followed-ok (child_rule language (token ∷ tokens)) (λ rule behind. Ok (Item rule, behind)) (Item item, more) h in
          let told : Item found.0 ≡ Item item = first-told (Item found.0, found.1) (Item item, more) found.3 in
          let same : found.0 ≡ item = cc in
          subst P same (within (begins_child token) found.1 found.0 found.2)

  child_block-has : (tokens rest : List Placed) (rules : List WrittenRule) → child_block language tokens ≡ Ok (rules, rest) → All P rules
  child_block-has tokens rest rules h =
      row-keeps (λ read. next_rule language) (All P)
      (λ read tokens more item before found. All-push P read item before (next_rule-has tokens more item found))
      (suc (length tokens)) [] rules tokens rest (All-nil P) h

  member-has : (read : List Member) (tokens rest : List Placed) (item : Member) → member language read tokens ≡ Ok (item, rest) → MemberHas P Q item
  member-has read [] rest item h = absurd (cc)
  member-has read (token ∷ tokens) rest item h = by (begins_child token) h
    where
      by : (begins : Bool)
          → ◌≡◌ {A = Part Member} (if begins then followed (child language read token tokens) (λ child behind. Ok (OfChild child, behind)) else followed (rule language (token ∷ tokens)) (λ rule behind. Ok (OfRule rule, behind))) (Ok (item, rest))
          → MemberHas P Q item
      by true h =
          let found = followed-ok (child language read token tokens) (λ child behind. Ok (OfChild child, behind)) (item, rest) h in
          let parts = child-parts language read token tokens found.1 found.0 found.2 in
          subst (MemberHas P Q) (first-told (OfChild found.0, found.1) (item, rest) found.3)
          (head-has parts.5 parts.6 parts.2 found.0.head parts.7, child_block-has parts.2 parts.3 found.0.rules parts.4)
      by false h =
          let found = followed-ok (rule language (token ∷ tokens)) (λ rule behind. Ok (OfRule rule, behind)) (item, rest) h in
          subst (MemberHas P Q) (first-told (OfRule found.0, found.1) (item, rest) found.3) (rule-has (token ∷ tokens) found.1 found.0 found.2)

  next_member-has : (read : List Member) (tokens more : List Placed) (item : Member) → next_member language read tokens ≡ Ok (Item item, more) → MemberHas P Q item
  next_member-has read [] more item h = absurd (cc)
  next_member-has read (token ∷ tokens) more item h = by (is_close_brace token.token.kind) (is_word_of (codes "abi") token) h
    where
      by : (closes version : Bool)
          → ◌≡◌ {A = Part (Next Member)} (if closes then Ok (End, tokens) else if version then skipped (behind_version tokens) else followed (member language read (token ∷ tokens)) (λ member behind. Ok (Item member, behind))) (Ok (Item item, more))
          → MemberHas P Q item
      by true version h = let wrong : End ≡ Item item = first-told (End, tokens) (Item item, more) h in absurd (cc)
      by false true h = no-skipped (behind_version tokens) more item h
      by false false h =
          let found = followed-ok (member language read (token ∷ tokens)) (λ member behind. Ok (Item member, behind)) (Item item, more) h in
          let told : Item found.0 ≡ Item item = first-told (Item found.0, found.1) (Item item, more) found.3 in
          let same : found.0 ≡ item = cc in
          subst (MemberHas P Q) same (member-has read (token ∷ tokens) found.1 found.0 found.2)

  profile_block-has : (tokens rest : List Placed) (members : List Member) → profile_block language tokens ≡ Ok (members, rest) → All (MemberHas P Q) members
  profile_block-has tokens rest members h =
      row-keeps (next_member language) (All (MemberHas P Q))
      (λ read tokens more item before found. All-push (MemberHas P Q) read item before (next_member-has read tokens more item found))
      (suc (length tokens)) [] members tokens rest (All-nil (MemberHas P Q)) h

  next_profile-has : (read : List WrittenProfile) (tokens more : List Placed) (item : WrittenProfile) → next_profile language read tokens ≡ Ok (Item item, more) → ProfileHas P Q item
  next_profile-has read tokens more item h =
      let parts = profile-parts language read tokens more item h in
      (head-has parts.5 parts.6 parts.2 item.head parts.7, profile_block-has parts.2 parts.3 item.members parts.4)

  profiles-have : (tokens : List Placed) (read : File) → file language tokens ≡ Ok read → All (ProfileHas P Q) read.profiles
  profiles-have tokens read h =
      profiles-keep language (All (ProfileHas P Q)) (All-nil (ProfileHas P Q))
      (λ read tokens more item before found. All-push (ProfileHas P Q) read item before (next_profile-has read tokens more item found))
      tokens read h

  -- what is made of that, where rules and modes that are made of such ones have what is asked
  module _ (variables : List Variable) (R : Rule → Type 0) (M : Mode → Type 0) (made : (rule : WrittenRule) → P rule → All R (rules_of_rule language variables rule))
      (moded : (flags : Flags) → Q flags → M (mode_of flags)) where
    made-rules : (rules : List WrittenRule) → All P rules → All R (rules_of language variables rules)
    made-rules [] h = All-nil R
    made-rules (rule ∷ rules) h =
        All-append R (rules_of_rule language variables rule) (rules_of language variables rules) (made rule (All-head P rule rules h)) (made-rules rules (All-tail P rule rules h))

    made-members : (members : List Member) → All (MemberHas P Q) members → All R (rules_of_members language variables members)
    made-members [] h = All-nil R
    made-members (OfRule rule ∷ members) h =
        All-append R (rules_of_rule language variables rule) (rules_of_members language variables members) (made rule (All-head (MemberHas P Q) (OfRule rule) members h))
        (made-members members (All-tail (MemberHas P Q) (OfRule rule) members h))
    made-members (OfChild child ∷ members) h = made-members members (All-tail (MemberHas P Q) (OfChild child) members h)

    made-children : (members : List Member) → All (MemberHas P Q) members → All (MadeChildHas R M) (children_of language variables members)
    made-children [] h = All-nil (MadeChildHas R M)
    made-children (OfRule rule ∷ members) h = made-children members (All-tail (MemberHas P Q) (OfRule rule) members h)
    made-children (OfChild child ∷ members) h =
        let own = All-head (MemberHas P Q) (OfChild child) members h in
        All-cons (MadeChildHas R M) (child_of language variables child) (children_of language variables members) (moded child.head.flags own.0, made-rules child.rules own.1)
        (made-children members (All-tail (MemberHas P Q) (OfChild child) members h))

    made-profiles : (profiles : List WrittenProfile) → All (ProfileHas P Q) profiles → All (MadeProfileHas R M) (map (profile_of language variables) profiles)
    made-profiles [] h = All-nil (MadeProfileHas R M)
    made-profiles (profile ∷ profiles) h =
        let own = All-head (ProfileHas P Q) profile profiles h in
        All-cons (MadeProfileHas R M) (profile_of language variables profile) (map (profile_of language variables) profiles)
        (moded profile.head.flags own.0, made-members profile.members own.1, made-children profile.members own.1)
        (made-profiles profiles (All-tail (ProfileHas P Q) profile profiles h))

    -- so the profiles of a file have it, whatever its variables are
    pub file-has : (tokens : List Placed) (read : File) → file language tokens ≡ Ok read → All (MadeProfileHas R M) (map (profile_of language variables) read.profiles)
    file-has tokens read h = made-profiles read.profiles (profiles-have tokens read h)
