-- The patterns of a file's rules read, where none of its tokens is refused.
use Rattle.std.proofs.Common.{◌≡◌, ℕ, Bool, true, false, List, [], ◌∷◌, ◌++◌, length, map, Option, None, Some, Result, Ok, Err, refl, sym, ap, ◌∙◌}
use Rattle.std.specs.Prelude.{nat_le}
use Rattle.std.specs.List.{All}
use Rattle.std.proofs.lemmas.List.Elements.{All-append, All-cons, All-nil}
use Rattle.aa_glob_syntax.specs.Items.{Pattern}
use Rattle.aa_glob_syntax.specs.Reading.{items_of, items_read, longest, reading}
use Rattle.aa_glob_syntax.specs.declared.pattern_error.PatternError.{PatternError}
use Rattle.aa_profile_data.specs.ConflictLaws.{HasReadPattern}
use Rattle.aa_profile_data.specs.declared.profile.Child.{Child}
use Rattle.aa_profile_data.specs.declared.profile.Rule.{Rule}
use Rattle.aa_profile_grammar.specs.Blocks.{OfChild, OfRule, Member, Profile as WrittenProfile}
use Rattle.aa_profile_parsing.specs.declared.language.Language.{Language}
use Rattle.aa_profile_parsing.specs.Tokens.{place_of, text_of}
use Rattle.aa_profile_rules.specs.Rules.{All as LetsAll, Kept, OnCapabilities, OnFile, OnNetwork, Rule as WrittenRule}
use Rattle.aa_text_tokens.specs.Splicing.{Placed}
use Rattle.aa_text_variables.specs.Expansions.{expansions}
use Rattle.aa_text_variables.specs.Variables.{Variable}
use Rattle.aa_profile_grammar.specs.PatternTokens.{of_child, of_head, of_members, of_profile, of_profiles, of_rule, of_rules}
use Rattle.aa_glob_syntax.specs.Slashes.{collapsed}
use Rattle.aa_profile_grammar.specs.Patterns.{first_bad, patterns_at, refusal_of_expansion, refusal_of_expansions, refusal_of_token}
use Rattle.aa_profile_rules.specs.Capabilities.{all_capabilities}
use Rattle.aa_profile_rules.specs.Networks.{all_sockets}
use Rattle.aa_profile.specs.Profiles.{cap_rule, children_of, exec_of_all, file_rule, kept_of_all, letters_of_all, net_rule, rules_of, rules_of_members, rules_of_rule, token_rank}
use Rattle.aa_profile_parsing.specs.ProfileError.{placed, refusal_of_pattern}
use Rattle.aa_profile_parsing.specs.declared.profile_error.ProfileError.{ProfileError}
use Rattle.aa_profile_parsing.specs.declared.profile_error.ProfileRefusal.{ProfileRefusal}
use Rattle.aa_glob_syntax.specs.declared.pattern_error.PatternError.TheVariants.{TooLong}
use Rattle.aa_profile_parsing.specs.declared.profile_error.ProfileRefusal.TheVariants.{Pattern as OfPattern}
use Rattle.aa_profile.proofs.ProfileLemmas.{first_bad_behind, first_bad_front}

-- an expansion that isn't refused reads as a pattern
expansion-read : (text : List ℕ) → refusal_of_expansion text ≡ None → reading (collapsed text) ≡ Ok (items_of (collapsed text))
expansion-read text fine = by (nat_le (length text) longest) refl
  where
    within : (read : Result Pattern PatternError) → reading (collapsed text) ≡ read → nat_le (length text) longest ≡ true → reading (collapsed text) ≡ Ok (items_of (collapsed text))
    within (Ok items) e short = e ∙ ap Ok (sym (ap items_read e))
    within (Err error) e short = let wrong : Some (refusal_of_pattern error) ≡ None = rw (refusal_of_expansion, short, e) at fine in absurd (cc)

    by : (b : Bool) → nat_le (length text) longest ≡ b → reading (collapsed text) ≡ Ok (items_of (collapsed text))
    by true e = within (reading (collapsed text)) refl e
    by false e = let wrong : Some (OfPattern TooLong) ≡ None = rw (refusal_of_expansion, e) at fine in absurd (cc)

-- so do those of a token, and the rules that they make have patterns that read
expansions-read : (make : List ℕ → Rule) → ((pattern : List ℕ) → reading pattern ≡ Ok (items_of pattern) → HasReadPattern (make pattern))
    → (texts : List (List ℕ)) → refusal_of_expansions texts ≡ None → All HasReadPattern (map make (map collapsed texts))
expansions-read make made [] fine = All-nil HasReadPattern
expansions-read make made (text ∷ texts) fine = by (refusal_of_expansion text) refl (expansions-read make made texts)
  where
    by : (first : Option ProfileRefusal) → refusal_of_expansion text ≡ first → (refusal_of_expansions texts ≡ None → All HasReadPattern (map make (map collapsed texts)))
        → All HasReadPattern (map make (map collapsed (text ∷ texts)))
    by (Some refusal) e more = let wrong : Some refusal ≡ None = rw (refusal_of_expansions, e) at fine in absurd (cc)
    by None e more =
        let others : refusal_of_expansions texts ≡ None = rw (refusal_of_expansions, e) at fine in
        All-cons HasReadPattern (make (collapsed text)) (map make (map collapsed texts)) (made (collapsed text) (expansion-read text e)) (more others)

-- the patterns of a child's rules read
abbrev pub ChildIsRead : Child → Type 0
ChildIsRead child = All HasReadPattern child.rules

module _ (language : Language) (variables : List Variable) where
  token-fine : (token : Placed) → refusal_of_token variables token ≡ None → refusal_of_expansions (expansions variables (text_of token)) ≡ None
  token-fine token fine = by (refusal_of_expansions (expansions variables (text_of token))) refl
    where
      by : (refusal : Option ProfileRefusal) → refusal_of_expansions (expansions variables (text_of token)) ≡ refusal → refusal_of_expansions (expansions variables (text_of token)) ≡ None
      by None e = e
      by (Some refusal) e = let wrong : Some (placed refusal (place_of token)) ≡ None = rw (refusal_of_token, e) at fine in absurd (cc)

  first-fine : (token : Placed) (rest : List Placed) → first_bad variables (token ∷ rest) ≡ None → refusal_of_token variables token ≡ None
  first-fine token rest fine = by (refusal_of_token variables token) refl
    where
      by : (refusal : Option ProfileError) → refusal_of_token variables token ≡ refusal → refusal_of_token variables token ≡ None
      by None e = e
      by (Some error) e = let wrong : Some error ≡ None = rw (first_bad, e) at fine in absurd (cc)

  -- where no token is refused, none of the first ones is, and none of the others
  front-fine : (front rest : List Placed) → first_bad variables (front ++ rest) ≡ None → first_bad variables front ≡ None
  front-fine front rest fine = by (first_bad variables front) refl
    where
      by : (refusal : Option ProfileError) → first_bad variables front ≡ refusal → first_bad variables front ≡ None
      by None e = e
      by (Some error) e = let wrong : Some error ≡ None = sym (first_bad_front variables front rest error e) ∙ fine in absurd (cc)

  rest-fine : (front rest : List Placed) → first_bad variables (front ++ rest) ≡ None → first_bad variables rest ≡ None
  rest-fine front rest fine = sym (first_bad_behind variables front rest (front-fine front rest fine)) ∙ fine

  one-read : (rule : Rule) → HasReadPattern rule → All HasReadPattern (rule ∷ [])
  one-read rule read = All-cons HasReadPattern rule [] read (All-nil HasReadPattern)

  rule-read : (rule : WrittenRule) → first_bad variables (of_rule rule) ≡ None → All HasReadPattern (rules_of_rule language variables rule)
  rule-read (OnFile qualifiers pattern access target) fine =
      expansions-read (file_rule qualifiers access target (token_rank language (patterns_at variables pattern))) (λ pattern read. read) (expansions variables (text_of pattern)) (token-fine pattern (first-fine pattern [] fine))
  rule-read (OnCapabilities qualifiers word capabilities) fine = one-read _ tt
  rule-read (OnNetwork qualifiers word sockets) fine = one-read _ tt
  rule-read (Kept qualifiers tokens) fine = one-read _ tt
  rule-read (LetsAll qualifiers word) fine =
      let cap = cap_rule qualifiers all_capabilities in
      let net = net_rule qualifiers all_sockets in
      let letters = letters_of_all qualifiers in
      let exec = exec_of_all qualifiers in
      All-cons HasReadPattern (kept_of_all qualifiers word) (letters ∷ exec ∷ cap ∷ net ∷ []) tt
      (All-cons HasReadPattern letters (exec ∷ cap ∷ net ∷ []) refl
      (All-cons HasReadPattern exec (cap ∷ net ∷ []) refl
      (All-cons HasReadPattern cap (net ∷ []) tt (one-read net tt))))

  rules-read : (rules : List WrittenRule) → first_bad variables (of_rules rules) ≡ None → All HasReadPattern (rules_of language variables rules)
  rules-read [] fine = All-nil HasReadPattern
  rules-read (rule ∷ rules) fine =
      All-append HasReadPattern (rules_of_rule language variables rule) (rules_of language variables rules) (rule-read rule (front-fine (of_rule rule) (of_rules rules) fine))
      (rules-read rules (rest-fine (of_rule rule) (of_rules rules) fine))

  pub members-read : (members : List Member) → first_bad variables (of_members members) ≡ None → All HasReadPattern (rules_of_members language variables members)
  members-read [] fine = All-nil HasReadPattern
  members-read (OfRule rule ∷ members) fine =
      All-append HasReadPattern (rules_of_rule language variables rule) (rules_of_members language variables members) (rule-read rule (front-fine (of_rule rule) (of_members members) fine))
      (members-read members (rest-fine (of_rule rule) (of_members members) fine))
  members-read (OfChild child ∷ members) fine = members-read members (rest-fine (of_child child) (of_members members) fine)

  -- those of each child and hat, too
  pub children-read : (members : List Member) → first_bad variables (of_members members) ≡ None → All ChildIsRead (children_of language variables members)
  children-read [] fine = All-nil ChildIsRead
  children-read (OfRule rule ∷ members) fine = children-read members (rest-fine (of_rule rule) (of_members members) fine)
  children-read (OfChild child ∷ members) fine =
      All-cons ChildIsRead _ (children_of language variables members)
      (rules-read child.rules (rest-fine (of_head child.head) (of_rules child.rules) (front-fine (of_child child) (of_members members) fine)))
      (children-read members (rest-fine (of_child child) (of_members members) fine))

  -- and so those of profiles
  pub members-fine : (profile : WrittenProfile) (profiles : List WrittenProfile) → first_bad variables (of_profiles (profile ∷ profiles)) ≡ None
      → (first_bad variables (of_members profile.members) ≡ None) × (first_bad variables (of_profiles profiles) ≡ None)
  members-fine profile profiles fine =
      (rest-fine (of_head profile.head) (of_members profile.members) (front-fine (of_profile profile) (of_profiles profiles) fine), rest-fine (of_profile profile) (of_profiles profiles) fine)
