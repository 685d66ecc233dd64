-- The file of one profile with one rule, from its tokens.
use Rattle.std.proofs.Common.{◌≡◌, ℕ, suc, true, false, List, [], ◌∷◌, length, None, Ok, refl}
use Rattle.std.specs.Prelude.{codes}
use Rattle.aa_text_tokens.specs.Splicing.{Placed}
use Rattle.aa_profile_parsing.specs.Tokens.{is_close_brace, is_word_of}
use Rattle.aa_profile_parsing.specs.declared.language.Language.{Language}
use Rattle.aa_profile_parsing.specs.Flags.{unflagged}
use Rattle.aa_profile_rules.specs.Rules.{Rule, rule}
use Rattle.aa_profile_parsing.specs.Parts.{Part}
use Rattle.aa_profile_grammar.specs.Blocks.{Member, OfRule, Profile, all_profiles, member, next_member, next_profile, profile_behind, profile_block}
use Rattle.aa_profile_grammar.specs.Files.{file}
use Rattle.aa_profile_grammar.specs.Heads.{Head, Named, begins_child}
use Rattle.aa_profile_grammar.specs.Sequences.{row}
use Rattle.aa_profile_grammar.specs.declared.heads.Form.TheVariants.{Profile as ProfileForm}
use Rattle.aa_profile_grammar.specs.declared.sequence.Next.{Next}
use Rattle.aa_profile_grammar.specs.declared.sequence.Next.TheVariants.{End, Item}
use Rattle.aa_explain_written.proofs.Spelling.{Spans, an_opening, placed, word}

-- a token begins a rule
pub record BeginsRule (token : Placed) : Type 0 where
  pub no_end : is_close_brace token.token.kind ≡ false
  pub no_version : is_word_of (codes "abi") token ≡ false
  pub no_child : begins_child token ≡ false

-- a member that is a rule
member-rule : (language : Language) (token : Placed) (tokens : List Placed) (read : Rule) (behind : List Placed) → begins_child token ≡ false
    → rule language (token ∷ tokens) ≡ Ok (read, behind) → member language [] (token ∷ tokens) ≡ Ok (OfRule read, behind)
member-rule language token tokens read behind no_child reads = rw (no_child, member) (rw reads refl)

-- what comes next in a block, where that is a rule
next-rule : (language : Language) (token : Placed) (tokens : List Placed) (read : Rule) (behind : List Placed) → BeginsRule token
    → rule language (token ∷ tokens) ≡ Ok (read, behind) → next_member language [] (token ∷ tokens) ≡ Ok (Item (OfRule read), behind)
next-rule language token tokens read behind begins reads =
    rw (begins.no_end, next_member) (rw (begins.no_version) (rw (member-rule language token tokens read behind begins.no_child reads) refl))

-- the end of a block
next-end : (language : Language) (read : List Member) (closing : Placed) → is_close_brace closing.token.kind ≡ true → next_member language read (closing ∷ []) ≡ Ok (End, [])
next-end language read closing closes = rw (closes, next_member) refl

-- one part in a row, and the end
row-one : {A : Type 0} → (next : List A → List Placed → Part (Next A)) (most : ℕ) (tokens behind rest : List Placed) (item : A)
    → next [] tokens ≡ Ok (Item item, behind) → next (item ∷ []) behind ≡ Ok (End, rest) → row next (suc (suc most)) [] tokens ≡ Ok (item ∷ [], rest)
row-one next most tokens behind rest item first last = rw (first, row) (rw (last) refl)

-- a block of one rule
block-one : (language : Language) (token : Placed) (tokens : List Placed) (read : Rule) (closing : Placed) → BeginsRule token → is_close_brace closing.token.kind ≡ true
    → rule language (token ∷ tokens) ≡ Ok (read, closing ∷ []) → profile_block language (token ∷ tokens) ≡ Ok (OfRule read ∷ [], [])
block-one language token tokens read closing begins closes reads =
    row-one (next_member language) (length tokens) (token ∷ tokens) (closing ∷ []) [] (OfRule read)
    (next-rule language token tokens read (closing ∷ []) begins reads) (next-end language (OfRule read ∷ []) closing closes)

-- the head of the profile
abbrev pub head_of : ℕ → Spans → Head
head_of at spans = record { name = codes "p"; token = placed at (spans 1) (word (codes "p")); attachment = None; flags = unflagged; flag_tokens = []; brace = placed at (spans 2) an_opening }

-- the profile
abbrev pub profile_with : ℕ → Spans → Rule → Profile
profile_with at spans read = record { head = head_of at spans; members = OfRule read ∷ [] }

-- what the head of it stands in
abbrev pub named_in : ℕ → Spans → Named
named_in at spans = record { form = ProfileForm; name = codes "p"; token = placed at (spans 1) (word (codes "p")) }

-- the profile, behind its name
behind-name : (language : Language) (at : ℕ) (spans : Spans) (tokens : List Placed) (read : Rule) → profile_block language tokens ≡ Ok (OfRule read ∷ [], [])
    → profile_behind language (named_in at spans) (placed at (spans 2) an_opening ∷ tokens) ≡ Ok (profile_with at spans read, [])
behind-name language at spans tokens read block = rw (block, profile_behind) refl

-- what comes first in the file
next-one : (language : Language) (at : ℕ) (spans : Spans) (tokens : List Placed) (read : Rule) → profile_block language tokens ≡ Ok (OfRule read ∷ [], [])
    → next_profile language [] (placed at (spans 0) (word (codes "profile")) ∷ placed at (spans 1) (word (codes "p")) ∷ placed at (spans 2) an_opening ∷ tokens)
    ≡ Ok (Item (profile_with at spans read), [])
next-one language at spans tokens read block = rw (behind-name language at spans tokens read block, next_profile) refl

-- the file of it
pub file-one : (language : Language) (at : ℕ) (spans : Spans) (token : Placed) (tokens : List Placed) (read : Rule) (closing : Placed) → BeginsRule token → is_close_brace closing.token.kind ≡ true
    → rule language (token ∷ tokens) ≡ Ok (read, closing ∷ [])
    → file language (placed at (spans 0) (word (codes "profile")) ∷ placed at (spans 1) (word (codes "p")) ∷ placed at (spans 2) an_opening ∷ token ∷ tokens)
    ≡ Ok (record { assignments = []; profiles = profile_with at spans read ∷ [] })
file-one language at spans token tokens read closing begins closes reads =
    let block = block-one language token tokens read closing begins closes reads in
    let all_tokens = placed at (spans 0) (word (codes "profile")) ∷ placed at (spans 1) (word (codes "p")) ∷ placed at (spans 2) an_opening ∷ token ∷ tokens in
    let all : all_profiles language all_tokens ≡ Ok (profile_with at spans read ∷ [], []) =
    row-one (next_profile language) (suc (suc (suc (length tokens)))) all_tokens [] [] (profile_with at spans read) (next-one language at spans (token ∷ tokens) read block) refl in
    rw (all, file) refl
