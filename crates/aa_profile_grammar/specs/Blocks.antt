-- Profiles, children and hats, whole (apparmor.d(5), "PROFILES"; docs/policy.md, "Files").
use Rattle.std.specs.Prelude.{ℕ, Bool, true, false, not, if◌then◌else◌, List, [], ◌∷◌, Option, None, Some, Ok, Err, codes}
use Rattle.std.specs.List.{list_any}
use Rattle.std.specs.Str.{bytes_eq}
use Rattle.aa_text_tokens.specs.Splicing.{Placed}
use Rattle.aa_profile_data.specs.Names.{is_name, is_top_name}
use Rattle.aa_profile_parsing.specs.Parts.{Part, followed, refused}
use Rattle.aa_profile_parsing.specs.Tokens.{is_close_brace, is_word_of, place_of}
use Rattle.aa_profile_parsing.specs.declared.fault.Fault.{Fault}
use Rattle.aa_profile_parsing.specs.declared.fault.Fault.TheVariants.{At, Memory, RanOut}
use Rattle.aa_profile_parsing.specs.declared.fault.GrammarRefusal.{GrammarRefusal}
use Rattle.aa_profile_parsing.specs.declared.fault.GrammarRefusal.TheVariants.{BadName, NestedChild, OpenBlock, TwiceNamed}
use Rattle.aa_profile_parsing.specs.declared.language.Language.{Language}
use Rattle.aa_profile_rules.specs.Rules.{Rule, rule}
use Rattle.aa_profile_grammar.specs.Heads.{Head, Named, begins_child, child_name, head, top_name}
use Rattle.aa_profile_grammar.specs.Preamble.{behind_version}
use Rattle.aa_profile_grammar.specs.Sequences.{rows, skipped}
use Rattle.aa_profile_grammar.specs.declared.sequence.Next.{Next}
use Rattle.aa_profile_grammar.specs.declared.sequence.Next.TheVariants.{End, Item}
use Rattle.aa_profile_grammar.specs.declared.heads.Form.{Form}
use Rattle.aa_profile_grammar.specs.declared.heads.Form.TheVariants.{Hat}

-- a child or a hat, and its rules
pub record Child : Type 0 where
  pub hat : Bool
  pub head : Head
  pub rules : List Rule

-- what a profile's block holds: rules, children and hats, in the order of the file
pub data Member : Type 0 where
  OfRule : (rule : Rule) → Member
  OfChild : (child : Child) → Member

-- a profile, and what its block holds
pub record Profile : Type 0 where
  pub head : Head
  pub members : List Member

-- the fault within a block: where the tokens run out, it is reported at the block's brace
abbrev pub closed_fault : Placed → Fault → Fault
closed_fault brace RanOut = At OpenBlock (place_of brace)
closed_fault brace (At refusal place) = At refusal place
closed_fault brace Memory = Memory

-- the result of reading a block's inside
abbrev pub closed : {A : Type 0} → Placed → Part A → Part A
closed brace inside = elim inside [ Ok read ↦ Ok read | Err fault ↦ Err (closed_fault brace fault) ]

-- the refusal of a name, if it is refused: such names aren't accepted, or another has it
abbrev pub refusal_of_name : Bool → Bool → Option GrammarRefusal
refusal_of_name fits taken = if not fits then Some BadName else if taken then Some TwiceNamed else None

-- a rule in the block of a child or a hat, in which no other child may be
abbrev pub child_rule : Language → List Placed → Part Rule
child_rule language [] = Err RanOut
child_rule language (token ∷ tokens) = if begins_child token then refused NestedChild token else rule language (token ∷ tokens)

-- what comes next in the block of a child or a hat
abbrev pub next_rule : Language → List Placed → Part (Next Rule)
next_rule language [] = Err RanOut
next_rule language (token ∷ tokens) =
    if is_close_brace token.token.kind then Ok (End, tokens) else
    if is_word_of (codes "abi") token then skipped (behind_version tokens) else
    followed (child_rule language (token ∷ tokens)) (λ rule behind. Ok (Item rule, behind))

abbrev pub is_hat : Form → Bool
is_hat Hat = true
is_hat _ = false

-- the rules in the block of a child or a hat, up to its closing brace
abbrev pub child_block : Language → List Placed → Part (List Rule)
child_block language tokens = rows (λ read. next_rule language) tokens

-- a child or a hat, after its name
abbrev pub child_behind : Language → Named → List Placed → Part Child
child_behind language named tokens =
    followed (head language named tokens) (λ head behind.
    followed (closed head.brace (child_block language behind)) (λ rules rest. Ok (record { hat = is_hat named.form; head = head; rules = rules }, rest)))

-- a member of a block is a child or a hat of this name
abbrev pub is_child_of_name : List ℕ → Member → Bool
is_child_of_name name (OfRule rule) = false
is_child_of_name name (OfChild child) = bytes_eq child.head.name name

-- a child or a hat, after what its profile's block held before
abbrev pub child : Language → List Member → Placed → List Placed → Part Child
child language read token tokens =
    followed (child_name token tokens) (λ named behind.
    elim (refusal_of_name (is_name named.name) (list_any (is_child_of_name named.name) read)) [
      | Some refusal ↦ refused refusal named.token
      | None ↦ child_behind language named behind
    ])

-- a member of a profile's block, after what the block held before
abbrev pub member : Language → List Member → List Placed → Part Member
member language read [] = Err RanOut
member language read (token ∷ tokens) =
    if begins_child token
    then followed (child language read token tokens) (λ child behind. Ok (OfChild child, behind))
    else followed (rule language (token ∷ tokens)) (λ rule behind. Ok (OfRule rule, behind))

-- what comes next in the block of a profile
abbrev pub next_member : Language → List Member → List Placed → Part (Next Member)
next_member language read [] = Err RanOut
next_member language read (token ∷ tokens) =
    if is_close_brace token.token.kind then Ok (End, tokens) else
    if is_word_of (codes "abi") token then skipped (behind_version tokens) else
    followed (member language read (token ∷ tokens)) (λ member behind. Ok (Item member, behind))

-- what the block of a profile holds, up to its closing brace
abbrev pub profile_block : Language → List Placed → Part (List Member)
profile_block language tokens = rows (next_member language) tokens

-- a profile, after its name
abbrev pub profile_behind : Language → Named → List Placed → Part Profile
profile_behind language named tokens =
    followed (head language named tokens) (λ head behind.
    followed (closed head.brace (profile_block language behind)) (λ members rest. Ok (record { head = head; members = members }, rest)))

-- a profile has this name
abbrev pub is_of_name : List ℕ → Profile → Bool
is_of_name name profile = bytes_eq profile.head.name name

-- a profile, after others of the file
abbrev pub profile : Language → List Profile → Placed → List Placed → Part Profile
profile language read token tokens =
    followed (top_name token tokens) (λ named behind.
    elim (refusal_of_name (is_top_name named.name) (list_any (is_of_name named.name) read)) [
      | Some refusal ↦ refused refusal named.token
      | None ↦ profile_behind language named behind
    ])

-- what comes next in a file, after its preamble
abbrev pub next_profile : Language → List Profile → List Placed → Part (Next Profile)
next_profile language read [] = Ok (End, [])
next_profile language read (token ∷ tokens) = followed (profile language read token tokens) (λ profile behind. Ok (Item profile, behind))

-- the profiles of a file, from the tokens after its preamble
abbrev pub all_profiles : Language → List Placed → Part (List Profile)
all_profiles language tokens = rows (next_profile language) tokens
