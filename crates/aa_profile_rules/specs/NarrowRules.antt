-- Rules as language 3 has them (docs/policy.md, "Languages").
use Rattle.std.specs.Prelude.{◌≡◌, IfSome, None, Option}
use Rattle.aa_text_tokens.specs.Splicing.{Placed}
use Rattle.aa_profile_data.specs.Stacks.{stack_of}
use Rattle.aa_profile_parsing.specs.Tokens.{text_of}
use Rattle.aa_profile_rules.specs.Rules.{All, Kept, OnCapabilities, OnFile, OnNetwork, Rule}

-- a target, if there is one, names no stack
abbrev pub NamesNoStack : Option Placed → Type 0
NamesNoStack target = IfSome target (λ token. stack_of (text_of token) ≡ None)

-- a rule isn't the rule `all`, and where it has an exec word, its target names no stack
abbrev pub IsNarrow : Rule → Type 0
IsNarrow (OnFile qualifiers pattern access target) = IfSome access.word (λ word. NamesNoStack target)
IsNarrow (OnCapabilities qualifiers word capabilities) = Unit
IsNarrow (OnNetwork qualifiers word sockets) = Unit
IsNarrow (Kept qualifiers tokens) = Unit
IsNarrow (All qualifiers word) = ⊥
