-- Profiles as their files write them, with the patterns that their variables make (docs/policy.md, "Files").
use Rattle.std.specs.Prelude.{ℕ, false, ◌||◌, if◌then◌else◌, List, [], ◌∷◌, ◌++◌, codes, fold, is_some, map, Option, None, Some}
use Rattle.std.specs.List.{flat_map, list_all}
use Rattle.std.specs.Option.{option_map}
use Rattle.aa_bytes.specs.Bytes.{quote, space}
use Rattle.aa_bytes.specs.Texts.{is_empty}
use Rattle.aa_glob_syntax.specs.Exactness.{is_exact}
use Rattle.aa_glob_syntax.specs.Reading.{items_of}
use Rattle.aa_profile_grammar.specs.Blocks.{OfChild, OfRule, Child as WrittenChild, Member, Profile as WrittenProfile}
use Rattle.aa_profile_grammar.specs.Heads.{Head}
use Rattle.aa_profile_parsing.specs.declared.flags.Flags.{Flags}
use Rattle.aa_profile_parsing.specs.declared.flags.ModeFlag.{ModeFlag}
use Rattle.aa_profile_parsing.specs.declared.flags.ModeFlag.TheVariants as flag
use Rattle.aa_profile_data.specs.declared.profile.Child.{Child}
use Rattle.aa_profile_data.specs.declared.profile.Mode.{Mode}
use Rattle.aa_profile_data.specs.declared.profile.Mode.TheVariants.{Complain, Enforce, Unconfined}
use Rattle.aa_profile_data.specs.declared.profile.Profile.{Profile}
use Rattle.aa_profile_data.specs.declared.profile.Rank.{Rank}
use Rattle.aa_profile_data.specs.declared.profile.Rank.TheVariants.{Last, Loose, Plain}
use Rattle.aa_profile_data.specs.declared.profile.Rule.{Rule}
use Rattle.aa_profile_data.specs.declared.profile.Rule.TheVariants.{Cap, File as OfFile, Net, Other}
use Rattle.aa_profile_data.specs.declared.profile.Transition.{Transition}
use Rattle.aa_profile_parsing.specs.declared.language.Language.{Language}
use Rattle.aa_profile_parsing.specs.declared.language.Language.TheVariants.{Four, Three}
use Rattle.aa_profile_parsing.specs.Tokens.{is_comma, is_quoted, text_of}
use Rattle.aa_profile_rules.specs.Access.{whole_access}
use Rattle.aa_profile_rules.specs.Capabilities.{all_capabilities}
use Rattle.aa_profile_rules.specs.Networks.{all_sockets}
use Rattle.aa_profile_rules.specs.Rules.{All, Kept, OnCapabilities, OnFile, OnNetwork, Rule as WrittenRule}
use Rattle.aa_profile_rules.specs.declared.access.Access.{Access}
use Rattle.aa_profile_rules.specs.declared.networks.Sockets.{Sockets}
use Rattle.aa_profile_rules.specs.declared.qualifiers.Qualifiers.{Qualifiers}
use Rattle.aa_text_tokens.specs.Splicing.{Placed}
use Rattle.aa_text_variables.specs.Variables.{Variable}
use Rattle.aa_profile_grammar.specs.Patterns.{patterns_at}
use Rattle.aa_profile.specs.Plainness.{is_plain}

-- a token as it is written in its file
abbrev pub span_of : Placed → List ℕ
span_of token = if is_quoted token.token.kind then quote ∷ text_of token ++ quote ∷ [] else text_of token

-- a text followed by one more token: with one blank between them, but none before a Comma
abbrev pub with_token : List ℕ → Placed → List ℕ
with_token text token = if is_empty text || is_comma token.token.kind then text ++ span_of token else text ++ space ∷ span_of token

-- the text of a rule that is kept
abbrev pub kept_text : List Placed → List ℕ
kept_text tokens = fold with_token [] tokens

-- the text of a target, where there is one
abbrev pub text_of_target : Option Placed → Option (List ℕ)
text_of_target target = option_map text_of target

-- under which profile programs run that an access allows to be started, where it has an exec word; a target is seen as its text
abbrev pub transition_of : Access → Option (List ℕ) → Option Transition
transition_of access target = elim access.word [
  | None ↦ None
  | Some word ↦ Some (record { word = word; target = target })
]

-- the target of hard links, where an access has no exec word
abbrev pub link_of : Access → Option (List ℕ) → Option (List ℕ)
link_of access target = elim access.word [ None ↦ target | Some word ↦ None ]

-- The rank of all exec rules of a token's patterns, where it depends on the token: in language 4, where it is plain if each of them is.
abbrev pub token_rank : Language → List (List ℕ) → Option Rank
token_rank Three patterns = None
token_rank Four patterns = Some (if list_all is_plain patterns then Plain else Loose)

-- the rank of an exec rule: by its token, or else by its own pattern, which is plain where it is exact
abbrev pub exec_rank : Option Rank → List ℕ → Rank
exec_rank None pattern = if is_exact (items_of pattern) then Plain else Loose
exec_rank (Some rank) pattern = rank

-- the rank of a rule with an access; one without an exec word has no use for it
abbrev pub rank_of : Access → Option Rank → List ℕ → Rank
rank_of access by_token pattern = if is_some access.word then exec_rank by_token pattern else Loose

-- the file rule of a pattern, with the text of a target and the rank by its token
abbrev pub file_rule_with : Qualifiers → Access → Option (List ℕ) → Option Rank → List ℕ → Rule
file_rule_with qualifiers access target by_token pattern = OfFile (record {
  pattern = pattern;
  access = access.letters;
  exec = transition_of access target;
  rank = rank_of access by_token pattern;
  link = link_of access target;
  owner = qualifiers.owner;
  deny = qualifiers.deny;
  audit = qualifiers.audit;
})

-- the file rule of a pattern, with a target and the rank by its token
abbrev pub file_rule : Qualifiers → Access → Option Placed → Option Rank → List ℕ → Rule
file_rule qualifiers access target by_token pattern = file_rule_with qualifiers access (text_of_target target) by_token pattern

-- the file rules of a token's patterns
abbrev pub file_rules : Language → Qualifiers → Access → Option Placed → List (List ℕ) → List Rule
file_rules language qualifiers access target patterns = map (file_rule qualifiers access target (token_rank language patterns)) patterns

-- a rule on capabilities
abbrev pub cap_rule : Qualifiers → ℕ → Rule
cap_rule qualifiers capabilities = Cap (record { caps = capabilities; deny = qualifiers.deny; audit = qualifiers.audit })

-- a rule on sockets
abbrev pub net_rule : Qualifiers → Sockets → Rule
net_rule qualifiers sockets = Net (record { domain = sockets.domain; kind = sockets.kind; deny = qualifiers.deny; audit = qualifiers.audit })

-- a rule that is kept
abbrev pub other_rule : Qualifiers → List Placed → Rule
other_rule qualifiers tokens = Other (record { text = kept_text tokens; owner = qualifiers.owner; deny = qualifiers.deny; audit = qualifiers.audit })

-- the pattern of all files
abbrev pub every_file : List ℕ
every_file = codes "/{**,}"

-- what is kept of a rule `all`: its word
abbrev pub kept_of_all : Qualifiers → Placed → Rule
kept_of_all qualifiers word = Other (record { text = text_of word; owner = qualifiers.owner; deny = qualifiers.deny; audit = qualifiers.audit })

-- the rule for the access letters of all files
abbrev pub letters_of_all : Qualifiers → Rule
letters_of_all qualifiers = OfFile (record {
  pattern = every_file;
  access = (whole_access false).letters;
  exec = None;
  rank = Loose;
  link = None;
  owner = qualifiers.owner;
  deny = qualifiers.deny;
  audit = qualifiers.audit;
})

-- the rule for starting programs for which no other rule says how
abbrev pub exec_of_all : Qualifiers → Rule
exec_of_all qualifiers = OfFile (record {
  pattern = every_file;
  access = record { 0 = 0 };
  exec = transition_of (whole_access false) None;
  rank = Last;
  link = None;
  owner = qualifiers.owner;
  deny = qualifiers.deny;
  audit = qualifiers.audit;
})

-- the five rules that a rule `all` stands for
abbrev pub rules_of_all : Qualifiers → Placed → List Rule
rules_of_all qualifiers word =
    kept_of_all qualifiers word ∷ letters_of_all qualifiers ∷ exec_of_all qualifiers ∷ cap_rule qualifiers all_capabilities ∷ net_rule qualifiers all_sockets ∷ []

-- the rules that a written one makes: a file rule makes one for each of its patterns, the rule `all` makes five, any other makes one
abbrev pub rules_of_rule : Language → List Variable → WrittenRule → List Rule
rules_of_rule language variables (OnFile qualifiers pattern access target) =
    file_rules language qualifiers access target (patterns_at variables pattern)
rules_of_rule language variables (OnCapabilities qualifiers word capabilities) = cap_rule qualifiers capabilities ∷ []
rules_of_rule language variables (OnNetwork qualifiers word sockets) = net_rule qualifiers sockets ∷ []
rules_of_rule language variables (Kept qualifiers tokens) = other_rule qualifiers tokens ∷ []
rules_of_rule language variables (All qualifiers word) = rules_of_all qualifiers word

abbrev pub rules_of : Language → List Variable → List WrittenRule → List Rule
rules_of language variables rules = flat_map (rules_of_rule language variables) rules

-- the patterns of a head's attachment
abbrev pub attachments_of : List Variable → Head → List (List ℕ)
attachments_of variables head = elim head.attachment [ None ↦ [] | Some pattern ↦ patterns_at variables pattern ]

-- the mode of a mode flag
abbrev pub mode_of_flag : ModeFlag → Mode
mode_of_flag flag.Enforce = Enforce
mode_of_flag flag.Complain = Complain
mode_of_flag flag.Unconfined = Unconfined
mode_of_flag flag.DefaultAllow = Unconfined

-- the mode of flags: enforce, where none says otherwise
abbrev pub mode_of : Flags → Mode
mode_of flags = elim flags.mode [ None ↦ Enforce | Some flag ↦ mode_of_flag flag ]

-- a child or a hat
abbrev pub child_of : Language → List Variable → WrittenChild → Child
child_of language variables child = record {
  name = child.head.name;
  hat = child.hat;
  attachments = attachments_of variables child.head;
  audit = child.head.flags.audit;
  mode = mode_of child.head.flags;
  rules = rules_of language variables child.rules;
}

-- the rules that a member of a block makes
abbrev pub rules_of_member : Language → List Variable → Member → List Rule
rules_of_member language variables (OfRule rule) = rules_of_rule language variables rule
rules_of_member language variables (OfChild child) = []

abbrev pub rules_of_members : Language → List Variable → List Member → List Rule
rules_of_members language variables members = flat_map (rules_of_member language variables) members

-- the children and hats among the members of a block
abbrev pub children_of_member : Language → List Variable → Member → List Child
children_of_member language variables (OfRule rule) = []
children_of_member language variables (OfChild child) = child_of language variables child ∷ []

abbrev pub children_of : Language → List Variable → List Member → List Child
children_of language variables members = flat_map (children_of_member language variables) members

-- a profile
abbrev pub profile_of : Language → List Variable → WrittenProfile → Profile
profile_of language variables profile = record {
  name = profile.head.name;
  attachments = attachments_of variables profile.head;
  audit = profile.head.flags.audit;
  mode = mode_of profile.head.flags;
  rules = rules_of_members language variables profile.members;
  children = children_of language variables profile.members;
}
