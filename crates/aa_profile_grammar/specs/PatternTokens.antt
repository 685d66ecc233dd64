-- The tokens of a file's patterns, in their order: attachments, names that are attachments, and the patterns of file rules. A rule `all` has that of
-- all files twice: once for the access letters, and once for how programs are started.
use Rattle.std.specs.Prelude.{List, [], ◌∷◌, ◌++◌, None, Some}
use Rattle.std.specs.List.{flat_map}
use Rattle.aa_profile_grammar.specs.Blocks.{OfChild, OfRule, Child, Member, Profile}
use Rattle.aa_profile_grammar.specs.Heads.{Head}
use Rattle.aa_profile_rules.specs.Rules.{All, Kept, OnCapabilities, OnFile, OnNetwork, Rule, all_files}
use Rattle.aa_text_tokens.specs.Splicing.{Placed}

abbrev pub of_rule : Rule → List Placed
of_rule (OnFile qualifiers pattern access target) = pattern ∷ []
of_rule (OnCapabilities qualifiers word capabilities) = []
of_rule (OnNetwork qualifiers word sockets) = []
of_rule (Kept qualifiers tokens) = []
of_rule (All qualifiers word) = all_files word ∷ all_files word ∷ []

abbrev pub of_rules : List Rule → List Placed
of_rules rules = flat_map of_rule rules

abbrev pub of_head : Head → List Placed
of_head head = elim head.attachment [ None ↦ [] | Some pattern ↦ pattern ∷ [] ]

abbrev pub of_child : Child → List Placed
of_child child = of_head child.head ++ of_rules child.rules

abbrev pub of_member : Member → List Placed
of_member (OfRule rule) = of_rule rule
of_member (OfChild child) = of_child child

abbrev pub of_members : List Member → List Placed
of_members members = flat_map of_member members

abbrev pub of_profile : Profile → List Placed
of_profile profile = of_head profile.head ++ of_members profile.members

abbrev pub of_profiles : List Profile → List Placed
of_profiles profiles = flat_map of_profile profiles
