-- What the code's files, and the parts that they are made of, are as the definitions see them.
use Rattle.std.specs.Prelude.{map}
use Rattle.std.specs.Option.{option_map}
use Rattle.aa_text_tokens.specs.SeenSplicedTokens.{seen_spliced}
use Rattle.aa_profile_parsing.specs.SeenTokens.{seen_tokens}
use Rattle.aa_profile_rules.specs.SeenRules.{seen_rule}
use Rattle.aa_profile_grammar.specs.Blocks.{OfChild, OfRule, Child as SeenChild, Member as SeenMember, Profile as SeenProfile}
use Rattle.aa_profile_grammar.specs.Files.{File as SeenFile}
use Rattle.aa_profile_grammar.specs.Heads.{Head as SeenHead}
use Rattle.aa_profile_grammar.specs.Preamble.{Assignment as SeenAssignment}
use Rattle.aa_profile_grammar.specs.declared.blocks.Child.{Child}
use Rattle.aa_profile_grammar.specs.declared.blocks.Member.{Member}
use Rattle.aa_profile_grammar.specs.declared.blocks.Member.TheVariants as member
use Rattle.aa_profile_grammar.specs.declared.blocks.Profile.{Profile}
use Rattle.aa_profile_grammar.specs.declared.files.File.{File}
use Rattle.aa_profile_grammar.specs.declared.heads.Head.{Head}
use Rattle.aa_profile_grammar.specs.declared.preamble.Assignment.{Assignment}

abbrev pub seen_assignment : Assignment → SeenAssignment
seen_assignment assignment = record { sign = seen_spliced assignment.sign; append = assignment.append; values = seen_tokens assignment.values.now }

abbrev pub seen_head : Head → SeenHead
seen_head head = record {
  name = head.name.now;
  token = seen_spliced head.token;
  attachment = option_map seen_spliced head.attachment;
  flags = head.flags;
  flag_tokens = seen_tokens head.flag_tokens.now;
  brace = seen_spliced head.brace;
}

abbrev pub seen_child : Child → SeenChild
seen_child child = record { hat = child.hat; head = seen_head child.head; rules = map seen_rule child.rules.items }

abbrev pub seen_member : Member → SeenMember
seen_member (member.OfRule rule) = OfRule (seen_rule rule)
seen_member (member.OfChild child) = OfChild (seen_child child)

abbrev pub seen_profile : Profile → SeenProfile
seen_profile profile = record { head = seen_head profile.head; members = map seen_member profile.members.items }

abbrev pub seen_file : File → SeenFile
seen_file file = record { assignments = map seen_assignment file.assignments.items; profiles = map seen_profile file.profiles.items }
