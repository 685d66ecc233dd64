-- Stacks of the code as the definitions see them.
use Rattle.aa_profile_data.specs.Stacks.{Stack, parts_of}
use Rattle.aa_profile_data.specs.declared.stacks.Stack.{Stack as CodeStack}

-- a stack of the code: the text of its members is cut
abbrev pub seen_stack : CodeStack → Stack
seen_stack stack = record { on_base = stack.on_base; members = parts_of stack.members.now }
