-- The refusals of a file's grammar: the number and name of each (docs/commands.md, "Refusals").
use Rattle.std.specs.Prelude.{ℕ, List, codes}
use Rattle.aa_profile_parsing.specs.declared.fault.GrammarRefusal.{GrammarRefusal}
use Rattle.aa_profile_parsing.specs.declared.fault.GrammarRefusal.TheVariants.{BadToken, OpenBlock, BadFlag, BadAccess, WriteAppend, TwoExec, ExecQualifier, TargetWithoutExec, BadCapability, BadNetwork, TwiceNamed, NestedChild, LateAssignment, NoProfile, BadName, LeftOut, Memory}

-- the one table of numbers and names
abbrev pub described : GrammarRefusal → ℕ × List ℕ
described BadToken = (40, codes "BadToken")
described OpenBlock = (41, codes "OpenBlock")
described BadFlag = (42, codes "BadFlag")
described BadAccess = (43, codes "BadAccess")
described WriteAppend = (44, codes "WriteAppend")
described TwoExec = (45, codes "TwoExec")
described ExecQualifier = (46, codes "ExecQualifier")
described TargetWithoutExec = (47, codes "TargetWithoutExec")
described BadCapability = (48, codes "BadCapability")
described BadNetwork = (49, codes "BadNetwork")
described TwiceNamed = (50, codes "TwiceNamed")
described NestedChild = (51, codes "NestedChild")
described LateAssignment = (52, codes "LateAssignment")
described NoProfile = (53, codes "NoProfile")
described BadName = (54, codes "BadName")
described LeftOut = (72, codes "LeftOut")
described Memory = (99, codes "Memory")

abbrev pub number_of : GrammarRefusal → ℕ
number_of refusal = (described refusal).0

abbrev pub name_of : GrammarRefusal → List ℕ
name_of refusal = (described refusal).1
