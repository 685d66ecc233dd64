-- Where a program is started, and the answer, whatever the slots hold.
use Rattle.std.specs.Prelude.{List, Option}
use Rattle.aa_decide_ready.specs.Entries.{Loaded}
use Rattle.aa_decide.specs.Exec.{Base, ExecAnswer, Started}
use Rattle.aa_decide.specs.declared.asker.Asker.{Asker as FoundAsker}
use Rattle.aa_decide_rules.specs.declared.exec_verdict.ExecTo.{ExecTo}
use Rattle.aa_decide_rules.specs.declared.exec_verdict.ExecVerdict.{ExecVerdict}
use Rattle.aa_decide_rules.specs.declared.exec_verdict.StackBase.{StackBase}
use Rattle.aa_decide.specs.SeenExec.{IsAnswer, IsBase, IsDestination, IsIn}

-- what the code found is where the definitions lead, whatever the slots hold apart from the asker's entry
abbrev pub IsDestinationOf : FoundAsker → Option ExecTo → Option Started → Type 0
IsDestinationOf asker found started = (slots : List (Option Loaded)) → IsIn slots asker → IsDestination slots found started

-- the base that the code found is the base of the definitions, whatever the slots hold apart from the asker's entry
abbrev pub IsBaseOf : FoundAsker → Option StackBase → Option Base → Type 0
IsBaseOf asker found base = (slots : List (Option Loaded)) → IsIn slots asker → IsBase slots found base

-- the code's answer is that of the definitions, whatever the slots hold
abbrev pub IsAnswerAnywhere : ExecVerdict → ExecAnswer → Type 0
IsAnswerAnywhere found answer = (slots : List (Option Loaded)) → IsAnswer slots found answer
