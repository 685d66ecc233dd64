-- Those who start programs where others run, one behind the other.
use Rattle.std.proofs.Common.{List, ◌++◌, ◌∙◌, ap, append_assoc}
use Rattle.std.specs.Prelude.{Option}
use Rattle.aa_decide.specs.Exec.{Asker}
use Rattle.aa_decide.specs.declared.asker.Asker.{Asker as FoundAsker}
use Rattle.aa_decide_ready.specs.Entries.{Loaded}
use Rattle.aa_explain_reach.specs.code.Going.{Appends}

pub appends-then : (slots : List (Option Loaded)) (one other : List (Option Asker)) (a b c : List (Option FoundAsker))
    → Appends slots one a b → Appends slots other b c → Appends slots (one ++ other) a c
appends-then slots one other a b c first second = record {
  appended = second.appended ∙ ap (λ l. l ++ other) first.appended ∙ append_assoc _ one other;
  there = λ are. second.there (first.there are);
}
