-- What a line leaves as it was, and what decides its reply.
use Rattle.std.proofs.Common.{◌≡◌, ℕ, Bool, true, false, not, cond, leb, ◌&&◌, List, length, Option, None, Some, Result, Ok, Err, refl, ap}
use Rattle.aa_set_commands.specs.Command.{Ask, Back, Command, Listed, Make, Mark, Redo, Show, Undo}
use Rattle.aa_set_commands.specs.Refusal.{plain}
use Rattle.aa_set_commands.specs.declared.refusal.Refusal.{Refusal}
use Rattle.aa_set_commands.specs.declared.refusal.RefusalKind.TheVariants.{LineTooLong, Memory}
use Rattle.aa_text_files.specs.Files.{File}
use Rattle.aa_set_commands.specs.Limits.{longest_line}
use Rattle.aa_set_answers.specs.Answers.{asks_absent, reply_lines, shown, shows_absent}
use Rattle.aa_set_answers.specs.List.{list_lines}
use Rattle.aa_set.specs.Laws.{OtherLineLeavesAll, RefusedLineLeavesAll, SetDecidesAnswer, goes, is_change, is_question, marks}
use Rattle.aa_set_manager.specs.Outcomes.{Outcome, answered, changed, command_in, command_outcome, obeyed, refused, takes_memory}
use Rattle.aa_set_manager.specs.Manager.{Managed, back_at, made, marking, redone, undone}
use Rattle.aa_set.specs.Reply.{is_refusal}

-- an outcome leaves a manager, if its reply is a refusal
abbrev LeavesIfRefused : Managed → Outcome → Type 0
LeavesIfRefused m outcome = is_refusal outcome.reply ≡ true → outcome.managed ≡ m

either-leaves : (t : Bool) (m : Managed) (a b : Outcome) → LeavesIfRefused m a → LeavesIfRefused m b → LeavesIfRefused m (cond t a b)
either-leaves true m a b p q = p
either-leaves false m a b p q = q

changed-leaves : (m : Managed) (r : Result Managed Refusal) → LeavesIfRefused m (changed m r)
changed-leaves m (Ok after) h = absurd (cc)
changed-leaves m (Err refusal) h = refl

pub answered-leaves : (m : Managed) (r : Result (List ℕ) Refusal) → (answered m r).managed ≡ m
answered-leaves m (Ok lines) = refl
answered-leaves m (Err refusal) = refl

obeyed-leaves : (files : List File) (m : Managed) (command : Command) → LeavesIfRefused m (obeyed files m command)
obeyed-leaves files m (Make change) = changed-leaves m (made files m change)
obeyed-leaves files m (Undo n) = changed-leaves m (undone n m)
obeyed-leaves files m (Redo n) = changed-leaves m (redone n m)
obeyed-leaves files m (Mark name) = changed-leaves m (marking name m)
obeyed-leaves files m (Back name) = changed-leaves m (back_at name m)
obeyed-leaves files m (Ask question) = λ h. answered-leaves m (reply_lines m.machine.now question)
obeyed-leaves files m Listed = λ h. refl
obeyed-leaves files m (Show name) = λ h. answered-leaves m (shown m.machine.now name)

command-leaves : (files : List File) (m : Managed) (flag : Bool) (command : Result (Option Command) Refusal) → LeavesIfRefused m (command_outcome files m flag command)
command-leaves files m flag (Err refusal) h = refl
command-leaves files m flag (Ok None) h = refl
command-leaves files m flag (Ok (Some command)) h =
    either-leaves (flag && takes_memory m command) m (refused m (plain Memory)) (obeyed files m command) (λ h. refl) (obeyed-leaves files m command) h

-- a refused line leaves all
pub refused-leaves : RefusedLineLeavesAll
refused-leaves files m line flag =
    either-leaves (leb (length line) longest_line) m (command_outcome files m flag (command_in line)) (refused m (plain LineTooLong)) (command-leaves files m flag (command_in line)) (λ h. refl)

either-stays : (t : Bool) (m : Managed) (a b : Outcome) → a.managed ≡ m → b.managed ≡ m → (cond t a b).managed ≡ m
either-stays true m a b p q = p
either-stays false m a b p q = q

flag-stays : (files : List File) (m : Managed) (flag : Bool) (command : Command) → (obeyed files m command).managed ≡ m
    → (cond (flag && takes_memory m command) (refused m (plain Memory)) (obeyed files m command)).managed ≡ m
flag-stays files m flag command h = either-stays (flag && takes_memory m command) m (refused m (plain Memory)) (obeyed files m command) refl h

command-stays : (files : List File) (m : Managed) (flag : Bool) (command : Result (Option Command) Refusal) → is_change command ≡ false → goes command ≡ false → marks command ≡ false
    → (command_outcome files m flag command).managed ≡ m
command-stays files m flag (Err refusal) h g k = refl
command-stays files m flag (Ok None) h g k = refl
command-stays files m flag (Ok (Some (Make change))) h g k = absurd (cc)
command-stays files m flag (Ok (Some (Undo n))) h g k = absurd (cc)
command-stays files m flag (Ok (Some (Redo n))) h g k = absurd (cc)
command-stays files m flag (Ok (Some (Mark name))) h g k = absurd (cc)
command-stays files m flag (Ok (Some (Back name))) h g k = absurd (cc)
command-stays files m flag (Ok (Some (Ask question))) h g k = flag-stays files m flag (Ask question) (answered-leaves m (reply_lines m.machine.now question))
command-stays files m flag (Ok (Some Listed)) h g k = flag-stays files m flag Listed refl
command-stays files m flag (Ok (Some (Show name))) h g k = flag-stays files m flag (Show name) (answered-leaves m (shown m.machine.now name))

-- so does a line whose command neither changes nor goes back or on, nor marks
pub other-leaves : OtherLineLeavesAll
other-leaves files m line flag h g k =
    either-stays (leb (length line) longest_line) m (command_outcome files m flag (command_in line)) (refused m (plain LineTooLong)) (command-stays files m flag (command_in line) h g k) refl

either-same : (t u : Bool) (a b c d : Outcome) → t ≡ u → a.reply ≡ c.reply → b.reply ≡ d.reply → (cond t a b).reply ≡ (cond u c d).reply
either-same true true a b c d e p q = p
either-same false false a b c d e p q = q
either-same true false a b c d e p q = absurd (cc)
either-same false true a b c d e p q = absurd (cc)

answered-same : (one other : Managed) (r s : Result (List ℕ) Refusal) → r ≡ s → (answered one r).reply ≡ (answered other s).reply
answered-same one other (Ok lines) s e = ap (λ r. (answered other r).reply) e
answered-same one other (Err refusal) s e = ap (λ r. (answered other r).reply) e

flag-same : (files : List File) (one other : Managed) (flag : Bool) (command : Command) → takes_memory one command ≡ takes_memory other command
    → (obeyed files one command).reply ≡ (obeyed files other command).reply
    → (cond (flag && takes_memory one command) (refused one (plain Memory)) (obeyed files one command)).reply
    ≡ (cond (flag && takes_memory other command) (refused other (plain Memory)) (obeyed files other command)).reply
flag-same files one other flag command e same =
    either-same (flag && takes_memory one command) (flag && takes_memory other command)
    (refused one (plain Memory)) (obeyed files one command) (refused other (plain Memory)) (obeyed files other command)
    (ap (λ t. flag && t) e) refl same

command-asks : (files : List File) (one other : Managed) (flag : Bool) (command : Result (Option Command) Refusal) → is_question command ≡ true → one.machine.now ≡ other.machine.now
    → (command_outcome files one flag command).reply ≡ (command_outcome files other flag command).reply
command-asks files one other flag (Err refusal) h e = absurd (cc)
command-asks files one other flag (Ok None) h e = absurd (cc)
command-asks files one other flag (Ok (Some (Make change))) h e = absurd (cc)
command-asks files one other flag (Ok (Some (Undo n))) h e = absurd (cc)
command-asks files one other flag (Ok (Some (Redo n))) h e = absurd (cc)
command-asks files one other flag (Ok (Some (Mark name))) h e = absurd (cc)
command-asks files one other flag (Ok (Some (Back name))) h e = absurd (cc)
command-asks files one other flag (Ok (Some (Ask question))) h e =
    flag-same files one other flag (Ask question) (ap (λ set. not (asks_absent set question)) e)
    (answered-same one other (reply_lines one.machine.now question) (reply_lines other.machine.now question) (ap (λ set. reply_lines set question) e))
command-asks files one other flag (Ok (Some Listed)) h e =
    flag-same files one other flag Listed refl (answered-same one other (Ok (list_lines one.machine.now)) (Ok (list_lines other.machine.now)) (ap (λ set. Ok (list_lines set)) e))
command-asks files one other flag (Ok (Some (Show name))) h e =
    flag-same files one other flag (Show name) (ap (λ set. not (shows_absent set name)) e)
    (answered-same one other (shown one.machine.now name) (shown other.machine.now name) (ap (λ set. shown set name) e))

-- the reply to a question, to `list` and to `show` depends on the policy set alone
pub set-decides : SetDecidesAnswer
set-decides files one other line flag h e =
    either-same (leb (length line) longest_line) (leb (length line) longest_line)
    (command_outcome files one flag (command_in line)) (refused one (plain LineTooLong)) (command_outcome files other flag (command_in line)) (refused other (plain LineTooLong))
    refl (command-asks files one other flag (command_in line) h e) refl
