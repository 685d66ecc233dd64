-- The history of a session: the texts of its changes, the done ones, oldest first, and then the undone ones, the next to redo first; and the marks,
-- each a name and how many changes led to the marked set. It begins after the changes that loaded the files at the session's beginning.
use Rattle.std.specs.Prelude.{ℕ, ◌+◌, ◌-◌, List, [], ◌∷◌, ◌++◌}
use Rattle.std.specs.Prelude.{codes, drop, flat_map, if◌then◌else◌, nat_eq, nat_lt, reverse, take}
use Rattle.std.specs.Fmt.{decimal}
use Rattle.aa_bytes.specs.Bytes.{line_feed}
use Rattle.aa_set_commands.specs.Command.{PolicyChange, Add, Replace, Remove, Enforce, Complain, Disable}
use Rattle.aatry_report.specs.Shown.{shown}

-- the text of a change: the words of its command
abbrev pub change_text : PolicyChange → List ℕ
change_text (Add file) = codes "add " ++ shown file
change_text (Replace file) = codes "replace " ++ shown file
change_text (Remove file) = codes "remove " ++ shown file
change_text (Enforce name) = codes "enforce " ++ shown name
change_text (Complain name) = codes "complain " ++ shown name
change_text (Disable name) = codes "disable " ++ shown name

-- the words between the number of a change and its text, where so many come before it and so many are done
abbrev pub behind_number : ℕ → ℕ → List ℕ
behind_number before done = if nat_lt before done then codes " " else codes " undone: "

-- a line of the history: a change, with its number
abbrev pub change_line : ℕ → ℕ → List ℕ → List ℕ
change_line before done text = decimal (before + 1) ++ behind_number before done ++ text ++ line_feed ∷ []

-- a line of the history: a mark, by its name
abbrev pub mark_line : List ℕ → List ℕ
mark_line name = codes "  mark " ++ shown name ++ line_feed ∷ []

-- the line of a mark, if it marks the set after so many changes past those of the loading
abbrev pub line_of_mark_at : ℕ → ℕ → List ℕ × ℕ → List ℕ
line_of_mark_at loaded number mark = if nat_eq (mark.1 - loaded) number then mark_line mark.0 else []

-- the lines of the marks of that set, in the marks' order
abbrev pub mark_lines : ℕ → ℕ → List (List ℕ × ℕ) → List ℕ
mark_lines loaded number marks = flat_map (line_of_mark_at loaded number) marks

-- The lines of these changes, where so many come before them and so many are done, of those after the loading: each with its number, from 1,
-- followed by the marks of the set after it. Before them come the marks of the set before them.
abbrev pub history_lines : ℕ → ℕ → ℕ → List (List ℕ × ℕ) → List (List ℕ) → List ℕ
history_lines loaded before done marks [] = mark_lines loaded before marks
history_lines loaded before done marks (text ∷ texts) =
    mark_lines loaded before marks ++ change_line before done text ++ history_lines loaded (before + 1) done marks texts

-- the history after the loading, where so many changes loaded the files and so many are done, these among them
abbrev pub history_text : ℕ → ℕ → List (List ℕ × ℕ) → List (List ℕ) → List ℕ
history_text loaded done marks texts = history_lines loaded 0 (done - loaded) marks (drop loaded texts)

-- a line on a change
abbrev pub move_line : List ℕ → List ℕ → List ℕ
move_line words text = words ++ text ++ line_feed ∷ []

abbrev pub ok_line : List ℕ
ok_line = codes "ok" ++ line_feed ∷ []

-- the texts of the changes between two numbers of changes done
abbrev pub between : ℕ → ℕ → List (List ℕ) → List (List ℕ)
between low high texts = drop low (take high texts)

-- The reply to an accepted command, by how many changes were done before and after it: the changes that it undid, the last one first, or those that
-- it redid, the first one first, or `ok`.
abbrev pub moves_text : ℕ → ℕ → List (List ℕ) → List ℕ
moves_text from to texts =
    if nat_lt to from
    then flat_map (move_line (codes "undone: ")) (reverse (between to from texts))
    else if nat_lt from to then flat_map (move_line (codes "redone: ")) (between from to texts) else ok_line
