-- What AppArmor's own variables stand for at the beginning of a path.
use Rattle.std.specs.Prelude.{ℕ, ◌+◌, Bool, not, ◌==◌, if◌then◌else◌, List, [], ◌∷◌, codes, drop, flat_map, take}
use Rattle.std.specs.List.{prefix_len}
use Rattle.aa_bytes.specs.Bytes.{is_digit, slash}
use Rattle.aa_bytes.specs.Texts.{begins_with, begins_with_byte}

-- how many bytes of a kind a text begins with, if a slash follows them; else 0
abbrev pub size_before_slash : (ℕ → Bool) → List ℕ → ℕ
size_before_slash kind text = if begins_with_byte slash (drop (prefix_len kind text) text) then prefix_len kind text else 0

-- how many bytes a name, or a number, has between a front and a slash; 0, where nothing of the kind is there
abbrev pub size_behind : List ℕ → (ℕ → Bool) → List ℕ → ℕ
size_behind front kind text = if begins_with front text then size_before_slash kind (drop 6 text) else 0

abbrev pub is_of_name : ℕ → Bool
is_of_name b = not (b == slash)

-- the number of the process below whose folder of `/proc` a path lies, and that of its task
abbrev pub process_size : List ℕ → ℕ
process_size path = size_behind (codes "/proc/") is_digit path

abbrev pub task_size : List ℕ → ℕ
task_size text = size_behind (codes "/task/") is_digit text

-- the name of whom the home folder is that a path lies in
abbrev pub name_size : List ℕ → ℕ
name_size path = size_behind (codes "/home/") is_of_name path

-- how many bytes the home folder has that a path lies in: `/home/NAME`, or `/root`; 0, where it lies in none
abbrev pub home_size : List ℕ → ℕ
home_size path = if begins_with (codes "/root/") path then 5 else if name_size path == 0 then 0 else 6 + name_size path

-- a part of a path, and what is in its place in a pattern: a variable, or the part itself
pub record Part : Type 0 where
  pub text : List ℕ
  pub bytes : List ℕ

abbrev pub part_in : List ℕ → List ℕ → Part
part_in text bytes = record { text = text; bytes = bytes }

abbrev pub same_part : List ℕ → Part
same_part bytes = part_in bytes bytes

-- the parts of what a text after the folder of a process begins with: the folder of a task
abbrev pub task_parts : List ℕ → List Part
task_parts text =
    if task_size text == 0 then [] else
    same_part (codes "/task/") ∷ part_in (codes "@{tid}") (take (task_size text) (drop 6 text)) ∷ []

-- the parts of the folder of a process that a path lies in
abbrev pub process_parts : List ℕ → List Part
process_parts path =
    if process_size path == 0 then [] else
    part_in (codes "@{PROC}") (codes "/proc") ∷ same_part (codes "/") ∷ part_in (codes "@{pid}") (take (process_size path) (drop 6 path))
    ∷ task_parts (drop (6 + process_size path) path)

-- the parts of what a path begins with: of a home folder, or of the folder of a process; none, where it lies in neither
abbrev pub front_parts : List ℕ → List Part
front_parts path = if home_size path == 0 then process_parts path else part_in (codes "@{HOME}") (take (home_size path) path) ∷ []

-- parts as a pattern has them, and as the path has them
abbrev pub texts_of : List Part → List ℕ
texts_of parts = flat_map (λ part. part.text) parts

abbrev pub bytes_of : List Part → List ℕ
bytes_of parts = flat_map (λ part. part.bytes) parts
