-- The stamp of a line. The kernel writes `audit(SECONDS.MILLISECONDS:SERIAL)` before what it logs, with the seconds since 1970, and auditd `msg=`
-- before that.
use Rattle.std.specs.Prelude.{ℕ, Bool, ◌==◌, nat_lt, if◌then◌else◌, List, Option, None, Some, codes, length, option_and_then, take}
use Rattle.std.specs.List.{position_or_len}
use Rattle.aatry_log_lines.specs.Pairs.{value_of}
use Rattle.aatry_words.specs.Numbers.{number_of}

abbrev pub is_dot : ℕ → Bool
is_dot b = b == 46

-- what follows the opening of a line's first stamp as the kernel writes it, or else as auditd does
abbrev pub stamp_in : List ℕ → Option (List ℕ)
stamp_in line = elim (value_of (codes "audit(") line) [ None ↦ value_of (codes "msg=audit(") line | Some stamp ↦ Some stamp ]

-- the seconds of a stamp: the number before its first dot
abbrev pub seconds_of : List ℕ → Option ℕ
seconds_of stamp = if nat_lt (position_or_len is_dot stamp) (length stamp) then number_of (take (position_or_len is_dot stamp) stamp) else None

-- when a line was logged, where it has a stamp
abbrev pub time_in : List ℕ → Option ℕ
time_in line = option_and_then seconds_of (stamp_in line)
