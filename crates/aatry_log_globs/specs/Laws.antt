-- Definitions for the law on wider patterns: these patterns with what their variables stand for.
use Rattle.std.specs.Prelude.{ℕ, List, ◌++◌}
use Rattle.aatry_log_globs.specs.Variables.{bytes_of, front_parts}
use Rattle.aatry_log_globs.specs.Widening.{spelled, widened_rest}

-- the wider pattern for a path, with what the path has in place of each variable
abbrev pub expanded : List ℕ → List ℕ
expanded path = spelled (bytes_of (front_parts path)) ++ widened_rest path
