-- The results of tests, as the code holds them.
use Rattle.std.specs.Prelude.{map, string_bytes}
use Rattle.aa_text_files.specs.Files.{File}
use Rattle.aatry_test.specs.Below.{Came, came_with}
use Rattle.aatry_test.specs.declared.below.Replacement.{Replacement}
use Rattle.aatry_test.specs.declared.below.Tests.{Tests}

-- a file that is to be replaced, and its new bytes
abbrev pub seen_replacement : Replacement → File
seen_replacement replacement = (string_bytes replacement.path, replacement.text.items)

abbrev pub seen_tests : Tests → Came
seen_tests tests = came_with tests.text.items tests.failed (map seen_replacement tests.replacements.items)
