-- What words after `never` and `always` name, as the code holds it.
use Rattle.std.specs.Prelude.{map, string_bytes}
use Rattle.aatry_arguments.specs.PathsWords.{PathsLimited}
use Rattle.aatry_arguments.specs.declared.paths_words.PathsLimited.{PathsLimited as CodeLimited}

abbrev pub seen_limited : CodeLimited → PathsLimited
seen_limited limited = record { limit = limited.limit; words = map string_bytes limited.words.items }
