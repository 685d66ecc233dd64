-- What words after `log` name, as the code holds it.
use Rattle.std.specs.Prelude.{option_map, map, string_bytes}
use Rattle.aatry_arguments.specs.LogWords.{LogNamed}
use Rattle.aatry_arguments.specs.declared.log_words.LogNamed.{LogNamed as CodeNamed}

abbrev pub seen_named : CodeNamed → LogNamed
seen_named named = record {
  profile = option_map (λ name. name.items) named.profile;
  since = named.since;
  words = map string_bytes named.words.items;
}
