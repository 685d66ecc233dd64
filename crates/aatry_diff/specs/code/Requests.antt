-- Requests by their file, if there is one.
use Rattle.std.specs.Prelude.{List, Option, option_map}
use Rattle.aa_text_files.specs.Files.{File, bytes_at}
use Rattle.aatry_requests.specs.Gathering.{Gathered, gathered}
use Rattle.aatry_requests.specs.declared.sources.Source.{Source}

-- what is gathered of a file in this form
abbrev pub gathered_of : Option (Source × List File) → Option Gathered
gathered_of found = option_map (λ f. gathered f.0 (bytes_at f.1 0)) found
