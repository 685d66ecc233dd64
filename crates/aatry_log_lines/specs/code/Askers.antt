-- The asker, as the code holds it.
use Rattle.std.specs.Prelude.{option_map}
use Rattle.aatry_log_lines.specs.Lines.{Asker, One, Several}
use Rattle.aatry_log_lines.specs.Values.{seen_text}
use Rattle.aatry_log_lines.specs.declared.lines.Asker.{Asker as CodeAsker}
use Rattle.aatry_log_lines.specs.declared.lines.Asker.TheVariants as code

abbrev pub seen_asker : CodeAsker → Asker
seen_asker (code.One name) = One (option_map seen_text name)
seen_asker code.Several = Several
