-- What contracts see of a part of the code, of a value, and of options that go together.
use Rattle.std.specs.Prelude.{map, option_map}
use Rattle.aatry_hints.specs.Parts.{Given, Part, Plain}
use Rattle.aatry_hints.specs.Together.{Together}
use Rattle.aatry_hints.specs.Values.{BadValue}
use Rattle.aatry_hints.specs.declared.parts.Part.{Part as CodePart}
use Rattle.aatry_hints.specs.declared.parts.Part.TheVariants as code
use Rattle.aatry_hints.specs.declared.together.Together.{Together as CodeTogether}
use Rattle.aatry_hints.specs.declared.values.BadValue.{BadValue as CodeBad}

-- a part of the code
abbrev pub seen_part : CodePart → Part
seen_part (code.Given name value) = Given name.now (option_map (λ value. value.now) value)
seen_part (code.Plain word) = Plain word.now

-- an option of the code with a value that it doesn't take
abbrev pub seen_bad : CodeBad → BadValue
seen_bad bad = record { name = bad.name.now; value = bad.value.now }

-- options of the code that go with a flag, and those that don't
abbrev pub seen_together : CodeTogether → Together
seen_together together = record {
  command = together.command.now;
  flag = together.flag.now;
  only_with = map (λ name. name.now) together.only_with.now;
  only_without = map (λ name. name.now) together.only_without.now;
}
