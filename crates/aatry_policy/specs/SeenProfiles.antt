-- What contracts see of the code's parts.
use Rattle.aa_explain_diff.specs.Sections.{seen_section}
use Rattle.aatry_policy.specs.Parts.{Part}
use Rattle.aatry_policy.specs.declared.parts.Part.{Part as CodePart}

abbrev pub seen_part : CodePart → Part
seen_part part = record {
  name = part.name;
  file = part.file.now;
  section = seen_section part.section;
  places = part.places.now;
}
