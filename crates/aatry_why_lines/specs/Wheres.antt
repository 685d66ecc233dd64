-- Where a rule is written, in the definitions' eyes.
use Rattle.aatry_report.specs.Fields.{Place, Said}
use Rattle.aatry_why_lines.specs.declared.lines.Where.{Where}

abbrev pub seen_where : Where → Said
seen_where found = Place found.path.items found.place
