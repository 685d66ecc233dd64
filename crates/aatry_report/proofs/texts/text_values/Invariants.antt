use Rattle.std.proofs.Common.{◌≡◌, ◌++◌, drop, map}
use Rattle.aatry_report.specs.Records.{text_data}
use Rattle.aatry_report.proofs.texts.text_values.Given as goal
use Rattle.serde_json.specs.View.{view}

-- the values so far, with those of the texts that are left, are all
abbrev pub invariant-loop-text : goal.invariant-loop-text
invariant-loop-text l = map view l.values.items ++ map text_data (map (λ text. text.now) (drop l.text-index l.texts)) ≡ map text_data (map (λ text. text.now) l.texts)
