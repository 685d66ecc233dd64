use Rattle.std.proofs.lemmas.List.Splits.{join_with_byte-slice_split}
use Rattle.aa_bytes.specs.Bytes.{line_feed}
use Rattle.aatry_report.proofs.CaretLemmas.{length-caret_line}
use Rattle.aatry_report.proofs.LineLemmas.{line_at-unbroken, whole_line_at-number}
use Rattle.aatry_report.proofs.PlaceLemmas.{one_place}
use Rattle.aatry_report.proofs.laws.what_places_are.Goals as goal

pub returns-clause-joined : goal.returns-clause-joined
returns-clause-joined c text = join_with_byte-slice_split line_feed text

pub returns-clause-line : goal.returns-clause-line
returns-clause-line c text at = whole_line_at-number text at

pub returns-clause-caret : goal.returns-clause-caret
returns-clause-caret c text at = length-caret_line text at

pub returns-clause-unbroken : goal.returns-clause-unbroken
returns-clause-unbroken c text at = line_at-unbroken text at

pub returns-clause-told : goal.returns-clause-told
returns-clause-told c text at other begins begins_other line column = one_place text at other begins begins_other line column
