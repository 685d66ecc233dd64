use Rattle.std.proofs.Common.{◌≡◌, ◌∙◌, ◌++◌, List, ap, map}
use Rattle.std.proofs.lemmas.List.{map-append}
use Rattle.aatry_report.specs.Fields.{Said}
use Rattle.aatry_report.specs.SeenFields.{seen_field}
use Rattle.aatry_requests.specs.Counts.{summary_fields}
use Rattle.aatry_log.proofs.summary.fields_of.Goals as goal

-- the same fields ahead of others
ahead : (first same more : List Said) → first ≡ same → first ++ more ≡ same ++ more
ahead first same more is = ap (λ fields. fields ++ more) is

pub returns : goal.returns
returns c =
    ap (map seen_field) c.in_ok-extend_from_slice.ensures.items ∙ map-append seen_field c.in_ok-fields.fields.items _
    ∙ ahead _ _ _ (c.in_ok-fields.ensures ∙ ap (summary_fields _) c.of_nobody.ensures)
