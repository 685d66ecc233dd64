-- Some rule is in a group where there are places of its rules.
use Rattle.std.proofs.Common.{◌≡◌, Bool, true, false, not, List, [], ◌∷◌, refl}
use Rattle.std.specs.List.{filter, list_any}
use Rattle.aa_bytes.specs.Texts.{is_empty}
use Rattle.aa_explain_rules.specs.Laws.{places_of}
use Rattle.aa_explain_rules.specs.Logged.{is_denied, is_logged, some_is_logged}
use Rattle.aa_explain_rules.specs.declared.told.ToldRule.{ToldRule}
use Rattle.aatry_why_lines.specs.Groups.{places_in}
use Rattle.aatry_why_lines.specs.declared.groups.Group.TheVariants.{Auditing}

some-place : (test : ToldRule → Bool) (told : List ToldRule) → list_any test told ≡ not (is_empty (places_of (filter test told)))
some-place test [] = refl
some-place test (rule ∷ rules) = by (test rule) refl (some-place test rules)
  where
    by : (b : Bool) → test rule ≡ b → list_any test rules ≡ not (is_empty (places_of (filter test rules)))
        → list_any test (rule ∷ rules) ≡ not (is_empty (places_of (filter test (rule ∷ rules))))
    by true e rest = rw e refl
    by false e rest = rw e rest

pub some-audits : (told : List ToldRule) → some_is_logged told ≡ not (is_empty (places_in (Auditing (is_denied told)) told))
some-audits told = by (is_denied told)
  where
    by : (b : Bool) → list_any (is_logged b) told ≡ not (is_empty (places_in (Auditing b) told))
    by true = some-place (is_logged true) told
    by false = some-place (is_logged false) told
