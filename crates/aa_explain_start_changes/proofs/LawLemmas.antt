-- Where no start is told to lead elsewhere, all are alike.
use Rattle.std.proofs.Common.{◌≡◌, Bool, true, false, refl, arith}
use Rattle.aa_explain_start_changes.specs.Laws.{NoStartChangeIsHidden}
use Rattle.aa_explain_start_changes.specs.StartChanges.{leads_of}
use Rattle.aa_explain_start_changes.specs.code.Telling.{differs}
use Rattle.aa_explain_start_changes.proofs.SameLemmas.{alike, elsewhere}

pub none-hidden : NoStartChangeIsHidden
none-hidden starters none path owned may = by (differs (leads_of starters owned path)) refl
  where
    by : (b : Bool) → differs (leads_of starters owned path) ≡ b → (leads_of starters owned path).before ≡ (leads_of starters owned path).after
    by true other = absurd (omega (arith, (none.each_path path owned may (elsewhere (leads_of starters owned path) other)).among.1))
    by false same = alike (leads_of starters owned path) same
