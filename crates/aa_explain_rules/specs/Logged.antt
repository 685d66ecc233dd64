-- The rules by which an answer is logged.
use Rattle.std.specs.Prelude.{Bool, true, false, not, ◌&&◌, ◌==◌, List}
use Rattle.std.specs.List.{list_any}
use Rattle.aa_explain_rules.specs.declared.told.ToldRule.{ToldRule}

-- a reported rule covers some of the request's needs
abbrev pub does_something : ToldRule → Bool
does_something rule = not (rule.covered.0 == 0)

-- some of the rules deny some of the request's needs
abbrev pub is_denied : List ToldRule → Bool
is_denied told = list_any (λ rule. does_something rule && rule.denies) told

-- What is logged is what audited rules deny, where something is denied, and else what they allow.
abbrev pub is_logged : Bool → ToldRule → Bool
is_logged true rule = does_something rule && (rule.audited && rule.denies)
is_logged false rule = does_something rule && (rule.audited && not rule.denies)

-- some of the request's needs are logged by a reported rule
abbrev pub some_is_logged : List ToldRule → Bool
some_is_logged told = list_any (is_logged (is_denied told)) told
