-- Wider rules than those on one path.
use Rattle.std.specs.Prelude.{ℕ, List, [], ◌∷◌, ◌++◌, codes, Option}
use Rattle.std.specs.Option.{option_map}
use Rattle.aa_bytes.specs.Bytes.{comma, quote, space}
use Rattle.aa_explain_written.specs.Written.{access_text, owner_text}
use Rattle.aa_profile_data.specs.declared.profile.FileRule.{FileRule}
use Rattle.aatry_log_globs.specs.Widening.{wider}

-- a rule on files with a pattern in place of its own, as a profile's file writes it
abbrev pub rule_with : List ℕ → FileRule → List ℕ
rule_with pattern rule = owner_text rule.owner ++ codes "file " ++ quote ∷ pattern ++ quote ∷ space ∷ access_text rule ++ comma ∷ []

-- the wider rule than one on a path, if something of the path is widened
abbrev pub wider_rule : FileRule → List ℕ → Option (List ℕ)
wider_rule rule path = option_map (λ pattern. rule_with pattern rule) (wider path)
