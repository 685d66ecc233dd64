-- The names of a block's children and hats, with those of one more member.
use Rattle.std.specs.Prelude.{◌++◌, ◌∷◌, [], List, map}
use Rattle.std.specs.Borrow.{Bor}
use Rattle.std.specs.BTreeSet.{BTreeSet}
use Rattle.std.specs.List.{list_any}
use Rattle.aa_profile_grammar.specs.Blocks.{is_child_of_name}
use Rattle.aa_profile_grammar.specs.SeenFiles.{seen_member}
use Rattle.aa_profile_grammar.specs.code.Names.{AreNamesOf}
use Rattle.aa_profile_grammar.specs.declared.blocks.Member.{Member}
use Rattle.std.specs.Prelude.{ℕ}

-- where names were those of some members, others are those of these and of one more
abbrev pub AreNamedWith : BTreeSet (Bor (List ℕ)) → Member → BTreeSet (Bor (List ℕ)) → Type 0
AreNamedWith before member after =
    (items : List Member) → AreNamesOf before (λ name. list_any (is_child_of_name name) (map seen_member items))
    → AreNamesOf after (λ name. list_any (is_child_of_name name) (map seen_member (items ++ member ∷ [])))
