-- What the code's names are as the definitions see them, and what comes next in a list of parts.
use Rattle.std.specs.Prelude.{Bool, List, Vec, false, map, true}
use Rattle.aa_text_tokens.specs.SeenSplicedTokens.{seen_spliced}
use Rattle.aa_profile_grammar.specs.Heads.{Named as SeenNamed}
use Rattle.aa_profile_grammar.specs.declared.heads.Named.{Named}
use Rattle.aa_profile_grammar.specs.declared.sequence.Next.{Next}
use Rattle.aa_profile_grammar.specs.declared.sequence.Next.TheVariants.{Item, Nothing, End}

-- what comes next in a list of parts of the code
abbrev pub seen_next : {A B : Type 0} → (A → B) → Next A → Next B
seen_next seen (Item item) = Item (seen item)
seen_next seen Nothing = Nothing
seen_next seen End = End

-- what comes next is the end of the list
abbrev pub is_end : {A : Type 0} → Next A → Bool
is_end End = true
is_end _ = false

abbrev pub seen_named : Named → SeenNamed
seen_named named = record { form = named.form; name = named.name.now; token = seen_spliced named.token }

-- the items of a list of the code
abbrev pub seen_items : {A B C : Type 0} → (A → B) → Vec A C → List B
seen_items seen found = map seen found.items
