use Rattle.std.proofs.Common.{◌≡◌, true, false, List, ◌∷◌, ℕ, Option, None, Some, sym}
use Rattle.std.specs.Option.{is_some, option_map}
use Rattle.std.specs.Borrow.{Bor}
use Rattle.aa_profile_data.specs.Stacks.{parts_of, parts_of_rest, stack_of_names}
use Rattle.aa_profile_data.proofs.StackLemmas.{stack-of_parts}
use Rattle.aa_profile_data.proofs.stacks.stack_of_names.Goals as goal

-- a text with more behind its first part is a stack's
named : (text first : List ℕ) (more : Option (Bor (List ℕ))) → parts_of text ≡ first ∷ parts_of_rest (option_map (λ rest. rest.now) more) → is_some more ≡ true
    → stack_of_names (parts_of text) ≡ Some (record { on_base = false; members = parts_of text })
named text first None is some = absurd (cc)
named text first (Some rest) is some = stack-of_parts text first (Some rest.now) is

pub returns : goal.returns
returns c = sym (named c.args.text.now c.first_member.result.0.now c.first_member.result.1 c.first_member.ensures.parts c.if-is_none.ensures)
