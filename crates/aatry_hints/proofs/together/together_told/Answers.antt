use Rattle.std.proofs.Common.{IfOk, ◌≡◌, ◌∙◌, ap, map, option_map, string_bytes, subst, sym, ℕ, true, false, List, refl}
use Rattle.std.specs.Prelude.{Option}
use Rattle.std.specs.List.{list_any}
use Rattle.aatry_hints.specs.Parts.{Part, is_given_as, parts}
use Rattle.aatry_hints.specs.Seen.{seen_together}
use Rattle.aatry_hints.specs.Together.{Together, bars_told, first_of, needs_told, together_told}
use Rattle.aatry_hints.proofs.together.together_told.Goals as goal

-- what is told where the flag is given, and where it isn't
with_flag : (together : Together) (ps : List Part) → list_any (is_given_as together.flag) ps ≡ true
    → bars_told together (first_of together.only_without ps) ≡ together_told ps together
with_flag together ps given = rw given refl

without_flag : (together : Together) (ps : List Part) → list_any (is_given_as together.flag) ps ≡ false
    → needs_told together (first_of together.only_with ps) ≡ together_told ps together
without_flag together ps given = rw given refl

pub returns-then-is_given : goal.returns-then-is_given
returns-then-is_given c =
    let together = seen_together c.args.together in
    let ps = parts (map string_bytes c.args.words.now) in
    let given : list_any (is_given_as together.flag) ps ≡ true =
    ap (λ flag. list_any (is_given_as flag) ps) (sym c.as_bytes.ensures.value) ∙ sym c.is_given.ensures ∙ c.if-is_given.true in
    subst (λ (told : Option (List ℕ)). IfOk c.bars_told.result (λ line. option_map (λ line. line.items) line ≡ told))
    (ap (bars_told together) c.first_of.ensures ∙ with_flag together ps given) c.bars_told.ensures

pub returns-else-is_given : goal.returns-else-is_given
returns-else-is_given c =
    let together = seen_together c.args.together in
    let ps = parts (map string_bytes c.args.words.now) in
    let given : list_any (is_given_as together.flag) ps ≡ false =
    ap (λ flag. list_any (is_given_as flag) ps) (sym c.as_bytes.ensures.value) ∙ sym c.is_given.ensures ∙ c.if-is_given.false in
    subst (λ (told : Option (List ℕ)). IfOk c.needs_told.result (λ line. option_map (λ line. line.items) line ≡ told))
    (ap (needs_told together) c.first_of-else-is_given.ensures ∙ without_flag together ps given) c.needs_told.ensures
