-- What a session keeps of its changes.
use Rattle.std.specs.Prelude.{ℕ, List, [], ◌∷◌, ◌++◌, take}
use Rattle.aa_set_manager.specs.declared.reply.Reply.{Reply}
use Rattle.aa_set_manager.specs.declared.reply.Reply.TheVariants.{Done}

-- What is kept of each change, with one more, where so many changes were done before it: if it was accepted its own follows theirs, and that of
-- those that could be redone is dropped.
abbrev pub kept_with : {A : Type 0} → ℕ → A → Reply → List A → List A
kept_with done own Done list = take done list ++ own ∷ []
kept_with done own _ list = list
