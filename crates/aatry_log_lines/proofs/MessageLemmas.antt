-- The bytes of a list of numbers.
use Rattle.std.proofs.Common.{◌≡◌, ◌∙◌, ℕ, List, [], ◌∷◌, ◌++◌, Option, None, Some, append_assoc, ap, refl, sym}
use Rattle.std.specs.Prelude.{option_map}
use Rattle.serde_json.specs.Data.{Data, Items, item}
use Rattle.aatry_log_lines.specs.Messages.{byte_of, bytes_of}

-- bytes behind others
onto : (front : List ℕ) (byte : ℕ) (found : Option (List ℕ))
    → option_map (λ more. (front ++ byte ∷ []) ++ more) found ≡ option_map (λ more. front ++ more) (option_map (λ bytes. byte ∷ bytes) found)
onto front byte None = refl
onto front byte (Some bytes) = ap Some (append_assoc front (byte ∷ []) bytes)

-- the first value is one
first-byte : (value : Data) (values : Items) (byte : ℕ) → byte_of value ≡ Some byte
    → bytes_of (item value values) ≡ option_map (λ bytes. byte ∷ bytes) (bytes_of values)
first-byte value values byte is = rw (is, bytes_of) refl

pub bytes_of_more : (front : List ℕ) (value : Data) (values : Items) (byte : ℕ) → byte_of value ≡ Some byte
    → option_map (λ more. (front ++ byte ∷ []) ++ more) (bytes_of values) ≡ option_map (λ more. front ++ more) (bytes_of (item value values))
bytes_of_more front value values byte is =
    onto front byte (bytes_of values) ∙ ap (option_map (λ more. front ++ more)) (sym (first-byte value values byte is))

-- the first value is none
first-none : (value : Data) (values : Items) → byte_of value ≡ None → bytes_of (item value values) ≡ None
first-none value values is = rw (is, bytes_of) refl

pub bytes_of_none : (front : List ℕ) (value : Data) (values : Items) → byte_of value ≡ None
    → option_map (λ more. front ++ more) (bytes_of (item value values)) ≡ None
bytes_of_none front value values is = ap (option_map (λ more. front ++ more)) (first-none value values is)
