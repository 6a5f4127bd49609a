-- What the answers of a store say.
use Rattle.std.specs.Prelude.{◌≡◌, ℕ, ◌+◌, ◌*◌, ◌-◌, List, [], ◌∷◌, drop, Option, Some, None}
use Rattle.std.specs.Prelude.{Result, Ok, Err}
use Rattle.bn_types.specs.declared.record.Record.{Record}
use Rattle.bn_types.specs.declared.set_refused.SetRefused.{SetRefused}
use Rattle.bn_model.specs.StoredImages.{Malformed, order_fault_after, stored}
use Rattle.bn_store.specs.declared.image_error.ImageError.{ImageError}
use Rattle.bn_store.specs.declared.image_error.ImageError.TheVariants as error

-- the refusal of a set
abbrev pub refusal_of : {A : Type 0} → Result A SetRefused → Option SetRefused
refusal_of (Ok answer) = None
refusal_of (Err refusal) = Some refusal

-- a text is malformed where its reading says so; want of memory says nothing
abbrev pub IsImageFault : List ℕ → ImageError → Type 0
IsImageFault text (error.Malformed at) = stored text ≡ Malformed at
IsImageFault text error.Memory = Unit {0}

-- the first identity from a number on that isn't above the one before
abbrev pub order_fault_at : ℕ → List Record → Option ℕ
order_fault_at number [] = None
order_fault_at number (low ∷ rest) = order_fault_after (16 + 288 * number) low.who rest

abbrev pub order_fault_from : ℕ → List Record → Option ℕ
order_fault_from number records = order_fault_at number (drop (number - 1) records)
