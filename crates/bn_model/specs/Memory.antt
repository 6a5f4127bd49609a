-- The guest's memory, and what of it the untrusted world can read.
use Rattle.std.specs.Prelude.{ℕ, Bool, true, false, List, [], Option, Some, None}
use Rattle.bn_model.specs.declared.owner.Owner.{Owner}
use Rattle.bn_model.specs.Each.{each}
use Rattle.bn_model.specs.Owners.{is_owned}

-- the guest pages in order, and the live modules that declare some of them
pub record Memory : Type 0 where
  pub pages : List (List ℕ)
  pub owners : List Owner

-- memory while no module is live
abbrev pub unowned : List (List ℕ) → Memory
unowned pages = record { pages = pages; owners = [] }

abbrev pub readable_if : (is_owned : Bool) → List ℕ → Option (List ℕ)
readable_if true bytes = None
readable_if false bytes = Some bytes

abbrev pub readable_page : List Owner → ℕ → List ℕ → Option (List ℕ)
readable_page owners page bytes = readable_if (is_owned owners page) bytes

-- each page's bytes, or None where a live module declares it: what table walks, launches, devices
-- and the public digest go over
unfoldable pub visible : Memory → List (Option (List ℕ))
visible m = each (readable_page m.owners) 0 m.pages
