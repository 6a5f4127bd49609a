-- The guest pages as the untrusted world can read them: each page's bytes, or None where a live
-- module declares it.
use Rattle.std.specs.Prelude.{ℕ, List, Option, Some, None, slice_get}
use Rattle.bn_types.specs.Numbers.{number_at}
use Rattle.bn_types.specs.declared.page_state.PageState.{PageState}
use Rattle.bn_types.specs.declared.page_state.PageState.TheVariants.{Outside, Owned, Free}
use Rattle.bn_types.specs.declared.width.Width.TheVariants.{B8}

abbrev pub state_of : Option (Option (List ℕ)) → PageState
state_of None = Outside
state_of (Some None) = Owned
state_of (Some (Some bytes)) = Free

-- what page g is; a page past the list is outside RAM
abbrev pub state_at : List (Option (List ℕ)) → ℕ → PageState
state_at pages g = state_of (slice_get pages g)

abbrev pub word_of : Option (Option (List ℕ)) → ℕ → Option ℕ
word_of None offset = None
word_of (Some None) offset = None
word_of (Some (Some bytes)) offset = Some (number_at B8 bytes offset)

-- the 8-byte word at an offset of page g, where it can be read
abbrev pub word_at : List (Option (List ℕ)) → ℕ → ℕ → Option ℕ
word_at pages g offset = word_of (slice_get pages g) offset

-- how many table words reading one word of such a page takes: three nested entries and the word
-- itself
abbrev pub words_read : PageState → ℕ
words_read Free = 4
words_read Owned = 0
words_read Outside = 0
