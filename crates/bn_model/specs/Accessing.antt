-- Accesses to guest memory. They are judged in this order: a load or store that isn't a multiple of
-- its width, the walk of the guest's tables, RAM, the rule of admission (Privileged ISA,
-- "Supervisor Cause Register", "Virtual Address Translation Process"; the order is this project's
-- own).
use Rattle.std.specs.Prelude.{ℕ, ◌*◌, ◌+◌, ◌%◌, ◌==◌, Bool, true, false, nat_lt, List, length}
use Rattle.std.specs.Prelude.{slice_set, Option, Some, None, Result, Ok, Err}
use Rattle.bn_types.specs.Numbers.{bytes_of, number_at, page_at, with_number}
use Rattle.bn_types.specs.declared.asker.Asker.{Asker}
use Rattle.bn_types.specs.declared.cause.Cause.{Cause}
use Rattle.bn_types.specs.declared.fault.Fault.{Fault}
use Rattle.bn_types.specs.declared.gpn.Gpn.{Gpn}
use Rattle.bn_types.specs.declared.kind.Kind.{Kind}
use Rattle.bn_types.specs.declared.kind.Kind.TheVariants.{Fetch, Load, Store}
use Rattle.bn_types.specs.declared.width.Width.{Width}
use Rattle.bn_model.specs.declared.place.Place.{Place}
use Rattle.bn_model.specs.Admission.{admits}
use Rattle.bn_model.specs.Causes.{instruction_address_misaligned, load_address_misaligned}
use Rattle.bn_model.specs.Causes.{store_address_misaligned}
use Rattle.bn_model.specs.Memory.{Memory, visible}
use Rattle.bn_model.specs.Walking.{Landing, access_fault, guest_page, tables_read, vpn_of, walk_of}

-- ---- where an access comes

-- a load or store goes to a multiple of its width; pc is a multiple of 4 always
abbrev pub is_aligned : Kind → ℕ → Width → Bool
is_aligned Fetch va width = true
is_aligned Load va width = va % bytes_of width == 0
is_aligned Store va width = va % bytes_of width == 0

abbrev pub misaligned : Kind → Cause
misaligned Fetch = instruction_address_misaligned
misaligned Load = load_address_misaligned
misaligned Store = store_address_misaligned

abbrev pub fault : Cause → ℕ → Result Place Fault
fault cause va = Err (record { cause = cause; va = va; denied = None })

-- the rule of admission names the page that it denies
abbrev pub denial : Kind → ℕ → ℕ → Result Place Fault
denial kind va page =
    Err (record { cause = access_fault kind; va = va; denied = Some (record { 0 = page }) })

abbrev pub place_if_admitted : Bool → Kind → ℕ → ℕ → Result Place Fault
place_if_admitted false kind va page = denial kind va page
place_if_admitted true kind va page = Ok (record { page = record { 0 = page }; offset = va % 4096 })

abbrev pub place_if_in_ram : Bool → Memory → Asker → Kind → ℕ → ℕ → Result Place Fault
place_if_in_ram false m who kind va page = fault (access_fault kind) va
place_if_in_ram true m who kind va page =
    place_if_admitted (admits m.owners who.«module».0 (vpn_of va) page kind) kind va page

-- a guest page of RAM
abbrev pub place_on : Memory → Asker → Kind → ℕ → Option ℕ → Result Place Fault
place_on m who kind va None = fault (access_fault kind) va
place_on m who kind va (Some page) = place_if_in_ram (nat_lt page (length m.pages)) m who kind va
    page

-- where the walk leads
abbrev pub place_by_walk : Memory → Asker → Kind → ℕ → Result Landing Cause → Result Place Fault
place_by_walk m who kind va (Err cause) = fault cause va
place_by_walk m who kind va (Ok landing) = place_on m who kind va (guest_page landing.ppn)

-- the walk of the guest's tables
abbrev pub walk_by : Memory → Asker → Kind → ℕ → Result Landing Cause
walk_by m who kind va = walk_of (visible m) who.satp va kind who.mode who.sum who.mxr

abbrev pub place_if_aligned : Bool → Memory → Asker → Kind → ℕ → Result Place Fault
place_if_aligned false m who kind va = fault (misaligned kind) va
place_if_aligned true m who kind va = place_by_walk m who kind va (walk_by m who kind va)

-- the place that an access of a kind and width reaches, or how it fails
unfoldable pub access : Memory → Asker → Kind → ℕ → Width → Result Place Fault
access m who kind va width = place_if_aligned (is_aligned kind va width) m who kind va

-- ---- the table words that it reads

-- for each table of the guest's walk three of the nested tables and the entry itself
abbrev pub guest_words_if : Bool → List Gpn → ℕ
guest_words_if false tables = 0
guest_words_if true tables = 4 * length tables

unfoldable pub guest_words : Memory → Asker → Kind → ℕ → Width → ℕ
guest_words m who kind va width =
    guest_words_if (is_aligned kind va width) (tables_read (visible m) who.satp va)

-- three of the nested tables for the page that it reaches
abbrev pub page_words : Result Place Fault → ℕ
page_words (Err refusal) = 0
page_words (Ok place) = 3

abbrev pub words_of_access : Memory → Asker → Kind → ℕ → Width → ℕ
words_of_access m who kind va width =
    guest_words m who kind va width + page_words (access m who kind va width)

-- ---- what it reads or writes there

-- the number of this width that stands at a place
abbrev pub number_on : List (List ℕ) → Width → Place → ℕ
number_on pages width place = number_at width (page_at pages place.page.0) place.offset

-- the pages with the low bytes of a value at a place
abbrev pub pages_with : List (List ℕ) → Width → ℕ → Place → List (List ℕ)
pages_with pages width value place =
    slice_set pages place.page.0 (with_number width (page_at pages place.page.0) place.offset value)

-- what a fetch or a load gives
abbrev pub answer_of_load : List (List ℕ) → Width → Result Place Fault → Result ℕ Fault
answer_of_load pages width (Err refusal) = Err refusal
answer_of_load pages width (Ok place) = Ok (number_on pages width place)

-- the pages that a store leaves
abbrev pub pages_after_store : List (List ℕ) → Width → ℕ → Result Place Fault → List (List ℕ)
pages_after_store pages width value (Err refusal) = pages
pages_after_store pages width value (Ok place) = pages_with pages width value place
