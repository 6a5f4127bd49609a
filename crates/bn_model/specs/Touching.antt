-- Which guest pages an event reads and writes.
use Rattle.std.specs.Prelude.{ℕ, zero, suc, Bool, true, false, flat_map, List, [], ◌∷◌, ◌++◌, map}
use Rattle.std.specs.Prelude.{Option, Some, None, Result, Ok, Err}
use Rattle.bn_types.specs.declared.act.Act.{Act}
use Rattle.bn_types.specs.declared.act.Act.TheVariants as act
use Rattle.bn_types.specs.declared.asker.Asker.{Asker}
use Rattle.bn_types.specs.declared.decl.Decl.{Decl}
use Rattle.bn_types.specs.declared.event.Event.{Event}
use Rattle.bn_types.specs.declared.event.Event.TheVariants.{Turn, Key, Poke, Peek}
use Rattle.bn_types.specs.declared.fault.Fault.{Fault}
use Rattle.bn_types.specs.declared.gpn.Gpn.{Gpn}
use Rattle.bn_types.specs.declared.kind.Kind.{Kind}
use Rattle.bn_types.specs.declared.kind.Kind.TheVariants.{Fetch, Load, Store}
use Rattle.bn_types.specs.declared.launch_refused.LaunchRefused.{LaunchRefused}
use Rattle.bn_types.specs.declared.mod_id.ModId.{ModId}
use Rattle.bn_types.specs.declared.mode.Mode.{Mode}
use Rattle.bn_types.specs.declared.mode.Mode.TheVariants.{U, S}
use Rattle.bn_types.specs.declared.seg_fault.SegFault.{SegFault}
use Rattle.bn_types.specs.declared.seg_page.SegPage.{SegPage}
use Rattle.bn_types.specs.declared.secure.Secure.{Secure}
use Rattle.bn_types.specs.declared.secure.Secure.TheVariants as secure
use Rattle.bn_types.specs.declared.segment.Segment.{Segment}
use Rattle.bn_types.specs.declared.width.Width.{Width}
use Rattle.bn_types.specs.declared.width.Width.TheVariants.{B4}
use Rattle.bn_model.specs.declared.place.Place.{Place}
use Rattle.bn_model.specs.Accessing.{access, is_aligned}
use Rattle.bn_model.specs.Deciding.{asked_of}
use Rattle.bn_model.specs.Decision.{Asked, Nothing, Interrupted, Unfetched, Resuming, Unknown}
use Rattle.bn_model.specs.Decision.{Acting}
use Rattle.bn_model.specs.Launching.{Text, address_of_page, decls_of, is_text_address, text_at}
use Rattle.bn_model.specs.Memory.{Memory, visible}
use Rattle.bn_model.specs.Owners.{is_own}
use Rattle.bn_model.specs.Segments.{segment_of}
use Rattle.bn_model.specs.State.{Hart, State, asker, hart_at, memory, untrusted, value_of}
use Rattle.bn_model.specs.Stepping.{seen_page}
use Rattle.bn_model.specs.Walking.{tables_read, vpn_of}

-- a module, or the untrusted world, touches a guest page: through a virtual page where an
-- instruction is fetched, loads or stores, and through none in a walk, a launch or an access of a
-- device, which are made for the untrusted world
pub record Touch : Type 0 where
  pub who : ModId
  pub vpn : Option ℕ
  pub page : Gpn
  pub kind : Kind

abbrev pub direct : Kind → Gpn → Touch
direct kind page = record { who = untrusted; vpn = None; page = page; kind = kind }

-- ---- accesses

-- the entries that the walk of an address reads, also where it finds no page
abbrev pub touch_of_walk : List (Option (List ℕ)) → (satp va : ℕ) → List Touch
touch_of_walk pages satp va = map (direct Load) (tables_read pages satp va)

-- an access that isn't aligned makes no walk
abbrev pub walk_if : (is_aligned : Bool) → List (Option (List ℕ)) → (satp va : ℕ) → List Touch
walk_if false pages satp va = []
walk_if true pages satp va = touch_of_walk pages satp va

-- the page that it reaches, where it doesn't fail
abbrev pub touch_of_place : Asker → Kind → (va : ℕ) → Result Place Fault → List Touch
touch_of_place who kind va (Err fault) = []
touch_of_place who kind va (Ok place) =
    record { who = who.«module»; vpn = Some (vpn_of va); page = place.page; kind = kind } ∷ []

abbrev pub touch_of_access : Memory → Asker → Kind → (va : ℕ) → Width → List Touch
touch_of_access m who kind va width =
    walk_if (is_aligned kind va width) (visible m) who.satp va ++
    touch_of_place who kind va (access m who kind va width)

-- ---- launches

-- a module's own pages are measured
abbrev pub measured_if : (is_own : Bool) → Gpn → List Touch
measured_if false page = []
measured_if true page = direct Load page ∷ []

abbrev pub touch_of_decl : Decl → List Touch
touch_of_decl decl = measured_if (is_own decl.sort) decl.gpn

abbrev pub touch_of_decls : Result (List Decl) LaunchRefused → List Touch
touch_of_decls (Err refusal) = []
touch_of_decls (Ok decls) = flat_map touch_of_decl decls

abbrev pub touch_of_page : List (Option (List ℕ)) → (satp : ℕ) → SegPage → List Touch
touch_of_page pages satp page = touch_of_walk pages satp (address_of_page page.vpn.0)

-- each declared page is looked up, and those that are measured are read where none is refused
abbrev pub touch_of_segment :
    List (Option (List ℕ)) → (satp : ℕ) → Result Segment SegFault → List Touch
touch_of_segment pages satp (Err seg_fault) = []
touch_of_segment pages satp (Ok segment) =
    flat_map (touch_of_page pages satp) segment.pages.items ++
    touch_of_decls (decls_of pages satp segment)

abbrev pub touch_of_text :
    List (Option (List ℕ)) → (satp : ℕ) → Result Text LaunchRefused → List Touch
touch_of_text pages satp (Err refusal) = []
touch_of_text pages satp (Ok text) =
    direct Load text.page ∷ touch_of_segment pages satp (segment_of text.bytes)

abbrev pub touch_of_launch : List (Option (List ℕ)) → (satp at : ℕ) → List Touch
touch_of_launch pages satp at =
    walk_if (is_text_address at) pages satp at ++ touch_of_text pages satp (text_at pages satp at)

-- launches are made by mode S of the untrusted world
abbrev pub launch_if_kernel :
    (current : ℕ) → Mode → List (Option (List ℕ)) → (satp at : ℕ) → List Touch
launch_if_kernel zero U pages satp at = []
launch_if_kernel zero S pages satp at = touch_of_launch pages satp at
launch_if_kernel (suc m) mode pages satp at = []

-- ---- a turn

abbrev pub touch_of_secure : State → Hart → Secure → List Touch
touch_of_secure s hart (secure.Launch rd at) =
    launch_if_kernel hart.current.0 hart.mode (visible (memory s)) hart.csrs.satp (value_of hart at)
touch_of_secure s hart asked = []

abbrev pub touch_of_act : State → ℕ → Hart → Act → List Touch
touch_of_act s h hart (act.LoadAt va width signed rd) =
    touch_of_access (memory s) (asker h hart) Load va width
touch_of_act s h hart (act.StoreAt va width value) =
    touch_of_access (memory s) (asker h hart) Store va width
touch_of_act s h hart (act.Bastion asked) = touch_of_secure s hart asked
touch_of_act s h hart other = []

abbrev pub touch_of_fetch : State → ℕ → Hart → List Touch
touch_of_fetch s h hart = touch_of_access (memory s) (asker h hart) Fetch hart.pc B4

abbrev pub touch_of_asked : State → ℕ → Hart → Asked → List Touch
touch_of_asked s h hart Nothing = []
touch_of_asked s h hart (Interrupted cause) = []
touch_of_asked s h hart (Unfetched fault) = touch_of_fetch s h hart
touch_of_asked s h hart (Resuming id) = touch_of_fetch s h hart
touch_of_asked s h hart Unknown = touch_of_fetch s h hart
touch_of_asked s h hart (Acting asked) = touch_of_fetch s h hart ++ touch_of_act s h hart asked

abbrev pub touch_of_hart : State → ℕ → Hart → List Touch
touch_of_hart s h hart = touch_of_asked s h hart (asked_of s h hart)

-- ---- an event

-- a device that reaches its byte
abbrev pub touch_of_device : Kind → Gpn → Option (Option (List ℕ)) → List Touch
touch_of_device kind page None = []
touch_of_device kind page (Some None) = []
touch_of_device kind page (Some (Some bytes)) = direct kind page ∷ []

-- what an event touches; an eviction zeroes pages besides
unfoldable pub touch : State → Event → List Touch
touch s (Turn h) = touch_of_hart s h (hart_at s h)
touch s (Key byte) = []
touch s (Poke page offset byte) = touch_of_device Store page (seen_page s page)
touch s (Peek page offset) = touch_of_device Load page (seen_page s page)
