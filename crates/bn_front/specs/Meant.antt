-- The words, and what they order, as the definitions have it.
use Rattle.std.specs.Prelude.{◌≡◌, ◌≤◌, IfSome, ℕ, true, false, List, map, Option, Some, None}
use Rattle.std.specs.Prelude.{option_map, Result, Ok, Err, Vec}
use Rattle.std.specs.Borrow.{Bor}
use Rattle.std.specs.String.{string_bytes}
use Rattle.std.specs.List.{list_all}
use Rattle.std.specs.declared.alloc.Global.{Global}
use Rattle.bn_types.specs.declared.mod_id.ModId.{ModId}
use Rattle.bn_model.specs.CommandLines as flat
use Rattle.bn_model.specs.Running.{Blind}
use Rattle.bn_front.specs.declared.order.Order.{Order}
use Rattle.bn_front.specs.declared.order.Order.TheVariants as order
use Rattle.bn_front.specs.declared.run_order.RunOrder.{RunOrder}
use Rattle.bn_front.specs.declared.run_order_ref.RunOrderRef.{RunOrderRef}
use Rattle.bn_front.specs.declared.words_error.WordsError.{WordsError}
use Rattle.bn_front.specs.declared.words_error.WordsError.TheVariants as error

-- the words as lists of bytes
abbrev pub bytes_of_words : List (Vec ℕ Global) → List (List ℕ)
bytes_of_words words = map (λ word. word.items) words

abbrev pub bytes_of_texts : List (Bor (List ℕ)) → List (List ℕ)
bytes_of_texts texts = map (λ text. text.now) texts

-- An answer is what a definition has: a value where there is one, a refusal where there is none.
-- Want of memory may come in place of both.
abbrev pub Answers : {A B : Type 0} → (A → B) → Option B → Result A WordsError → Type 0
Answers meant expected (Ok value) = expected ≡ Some (meant value)
Answers meant expected (Err error.Words) = expected ≡ None
Answers meant expected (Err error.Memory) = Unit {0}

-- the words as texts, where each is a text that isn't empty
abbrev pub reads_texts : List (List ℕ) → Result (Vec (Bor (List ℕ)) Global) WordsError → Type 0
reads_texts words (Ok texts) =
    (list_all flat.is_some_text words ≡ true) × (bytes_of_texts texts.items ≡ words)
reads_texts words (Err error.Words) = list_all flat.is_some_text words ≡ false
reads_texts words (Err error.Memory) = Unit {0}

-- ---- orders

abbrev pub blind_meant : ModId × ℕ → Blind
blind_meant blind = record { blinded = blind.0; event = blind.1 }

abbrev pub run_meant : RunOrderRef → flat.RunOrder
run_meant run = record {
  image = run.image.now;
  ram_pages = run.ram_pages;
  harts = run.harts;
  steps = run.steps;
  script = option_map (λ name. name.now) run.script;
  is_stored = run.store;
  blind = option_map (λ blind. blind_meant blind) run.blind;
  moves = run.moves;
}

abbrev pub own_meant : RunOrder → flat.RunOrder
own_meant run = record {
  image = string_bytes run.image;
  ram_pages = run.ram_pages;
  harts = run.harts;
  steps = run.steps;
  script = option_map (λ name. string_bytes name) run.script;
  is_stored = run.store;
  blind = option_map (λ blind. blind_meant blind) run.blind;
  moves = run.moves;
}

abbrev pub order_meant : Order → flat.Order
order_meant (order.Run run) = flat.Run (own_meant run)
order_meant (order.Gen number) = flat.Gen number

-- ---- what an order is set to

-- a module that is none of the untrusted world, and an event that a run can have
abbrev pub CanBlind : Blind → Type 0
CanBlind blind = (1 ≤ blind.blinded.0) × (blind.event ≤ 1000000000)

pub record IsInRange (run : flat.RunOrder) : Type 0 where
  pub least_pages : 16 ≤ run.ram_pages
  pub most_pages : run.ram_pages ≤ 4096
  pub some_harts : 1 ≤ run.harts
  pub few_harts : run.harts ≤ 4
  pub most_steps : run.steps ≤ 1000000000
  pub still : run.moves ≡ 0
  pub blinds : IfSome run.blind (λ blind. CanBlind blind)

abbrev pub AreInRange : flat.Order → Type 0
AreInRange (flat.Run run) = IsInRange run
AreInRange (flat.Gen number) = Unit {0}
