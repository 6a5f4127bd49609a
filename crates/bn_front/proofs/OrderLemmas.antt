-- What words order is in its range.
use Rattle.std.proofs.Common.{◌≡◌, ℕ, ◌-◌, ◌≤◌, ◌^◌, ◌&&◌, Bool, true, false, nat_le, List, [], ◌∷◌}
use Rattle.std.proofs.Common.{Option, Some, None, option_map, refl, subst, arith}
use Rattle.std.proofs.Common.{leb-true}
use Rattle.std.proofs.lemmas.Bool.{and_parts}
use Rattle.std.proofs.lemmas.Option.{none-some, same_Some}
use Rattle.std.specs.List.{list_all}
use Rattle.std.specs.Str.Parse.{digits_value}
use Rattle.bn_model.specs.CommandLines as flat
use Rattle.bn_model.specs.CommandLines.{RunOrder}
use Rattle.bn_front.specs.Tasks.{Running, Task, task_by, task_of}

-- ---- the machine of an order

pub record IsSized (order : RunOrder) : Type 0 where
  pub least_pages : 16 ≤ order.ram_pages
  pub most_pages : order.ram_pages ≤ 4096
  pub some_harts : 1 ≤ order.harts
  pub few_harts : order.harts ≤ 4

abbrev AreSized : Option flat.Order → Type 0
AreSized None = Unit {0}
AreSized (Some (flat.Run order)) = IsSized order
AreSized (Some (flat.Gen number)) = Unit {0}

between : (least most n : ℕ) (value : List ℕ) → flat.number_between least most value ≡ Some n
    → (least ≤ n) × (n ≤ most)
unfolding flat.number_between
between least most n value e =
    by_test (flat.is_number value && flat.is_between least most (digits_value 10 value)) refl e
  where
    by_test : (b : Bool)
        → (flat.is_number value && flat.is_between least most (digits_value 10 value)) ≡ b
        → flat.number_if b (digits_value 10 value) ≡ Some n → (least ≤ n) × (n ≤ most)
    by_test true t is =
        let same = same_Some (digits_value 10 value) n is in
        let range = (and_parts (flat.is_number value)
        (flat.is_between least most (digits_value 10 value)) t).1 in
        let parts = and_parts (nat_le least (digits_value 10 value))
        (nat_le (digits_value 10 value) most) range in
        let low = leb-true least (digits_value 10 value) parts.0 in
        let high = leb-true (digits_value 10 value) most parts.1 in
        (omega (arith, same, low), omega (arith, same, high))
    by_test false t is = absurd (none-some n is)

given : (absent least most n : ℕ) (values : List (List ℕ)) → least ≤ absent → absent ≤ most
    → flat.at_most_one absent (flat.number_between least most) values ≡ Some n
    → (least ≤ n) × (n ≤ most)
given absent least most n [] low high e =
    subst (λ (m : ℕ). (least ≤ m) × (m ≤ most)) (same_Some absent n e) (low, high)
given absent least most n (value ∷ []) low high e = between least most n value e
given absent least most n (value ∷ other ∷ values) low high e = absurd (none-some n e)

then_sized : {A : Type 0} (read : Option A) (next : A → Option flat.Order)
    → ((value : A) → read ≡ Some value → AreSized (next value))
    → AreSized (flat.◌>>=◌ read next)
then_sized None next sized = tt
then_sized (Some value) next sized = sized value refl

run_sized : (items : List flat.Item) → AreSized (flat.run_of items)
unfolding flat.run_of
run_sized items =
    then_sized (flat.only_one (flat.plain_words items)) _ (λ image named.
    then_sized (flat.at_most_one 1024 (flat.number_between 16 4096)
    (flat.values_of flat.Ram items)) _ (λ ram ram_is.
    then_sized (flat.at_most_one 1 (flat.number_between 1 4)
    (flat.values_of flat.Harts items)) _ (λ harts harts_is.
    let pages_in = given 1024 16 4096 ram (flat.values_of flat.Ram items) (omega arith)
    (omega arith) ram_is in
    let harts_in = given 1 1 4 harts (flat.values_of flat.Harts items) (omega arith)
    (omega arith) harts_is in
    then_sized (flat.at_most_one 1000000 (flat.number_between 0 1000000000)
    (flat.values_of flat.Steps items)) _ (λ steps steps_is.
    then_sized (flat.at_most_one None flat.file_of (flat.values_of flat.ScriptFile items)) _
    (λ script script_is.
    then_sized (flat.at_most_one false flat.flag_of (flat.values_of flat.Store items)) _
    (λ is_stored stored_is.
    then_sized (flat.at_most_one None flat.blind_of (flat.values_of flat.Blinding items)) _
    (λ blind blind_is.
    then_sized (flat.at_most_one 0 (flat.number_between 0 1000000000)
    (flat.values_of flat.Moves items)) _ (λ moves moves_is. record {
      least_pages = pages_in.0;
      most_pages = pages_in.1;
      some_harts = harts_in.0;
      few_harts = harts_in.1;
    }))))))))

gen_sized : (items : List flat.Item) → AreSized (flat.gen_of items)
unfolding flat.gen_of
gen_sized items =
    then_sized (flat.only_one (flat.plain_words items)) _
    (λ word is. by_number (flat.number_between 0 (2 ^ 64 - 1) word))
  where
    by_number : (number : Option ℕ) → AreSized (option_map flat.Gen number)
    by_number None = tt
    by_number (Some number) = tt

order_sized : (names : List flat.Name) (words : List (List ℕ))
    → AreSized (flat.order_among names words)
unfolding flat.order_among
order_sized names words = by_texts (list_all flat.is_some_text words) words where
  by_tool : (tool : flat.Tool) (rest : List (List ℕ)) → AreSized (flat.order_by names tool rest)
  by_tool flat.Running rest =
      then_sized (flat.items_from names flat.Free rest) flat.run_of (λ items is. run_sized items)
  by_tool flat.Generating rest =
      then_sized (flat.items_from [] flat.Free rest) flat.gen_of (λ items is. gen_sized items)

  by_texts : (b : Bool) (all : List (List ℕ)) → AreSized (flat.order_if b names all)
  by_texts false all = tt
  by_texts true [] = tt
  by_texts true (word ∷ rest) = then_sized (flat.tool_of word) _ (λ tool is. by_tool tool rest)

-- ---- the run of words

same_run : (one other : RunOrder) → ◌≡◌ {A = Task} (Running one) (Running other) → one ≡ other
same_run one other e = cc

pub run_is_sized : (words : List (List ℕ)) (order : RunOrder) → task_of words ≡ Running order
    → IsSized order
unfolding task_of
run_is_sized words order e =
    by_order (flat.order_among flat.still_names words) (order_sized flat.still_names words) e
  where
    by_order : (ordered : Option flat.Order) → AreSized ordered
        → task_by ordered ≡ Running order → IsSized order
    by_order None sized is = absurd cc
    by_order (Some (flat.Gen number)) sized is = absurd cc
    by_order (Some (flat.Run other)) sized is = subst IsSized (same_run other order is) sized
