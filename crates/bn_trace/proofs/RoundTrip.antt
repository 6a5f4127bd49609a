-- Lines written and read back.
use Rattle.std.proofs.Common.{◌≡◌, ℕ, suc, ◌+◌, ◌≤◌, ◌<◌, ◌==◌, ◌&&◌, not, Bool, true, false, List}
use Rattle.std.proofs.Common.{[], ◌∷◌, ◌++◌, append_assoc, length, take, Option, Some, None, Result}
use Rattle.std.proofs.Common.{Ok, Err, nat_lt, refl, sym, ◌∙◌, ap, subst, arith}
use Rattle.std.proofs.lemmas.Bool.{false≢true}
use Rattle.std.proofs.lemmas.Bool.Decides.{nat_tests}
use Rattle.std.proofs.lemmas.Grind.{common_steps}
use Rattle.std.proofs.lemmas.List.Folds.{list_all-append}
use Rattle.std.specs.List.{find, join_with_byte, list_all}
use Rattle.std.specs.Prelude.{codes}
use Rattle.std.proofs.lemmas.Option.{none-some}
use Rattle.std.proofs.lemmas.Slice.Eq.{bytes_eq-Decides}
use Rattle.std.specs.Prelude.{cond}
use Rattle.std.specs.Str.{bytes_eq}
use Rattle.bn_types.proofs.SplittingLemmas.{pieces_joined, some_pieces}
use Rattle.bn_types.specs.Splitting.{split_by}
use Rattle.bn_types.specs.declared.line.Line.{Line}
use Rattle.bn_types.specs.declared.line.Line.TheVariants as line
use Rattle.bn_types.specs.declared.line_fault.LineFault.{LineFault}
use Rattle.bn_model.specs.declared.head.Head.{Head}
use Rattle.bn_model.specs.declared.head.Head.TheVariants as head
use Rattle.bn_model.specs.LineReading.{are_in, bytes_left, end_at, field_at, field_if, first_line}
use Rattle.bn_model.specs.LineReading.{◌>>=◌, head_named, is_in, is_line, line_after, line_headed}
use Rattle.bn_model.specs.LineReading.{line_in, parts_are_in, placed, read_fields, read_of}
use Rattle.bn_model.specs.LineReading.{value_of}
use Rattle.bn_model.specs.LineShapes.{Field, ValueOf, Values, fields_of, heads, line_of, with_parts}
use Rattle.bn_model.specs.LineShapes.{word_of}
use Rattle.bn_model.specs.Spelling.{field_text, fields_text, spelling, spelling_of}
use Rattle.bn_trace.proofs.Fieldwise.{both, field_plain, is_narrow, is_plain, value_again}
use Rattle.bn_trace.proofs.Fieldwise.{value_found}
use Rattle.bn_trace.proofs.ReadingLemmas.{before_more}
use Rattle.bn_trace.specs.Laws.{IsSpelled}

-- ---- texts without a mark, put together and taken apart

abbrev lacks : ℕ → List ℕ → Bool
lacks mark text = list_all (λ byte. not (byte == mark)) text

lacks_if_plain : (mark : ℕ) (text : List ℕ) → mark ≤ 32 → is_plain text ≡ true
    → lacks mark text ≡ true
lacks_if_plain mark [] low h = refl
lacks_if_plain mark (byte ∷ text) low h =
    let parts = both (nat_lt 32 byte) (is_plain text) h in
    let above : 32 < byte = (let t = parts.0 in grind (arith, nat_tests)) in
    let other : (byte == mark) ≡ false = grind (arith, nat_tests) in
    rw other (lacks_if_plain mark text low parts.1)

other_first : (mark byte : ℕ) (text : List ℕ) → lacks mark (byte ∷ text) ≡ true
    → ((byte == mark) ≡ false) × (lacks mark text ≡ true)
other_first mark byte text h = go (byte == mark) refl h
  where
    go : (same : Bool) → (byte == mark) ≡ same → (not same && lacks mark text) ≡ true
        → ((byte == mark) ≡ false) × (lacks mark text ≡ true)
    go true e h = absurd (false≢true h)
    go false e h = (e, h)

split_last : (mark : ℕ) (text : List ℕ) → lacks mark text ≡ true → split_by mark text ≡ text ∷ []
unfolding split_by
split_last mark [] h = refl
split_last mark (byte ∷ text) h =
    let parts = other_first mark byte text h in rw (parts.0, split_last mark text parts.1) refl

split_before : (mark : ℕ) (text more : List ℕ) → lacks mark text ≡ true →
    split_by mark (text ++ (mark ∷ more)) ≡ text ∷ split_by mark more
unfolding split_by
split_before mark [] more h =
    let same : (mark == mark) ≡ true = grind (arith, nat_tests) in rw same refl
split_before mark (byte ∷ text) more h =
    let parts = other_first mark byte text h in
    rw (parts.0, split_before mark text more parts.1) refl

nil_after : (text : List ℕ) → text ++ [] ≡ text
nil_after [] = refl
nil_after (byte ∷ text) = ap (λ (x : List ℕ). byte ∷ x) (nil_after text)

-- ---- fields

abbrev texts : (fields : List Field) → Values fields → List (List ℕ)
texts [] values = []
texts (field ∷ fields) values = field_text field values.0 ∷ texts fields values.1

abbrev narrow : List Field → Bool
narrow fields = list_all is_narrow fields

fields_split : (fields : List Field) (values : Values fields) (word : List ℕ) → narrow fields ≡ true
    → are_in fields values ≡ true →
    is_plain word ≡ true → split_by 32 (word ++ fields_text fields values) ≡
    word ∷ texts fields values
fields_split [] values word small within plain =
    rw (nil_after word) (split_last 32 word (lacks_if_plain 32 word (omega arith) plain))
fields_split (field ∷ fields) values word small within plain =
    let small_parts = both (is_narrow field) (narrow fields) small in
    let parts = both (is_in field values.0) (are_in fields values.1) within in
    let here = field_plain field values.0 small_parts.0 parts.0 in
    split_before 32 word (field_text field values.0 ++ fields_text fields values.1)
    (lacks_if_plain 32 word (omega arith) plain)
    ∙ ap (λ (x : List (List ℕ)). word ∷ x)
    (fields_split fields values.1 (field_text field values.0) small_parts.1 parts.1 here)

fields_again : {A : Type 0} (fields : List Field) (values : Values fields)
    (make : Values fields → A) → narrow fields ≡ true → are_in fields values ≡ true →
    read_fields fields (texts fields values) make ≡ Ok (make values)
unfolding field_at end_at
fields_again [] values make small within = refl
fields_again (field ∷ fields) values make small within =
    let small_parts = both (is_narrow field) (narrow fields) small in
    let parts = both (is_in field values.0) (are_in fields values.1) within in
    rw (value_again field values.0 small_parts.0 parts.0)
    (fields_again fields values.1 (λ rest. make (values.0, rest)) small_parts.1 parts.1)

pub record Found {A : Type 0} (fields : List Field) (pieces : List (List ℕ))
    (make : Values fields → A) (made : A) : Type 0 where
  pub values : Values fields
  pub within : are_in fields values ≡ true
  pub spelled : texts fields values ≡ pieces
  pub is : make values ≡ made

abbrev failed : {A : Type 0} → ℕ → Result A ℕ
failed left = Err left

abbrev done : {A : Type 0} → A → Result A ℕ
done made = Ok made

err-ok : {A : Type 0} (left : ℕ) (made : A) → failed left ≡ done made → ⊥
err-ok left made h = grind arith

ok-ok : {A : Type 0} (a b : A) → done a ≡ done b → a ≡ b
ok-ok a b h = grind arith

fields_found : {A : Type 0} (fields : List Field) (pieces : List (List ℕ))
    (make : Values fields → A) (made : A) →
    read_fields fields pieces make ≡ Ok made → Found fields pieces make made
unfolding field_at end_at
fields_found [] [] make made h =
    record { values = tt; within = refl; spelled = refl; is = ok-ok (make tt) made h }
fields_found [] (piece ∷ pieces) make made h = absurd (err-ok _ made h)
fields_found (field ∷ fields) [] make made h = absurd (err-ok 0 made h)
fields_found {A} (field ∷ fields) (piece ∷ pieces) make made h =
    go (value_of field piece) refl h
    (λ value more. fields_found fields pieces (λ rest. make (value, rest)) made more)
  where
    go : (found : Option (ValueOf field)) → value_of field piece ≡ found →
        (field_if found (piece ∷ pieces) pieces >>=
        (λ read. read_fields fields read.1 (λ rest. make (read.0, rest)))) ≡ Ok made →
        ((value : ValueOf field) → read_fields fields pieces (λ rest. make (value, rest)) ≡ Ok made
        → Found fields pieces (λ rest. make (value, rest)) made) →
        Found (field ∷ fields) (piece ∷ pieces) make made
    go None e same again = absurd (err-ok _ made same)
    go (Some value) e same again =
        let rest = again value same in
        let here = value_found field value piece e in
        record {
          values = (value, rest.values);
          within = rw here.0 rest.within;
          spelled = rw (here.1, rest.spelled) refl;
          is = rest.is;
        }

-- ---- heads

narrow_head : (head : Head) → narrow (fields_of head) ≡ true
narrow_head head.Out = refl
narrow_head _ = refl

plain_head : (head : Head) → is_plain (word_of head) ≡ true
plain_head head.Out = refl
plain_head _ = refl

head_again : (head : Head) → head_named (word_of head) ≡ Some head
unfolding head_named
head_again head.Out = refl
head_again _ = refl

-- ---- lines

parts_line : {A : Type 0} (head : Head) (values : Values (fields_of head))
    (make : (head : Head) → Values (fields_of head) → A) →
    with_parts (line_of head values) make ≡ make head values
parts_line head.Out values make = refl
parts_line _ values make = refl

pub record Parts : Type 0 where
  pub head : Head
  pub values : Values (fields_of head)

parts : Line → Parts
parts line = with_parts line (λ head values. record { head = head; values = values })

spelled_by_parts : (line : Line) → spelling line ≡ spelling_of (parts line).head (parts line).values
unfolding spelling parts
spelled_by_parts (line.Out n h b) = refl
spelled_by_parts _ = refl

within_by_parts : (line : Line) → is_line line ≡ parts_are_in (parts line).head (parts line).values
unfolding is_line parts
within_by_parts (line.Out n h b) = refl
within_by_parts _ = refl

line_by_parts : (line : Line) → line_of (parts line).head (parts line).values ≡ line
unfolding parts
line_by_parts (line.Out n h b) = refl
line_by_parts _ = refl

-- ---- what is spelled is read

lacks_append : (mark : ℕ) (a b : List ℕ) → lacks mark a ≡ true → lacks mark b ≡ true
    → lacks mark (a ++ b) ≡ true
lacks_append mark a b h k = list_all-append (λ byte. not (byte == mark)) a b ∙ rw (h, k) refl

fields_lack : (fields : List Field) (values : Values fields) → narrow fields ≡ true
    → are_in fields values ≡ true →
    lacks 10 (fields_text fields values) ≡ true
fields_lack [] values small within = refl
fields_lack (field ∷ fields) values small within =
    let small_parts = both (is_narrow field) (narrow fields) small in
    let inside = both (is_in field values.0) (are_in fields values.1) within in
    lacks_append 10 (field_text field values.0) (fields_text fields values.1)
    (lacks_if_plain 10 (field_text field values.0) (omega arith)
    (field_plain field values.0 small_parts.0 inside.0))
    (fields_lack fields values.1 small_parts.1 inside.1)

text_of_line : (head : Head) → Values (fields_of head) → List ℕ
text_of_line head values = word_of head ++ fields_text (fields_of head) values

line_in_again : (head : Head) (values : Values (fields_of head)) → parts_are_in head values ≡ true →
    line_in (split_by 32 (text_of_line head values)) ≡ Ok (line_of head values)
unfolding line_after text_of_line
line_in_again head values within =
    rw (
      fields_split (fields_of head) values (word_of head) (narrow_head head) within
          (plain_head head),
      head_again head,
    )
    (fields_again (fields_of head) values (line_of head) (narrow_head head) within)

lacks_feed : (head : Head) (values : Values (fields_of head)) → parts_are_in head values ≡ true
    → lacks 10 (text_of_line head values) ≡ true
unfolding text_of_line
lacks_feed head values within =
    lacks_append 10 (word_of head) (fields_text (fields_of head) values)
    (lacks_if_plain 10 (word_of head) (omega arith) (plain_head head))
    (fields_lack (fields_of head) values (narrow_head head) within)

again_by_parts : (head : Head) (values : Values (fields_of head)) (more : List ℕ)
    → parts_are_in head values ≡ true →
    read_of (spelling_of head values ++ more) ≡
    Ok (line_of head values, length (spelling_of head values))
unfolding read_of text_of_line
again_by_parts head values more within =
    let text = text_of_line head values in
    let joined : (text ++ codes "\n") ++ more ≡ text ++ (10 ∷ more) =
    append_assoc text (codes "\n") more in
    let long : length (text ++ codes "\n") ≡ length text + 1 = grind (arith, common_steps) in
    rw (
      joined,
      split_before 10 text more (lacks_feed head values within),
      before_more text (split_by 10 more) (some_pieces 10 more),
      line_in_again head values within,
      long,
    )
    refl

pub line_again : (line : Line) (more : List ℕ) → is_line line ≡ true
    → read_of (spelling line ++ more) ≡ Ok (line, length (spelling line))
line_again line more within =
    let p = parts line in
    let inside = sym (within_by_parts line) ∙ within in
    ap (λ (t : List ℕ). read_of (t ++ more)) (spelled_by_parts line)
    ∙ again_by_parts p.head p.values more inside
    ∙ ap (λ (l : Line). Ok (l, length (spelling_of p.head p.values))) (line_by_parts line)
    ∙ ap (λ (t : List ℕ). Ok (line, length t)) (sym (spelled_by_parts line))

-- ---- what is read is spelled

joined_texts : (fields : List Field) (values : Values fields) (word : List ℕ) →
    join_with_byte 32 (word ∷ texts fields values) ≡ word ++ fields_text fields values
joined_texts [] values word = sym (nil_after word)
joined_texts (field ∷ fields) values word =
    ap (λ (x : List ℕ). word ++ (32 ∷ x)) (joined_texts fields values.1 (field_text field values.0))

find_holds : (test : Head → Bool) (some : List Head) (head : Head) → find test some ≡ Some head
    → test head ≡ true
find_holds test [] head h = absurd (none-some head h)
find_holds test (first ∷ some) head h = go (test first) refl h (find_holds test some head)
  where
    go : (passes : Bool) → test first ≡ passes
        → cond passes (Some first) (find test some) ≡ Some head →
        (find test some ≡ Some head → test head ≡ true) → test head ≡ true
    go true e same later = let is : first ≡ head = grind arith in rw (sym is) e
    go false e same later = later same

head_found : (word : List ℕ) (head : Head) → head_named word ≡ Some head → word_of head ≡ word
unfolding head_named
head_found word head h =
    let same = find_holds (λ (head : Head). bytes_eq word (word_of head)) heads head h in
    grind (arith, bytes_eq-Decides word (word_of head))

-- the text of a line that was read
record LineFound (text : List ℕ) (line : Line) : Type 0 where
  head : Head
  values : Values (fields_of head)
  within : parts_are_in head values ≡ true
  spelled : text ≡ text_of_line head values
  is : line_of head values ≡ line

after_found : (head : Head) (word : List ℕ) (pieces : List (List ℕ)) (line : Line)
    → word_of head ≡ word →
    line_after head pieces ≡ Ok line → LineFound (join_with_byte 32 (word ∷ pieces)) line
unfolding line_after text_of_line
after_found head word pieces line named h =
    let found = fields_found (fields_of head) pieces (line_of head) line h in
    record {
      head = head;
      values = found.values;
      within = found.within;
      spelled = ap (λ (ps : List (List ℕ)). join_with_byte 32 (word ∷ ps)) (sym found.spelled)
          ∙ ap (λ (w : List ℕ). join_with_byte 32 (w ∷ texts (fields_of head) found.values))
          (sym named)
          ∙ joined_texts (fields_of head) found.values (word_of head);
      is = found.is;
    }

in_found : (pieces : List (List ℕ)) (line : Line) → line_in pieces ≡ Ok line
    → LineFound (join_with_byte 32 pieces) line
in_found [] line h = absurd (err-ok 0 line h)
in_found (word ∷ pieces) line h = go (head_named word) refl h
  where
    go : (named : Option Head) → head_named word ≡ named
        → line_headed named (bytes_left (word ∷ pieces)) pieces ≡ Ok line →
        LineFound (join_with_byte 32 (word ∷ pieces)) line
    go None e same = absurd (err-ok _ line same)
    go (Some head) e same = after_found head word pieces line (head_found word head e) same

taken : (front rest : List ℕ)
    → take (suc (length front)) (front ++ (10 ∷ rest)) ≡ front ++ codes "\n"
taken [] rest = refl
taken (byte ∷ front) rest = ap (λ (x : List ℕ). byte ∷ x) (taken front rest)

spelled_found : (text rest : List ℕ) (line : Line) (len : ℕ) → LineFound text line
    → len ≡ length text + 1 →
    IsSpelled (text ++ (10 ∷ rest)) line len
unfolding spelling is_line text_of_line
spelled_found text rest line len found long =
    let length_is : len ≡ suc (length text) = omega (arith, long) in record {
      ranges = rw (sym found.is) (parts_line found.head found.values parts_are_in ∙ found.within);
      text = rw (
        length_is,
        taken text rest,
        sym found.is,
        parts_line found.head found.values spelling_of,
      )
          (ap (λ (t : List ℕ). t ++ codes "\n") found.spelled);
    }

abbrev faulty : LineFault → Result (Line × ℕ) LineFault
faulty fault = Err fault

fault-ok : (fault : LineFault) (read : Line × ℕ) → faulty fault ≡ Ok read → ⊥
fault-ok fault read h = grind arith

first_found : (texts : List (List ℕ)) (line : Line) (len : ℕ) → first_line texts ≡ Ok (line, len)
    → IsSpelled (join_with_byte 10 texts) line len
first_found [] line len h = absurd (fault-ok _ (line, len) h)
first_found (text ∷ []) line len h = absurd (fault-ok _ (line, len) h)
first_found (text ∷ more ∷ texts) line len h = go (line_in (split_by 32 text)) refl h
  where
    go : (read : Result Line ℕ) → line_in (split_by 32 text) ≡ read
        → placed (length text) read ≡ Ok (line, len) →
        IsSpelled (text ++ (10 ∷ join_with_byte 10 (more ∷ texts))) line len
    go (Err left) e same = absurd (fault-ok _ (line, len) same)
    go (Ok found) e same =
        let is : found ≡ line = grind arith in
        let long : len ≡ length text + 1 = grind arith in
        let whole = in_found (split_by 32 text) line (e ∙ ap Ok is) in
        spelled_found text (join_with_byte 10 (more ∷ texts)) line len
        (subst (λ (t : List ℕ). LineFound t line) (pieces_joined 32 text) whole) long

pub line_found : (text : List ℕ) (line : Line) (len : ℕ) → read_of text ≡ Ok (line, len)
    → IsSpelled text line len
unfolding read_of
line_found text line len h =
    subst (λ (t : List ℕ). IsSpelled t line len) (pieces_joined 10 text)
    (first_found (split_by 10 text) line len h)
