-- Texts without spaces and line feeds, taken apart; and the lines of the trace, which are such.
use Rattle.std.proofs.Common.{◌≡◌, ℕ, zero, suc, ◌+◌, ◌/◌, ◌%◌, ◌<◌, ◌≤◌, ◌==◌, ◌&&◌, ◌∙◌, Bool}
use Rattle.std.proofs.Common.{true}
use Rattle.std.proofs.Common.{false, not, List, [], ◌∷◌, ◌++◌, ℤ, pos, negsuc, ap, append_assoc}
use Rattle.std.proofs.Common.{arith}
use Rattle.std.proofs.Common.{drop, get_or, length, length-append, map, nat_lt, refl, subst, sym}
use Rattle.std.proofs.Common.{⊎_elim}
use Rattle.std.proofs.lemmas.Bool.{cases_lt, false≢true}
use Rattle.std.proofs.lemmas.Bool.Decides.{nat_tests}
use Rattle.std.proofs.lemmas.List.{append_cancel_left, get_or_past}
use Rattle.std.proofs.lemmas.List.Folds.{list_all-append}
use Rattle.std.proofs.lemmas.List.FromFn.{get_or-map-range_with_len}
use Rattle.std.specs.Fmt.{decimal, digit_glyph, digits, digits_onto, signed_decimal}
use Rattle.std.specs.Int.{to_be_bytes, w64}
use Rattle.std.specs.List.{list_all, range_with_len}
use Rattle.std.specs.Prelude.{codes}
use Rattle.hex.specs.Hex.{encode_lower, encode_with, lower_digits}
use Rattle.bn_types.specs.Splitting.{pieces_after, split_by}
use Rattle.bn_types.specs.declared.finish.Finish.TheVariants as finish
use Rattle.bn_types.specs.declared.kind.Kind.TheVariants as kind
use Rattle.bn_types.specs.declared.line.Line.{Line}
use Rattle.bn_types.specs.declared.line.Line.TheVariants as line
use Rattle.bn_types.specs.declared.request.Request.TheVariants as request
use Rattle.bn_model.specs.declared.head.Head.{Head}
use Rattle.bn_model.specs.declared.head.Head.TheVariants as head
use Rattle.bn_model.specs.LineShapes.{Access, Asked, Byte, Code, Decimal, Ended, Field, Page, Sha}
use Rattle.bn_model.specs.LineShapes.{ValueOf, Values, Word, fields_of, word_of}
use Rattle.bn_model.specs.Spelling.{field_text, fields_text, spelling, spelling_of}
use Rattle.bn_model.specs.Spelling.{text_of, word_digits}
use Rattle.bn_model.specs.Summaries.{head_of}

-- ---- texts without spaces and line feeds

abbrev pub is_plain : List ℕ → Bool
is_plain text = list_all (λ byte. nat_lt 32 byte) text

abbrev pub lacks : ℕ → List ℕ → Bool
lacks mark text = list_all (λ byte. not (byte == mark)) text

pub both : (a b : Bool) → (a && b) ≡ true → (a ≡ true) × (b ≡ true)
both true b h = (refl, h)
both false b h = absurd (false≢true h)

pub lacks_if_plain : (mark : ℕ) (text : List ℕ) → mark ≤ 32 → is_plain text ≡ true
    → lacks mark text ≡ true
lacks_if_plain mark [] low h = refl
lacks_if_plain mark (byte ∷ text) low h =
    let parts = both (nat_lt 32 byte) (is_plain text) h in
    let above : 32 < byte = (let t = parts.0 in grind (arith, nat_tests)) in
    let other : (byte == mark) ≡ false = grind (arith, nat_tests) in
    rw other (lacks_if_plain mark text low parts.1)

pub lacks-append : (mark : ℕ) (a b : List ℕ) → lacks mark a ≡ true → lacks mark b ≡ true
    → lacks mark (a ++ b) ≡ true
lacks-append mark a b h g =
    list_all-append (λ byte. not (byte == mark)) a b ∙ rw (h, g) refl

other_first : (mark byte : ℕ) (text : List ℕ) → lacks mark (byte ∷ text) ≡ true
    → ((byte == mark) ≡ false) × (lacks mark text ≡ true)
other_first mark byte text h = go (byte == mark) refl h
  where
    go : (same : Bool) → (byte == mark) ≡ same → (not same && lacks mark text) ≡ true
        → ((byte == mark) ≡ false) × (lacks mark text ≡ true)
    go true e h = absurd (false≢true h)
    go false e h = (e, h)

pub split_last : (mark : ℕ) (text : List ℕ) → lacks mark text ≡ true
    → split_by mark text ≡ text ∷ []
unfolding split_by
split_last mark [] h = refl
split_last mark (byte ∷ text) h =
    let parts = other_first mark byte text h in rw (parts.0, split_last mark text parts.1) refl

pub split_before : (mark : ℕ) (text more : List ℕ) → lacks mark text ≡ true →
    split_by mark (text ++ (mark ∷ more)) ≡ text ∷ split_by mark more
unfolding split_by
split_before mark [] more h =
    let same : (mark == mark) ≡ true = grind (arith, nat_tests) in rw same refl
split_before mark (byte ∷ text) more h =
    let parts = other_first mark byte text h in
    rw (parts.0, split_before mark text more parts.1) refl

abbrev pub glyph : ℕ → ℕ
glyph digit = get_or lower_digits digit 0

-- ---- fields

digits_plain : (k number : ℕ) (more : List ℕ) → is_plain more ≡ true
    → is_plain (digits_onto k 10 false number more) ≡ true
digits_plain zero number more h = h
digits_plain (suc k) number more h =
    go (number / 10 == 0) refl (digits_plain k (number / 10) (digit ∷ more) longer)
  where
    digit : ℕ
    digit = digit_glyph false (number % 10)

    digit_plain : nat_lt 32 digit ≡ true
    digit_plain =
        let below : nat_lt (number % 10) 10 ≡ true =
        (let l : number % 10 < 10 = omega arith in grind (arith, nat_tests)) in
        let above : nat_lt 32 (48 + number % 10) ≡ true = grind (arith, nat_tests) in
        rw below above

    longer : is_plain (digit ∷ more) ≡ true
    longer = rw (digit_plain, h) refl

    go : (last : Bool) → (number / 10 == 0) ≡ last
        → is_plain (digits_onto k 10 false (number / 10) (digit ∷ more)) ≡ true
        → is_plain (digits_onto (suc k) 10 false number more) ≡ true
    go true e rest = rw e longer
    go false e rest = rw e rest

decimal-lacks : (number : ℕ) → lacks 10 (decimal number) ≡ true
unfolding digits
decimal-lacks number =
    lacks_if_plain 10 (decimal number) (omega arith) (digits_plain 64 number [] refl)

glyph-other : (digit : ℕ) → (glyph digit == 10) ≡ false
glyph-other digit = ⊎_elim low high (cases_lt digit 16)
  where
    all : map (λ d. glyph d == 10) (range_with_len 0 16) ≡ map (λ d. false) (range_with_len 0 16)
    all = refl

    low : digit < 16 → (glyph digit == 10) ≡ false
    low h =
        sym (get_or-map-range_with_len (λ d. glyph d == 10) 0 16 digit digit false h (omega arith))
        ∙ ap (λ (found : List Bool). get_or found digit false) all
        ∙ get_or-map-range_with_len (λ d. false) 0 16 digit digit false h (omega arith)

    high : 16 ≤ digit → (glyph digit == 10) ≡ false
    high h = rw (get_or_past lower_digits digit 0 h) refl

hex-lacks : (bytes : List ℕ) → lacks 10 (encode_lower bytes) ≡ true
unfolding encode_with
hex-lacks [] = refl
hex-lacks (byte ∷ bytes) =
    rw (glyph-other (byte / 16), glyph-other (byte % 16)) (hex-lacks bytes)

lacks-drop : (n : ℕ) (text : List ℕ) → lacks 10 text ≡ true → lacks 10 (drop n text) ≡ true
lacks-drop zero text h = h
lacks-drop (suc n) [] h = refl
lacks-drop (suc n) (byte ∷ text) h = lacks-drop n text (both (not (byte == 10)) (lacks 10 text) h).1

signed-lacks : (number : ℤ) → lacks 10 (signed_decimal number) ≡ true
signed-lacks (pos number) = decimal-lacks number
signed-lacks (negsuc number) = decimal-lacks (suc number)

field-lacks : (field : Field) (value : ValueOf field) → lacks 10 (field_text field value) ≡ true
field-lacks (Decimal limit) number = decimal-lacks number
field-lacks Byte byte = hex-lacks (byte ∷ [])
field-lacks Page page = lacks-drop 3 (word_digits page) (hex-lacks (to_be_bytes w64 page))
field-lacks Word word = hex-lacks (to_be_bytes w64 word)
field-lacks Sha digest = hex-lacks digest
field-lacks Code code = signed-lacks code
field-lacks Access kind.Fetch = refl
field-lacks Access kind.Load = refl
field-lacks Access kind.Store = refl
field-lacks Asked request.Launch = refl
field-lacks Asked request.Call = refl
field-lacks Asked request.Evict = refl
field-lacks Asked request.Sset = refl
field-lacks Ended finish.Shutdown = refl
field-lacks Ended finish.Limit = refl

fields-lack : (fields : List Field) (values : Values fields)
    → lacks 10 (fields_text fields values) ≡ true
fields-lack [] values = refl
fields-lack (field ∷ fields) values =
    lacks-append 10 (field_text field values.0) (fields_text fields values.1)
    (field-lacks field values.0) (fields-lack fields values.1)

-- ---- lines

-- a line begins with its word and a space, and its line feed is the only one
pub record IsLineText (head : Head) (text : List ℕ) : Type 0 where
  pub fields : List ℕ
  pub spelled : text ≡ word_of head ++ (32 ∷ fields) ++ (10 ∷ [])
  pub one_line : lacks 10 (word_of head ++ (32 ∷ fields)) ≡ true
  pub one_word : lacks 32 (word_of head) ≡ true

fields-spaced : (head : Head) (values : Values (fields_of head))
    → fields_text (fields_of head) values ≡ 32 ∷ drop 1 (fields_text (fields_of head) values)
fields-spaced head.Out values = refl
fields-spaced _ values = refl

word-lacks : (head : Head) → lacks 10 (word_of head) ≡ true
word-lacks head.Out = refl
word-lacks _ = refl

word-one : (head : Head) → lacks 32 (word_of head) ≡ true
word-one head.Out = refl
word-one _ = refl

parts_text : (head : Head) (values : Values (fields_of head))
    → IsLineText head (spelling_of head values)
parts_text head values =
    let spaced = fields-spaced head values in
    let whole = lacks-append 10 (word_of head) (fields_text (fields_of head) values)
    (word-lacks head) (fields-lack (fields_of head) values) in
    record {
      fields = drop 1 (fields_text (fields_of head) values);
      spelled = ap (λ (fields : List ℕ). word_of head ++ fields ++ codes "\n") spaced;
      one_line = subst (λ (fields : List ℕ). lacks 10 (word_of head ++ fields) ≡ true) spaced whole;
      one_word = word-one head;
    }

line_text : (line : Line) → IsLineText (head_of line) (spelling line)
unfolding spelling
line_text (line.Out n h b) = parts_text head.Out (n, (h, (b, tt)))
line_text (line.Deny n h m w v) = parts_text head.Deny (n, (h, (m.0, (w, (v.0, tt)))))
line_text (line.Stop n h m p) = parts_text head.Stop (n, (h, (m.0, (p, tt))))
line_text (line.Trap n h c p) = parts_text head.Trap (n, (h, (c, (p, tt))))
line_text (line.Launch n h m i) = parts_text head.Launch (n, (h, (m.0, (i.0, tt))))
line_text (line.Call n h f m e) = parts_text head.Call (n, (h, (f.0, (m.0, (e, tt)))))
line_text (line.Ret n h m f p) = parts_text head.Ret (n, (h, (m.0, (f.0, (p, tt)))))
line_text (line.Resume n h m p) = parts_text head.Resume (n, (h, (m.0, (p, tt))))
line_text (line.Evict n h m k) = parts_text head.Evict (n, (h, (m.0, (k, tt))))
line_text (line.Sset n h m k) = parts_text head.Sset (n, (h, (m.0, (k, tt))))
line_text (line.Refuse n h w r) = parts_text head.Refuse (n, (h, (w, (r, tt))))
line_text (line.Start n h t p) = parts_text head.Start (n, (h, (t, (p, tt))))
line_text (line.Key n b) = parts_text head.Key (n, (b, tt))
line_text (line.Nokey n b) = parts_text head.Nokey (n, (b, tt))
line_text (line.Poke n g o b) = parts_text head.Poke (n, (g.0, (o, (b, tt))))
line_text (line.Nopoke n g o) = parts_text head.Nopoke (n, (g.0, (o, tt)))
line_text (line.Peek n g o b) = parts_text head.Peek (n, (g.0, (o, (b, tt))))
line_text (line.Nopeek n g o) = parts_text head.Nopeek (n, (g.0, (o, tt)))
line_text (line.End n w d) = parts_text head.End (n, (w, (d.0, tt)))

pub length_of_line : (line : Line) → 0 < length (spelling line)
length_of_line line =
    let spelled = line_text line in
    let whole = ap length spelled.spelled
    ∙ length-append (word_of (head_of line) ++ (32 ∷ spelled.fields)) (10 ∷ []) in
    omega (arith, whole)

-- ---- the first line of a text

same_first : (a b : List ℕ) (more rest : List (List ℕ)) → a ∷ more ≡ b ∷ rest → a ≡ b
same_first a b more rest e = cc

pub record FirstLine (rest : List Line) (line : Line) (word more : List ℕ) : Type 0 where
  pub word_is : word ≡ word_of (head_of line)
  pub more_is : more ≡ 10 ∷ text_of rest

pub first_line : (text before more word after : List ℕ) (rest : List Line) (line : Line)
    → split_by 10 text ≡ before ∷ pieces_after 10 more → text ≡ before ++ more
    → split_by 32 before ≡ word ∷ pieces_after 32 after
    → text ≡ text_of (line ∷ rest) → FirstLine rest line word more
first_line text before more word after rest line pieces whole words is =
    let spelled = line_text line in
    let name = word_of (head_of line) in
    let body = name ++ (32 ∷ spelled.fields) in
    let text_is : text ≡ body ++ (10 ∷ text_of rest) =
    is ∙ ap (λ (first : List ℕ). first ++ text_of rest) spelled.spelled
    ∙ append_assoc body (10 ∷ []) (text_of rest) in
    let before_is : before ≡ body = same_first before body (pieces_after 10 more)
    (split_by 10 (text_of rest))
    (sym pieces ∙ ap (split_by 10) text_is
    ∙ split_before 10 body (text_of rest) spelled.one_line) in
    record {
      word_is = same_first word name (pieces_after 32 after) (split_by 32 spelled.fields)
          (sym words ∙ ap (split_by 32) before_is
          ∙ split_before 32 name spelled.fields spelled.one_word);
      more_is = append_cancel_left body more (10 ∷ text_of rest)
          (ap (λ (first : List ℕ). first ++ more) (sym before_is) ∙ sym whole ∙ text_is);
    }
