-- What a line of the trace is made of: a word, and after it a list of fields. How a line is written
-- and how it is read are both said of this list.
use Rattle.std.specs.Prelude.{ℕ, ◌^◌, ℤ, List, [], ◌∷◌, codes}
use Rattle.bn_types.specs.declared.finish.Finish.{Finish}
use Rattle.bn_types.specs.declared.kind.Kind.{Kind}
use Rattle.bn_types.specs.declared.line.Line.{Line}
use Rattle.bn_types.specs.declared.line.Line.TheVariants as line
use Rattle.bn_types.specs.declared.request.Request.{Request}
use Rattle.bn_model.specs.declared.head.Head.{Head}
use Rattle.bn_model.specs.declared.head.Head.TheVariants.{Out, Deny, Stop, Trap, Launch, Call, Ret}
use Rattle.bn_model.specs.declared.head.Head.TheVariants.{Resume, Evict, Sset, Refuse, Start, Key}
use Rattle.bn_model.specs.declared.head.Head.TheVariants.{Nokey, Poke, Nopoke, Peek, Nopeek, End}

-- ---- fields

pub data Field : Type 0 where
  Decimal : (limit : ℕ) → Field  -- a number below the limit, in decimal
  Byte : Field  -- 2 hexadecimal digits
  Page : Field  -- the number of a virtual page, below 2^52, 13 hexadecimal digits
  Word : Field  -- 64 bits, 16 hexadecimal digits
  Sha : Field  -- the 32 bytes of a digest, 64 hexadecimal digits
  Code : Field  -- the code of a refusal, in decimal with its minus sign
  Access : Field
  Asked : Field
  Ended : Field

-- the number of an event
abbrev pub event : Field
event = Decimal (2 ^ 64)

abbrev pub hart : Field
hart = Decimal (2 ^ 8)

-- the id of a module
abbrev pub owner : Field
owner = Decimal (2 ^ 16)

-- a page of RAM
abbrev pub ram_page : Field
ram_page = Decimal (2 ^ 32)

abbrev pub offset : Field
offset = Decimal (2 ^ 16)

abbrev pub count : Field
count = Decimal (2 ^ 8)

-- what a field tells
abbrev pub ValueOf : Field → Type 0
ValueOf (Decimal limit) = ℕ
ValueOf Byte = ℕ
ValueOf Page = ℕ
ValueOf Word = ℕ
ValueOf Sha = List ℕ
ValueOf Code = ℤ
ValueOf Access = Kind
ValueOf Asked = Request
ValueOf Ended = Finish

-- what some fields tell, in order
abbrev pub Values : List Field → Type 0
Values [] = Unit {0}
Values (field ∷ fields) = ValueOf field × Values fields

-- ---- lines

-- a kind of line: its first word and its fields
pub record Shape : Type 0 where
  pub word : List ℕ
  pub fields : List Field

abbrev pub shape : Head → Shape
shape Out = record { word = codes "out"; fields = event ∷ hart ∷ Byte ∷ [] }
shape Deny = record { word = codes "deny"; fields = event ∷ hart ∷ owner ∷ Access ∷ Page ∷ [] }
shape Stop = record { word = codes "stop"; fields = event ∷ hart ∷ owner ∷ Word ∷ [] }
shape Trap = record { word = codes "trap"; fields = event ∷ hart ∷ Word ∷ Word ∷ [] }
shape Launch = record { word = codes "launch"; fields = event ∷ hart ∷ owner ∷ Sha ∷ [] }
shape Call = record { word = codes "call"; fields = event ∷ hart ∷ owner ∷ owner ∷ Word ∷ [] }
shape Ret = record { word = codes "ret"; fields = event ∷ hart ∷ owner ∷ owner ∷ Word ∷ [] }
shape Resume = record { word = codes "resume"; fields = event ∷ hart ∷ owner ∷ Word ∷ [] }
shape Evict = record { word = codes "evict"; fields = event ∷ hart ∷ owner ∷ count ∷ [] }
shape Sset = record { word = codes "sset"; fields = event ∷ hart ∷ owner ∷ count ∷ [] }
shape Refuse = record { word = codes "refuse"; fields = event ∷ hart ∷ Asked ∷ Code ∷ [] }
shape Start = record { word = codes "start"; fields = event ∷ hart ∷ hart ∷ Word ∷ [] }
shape Key = record { word = codes "key"; fields = event ∷ Byte ∷ [] }
shape Nokey = record { word = codes "nokey"; fields = event ∷ Byte ∷ [] }
shape Poke = record { word = codes "poke"; fields = event ∷ ram_page ∷ offset ∷ Byte ∷ [] }
shape Nopoke = record { word = codes "nopoke"; fields = event ∷ ram_page ∷ offset ∷ [] }
shape Peek = record { word = codes "peek"; fields = event ∷ ram_page ∷ offset ∷ Byte ∷ [] }
shape Nopeek = record { word = codes "nopeek"; fields = event ∷ ram_page ∷ offset ∷ [] }
shape End = record { word = codes "end"; fields = event ∷ Ended ∷ Sha ∷ [] }

abbrev pub word_of : Head → List ℕ
word_of head = (shape head).word

abbrev pub fields_of : Head → List Field
fields_of head = (shape head).fields

-- the kind of a line and what its fields tell
abbrev pub with_parts : {A : Type 0} → Line → ((head : Head) → Values (fields_of head) → A) → A
with_parts (line.Out n h b) make = make Out (n, (h, (b, tt)))
with_parts (line.Deny n h m w v) make = make Deny (n, (h, (m.0, (w, (v.0, tt)))))
with_parts (line.Stop n h m p) make = make Stop (n, (h, (m.0, (p, tt))))
with_parts (line.Trap n h c p) make = make Trap (n, (h, (c, (p, tt))))
with_parts (line.Launch n h m i) make = make Launch (n, (h, (m.0, (i.0, tt))))
with_parts (line.Call n h f m e) make = make Call (n, (h, (f.0, (m.0, (e, tt)))))
with_parts (line.Ret n h m f p) make = make Ret (n, (h, (m.0, (f.0, (p, tt)))))
with_parts (line.Resume n h m p) make = make Resume (n, (h, (m.0, (p, tt))))
with_parts (line.Evict n h m k) make = make Evict (n, (h, (m.0, (k, tt))))
with_parts (line.Sset n h m k) make = make Sset (n, (h, (m.0, (k, tt))))
with_parts (line.Refuse n h w r) make = make Refuse (n, (h, (w, (r, tt))))
with_parts (line.Start n h t p) make = make Start (n, (h, (t, (p, tt))))
with_parts (line.Key n b) make = make Key (n, (b, tt))
with_parts (line.Nokey n b) make = make Nokey (n, (b, tt))
with_parts (line.Poke n g o b) make = make Poke (n, (g.0, (o, (b, tt))))
with_parts (line.Nopoke n g o) make = make Nopoke (n, (g.0, (o, tt)))
with_parts (line.Peek n g o b) make = make Peek (n, (g.0, (o, (b, tt))))
with_parts (line.Nopeek n g o) make = make Nopeek (n, (g.0, (o, tt)))
with_parts (line.End n w d) make = make End (n, (w, (d.0, tt)))

-- the line of that kind which tells this
abbrev pub line_of : (head : Head) → Values (fields_of head) → Line
line_of Out told = line.Out told.0 told.1.0 told.1.1.0
line_of Deny told =
    line.Deny told.0 told.1.0 (record { 0 = told.1.1.0 }) told.1.1.1.0
    (record { 0 = told.1.1.1.1.0 })
line_of Stop told = line.Stop told.0 told.1.0 (record { 0 = told.1.1.0 }) told.1.1.1.0
line_of Trap told = line.Trap told.0 told.1.0 told.1.1.0 told.1.1.1.0
line_of Launch told =
    line.Launch told.0 told.1.0 (record { 0 = told.1.1.0 }) (record { 0 = told.1.1.1.0 })
line_of Call told =
    line.Call told.0 told.1.0 (record { 0 = told.1.1.0 }) (record { 0 = told.1.1.1.0 })
    told.1.1.1.1.0
line_of Ret told =
    line.Ret told.0 told.1.0 (record { 0 = told.1.1.0 }) (record { 0 = told.1.1.1.0 })
    told.1.1.1.1.0
line_of Resume told = line.Resume told.0 told.1.0 (record { 0 = told.1.1.0 }) told.1.1.1.0
line_of Evict told = line.Evict told.0 told.1.0 (record { 0 = told.1.1.0 }) told.1.1.1.0
line_of Sset told = line.Sset told.0 told.1.0 (record { 0 = told.1.1.0 }) told.1.1.1.0
line_of Refuse told = line.Refuse told.0 told.1.0 told.1.1.0 told.1.1.1.0
line_of Start told = line.Start told.0 told.1.0 told.1.1.0 told.1.1.1.0
line_of Key told = line.Key told.0 told.1.0
line_of Nokey told = line.Nokey told.0 told.1.0
line_of Poke told = line.Poke told.0 (record { 0 = told.1.0 }) told.1.1.0 told.1.1.1.0
line_of Nopoke told = line.Nopoke told.0 (record { 0 = told.1.0 }) told.1.1.0
line_of Peek told = line.Peek told.0 (record { 0 = told.1.0 }) told.1.1.0 told.1.1.1.0
line_of Nopeek told = line.Nopeek told.0 (record { 0 = told.1.0 }) told.1.1.0
line_of End told = line.End told.0 told.1.0 (record { 0 = told.1.1.0 })

-- every first word, in the order of the kinds
abbrev pub heads : List Head
heads =
    Out ∷ Deny ∷ Stop ∷ Trap ∷ Launch ∷ Call ∷ Ret ∷ Resume ∷ Evict ∷ Sset ∷ Refuse ∷
    Start ∷ Key ∷ Nokey ∷ Poke ∷ Nopoke ∷ Peek ∷ Nopeek ∷ End ∷ []
