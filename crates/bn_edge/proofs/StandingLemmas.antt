-- How a vault in memory goes on: its texts grow, and one moment more joins the others.
use Rattle.std.proofs.Common.{◌≡◌, ℕ, zero, suc, ◌+◌, ◌*◌, ◌<◌, ◌≤◌, ◌⊎◌, inl, inr, ⊎_elim, Bool}
use Rattle.std.proofs.Common.{true, false, ◌||◌, List, [], ◌∷◌, ◌++◌, All, length, take, drop, refl}
use Rattle.std.proofs.Common.{sym, ◌∙◌, ap, subst, arith, length-append, length-drop}
use Rattle.std.proofs.lemmas.List.{append-nil, take-append-le, drop-append-le, length-take-le}
use Rattle.std.proofs.lemmas.List.Elements.{All-nil, All-cons, All-head, All-tail, All-drop}
use Rattle.std.proofs.lemmas.List.Elements.{All-push, All-weaker}
use Rattle.bn_edge.specs.Areas.{Areas, area_room, area_at, other_area, with_area, IsTorn}
use Rattle.bn_edge.specs.Crashes.{Elapses}
use Rattle.bn_edge.specs.Standings.{account_at, text_at, areas_at, span_of, with_span, synced}
use Rattle.bn_edge.specs.Standings.{is_loose, LeavesText, LeavesText-itself, Leaves, HadLeft}
use Rattle.bn_edge.specs.Standings.{LeftSince, IsText, AreTexts, due, IsKept}
use Rattle.bn_edge.specs.declared.area.Area.{Area}
use Rattle.bn_edge.specs.declared.area.Area.TheVariants.{First, Second}
use Rattle.bn_edge.specs.declared.span.Span.{Span}
use Rattle.bn_edge.specs.declared.standing.Standing.{Standing}

-- ---- texts that grew keep their places

text_kept : (texts more : List ℕ) (span : Span) → IsText texts span → text_at (texts ++ more) span ≡ text_at texts span
text_kept texts more span is =
    ap (take span.len) (drop-append-le span.at texts more (omega (arith, is.inside)))
    ∙ take-append-le span.len (drop span.at texts) more (omega (arith, is.inside, length-drop span.at texts))

IsText-grown : (texts more : List ℕ) (span : Span) → IsText texts span → IsText (texts ++ more) span
IsText-grown texts more span is = record {
  inside = omega (arith, is.inside, length-append texts more);
  fits = is.fits;
}

AreTexts-grown : (texts more : List ℕ) (standing : Standing) → AreTexts texts standing → AreTexts (texts ++ more) standing
AreTexts-grown texts more standing are = (IsText-grown texts more standing.first are.0, IsText-grown texts more standing.second are.1)

leaves_more : (texts more : List ℕ) (standing : Standing) (c : Areas) → AreTexts texts standing → Leaves (texts ++ more) standing c → Leaves texts standing c
leaves_more texts more standing c are left = (
  subst (λ text. LeavesText standing.first.loose text c.first) (text_kept texts more standing.first are.0) left.0,
  subst (λ text. LeavesText standing.second.loose text c.second) (text_kept texts more standing.second are.1) left.1,
)

leaves_still : (texts more : List ℕ) (standing : Standing) (c : Areas) → AreTexts texts standing → Leaves texts standing c → Leaves (texts ++ more) standing c
leaves_still texts more standing c are left = (
  subst (λ text. LeavesText standing.first.loose text c.first) (sym (text_kept texts more standing.first are.0)) left.0,
  subst (λ text. LeavesText standing.second.loose text c.second) (sym (text_kept texts more standing.second are.1)) left.1,
)

had_more : (texts more : List ℕ) (past : List Standing) (c : Areas) → All (AreTexts texts) past → HadLeft (texts ++ more) past c → HadLeft texts past c
had_more texts more [] c are had = had
had_more texts more (s ∷ past) c are (inl here) = inl (leaves_more texts more s c (All-head (AreTexts texts) s past are) here)
had_more texts more (s ∷ past) c are (inr there) = inr (had_more texts more past c (All-tail (AreTexts texts) s past are) there)

had_still : (texts more : List ℕ) (past : List Standing) (c : Areas) → All (AreTexts texts) past → HadLeft texts past c → HadLeft (texts ++ more) past c
had_still texts more [] c are had = had
had_still texts more (s ∷ past) c are (inl here) = inl (leaves_still texts more s c (All-head (AreTexts texts) s past are) here)
had_still texts more (s ∷ past) c are (inr there) = inr (had_still texts more past c (All-tail (AreTexts texts) s past are) there)

-- ---- one moment more

had_before : (texts : List ℕ) (past : List Standing) (s : Standing) (c : Areas) → HadLeft texts past c → HadLeft texts (past ++ s ∷ []) c
had_before texts [] s c had = absurd had
had_before texts (p ∷ past) s c (inl here) = inl here
had_before texts (p ∷ past) s c (inr there) = inr (had_before texts past s c there)

had_last : (texts : List ℕ) (past : List Standing) (s : Standing) (c : Areas) → Leaves texts s c → HadLeft texts (past ++ s ∷ []) c
had_last texts [] s c left = inl left
had_last texts (p ∷ past) s c left = inr (had_last texts past s c left)

had_either : (texts : List ℕ) (past : List Standing) (s : Standing) (c : Areas) → HadLeft texts (past ++ s ∷ []) c → Leaves texts s c ⊎ HadLeft texts past c
had_either texts [] s c (inl here) = inl here
had_either texts [] s c (inr none) = absurd none
had_either texts (p ∷ past) s c (inl here) = inr (inl here)
had_either texts (p ∷ past) s c (inr there) = ⊎_elim (λ last. inl last) (λ had. inr (inr had)) (had_either texts past s c there)

drop_push : (t : ℕ) (past : List Standing) (s : Standing) → t ≤ length past → drop t (past ++ s ∷ []) ≡ drop t past ++ s ∷ []
drop_push t past s le = drop-append-le t past (s ∷ []) le

-- time goes on where the texts grow and a moment more is past
elapses : (texts more : List ℕ) (past : List Standing) (now next : Standing) (faults faults' : ℕ) → AreTexts texts now → All (AreTexts texts) past
    → Elapses (account_at texts past now faults) (account_at (texts ++ more) (past ++ now ∷ []) next faults')
elapses texts more past now next faults faults' are all = record {
  later = omega (arith, length-append past (now ∷ []));
  nothing_else = λ t c le left. ⊎_elim
      (λ new. inr new)
      (λ had. inl (was t c le (had_more texts more (drop t (past ++ now ∷ [])) c (All-drop (AreTexts texts) t (past ++ now ∷ []) (All-push (AreTexts texts) past now all are)) had)))
      left;
  keeps = λ t c le left. inr (had_still texts more (drop t (past ++ now ∷ [])) c (All-drop (AreTexts texts) t (past ++ now ∷ []) (All-push (AreTexts texts) past now all are)) (is t c le left));
}
  where
    was : (t : ℕ) (c : Areas) → t ≤ length past → HadLeft texts (drop t (past ++ now ∷ [])) c → LeftSince texts past now t c
    was t c le had = had_either texts (drop t past) now c (subst (λ l. HadLeft texts l c) (drop_push t past now le) had)

    is : (t : ℕ) (c : Areas) → t ≤ length past → LeftSince texts past now t c → HadLeft texts (drop t (past ++ now ∷ [])) c
    is t c le left = subst (λ l. HadLeft texts l c) (sym (drop_push t past now le))
        (⊎_elim (had_last texts (drop t past) now c) (had_before texts (drop t past) now c) left)

pub elapses_to : (texts later : List ℕ) (past moments : List Standing) (now next : Standing) (faults faults' : ℕ) (more : List ℕ)
    → later ≡ texts ++ more → moments ≡ past ++ now ∷ [] → AreTexts texts now → All (AreTexts texts) past
    → Elapses (account_at texts past now faults) (account_at later moments next faults')
elapses_to texts later past moments now next faults faults' more grown longer are all =
    subst (λ (l : List ℕ). Elapses (account_at texts past now faults) (account_at l moments next faults')) (sym grown)
    (subst (λ (m : List Standing). Elapses (account_at texts past now faults) (account_at (texts ++ more) m next faults')) (sym longer)
    (elapses texts more past now next faults faults' are all))

-- ---- a torn write

-- what a crash leaves once an area is torn
abbrev Tears : Area → (Areas → Type 0) → (Areas → Type 0) → Type 0
Tears area old new = (c : Areas) → new c → (before : Areas) × old before × IsTorn area before c

fits_whole : (texts : List ℕ) (span : Span) (c : List ℕ) → IsText texts span → c ≡ text_at texts span → length c ≤ area_room
fits_whole texts span c is same = omega (arith, ap length same, length-take-le span.len (drop span.at texts) (omega (arith, is.inside, length-drop span.at texts)), is.fits)

fits_in : (loose : Bool) (texts : List ℕ) (span : Span) (c : List ℕ) → IsText texts span → LeavesText loose (text_at texts span) c → length c ≤ area_room
fits_in false texts span c is left = fits_whole texts span c is left
fits_in true texts span c is left = ⊎_elim (fits_whole texts span c is) (λ short. short) left

-- a crash that leaves what it left before has torn nothing
pub not_torn : (area : Area) (texts : List ℕ) (now : Standing) → AreTexts texts now → Tears area (Leaves texts now) (Leaves texts now)
not_torn First texts now are c left = (c, left, record { stays = refl; fits = fits_in now.first.loose texts now.first c.first are.0 left.0 })
not_torn Second texts now are c left = (c, left, record { stays = refl; fits = fits_in now.second.loose texts now.second c.second are.1 left.1 })

-- a new text at the end of all others
abbrev pub newest : List ℕ → List ℕ → Span
newest texts text = record { at = length texts; len = length text; loose = true }

newest_is_text : (texts text : List ℕ) → length text ≤ area_room → IsText (texts ++ text) (newest texts text)
newest_is_text texts text le = record { inside = omega (arith, length-append texts text); fits = le }

torn : (area : Area) (texts text : List ℕ) (now : Standing) → AreTexts texts now → length text ≤ area_room
    → Tears area (Leaves texts now) (Leaves (texts ++ text) (with_span area (newest texts text) now))
torn First texts text now are le c left = (
  record c { first = text_at texts now.first },
  (
    LeavesText-itself now.first.loose (text_at texts now.first),
    subst (λ l. LeavesText now.second.loose l c.second) (text_kept texts text now.second are.1) left.1,
  ),
  record { stays = refl; fits = fits_in true (texts ++ text) (newest texts text) c.first (newest_is_text texts text le) left.0 },
)
torn Second texts text now are le c left = (
  record c { second = text_at texts now.second },
  (
    subst (λ l. LeavesText now.first.loose l c.first) (text_kept texts text now.first are.0) left.0,
    LeavesText-itself now.second.loose (text_at texts now.second),
  ),
  record { stays = refl; fits = fits_in true (texts ++ text) (newest texts text) c.second (newest_is_text texts text le) left.1 },
)

-- the same text, at the place where the texts end
newest_at : (area : Area) (texts text : List ℕ) (now : Standing) (at : ℕ) → at ≡ length texts
    → with_span area (record { at = at; len = length text; loose = true }) now ≡ with_span area (newest texts text) now
newest_at area texts text now at here = ap (λ n. with_span area (record { at = n; len = length text; loose = true }) now) here

pub torn_to : (area : Area) (texts text later : List ℕ) (now next : Standing) (at : ℕ) → at ≡ length texts
    → later ≡ texts ++ text → next ≡ with_span area (record { at = at; len = length text; loose = true }) now
    → AreTexts texts now → length text ≤ area_room → Tears area (Leaves texts now) (Leaves later next)
torn_to area texts text later now next at here grown is are le =
    subst (λ s. Tears area (Leaves texts now) (Leaves later s)) (sym (is ∙ newest_at area texts text now at here))
    (subst (λ (l : List ℕ). Tears area (Leaves texts now) (Leaves l (with_span area (newest texts text) now))) (sym grown)
    (torn area texts text now are le))

-- ---- what holds always

due_or : (b : Bool) → due (b || true) ≡ 1
due_or false = refl
due_or true = refl

due_more : (area : Area) (span : Span) (now : Standing) → span.loose ≡ true → due (is_loose (with_span area span now)) ≡ 1
due_more First span now e = rw e refl
due_more Second span now e = ap (λ b. due (now.first.loose || b)) e ∙ due_or now.first.loose

AreTexts-with : (area : Area) (texts : List ℕ) (span : Span) (now : Standing) → IsText texts span → AreTexts texts now → AreTexts texts (with_span area span now)
AreTexts-with First texts span now is are = (is, are.1)
AreTexts-with Second texts span now is are = (are.0, is)

pub kept_writing : (area : Area) (texts text later : List ℕ) (past moments : List Standing) (now next : Standing) (at writes a b a' b' : ℕ)
    → at ≡ length texts → later ≡ texts ++ text → moments ≡ past ++ now ∷ []
    → next ≡ with_span area (record { at = at; len = length text; loose = true }) now → a ≤ a' → b ≤ b'
    → IsKept texts past now writes a b → writes < 64 → length text ≤ area_room
    → IsKept later moments next (writes + 1) a' b'
kept_writing area texts text later past moments now next at writes a b a' b' here grown longer is up up' kept more le = record {
  now_whole = subst (λ s. AreTexts later s) (sym (is ∙ newest_at area texts text now at here)) (AreTexts-with area later (newest texts text) now
      (subst (λ l. IsText l (newest texts text)) (sym grown) (newest_is_text texts text le))
      (subst (λ l. AreTexts l now) (sym grown) (AreTexts-grown texts text now kept.now_whole)));
  past_whole = subst (λ l. All (AreTexts l) moments) (sym grown) (subst (λ l. All (AreTexts (texts ++ text)) l) (sym longer)
      (All-weaker (AreTexts texts) (AreTexts (texts ++ text)) (AreTexts-grown texts text) (past ++ now ∷ []) (All-push (AreTexts texts) past now kept.past_whole kept.now_whole)));
  texts_fit = omega (arith, kept.texts_fit, le, ap length grown, length-append texts text);
  moments_fit = omega (arith, kept.moments_fit, ap (λ s. due (is_loose s)) is, due_more area (record { at = at; len = length text; loose = true }) now refl, ap length longer, length-append past (now ∷ []));
  few = omega (arith, more);
  room_of_texts = omega (arith, kept.room_of_texts, up);
  room_of_moments = omega (arith, kept.room_of_moments, up');
}

AreTexts-synced : (texts : List ℕ) (now : Standing) → AreTexts texts now → AreTexts texts (synced now)
AreTexts-synced texts now are = (
  record { inside = are.0.inside; fits = are.0.fits },
  record { inside = are.1.inside; fits = are.1.fits },
)

pub kept_syncing : (texts : List ℕ) (past moments : List Standing) (now next : Standing) (writes a b b' : ℕ)
    → moments ≡ past ++ now ∷ [] → next ≡ synced now → b ≤ b' → is_loose now ≡ true
    → IsKept texts past now writes a b → IsKept texts moments next writes a b'
kept_syncing texts past moments now next writes a b b' longer is up loose kept = record {
  now_whole = subst (λ s. AreTexts texts s) (sym is) (AreTexts-synced texts now kept.now_whole);
  past_whole = subst (λ l. All (AreTexts texts) l) (sym longer) (All-push (AreTexts texts) past now kept.past_whole kept.now_whole);
  texts_fit = kept.texts_fit;
  moments_fit = omega (arith, kept.moments_fit, ap due loose, ap (λ s. due (is_loose s)) is, ap length longer, length-append past (now ∷ []));
  few = kept.few;
  room_of_texts = kept.room_of_texts;
  room_of_moments = omega (arith, kept.room_of_moments, up);
}
