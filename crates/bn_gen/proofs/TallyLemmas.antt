-- A tally with one line more, and the summary from a tally.
use Rattle.std.proofs.Common.{◌≡◌, ℕ, ◌+◌, ◌-◌, ◌^◌, ◌<◌, ◌∙◌, Bool, true, false, List, [], ◌∷◌}
use Rattle.std.proofs.Common.{◌++◌, ap, append_assoc, append-nil, arith, length-append, cond, drop}
use Rattle.std.proofs.Common.{get_or, length, refl, subst, suc, sym}
use Rattle.std.proofs.lemmas.Grind.{get_or_default_zero}
use Rattle.std.proofs.lemmas.List.{ext_get_or}
use Rattle.std.proofs.lemmas.List.Sums.{count_by-le-length, sum_by-append}
use Rattle.std.proofs.Math.ListN.{get_or-map}
use Rattle.std.specs.List.{count_by}
use Rattle.std.specs.Str.{bytes_eq}
use Rattle.bn_types.specs.declared.digest.Digest.{Digest}
use Rattle.bn_types.specs.declared.finish.Finish.{Finish}
use Rattle.bn_types.specs.declared.line.Line.{Line}
use Rattle.bn_model.specs.declared.head.Head.TheVariants.{Out}
use Rattle.bn_model.specs.LineShapes.{word_of}
use Rattle.bn_model.specs.Reporting.{public_digest}
use Rattle.bn_model.specs.Running.{Course}
use Rattle.bn_model.specs.Spelling.{spelling, text_of}
use Rattle.bn_model.specs.Summaries.{count_lines, ending_line, event_heads, head_of, is_of}
use Rattle.bn_model.specs.Summaries.{summary}
use Rattle.bn_model.specs.WholeRuns.{finish_of}
use Rattle.bn_gen.proofs.TextLemmas.{first_line, length_of_line}
use Rattle.bn_types.specs.Splitting.{pieces_after, split_by}
use Rattle.bn_gen.specs.Tallies.{CountsFirst, CountsWord, after_one, first_lines, kind_at}
use Rattle.bn_gen.specs.Tallies.{kind_line}
use Rattle.bn_gen.specs.Tallies.{kind_lines, last_line, tally_of}

length-tally_of : (told : List Line) → length (tally_of told) ≡ 18
unfolding tally_of
length-tally_of told = refl

count_at : (told : List Line) (k : ℕ) → k < 18
    → get_or (tally_of told) k 0 ≡ count_by (is_of (get_or event_heads k Out)) told
unfolding tally_of
count_at told k within =
    sym (get_or_default_zero (tally_of told) k (count_by (is_of Out) told) within)
    ∙ get_or-map (λ kind. count_by (is_of kind) told) event_heads k Out

one_line : (is_told : Bool) (count : ℕ) → count + (0 + cond is_told 1 0) ≡ after_one is_told count
one_line true count = refl
one_line false count = omega arith

count_more : (told : List Line) (line : Line) (k : ℕ) → k < 18
    → get_or (tally_of (told ++ (line ∷ []))) k 0
    ≡ after_one (bytes_eq (word_of (get_or event_heads k Out)) (word_of (head_of line)))
    (get_or (tally_of told) k 0)
count_more told line k within =
    let kind = get_or event_heads k Out in
    count_at (told ++ (line ∷ [])) k within
    ∙ sum_by-append (λ (l : Line). cond (is_of kind l) 1 0) told (line ∷ [])
    ∙ one_line (is_of kind line) (count_by (is_of kind) told)
    ∙ ap (after_one (is_of kind line)) (sym (count_at told k within))

-- each count is one more where the line's first word is that of its kind
pub tally_more : (word old new : List ℕ) → CountsWord word old new → (told : List Line)
    (line : Line) → length told < 2 ^ 64 - 1 → old ≡ tally_of told → word ≡ word_of (head_of line)
    → new ≡ tally_of (told ++ (line ∷ []))
tally_more word old new counts told line few was is =
    ext_get_or 0 new (tally_of (told ++ (line ∷ [])))
    (counts.long ∙ sym (length-tally_of (told ++ (line ∷ []))))
    (λ k h.
    let within : k < 18 = subst (λ (n : ℕ). k < n) counts.long h in
    let at : get_or old k 0 ≡ count_by (is_of (get_or event_heads k Out)) told =
    ap (λ (before : List ℕ). get_or before k 0) was ∙ count_at told k within in
    let most = count_by-le-length (is_of (get_or event_heads k Out)) told in
    counts.each k within (omega (arith, at, most, few))
    ∙ ap (λ (w : List ℕ). after_one (bytes_eq (word_of (get_or event_heads k Out)) w)
    (get_or old k 0)) is
    ∙ ap (λ (before : List ℕ). after_one
    (bytes_eq (word_of (get_or event_heads k Out)) (word_of (head_of line)))
    (get_or before k 0)) was
    ∙ sym (count_more told line k within))

-- ---- texts

pub first_counted : (text before more word after rest old new : List ℕ)
    → split_by 10 text ≡ before ∷ pieces_after 10 more → text ≡ before ++ more
    → split_by 32 before ≡ word ∷ pieces_after 32 after → CountsWord word old new
    → rest ≡ drop 1 more → CountsFirst text rest old new
first_counted text before more word after rest old new pieces whole words counts next =
    λ told left line few was is.
    let first = first_line text before more word after left line pieces whole words is in (
      tally_more word old new counts told line few was first.word_is,
      next ∙ ap (drop 1) first.more_is,
    )

-- how far the lines are counted
pub record Reached (told lines : List Line) (counts rest : List ℕ) : Type 0 where
  pub done : List Line
  pub left : List Line
  pub lines_are : lines ≡ done ++ left
  pub counts_are : counts ≡ tally_of (told ++ done)
  pub rest_is : rest ≡ text_of left

pub none_done : (told lines : List Line) (counts rest : List ℕ) → counts ≡ tally_of told
    → rest ≡ text_of lines → Reached told lines counts rest
none_done told lines counts rest c r =
    record {
      done = [];
      left = lines;
      lines_are = refl;
      counts_are = c ∙ ap tally_of (sym (append-nil told));
      rest_is = r;
    }

pub one_done : (told lines : List Line) (old new rest more : List ℕ)
    → length (told ++ lines) < 2 ^ 64 → 0 < length rest → CountsFirst rest more old new
    → Reached told lines old rest → Reached told lines new more
one_done told lines old new rest more few some counts reached =
    go reached.left reached.lines_are reached.rest_is
  where
    go : (left : List Line) → lines ≡ reached.done ++ left → rest ≡ text_of left
        → Reached told lines new more
    go [] l r = absurd (let none = ap length r in omega (arith, none, some))
    go (line ∷ left) l r =
        let whole = length-append told lines in
        let lengths = ap length l ∙ length-append reached.done (line ∷ left) in
        let before = length-append told reached.done in
        let one = counts (told ++ reached.done) left line
        (omega (arith, whole, lengths, before, few)) reached.counts_are r in
        record {
          done = reached.done ++ (line ∷ []);
          left = left;
          lines_are = l ∙ sym (append_assoc reached.done (line ∷ []) left);
          counts_are = one.0 ∙ ap tally_of (append_assoc told reached.done (line ∷ []));
          rest_is = one.1;
        }

pub all_done : (told lines : List Line) (counts rest : List ℕ) → length rest ≡ 0
    → Reached told lines counts rest → counts ≡ tally_of (told ++ lines)
all_done told lines counts rest none reached = go reached.left reached.lines_are reached.rest_is
  where
    go : (left : List Line) → lines ≡ reached.done ++ left → rest ≡ text_of left
        → counts ≡ tally_of (told ++ lines)
    go [] l r =
        reached.counts_are
        ∙ ap (λ (done : List Line). tally_of (told ++ done)) (sym (l ∙ append-nil reached.done))
    go (line ∷ left) l r =
        let spelled = length_of_line line in
        let whole = ap length r ∙ length-append (spelling line) (text_of left) in
        absurd (omega (arith, spelled, whole, none))

-- ---- the summary

pub kind_lines-value : (counts : List ℕ) (i count next : ℕ) → count ≡ suc next
    → kind_lines counts i count
    ≡ kind_line (kind_at i) (get_or counts i 0) ++ kind_lines counts (i + 1) next
unfolding kind_lines
kind_lines-value counts i count next e = rw e refl

pub no_kind_lines : (counts : List ℕ) (i count : ℕ) → count ≡ 0 → kind_lines counts i count ≡ []
unfolding kind_lines
no_kind_lines counts i count e = rw e refl

kind_lines-are : (told : List Line) → kind_lines (tally_of told) 0 18 ≡ count_lines told
unfolding kind_lines kind_line tally_of
kind_lines-are told = refl

summary-is : (number : ℕ) (run : Course) → summary number run
    ≡ first_lines number run.last.clock ++ kind_lines (tally_of run.told) 0 18
    ++ last_line (finish_of run) (public_digest run.last)
unfolding summary first_lines last_line
summary-is number run =
    ap (λ (lines : List ℕ). first_lines number run.last.clock ++ lines ++ ending_line run)
    (sym (kind_lines-are run.told))

pub summary_made : (number events : ℕ) (counts : List ℕ) (finish : Finish) (digest : Digest)
    (run : Course) → counts ≡ tally_of run.told → events ≡ run.last.clock → finish ≡ finish_of run
    → digest ≡ public_digest run.last
    → first_lines number events ++ kind_lines counts 0 18 ++ last_line finish digest
    ≡ summary number run
summary_made number events counts finish digest run t e f d =
    rw (t, e, f, d) (sym (summary-is number run))
