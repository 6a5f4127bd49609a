-- What a launched module is by itself: its entries and its identity.
use Rattle.std.proofs.Common.{◌≡◌, ℕ, zero, suc, ◌+◌, ◌-◌, ◌*◌, ◌/◌, ◌%◌, ◌^◌, ◌<◌, ◌≤◌, ◌==◌}
use Rattle.std.proofs.Common.{Bool, true, false, length, List, ◌++◌, drop, take}
use Rattle.std.proofs.Common.{slice_get, Option, Some, None, option_map, refl, sym, ap, subst, ◌∙◌}
use Rattle.std.proofs.Common.{arith, length-append, length-drop, leb-true}
use Rattle.std.proofs.lemmas.Bool.{and_parts}
use Rattle.std.proofs.lemmas.List.{length-take-le}
use Rattle.std.proofs.lemmas.List.Elements.{All-append, All-cons, All-drop, All-get_or, All-nil}
use Rattle.std.proofs.lemmas.List.Elements.{All-take, All-weaker}
use Rattle.std.proofs.lemmas.Nat.{mod_below}
use Rattle.std.proofs.lemmas.Option.{get_or_from_slice_get, none-some, same_Some}
use Rattle.std.specs.Int.{bytes_high_first, byte_at}
use Rattle.std.specs.List.{All}
use Rattle.std.specs.Prelude.{nat_le, slice_index}
use Rattle.sha2.specs.Sha256.{digest_bytes, final_hash, initial_hash_256, sha256}
use Rattle.bn_types.specs.declared.decl.Decl.{Decl}
use Rattle.bn_types.specs.declared.digest.Digest.{Digest}
use Rattle.bn_types.specs.declared.judged.Judged.{Judged}
use Rattle.bn_model.specs.declared.owner.Owner.{Owner}
use Rattle.bn_model.specs.Launching.{bytes_if_readable, free_page, identity}
use Rattle.bn_model.specs.Launching.{is_text_address, page_if_free, text_bytes}
use Rattle.bn_model.specs.Memory.{Memory, readable_if, readable_page, visible}
use Rattle.bn_model.specs.Owners.{is_owned}
use Rattle.bn_model.specs.Rows.{Enclave}
use Rattle.bn_model.specs.SegmentLaws.{AreBytes, IsEntry}
use Rattle.bn_model.specs.Soundness.{IsPc}
use Rattle.bn_types.specs.Visible.{state_of}
use Rattle.bn_model.proofs.EachLemmas.{get-each}
use Rattle.bn_model.proofs.Judgements.{IsJudged}
use Rattle.bn_model.proofs.LaunchClaims.{got-within}
use Rattle.bn_model.proofs.RowsKept.{IsWellJudged}
use Rattle.bn_model.proofs.SegmentFacts.{accepted-is_segment}

-- ---- digests

IsByte : ℕ → Type 0
IsByte byte = byte < 2 ^ 8

pub byte-small : (k n : ℕ) → byte_at k n < 2 ^ 8
byte-small zero n = mod_below n 256 (omega arith)
byte-small (suc k) n = mod_below (n / 256 ^ suc k) 256 (omega arith)

high-small : (k n : ℕ) → All IsByte (bytes_high_first k n)
unfolding IsByte
high-small zero n = All-nil IsByte
high-small (suc k) n = All-cons IsByte (byte_at k n) (bytes_high_first k n) (byte-small k n)
    (high-small k n)

digest-small : (h : List ℕ) (n : ℕ) → All IsByte (digest_bytes h n)
unfolding digest_bytes
digest-small h zero = All-nil IsByte
digest-small h (suc n) =
    All-append IsByte (digest_bytes h n) (bytes_high_first 4 (slice_index h n)) (digest-small h n)
    (high-small 4 (slice_index h n))

digest-length : (h : List ℕ) (n : ℕ) → length (digest_bytes h n) ≡ n * 4
unfolding digest_bytes
digest-length h zero = refl
digest-length h (suc n) =
    let one : length (digest_bytes h n ++ bytes_high_first 4 (slice_index h n)) ≡
    length (digest_bytes h n) + 4 =
    length-append (digest_bytes h n) (bytes_high_first 4 (slice_index h n)) in
    let two : length (digest_bytes h n) ≡ n * 4 = digest-length h n in
    omega arith

sha256-small : (m : List ℕ) → All (λ byte. byte < 2 ^ 8) (sha256 m)
unfolding sha256 IsByte
sha256-small m = digest-small (final_hash initial_hash_256 m) 8

sha256-length : (m : List ℕ) → length (sha256 m) ≡ 32
unfolding sha256
sha256-length m = digest-length (final_hash initial_hash_256 m) 8

-- ---- the text

-- a page of 4,096 bytes
abbrev IsPage : List ℕ → Type 0
IsPage page = (length page ≡ 4096) × All (λ byte. byte < 2 ^ 8) page

pub all-got : {X : Type 0} (P : X → Type 0) (xs : List X) (i : ℕ) (x : X) → All P xs
    → slice_get xs i ≡ Some x → P x
all-got P xs i x all e = subst P (get_or_from_slice_get xs i x x e)
    (All-get_or P xs i x (got-within xs i x e) all)

free-content : (pages : List (Option (List ℕ))) (o : Option ℕ) (page : ℕ)
    → page_if_free pages o ≡ Some page
    → (bytes : List ℕ) × (slice_get pages page ≡ Some (Some bytes))
free-content pages None page e = absurd (none-some page e)
free-content pages (Some g) page e = by_content (slice_get pages g) refl e
  where
    by_content : (content : Option (Option (List ℕ))) → slice_get pages g ≡ content
        → free_page (state_of content) g ≡ Some page
        → (bytes : List ℕ) × (slice_get pages page ≡ Some (Some bytes))
    by_content None at e = absurd (none-some page e)
    by_content (Some None) at e = absurd (none-some page e)
    by_content (Some (Some bytes)) at e =
        (bytes, ap (slice_get pages) (sym (same_Some g page e)) ∙ at)

readable-is : (b : Bool) (content bytes : List ℕ) → readable_if b content ≡ Some bytes
    → content ≡ bytes
readable-is true content bytes e = absurd (none-some bytes e)
readable-is false content bytes e = same_Some content bytes e

-- what can be read of a page is the page
pub seen-page : (os : List Owner) (pages : List (List ℕ)) (page : ℕ) (bytes : List ℕ)
    → slice_get (visible (record { pages = pages; owners = os })) page ≡ Some (Some bytes)
    → slice_get pages page ≡ Some bytes
unfolding visible
seen-page os pages page bytes e =
    by_content (slice_get pages page) refl (sym (get-each (readable_page os) page pages) ∙ e)
  where
    by_content : (content : Option (List ℕ)) → slice_get pages page ≡ content
        → option_map (readable_page os page) content ≡ Some (Some bytes)
        → slice_get pages page ≡ Some bytes
    by_content None at e = absurd (none-some (Some bytes) e)
    by_content (Some content) at e =
        at ∙ ap (λ (c : List ℕ). Some c)
        (readable-is (is_owned os page) content bytes
        (same_Some (readable_page os page content) (Some bytes) e))

fits-page : (at : ℕ) → is_text_address at ≡ true → at % 4096 ≤ 2864
unfolding is_text_address
fits-page at e = leb-true (at % 4096) 2864 (and_parts (at % 8 == 0) (nat_le (at % 4096) 2864) e).1

text-of : (pages : List (Option (List ℕ))) (page at : ℕ) (content : List ℕ)
    → slice_get pages page ≡ Some (Some content)
    → text_bytes pages page at ≡ take 1232 (drop (at % 4096) content)
unfolding text_bytes
text-of pages page at content e =
    ap (λ (c : Option (Option (List ℕ))). take 1232 (drop (at % 4096) (bytes_if_readable c))) e

text-length : (at : ℕ) (content : List ℕ) → at % 4096 ≤ 2864 → length content ≡ 4096
    → length (take 1232 (drop (at % 4096) content)) ≡ 1232
text-length at content low long =
    let rest : length (drop (at % 4096) content) ≡ length content - at % 4096 =
    length-drop (at % 4096) content in
    length-take-le 1232 (drop (at % 4096) content) (omega arith)

identity-is : (pages : List (Option (List ℕ))) (text : List ℕ) (decls : List Decl)
    → (length (identity pages text decls).0 ≡ 32) ×
    All (λ byte. byte < 2 ^ 8) (identity pages text decls).0
unfolding identity
identity-is pages text decls = (sha256-length _, sha256-small _)

pub well-judged : (live : List Enclave) (next : ℕ) (m : Memory) (satp at : ℕ) (judged : Judged)
    → All IsPage m.pages
    → IsJudged live next (visible m) satp at judged → IsWellJudged judged
well-judged live next m satp at judged whole known =
    let seen = free-content (visible m) _ known.page known.there in
    let page = all-got IsPage m.pages known.page seen.0 whole
    (seen-page m.owners m.pages known.page seen.0 seen.1) in
    let text : known.bytes ≡ take 1232 (drop (at % 4096) seen.0) = known.text
    ∙ text-of (visible m) known.page at seen.0 seen.1 in
    let long : length known.bytes ≡ 1232 = ap length text
    ∙ text-length at seen.0 (fits-page at known.place) page.0 in
    let bytes : AreBytes known.bytes =
    subst AreBytes (sym text)
    (All-take (λ byte. byte < 256) 1232 (drop (at % 4096) seen.0)
    (All-drop (λ byte. byte < 256) (at % 4096) seen.0 page.1)) in
    let segment = accepted-is_segment known.bytes known.segment bytes long known.accepted in
    let who = identity-is (visible m) known.bytes known.decls in
    let digest : judged.digest ≡ identity (visible m) known.bytes known.decls =
    ap (λ (j : Judged). j.digest) known.is ∙ known.measured in
    record {
      entries = subst (λ (j : Judged). All IsPc j.entries.items) (sym known.is)
          (All-weaker (IsEntry known.segment.pages.items) IsPc
          (λ entry e. record { aligned = e.aligned; small = e.fits }) known.segment.entries.items
          segment.entries);
      identity = ap (λ (d : Digest). length d.0) digest ∙ who.0;
      partners = subst (λ (j : Judged). length j.partners.items ≤ 4) (sym known.is)
          segment.few_partners;
      digest = subst (λ (d : Digest). All (λ byte. byte < 2 ^ 8) d.0) (sym digest) who.1;
    }
