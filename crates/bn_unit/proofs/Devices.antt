-- What a device sees of a page.
use Rattle.std.proofs.Common.{◌≡◌, ℕ, ◌<◌, ◌≤◌, ◌⊎◌, inl, inr, Bool, true, false, List, Option}
use Rattle.std.proofs.Common.{Some, None, length, refl, sym, ap, ◌∙◌}
use Rattle.std.proofs.lemmas.Bool.{and_left, cases_lt, le-ltb, lt-ltb}
use Rattle.std.specs.List.{slice_get}
use Rattle.std.specs.Prelude.{nat_lt, not}
use Rattle.bn_types.specs.Numbers.{page_at}
use Rattle.bn_model.specs.declared.owner.Owner.{Owner}
use Rattle.bn_model.specs.Memory.{readable_if, visible}
use Rattle.bn_model.specs.Nesting.{Nested, contents}
use Rattle.bn_model.specs.Owners.{is_owned}
use Rattle.bn_model.proofs.NestingLaws.{length-contents}
use Rattle.bn_model.proofs.VisiblePages.{inside-free, is_free, nested, seen-inside, seen-outside}
use Rattle.bn_unit.specs.Memory.{is_seen}

module _ (n : Nested) (live : List Owner) (page : ℕ) where
  abbrev content : Option (Option (List ℕ))
  content = slice_get (visible (nested n live)) page

  content-inside : (owned : Bool) → page < n.ram → is_owned live page ≡ owned
      → content ≡ Some (readable_if owned (page_at (contents n) page))
  content-inside owned inside e =
      let below : page < length (contents n) = rw (length-contents n.ram n.frames) inside in
      seen-inside (nested n live) page owned below e

  content-outside : n.ram ≤ page → content ≡ None
  content-outside outside =
      let past : length (contents n) ≤ page = rw (length-contents n.ram n.frames) outside in
      seen-outside (nested n live) page past

  free-inside : (owned : Bool) → page < n.ram → is_owned live page ≡ owned
      → is_free n live page ≡ not owned
  free-inside owned inside e = rw (lt-ltb page n.ram inside, e) refl

  -- it reaches the pages of RAM that no module owns
  pub free-seen : is_free n live page ≡ is_seen content
  free-seen = go (cases_lt page n.ram) (is_owned live page) refl where
    go : (page < n.ram) ⊎ (n.ram ≤ page) → (owned : Bool) → is_owned live page ≡ owned
        → is_free n live page ≡ is_seen content
    go (inl inside) true e =
        free-inside true inside e ∙ sym (ap is_seen (content-inside true inside e))
    go (inl inside) false e =
        free-inside false inside e ∙ sym (ap is_seen (content-inside false inside e))
    go (inr outside) owned e =
        and_left (nat_lt page n.ram) (not (is_owned live page)) (le-ltb page n.ram outside)
        ∙ sym (ap is_seen (content-outside outside))

  -- and sees all of their bytes
  pub content-free : is_free n live page ≡ true → content ≡ Some (Some (page_at (contents n) page))
  content-free free = by_test (is_owned live page) refl where
    by_test : (owned : Bool) → is_owned live page ≡ owned
        → content ≡ Some (Some (page_at (contents n) page))
    by_test true e =
        let taken = free-inside true (inside-free n live page free) e in absurd (cc)
    by_test false e = content-inside false (inside-free n live page free) e
