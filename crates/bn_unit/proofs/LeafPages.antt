-- The leaf is the same for all addresses of a page.
use Rattle.std.proofs.Common.{◌≡◌, ℕ, zero, suc, ◌+◌, ◌-◌, ◌*◌, ◌/◌, ◌%◌, ◌^◌, ◌==◌, Bool, true, false}
use Rattle.std.proofs.Common.{cond, List, Option, Ok, refl, ap, ap₂, ◌∙◌, arith}
use Rattle.bn_model.specs.CsrFile.{satp_mode}
use Rattle.bn_model.specs.Entries.{Invalid, LeafEntry, Pointer, flags_of, ppn_of}
use Rattle.bn_model.specs.Walking.{Entry, TableEntry, Unread, Walk, ends, entry_at, entry_on}
use Rattle.bn_model.specs.Walking.{guest_page, is_canonical, landing_of, leaf_of, root_of, through}
use Rattle.bn_model.specs.Walking.{vpn_of, walk_by_mode, walk_on, walk_sv39, walked}

module _ (pages : List (Option (List ℕ))) (va vb : ℕ) (same : vpn_of va ≡ vpn_of vb) where
  at-page : (level ppn : ℕ) → entry_at pages va level ppn ≡ entry_at pages vb level ppn
  at-page level ppn =
      ap (λ (vpn : ℕ). entry_on pages level (8 * (vpn / 2 ^ (9 * level) % 2 ^ 9))
      (guest_page ppn)) same

  on-page : (level : ℕ) (here : TableEntry)
      → walk_on pages va level here ≡ walk_on pages vb level here
  unfolding walk_on
  on-page level Unread = refl
  on-page level (Entry page word Invalid) = refl
  on-page level (Entry page word LeafEntry) =
      ap (λ (vpn : ℕ). through page (ends (Ok (record {
        ppn = ppn_of word + vpn % 2 ^ (9 * level);
        flags = flags_of word;
        bare = false;
      })))) same
  on-page zero (Entry page word Pointer) = refl
  on-page (suc level) (Entry page word Pointer) =
      ap (through page) (on-page level (entry_at pages va level (ppn_of word))
      ∙ ap (walk_on pages vb level) (at-page level (ppn_of word)))

  canonical-page : is_canonical va ≡ is_canonical vb
  canonical-page =
      let high : va / 2 ^ 39 ≡ vb / 2 ^ 39 = omega (arith, same) in
      let low : va / 2 ^ 38 ≡ vb / 2 ^ 38 = omega (arith, same) in
      ap₂ (λ (a b : ℕ). a == cond (b % 2 == 1) (2 ^ 25 - 1) 0) high low

  walked-page : (satp : ℕ) → walked pages satp va ≡ walked pages satp vb
  unfolding walked
  walked-page satp = by_mode (satp_mode satp == 0) where
    in_sv39 : (b : Bool) → walk_sv39 pages satp va b ≡ walk_sv39 pages satp vb b
    in_sv39 true =
        on-page 2 (entry_at pages va 2 (root_of satp))
        ∙ ap (walk_on pages vb 2) (at-page 2 (root_of satp))
    in_sv39 false = refl

    by_mode : (b : Bool) → walk_by_mode pages satp va b ≡ walk_by_mode pages satp vb b
    by_mode true =
        ap (λ (vpn : ℕ). ends (Ok (record { ppn = vpn; flags = 0; bare = true }))) same
    by_mode false =
        ap (walk_sv39 pages satp va) canonical-page ∙ in_sv39 (is_canonical vb)

  pub leaf-page : (satp : ℕ) → leaf_of pages satp va ≡ leaf_of pages satp vb
  leaf-page satp =
      ap (λ (walk : Walk). landing_of walk.tables walk.found) (walked-page satp)
