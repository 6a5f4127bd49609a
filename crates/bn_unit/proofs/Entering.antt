-- A translation that is entered is right.
use Rattle.std.proofs.Common.{◌≡◌, ℕ, ◌+◌, ◌-◌, ◌<◌, ◌≤◌, ◌⊎◌, inl, inr, Bool, true, false, cond}
use Rattle.std.proofs.Common.{nat_lt, List, Some, None, Result, Ok, sym, ap, ◌∙◌, subst, arith}
use Rattle.std.proofs.lemmas.Bool.{cases_lt, lt-ltb}
use Rattle.bn_types.specs.declared.asker.Asker.{Asker}
use Rattle.bn_types.specs.declared.frame.Frame.{Frame}
use Rattle.bn_types.specs.declared.gpn.Gpn.{Gpn}
use Rattle.bn_types.specs.declared.kind.Kind.{Kind}
use Rattle.bn_types.specs.declared.kind.Kind.TheVariants.{Fetch, Load, Store}
use Rattle.bn_types.specs.declared.rights.Rights.{Rights}
use Rattle.bn_model.specs.declared.owner.Owner.{Owner}
use Rattle.bn_model.specs.Admission.{admits, has_right}
use Rattle.bn_model.specs.Memory.{visible}
use Rattle.bn_model.specs.Nesting.{Nested, place}
use Rattle.bn_model.specs.Walking.{Landing, WalkFault, guest_page, leaf_of, vpn_of}
use Rattle.bn_tlb.specs.declared.entry.Entry.{Entry}
use Rattle.bn_tlb.specs.declared.key.Key.{Key}
use Rattle.bn_tlb.specs.Caching.{Cache, after_fill}
use Rattle.bn_tlb.specs.Caching.{AllHeld}
use Rattle.bn_unit.specs.Holding.{IsRight, is_known, key_of, nested_memory}
use Rattle.bn_tlb.proofs.HeldSlots.{held-filled}
use Rattle.bn_unit.proofs.LeafPages.{leaf-page}
use Rattle.g_walk.specs.Answers.{landing}
use Rattle.g_walk.specs.declared.found.Leaf.{Leaf}

ppn-is : (ppn page : ℕ) → guest_page ppn ≡ Some page → ppn ≡ 0x80000 + page
ppn-is ppn page e = go (cases_lt ppn 0x80000) where
  by_test : (b : Bool) → cond b None (Some (ppn - 0x80000)) ≡ Some page
      → ppn - 0x80000 ≡ page
  by_test true e = cc
  by_test false e = cc

  go : (ppn < 0x80000) ⊎ (0x80000 ≤ ppn) → ppn ≡ 0x80000 + page
  go (inl below) =
      absurd (let no : None ≡ Some page =
      sym (ap (λ (b : Bool). cond b None (Some (ppn - 0x80000))) (lt-ltb ppn 0x80000 below)) ∙ e in
      cc)
  go (inr above) =
      let difference = by_test (nat_lt ppn 0x80000) e in omega (arith, difference, above)

module _ (nest : Nested) (live : List Owner) where
  pub right-entered : (who : Asker) (kind : Kind) (va : ℕ) (leaf : Leaf) (page : Gpn)
      (frame : Frame) (rights : Rights)
      → leaf_of (visible (nested_memory nest live)) who.satp va ≡ Ok (landing leaf)
      → guest_page leaf.ppn ≡ Some page.0 → page.0 < nest.ram → place nest page.0 ≡ Some frame
      → admits live who.«module».0 (vpn_of va) page.0 kind ≡ true
      → has_right Load rights ≡ admits live who.«module».0 (vpn_of va) page.0 Load
      → has_right Store rights ≡ admits live who.«module».0 (vpn_of va) page.0 Store
      → has_right Fetch rights ≡ admits live who.«module».0 (vpn_of va) page.0 Fetch
      → is_known live who.«module».0 ≡ true
      → IsRight nest live (record {
        key = key_of who va;
        entry = record {
          page = page;
          frame = frame;
          flags = leaf.flags;
          bare = leaf.bare;
          rights = rights;
          tables = leaf.tables;
        };
      })
  right-entered who kind va leaf page frame rights found led inside lies admitted load store fetch
      known = record {
        leaf = λ vb same.
            leaf-page (visible (nested_memory nest live)) vb va same who.satp ∙ found
            ∙ ap (λ (n : ℕ). let r : Result Landing WalkFault = Ok (record {
              ppn = n;
              flags = leaf.flags;
              bare = leaf.bare;
              tables = leaf.tables.items;
            }) in r) (ppn-is leaf.ppn page.0 led);
        inside = inside;
        frame = lies;
        rights = each;
        some = (kind, each kind ∙ admitted);
        known = known;
      } where
        each : (any : Kind)
            → has_right any rights ≡ admits live who.«module».0 (vpn_of va) page.0 any
        each Load = load
        each Store = store
        each Fetch = fetch

  pub held-entered : (m now : Cache) (hart : ℕ) (key : Key) (entry : Entry) (who : Asker) (va : ℕ)
      → key ≡ key_of who va → now ≡ after_fill m hart (record { key = key; entry = entry })
      → AllHeld (IsRight nest live) m
      → IsRight nest live (record { key = key_of who va; entry = entry })
      → AllHeld (IsRight nest live) now
  held-entered m now hart key entry who va is filled all right =
      subst (AllHeld (IsRight nest live)) (sym filled)
      (held-filled (IsRight nest live) m all hart (record { key = key; entry = entry })
      (subst (λ (k : Key). IsRight nest live (record { key = k; entry = entry })) (sym is) right))
