-- What is known of a launch that isn't refused.
use Rattle.std.proofs.Common.{◌≡◌, ℕ, ◌<◌, Bool, true, false, not, nat_le, length}
use Rattle.std.proofs.Common.{List, map, Option, Some, None, Result, Ok, Err, refl, sym}
use Rattle.std.proofs.Common.{ap, ◌∙◌, leb-false}
use Rattle.std.proofs.lemmas.Bool.{not-true}
use Rattle.std.specs.List.{list_all, list_any}
use Rattle.bn_types.specs.declared.decl.Decl.{Decl}
use Rattle.bn_types.specs.declared.digest.Digest.{Digest}
use Rattle.bn_types.specs.declared.judged.Judged.{Judged}
use Rattle.bn_types.specs.declared.launch_refused.LaunchRefused.{LaunchRefused}
use Rattle.bn_types.specs.declared.launch_refused.LaunchRefused.TheVariants as refused
use Rattle.bn_types.specs.declared.seg_fault.SegFault.{SegFault}
use Rattle.bn_types.specs.declared.segment.Segment.{Segment}
use Rattle.bn_model.specs.Launching.{decl_of, decls_of, has_identity}
use Rattle.bn_model.specs.Launching.{has_source, have_alias, identity, is_reached, is_text_address}
use Rattle.bn_model.specs.Launching.{judged_of, judgement, judgement_by_decls}
use Rattle.bn_model.specs.Launching.{judgement_by_segment, judgement_by_text}
use Rattle.bn_model.specs.Launching.{page_if_free, page_of_address, refused_unless, takes_owned}
use Rattle.bn_model.specs.Launching.{text_bytes, text_if_mapped}
use Rattle.bn_model.specs.Rows.{Enclave}
use Rattle.bn_model.specs.Segments.{segment_of}

-- each of the ten tests passes
pub record IsJudged (live : List Enclave) (next : ℕ) (pages : List (Option (List ℕ))) (satp at : ℕ)
    (judged : Judged) : Type 0 where
  pub page : ℕ
  pub bytes : List ℕ
  pub segment : Segment
  pub decls : List Decl
  pub who : Digest
  pub place : is_text_address at ≡ true
  pub there : page_if_free pages (page_of_address pages satp at) ≡ Some page
  pub text : bytes ≡ text_bytes pages page at
  pub accepted : segment_of bytes ≡ Ok segment
  pub named : decls ≡ map (decl_of pages satp) segment.pages.items
  pub reached : list_all (is_reached pages satp) segment.pages.items ≡ true
  pub unowned : list_any (takes_owned pages) decls ≡ false
  pub apart : have_alias decls ≡ false
  pub sources : list_all (has_source live who) decls ≡ true
  pub fresh : list_any (has_identity who) live ≡ false
  pub room : length live < 15
  pub ids : next < 65536
  pub measured : who ≡ identity pages bytes decls
  pub is : judged ≡ judged_of live segment decls who

passed : {A : Type 0} (b : Bool) (refusal : LaunchRefused) (next : Result A LaunchRefused) (x : A)
    → refused_unless b refusal next ≡ Ok x
    → (b ≡ true) × (next ≡ Ok x)
passed true refusal next x e = (refl, e)
passed false refusal next x e = absurd cc

pub same-ok : {A E : Type 0} (x y : A) → ◌≡◌ {A = Result A E} (Ok x) (Ok y) → x ≡ y
same-ok x y e = cc

module _ (live : List Enclave) (next : ℕ) (pages : List (Option (List ℕ))) (satp at : ℕ)
    (judged : Judged) where
  judged-decls : (page : ℕ) (bytes : List ℕ) (segment : Segment) → is_text_address at ≡ true
      → page_if_free pages (page_of_address pages satp at) ≡ Some page
      → bytes ≡ text_bytes pages page at → segment_of bytes ≡ Ok segment
      → (decls : Result (List Decl) LaunchRefused) → decls_of pages satp segment ≡ decls
      → judgement_by_decls live next pages bytes segment decls ≡ Ok judged
      → IsJudged live next pages satp at judged
  judged-decls page bytes segment place there text accepted (Err refusal) d e = absurd cc
  judged-decls page bytes segment place there text accepted (Ok decls) d e =
      let who : Digest = identity pages bytes decls in
      let named : List Decl = map (decl_of pages satp) segment.pages.items in
      let t0 = passed (list_all (is_reached pages satp) segment.pages.items) refused.NoPage _ decls
      d in
      let t1 = passed (not (list_any (takes_owned pages) named)) refused.Owned _ decls t0.1 in
      let t2 = passed (not (have_alias named)) refused.Alias _ decls t1.1 in
      let is : named ≡ decls = same-ok named decls t2.1 in
      let u0 = passed (list_all (has_source live who) decls) refused.NotOffered _ judged e in
      let u1 = passed (not (list_any (has_identity who) live)) refused.Duplicate _ judged u0.1 in
      let u2 = passed (not (nat_le 15 (length live))) refused.TableFull _ judged u1.1 in
      let u3 = passed (not (nat_le 65536 next)) refused.IdsSpent _ judged u2.1 in
      record {
        page = page;
        bytes = bytes;
        segment = segment;
        decls = decls;
        who = who;
        place = place;
        there = there;
        text = text;
        accepted = accepted;
        named = sym is;
        reached = t0.0;
        unowned = ap (list_any (takes_owned pages)) (sym is)
            ∙ not-true (list_any (takes_owned pages) named) t1.0;
        apart = ap have_alias (sym is) ∙ not-true (have_alias named) t2.0;
        sources = u0.0;
        fresh = not-true (list_any (has_identity who) live) u1.0;
        room = leb-false 15 (length live) (not-true (nat_le 15 (length live)) u2.0);
        ids = leb-false 65536 next (not-true (nat_le 65536 next) u3.0);
        measured = refl;
        is = sym (same-ok (judged_of live segment decls who) judged u3.1);
      }

  judged-segment : (page : ℕ) (bytes : List ℕ) → is_text_address at ≡ true
      → page_if_free pages (page_of_address pages satp at) ≡ Some page
      → bytes ≡ text_bytes pages page at → (segment : Result Segment SegFault)
      → segment_of bytes ≡ segment
      → judgement_by_segment live next pages satp bytes segment ≡ Ok judged
      → IsJudged live next pages satp at judged
  judged-segment page bytes place there text (Err seg_fault) s e = absurd cc
  judged-segment page bytes place there text (Ok segment) s e =
      judged-decls page bytes segment place there text s (decls_of pages satp segment) refl e

  judged-mapped : is_text_address at ≡ true → (page : Option ℕ)
      → page_if_free pages (page_of_address pages satp at) ≡ page
      → judgement_by_text live next pages satp (text_if_mapped pages at page) ≡ Ok judged
      → IsJudged live next pages satp at judged
  judged-mapped place None p e = absurd cc
  judged-mapped place (Some page) p e =
      judged-segment page (text_bytes pages page at) place p refl
      (segment_of (text_bytes pages page at)) refl e

  judged-text : (b : Bool) → is_text_address at ≡ b
      → judgement_by_text live next pages satp
      (refused_unless b refused.Address
      (text_if_mapped pages at (page_if_free pages (page_of_address pages satp at)))) ≡ Ok judged
      → IsJudged live next pages satp at judged
  judged-text false b e = absurd cc
  judged-text true b e = judged-mapped b (page_if_free pages (page_of_address pages satp at)) refl e

  pub judgement-known : judgement live next pages satp at ≡ Ok judged
      → IsJudged live next pages satp at judged
  unfolding judgement
  judgement-known e = judged-text (is_text_address at) refl e
