use Rattle.std.proofs.Common.{◌≡◌, map, take, true}
use Rattle.std.specs.List.{list_all}
use Rattle.bn_model.specs.Launching.{decl_of, is_reached}
use Rattle.bn_launch.specs.Readable.{LieInRam}
use Rattle.bn_launch.proofs.declaring.declare_all.Given as goal

abbrev pub invariant-loop-page : goal.invariant-loop-page
invariant-loop-page g l = record {
  reached : list_all (is_reached (g.P.Pages.visible l.pages) l.satp)
      (take l.page-index l.declared) ≡ true;
  decls : l.decls.items ≡
      map (decl_of (g.P.Pages.visible l.pages) l.satp) (take l.page-index l.declared);
  inside : LieInRam (g.P.Pages.visible l.pages) l.decls.items;
}
