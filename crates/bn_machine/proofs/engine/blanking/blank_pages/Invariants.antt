use Rattle.std.proofs.Common.{◌≡◌, take}
use Rattle.bn_model.specs.Nesting.{IsNested, contents}
use Rattle.bn_machine.specs.Zeroing.{zeroed_pages}
use Rattle.bn_machine.proofs.engine.blanking.blank_pages.Given as goal

-- the private pages of the declarations so far are zeros
abbrev pub invariant-loop-decl : goal.invariant-loop-decl
invariant-loop-decl g l = record {
  pages : contents l.unit.nest ≡
      zeroed_pages (take l.decl-index l.decls) (contents l.initial.unit.nest);
  live : l.unit.live ≡ l.initial.unit.live;
  harts : l.unit.cache.harts ≡ l.initial.unit.cache.harts;
  ram : l.unit.nest.ram ≡ l.initial.unit.nest.ram;
  nested : IsNested l.unit.nest;
}
