use Rattle.std.proofs.Common.{◌≡◌, ◌-◌, ◌++◌}
use Rattle.bn_gen.specs.Parts.{modules, pages_of}
use Rattle.bn_gen.proofs.modules.put_modules.Given as goal

-- what is made so far and what is left are the whole
abbrev pub invariant-loop-module : goal.invariant-loop-module
invariant-loop-module l = record {
  bytes : l.initial.pages.items ++ pages_of (modules 8 l.initial.stream).value ≡
      l.pages.items ++ pages_of (modules (8 - l._module) l.stream).value;
  state : (modules 8 l.initial.stream).state ≡ (modules (8 - l._module) l.stream).state;
}
