use Rattle.std.proofs.Common.{◌≡◌, drop}
use Rattle.bn_edge.specs.Files.{file_named}
use Rattle.bn_edge.specs.InMemory.{named_bytes}
use Rattle.bn_edge.proofs.mem_desk.find_file.Given as goal

-- the files that are left have what all of them have
abbrev pub invariant-loop-other : goal.invariant-loop-other
invariant-loop-other l = file_named (named_bytes (drop l.other-index l.files)) l.name ≡ file_named (named_bytes l.files) l.name
