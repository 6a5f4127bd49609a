-- Program headers, in the terms of the definitions.
use Rattle.std.specs.Prelude.{ℕ, ◌+◌, ◌≤◌}
use Rattle.bn_model.specs.Images as flat
use Rattle.bn_loader.specs.declared.header.Header.{Header}

abbrev pub as_flat : Header → flat.Header
as_flat header = record {
  loads = header.loads;
  offset = header.offset;
  address = header.address;
  in_file = header.in_file;
  in_memory = header.in_memory;
}

-- a segment whose bytes are all in a file of that length, and its memory in a RAM of that size
pub record Fits (len size : ℕ) (header : flat.Header) : Type 0 where
  pub sizes : header.in_file ≤ header.in_memory
  pub bytes : header.offset + header.in_file ≤ len
  pub low : 0x80000000 ≤ header.address
  pub high : header.address + header.in_memory ≤ 0x80000000 + size
