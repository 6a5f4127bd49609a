-- The codes of refusals (this project's own table). The guest gets each as a negative number of 64
-- bits.
use Rattle.std.specs.Prelude.{ℕ, zero, suc, ◌-◌, ◌+◌, ◌^◌, ℤ, pos, negsuc}
use Rattle.bn_types.specs.declared.launch_refused.LaunchRefused.{LaunchRefused}
use Rattle.bn_types.specs.declared.launch_refused.LaunchRefused.TheVariants as refused
use Rattle.bn_types.specs.declared.seg_fault.SegFault.{SegFault}
use Rattle.bn_types.specs.declared.seg_fault.SegFault.TheVariants as fault

-- the number of a test of a segment's text
abbrev pub seg_fault_number : SegFault → ℕ
seg_fault_number fault.Magic = 0
seg_fault_number fault.Version = 1
seg_fault_number fault.Mode = 2
seg_fault_number fault.Entries = 3
seg_fault_number fault.Pages = 4
seg_fault_number fault.Order = 5
seg_fault_number fault.Sort = 6
seg_fault_number fault.RightsBits = 7
seg_fault_number fault.EntryPlace = 8
seg_fault_number fault.PartnerPlace = 9
seg_fault_number fault.Padding = 10

-- a refusal's code is minus this
abbrev pub launch_code : LaunchRefused → ℕ
launch_code refused.Address = 1
launch_code refused.Unmapped = 2
launch_code refused.NoPage = 3
launch_code refused.Owned = 4
launch_code refused.Alias = 5
launch_code refused.NotOffered = 6
launch_code refused.Duplicate = 7
launch_code refused.TableFull = 8
launch_code refused.IdsSpent = 9
launch_code (refused.Segment seg_fault) = 16 + seg_fault_number seg_fault

-- no row has the id that a call or an eviction names
abbrev pub no_module : ℕ
no_module = 1

-- minus a code
abbrev pub minus : ℕ → ℤ
minus zero = pos zero
minus (suc n) = negsuc n

-- minus a code above 0, in 64 bits
abbrev pub minus_in_64_bits : ℕ → ℕ
minus_in_64_bits code = 2 ^ 64 - code
