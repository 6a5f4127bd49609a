-- The causes of traps by the manual's names (Privileged ISA, "Supervisor Cause Register").
use Rattle.std.specs.Prelude.{◌+◌, ◌^◌}
use Rattle.bn_types.specs.declared.cause.Cause.{Cause}

-- ---- exceptions

abbrev pub instruction_address_misaligned : Cause
instruction_address_misaligned = record { 0 = 0 }

abbrev pub instruction_access_fault : Cause
instruction_access_fault = record { 0 = 1 }

abbrev pub illegal_instruction : Cause
illegal_instruction = record { 0 = 2 }

abbrev pub breakpoint : Cause
breakpoint = record { 0 = 3 }

abbrev pub load_address_misaligned : Cause
load_address_misaligned = record { 0 = 4 }

abbrev pub load_access_fault : Cause
load_access_fault = record { 0 = 5 }

abbrev pub store_address_misaligned : Cause
store_address_misaligned = record { 0 = 6 }

abbrev pub store_access_fault : Cause
store_access_fault = record { 0 = 7 }

abbrev pub environment_call_from_u : Cause
environment_call_from_u = record { 0 = 8 }

abbrev pub instruction_page_fault : Cause
instruction_page_fault = record { 0 = 12 }

abbrev pub load_page_fault : Cause
load_page_fault = record { 0 = 13 }

abbrev pub store_page_fault : Cause
store_page_fault = record { 0 = 15 }

-- ---- interrupts, which have bit 63 set

abbrev pub supervisor_software_interrupt : Cause
supervisor_software_interrupt = record { 0 = 2 ^ 63 + 1 }

abbrev pub supervisor_timer_interrupt : Cause
supervisor_timer_interrupt = record { 0 = 2 ^ 63 + 5 }

abbrev pub supervisor_external_interrupt : Cause
supervisor_external_interrupt = record { 0 = 2 ^ 63 + 9 }
