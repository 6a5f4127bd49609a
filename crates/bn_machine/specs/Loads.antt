-- Where a machine begins, by its settings, the image in its RAM and the stored words.
use Rattle.std.specs.Prelude.{List}
use Rattle.bn_loader.specs.declared.loaded.Loaded.{Loaded}
use Rattle.bn_types.specs.declared.record.Record.{Record}
use Rattle.bn_machine.specs.declared.settings.Settings.{Settings}
use Rattle.bn_model.specs.Opening.{opening}
use Rattle.bn_model.specs.State.{State}

-- the state in which a machine with these settings begins
abbrev pub opening_of : Settings → Loaded → List Record → State
opening_of settings image records =
    opening settings.ram_pages settings.harts
    (record { bytes = image.bytes.items; entry = image.entry }) records
