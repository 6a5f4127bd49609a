-- What loading a file answers.
use Rattle.std.specs.Prelude.{◌≡◌, Result, Ok, Err}
use Rattle.bn_types.specs.declared.image_fault.ImageFault.{ImageFault}
use Rattle.bn_model.specs.Images.{Image}
use Rattle.bn_loader.specs.declared.loaded.Loaded.{Loaded}
use Rattle.bn_loader.specs.declared.load_error.LoadError.{LoadError}
use Rattle.bn_loader.specs.declared.load_error.LoadError.TheVariants.{Fault, Memory}

abbrev pub as_image : Loaded → Image
as_image loaded = record { bytes = loaded.bytes.items; entry = loaded.entry }

-- a file is refused as its definition says, or for want of memory
abbrev pub refuses : Result Image ImageFault → LoadError → Type 0
refuses image (Fault fault) = image ≡ Err fault
refuses image Memory = Unit {0}

-- what loading a file gives: its image, or its fault; want of memory says nothing
abbrev pub loads : Result Image ImageFault → Result Loaded LoadError → Type 0
loads image (Ok loaded) = image ≡ Ok (as_image loaded)
loads image (Err error) = refuses image error
