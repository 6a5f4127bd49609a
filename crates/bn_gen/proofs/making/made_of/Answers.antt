use Rattle.std.proofs.Common.{◌*◌, ◌∙◌, ℕ, List, Some, ap, length, rules}
use Rattle.bn_model.specs.Scripts.{script_in}
use Rattle.bn_gen.proofs.ScriptReading.{script_read}
use Rattle.bn_model.specs.WholeRuns.{image_in}
use Rattle.bn_gen.proofs.ImageLoading.{image-length, image_loaded}
use Rattle.bn_gen.proofs.PartLemmas.{made_of-image, made_of-script}
use Rattle.bn_gen.proofs.making.made_of.Goals as goal

pub returns-clause-image : goal.returns-clause-image
returns-clause-image c = rw made_of-image (search rules)

pub returns-clause-script : goal.returns-clause-script
returns-clause-script c = rw made_of-script (search rules)

pub returns-clause-read : goal.returns-clause-read
returns-clause-read c =
    ap (script_in 1) (returns-clause-script c) ∙ script_read c.args.number

pub returns-clause-size : goal.returns-clause-size
returns-clause-size c = ap length (returns-clause-image c) ∙ image-length c.args.number

pub returns-clause-loaded : goal.returns-clause-loaded
returns-clause-loaded c =
    ap (λ (image : List ℕ). image_in (64 * 4096) (Some image)) (returns-clause-image c)
    ∙ image_loaded c.args.number
