use Rattle.std.proofs.Common.{List, ℕ, ◌*◌, Ok, Err, Some, sym, subst}
use Rattle.bn_model.specs.WholeRuns.{image_in}
use Rattle.bn_front.specs.declared.refusal.Refusal.{Refusal}
use Rattle.bn_front.specs.Meant.{own_meant}
use Rattle.bn_front.specs.Reading.{FindsScript, Judges, ReadsRun, image_meant}
use Rattle.bn_front.proofs.Readings as readings
use Rattle.bn_front.proofs.images.read_inputs.Goals as goal

pub returns-in-Err-clause-reads : goal.returns-in-Err-clause-reads
returns-in-Err-clause-reads g c =
    subst
    (λ (why : Refusal). ReadsRun (own_meant c.args.order.now) (Err why)
    (g.D.Desk.account c.args.desk.now) (g.D.Desk.account c.read_front.new.self))
    (sym c.of_file.ensures)
    (readings.image_unread (own_meant c.args.order.now) _ _ c.in-Err.fault
    (rw c.deref.ensures at (c.in-Err.ensures.agrees)) c.in-Err.ensures.missed
    c.in-Err.ensures.failed)

pub returns-in-Err-load_image-clause-reads : goal.returns-in-Err-load_image-clause-reads
returns-in-Err-load_image-clause-reads g c =
    readings.image_faulty (own_meant c.args.order.now) c.in-Ok.file.items _ _
    (readings.answer_front _ _ c.in-Ok.file (rw c.deref.ensures at (c.in-Ok.ensures.agrees)))
    c.in-Ok.ensures.missed c.in-Ok.ensures.failed c.in-Err-load_image.refusal
    (subst (λ (file : List ℕ). Judges (λ image. image_meant image)
    (image_in (4096 * c.args.order.now.ram_pages) (Some file)) (Err c.in-Err-load_image.refusal))
    c.deref-2.ensures.value c.in-Err-load_image.ensures.image)

pub returns-in-Ok-read_script-clause-reads : goal.returns-in-Ok-read_script-clause-reads
returns-in-Ok-read_script-clause-reads g c =
    readings.inputs_read (own_meant c.args.order.now) c.in-Ok.file.items _ _
    (readings.answer_front _ _ c.in-Ok.file (rw c.deref.ensures at (c.in-Ok.ensures.agrees)))
    c.in-Ok.ensures.missed c.in-Ok.ensures.failed c.in-Ok-load_image.image _
    c.in-Ok.ensures.kept
    (subst (λ (file : List ℕ). Judges (λ image. image_meant image)
    (image_in (4096 * c.args.order.now.ram_pages) (Some file)) (Ok c.in-Ok-load_image.image))
    c.deref-2.ensures.value c.in-Ok-load_image.ensures.image)
    c.in-Ok-read_script.script
    (subst (λ (file : List ℕ). FindsScript (own_meant c.args.order.now) file
    (Ok c.in-Ok-read_script.script)
    (g.D.Desk.account c.read_front.new.self) (g.D.Desk.account c.read_script.new.desk))
    c.deref-3.ensures.value c.in-Ok-read_script.ensures.finds)

pub returns-clause-reads : goal.returns-clause-reads
returns-clause-reads g c =
    readings.script_unread (own_meant c.args.order.now) c.in-Ok.file.items _ _
    (readings.answer_front _ _ c.in-Ok.file (rw c.deref.ensures at (c.in-Ok.ensures.agrees)))
    c.in-Ok.ensures.missed c.in-Ok.ensures.failed c.in-Ok-load_image.image _
    c.in-Ok.ensures.kept
    (subst (λ (file : List ℕ). Judges (λ image. image_meant image)
    (image_in (4096 * c.args.order.now.ram_pages) (Some file)) (Ok c.in-Ok-load_image.image))
    c.deref-2.ensures.value c.in-Ok-load_image.ensures.image)
    c.in-Err-read_script.refusal
    (subst (λ (file : List ℕ). FindsScript (own_meant c.args.order.now) file
    (Err c.in-Err-read_script.refusal)
    (g.D.Desk.account c.read_front.new.self) (g.D.Desk.account c.read_script.new.desk))
    c.deref-3.ensures.value c.in-Err-read_script.ensures.finds)
