use Rattle.std.proofs.Common.{◌∙◌, ap, sym}
use Rattle.std.proofs.lemmas.List.{reverse-reverse}
use Rattle.std.specs.Prelude.{find, reverse}
use Rattle.bn_tlb.specs.Caching.{is_at}
use Rattle.bn_tlb.proofs.Newest.{newest-found}
use Rattle.bn_tlb.proofs.set.slot_in.Goals as goal

pub returns : goal.returns
returns c =
    c.newest_in.ensures
    ∙ ap (find (is_at c.args.key.now)) (sym (reverse-reverse c.args.slots.now))
    ∙ newest-found c.args.key.now (reverse c.args.slots.now) c.requires
