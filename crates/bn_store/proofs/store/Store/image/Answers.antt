use Rattle.bn_model.proofs.StoredLemmas.{stored-image_of}
use Rattle.bn_store.proofs.store.Store.image.Goals as goal

pub returns-clause-read_back : goal.returns-clause-read_back
returns-clause-read_back c =
    rw (← c.self.view_is) (stored-image_of c.self.inside.records.items c.self.invariant.0)
