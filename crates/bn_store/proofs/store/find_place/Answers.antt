use Rattle.std.proofs.Common.{rules}
use Rattle.std.proofs.lemmas.List.Sorted.{answers_always}
use Rattle.bn_store.proofs.store.find_place.Goals as goal

-- the closure gives a record's identity
pub returns-clause-position : goal.returns-clause-position
returns-clause-position c =
    c.binary_search_by_key.ensures.position (λ r. r.who.0)
    (answers_always _ _ _ (λ f a r g called. search rules))
