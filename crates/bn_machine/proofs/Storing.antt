-- Stored words.
use Rattle.std.proofs.Common.{◌≡◌, ℕ, ◌<◌, Bool, true, false, nat_lt, List, None, refl}
use Rattle.std.proofs.lemmas.Bool.{ltb-true}
use Rattle.bn_types.specs.declared.digest.Digest.{Digest}
use Rattle.bn_types.specs.declared.record.Record.{Record}
use Rattle.bn_model.specs.Records.{refused_at, set_refusal}

-- the index of a word that is set is below 32
pub index_within : (records : List Record) (who : Digest) (index : ℕ)
    → set_refusal records who index ≡ None → index < 32
index_within records who index none = by_test (nat_lt index 32) refl none
  where
    by_test : (b : Bool) → nat_lt index 32 ≡ b → refused_at b records who ≡ None → index < 32
    by_test true below none = ltb-true index 32 below
    by_test false above none = cc
