use Rattle.bn_store.proofs.ReadingLemmas.{record_made}
use Rattle.bn_store.proofs.reading.record_at.Goals as goal

pub returns : goal.returns
returns c = record_made 32 32 c.args.text.now c.copy_from_slice.new.self c.read_words.new.words
    c.args.at c.copy_from_slice.ensures.after c.read_words.ensures
