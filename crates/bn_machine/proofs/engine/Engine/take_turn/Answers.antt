use Rattle.bn_model.specs.Deciding.{decision_of}
use Rattle.bn_machine.proofs.Turns.{sound-turn}
use Rattle.bn_machine.proofs.engine.Engine.take_turn.Goals as goal

pub returns-clause-sound : goal.returns-clause-sound
unfolding decision_of
returns-clause-sound g c =
    sound-turn _ _ _ _ c.requires.hart c.requires.sound c.make_turn.ensures.made
