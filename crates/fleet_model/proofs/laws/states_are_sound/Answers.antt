use Rattle.fleet_model.proofs.Sound.{sound_after, sound_opened, sound_states}
use Rattle.fleet_model.proofs.laws.states_are_sound.Goals as goal

pub returns : goal.returns
returns c = record { opened = sound_opened; kept = sound_after; whole = sound_states }
