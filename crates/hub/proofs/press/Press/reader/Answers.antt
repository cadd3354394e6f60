use Rattle.hub.proofs.Publishes.{admits, forks, merges}
use Rattle.hub.proofs.press.Press.reader.Goals as goal

pub reader-requires : goal.reader-requires
reader-requires g c = admits

pub tell-note-requires : goal.tell-note-requires
tell-note-requires g c = forks _ _

pub learn-requires-clause-rule : goal.learn-requires-clause-rule
learn-requires-clause-rule g c = merges _ _ _ _
