use Rattle.std.proofs.Common.{refl}
use Rattle.replay.proofs.Called.{navigated}
use Rattle.replay.proofs.navigation.find.Goals as goal

pub returns : goal.returns
returns c = navigated _ _ _ _ refl c.word-node.ensures c.word-key_wanted.ensures c.qy_navigate.ensures
