use Rattle.std.proofs.Common.{rules}
use Rattle.replay_kit.proofs.kit.ReplayKitKit.pen.Goals as goal

pub returns-in-Plain-clause-signing : goal.returns-in-Plain-clause-signing
returns-in-Plain-clause-signing c = search rules
