use Rattle.std.proofs.Math.Logic.{∥∥₁_map}
use Rattle.std.proofs.Common.{◌∙◌, arith}
use Rattle.schedule_replay.proofs.Rounds.{greater, next_of, none}
use Rattle.schedule_replay.proofs.course.Course.waiting_behind.Goals as goal

pub returns-then-message-messages-clause-greater : goal.returns-then-message-messages-clause-greater
returns-then-message-messages-clause-greater c =
    greater c.args.message c.undelivered.result
    (∥∥₁_map (c.args.self.now.world.ran c.requires) (λ h. (h.state, c.undelivered.ensures h.setup h.state h.shows)))

pub returns-then-message-messages-clause-behind : goal.returns-then-message-messages-clause-behind
returns-then-message-messages-clause-behind c = λ r h.
    c.undelivered.ensures r.setup r.state h.shows ∙ next_of c.args.message r.state.pool

pub returns-else-message-messages-clause-behind : goal.returns-else-message-messages-clause-behind
returns-else-message-messages-clause-behind c = λ r h.
    let messages = c.messages.ensures r.setup r.state h.shows in
    none c.args.message r.state.pool (omega (arith, messages, c.if-message-messages.false))
