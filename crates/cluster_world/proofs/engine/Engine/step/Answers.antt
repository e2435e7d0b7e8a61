use Rattle.cluster_world.proofs.StepLaws.{comes_event}
use Rattle.cluster_world.proofs.engine.Engine.step.Goals as goal

pub returns-in-Begin : goal.returns-in-Begin
returns-in-Begin g c = λ s st h. comes_event g.V.Verifier g.S.Signer s st _ _ _ _ c.in-Begin.is (c.begin.ensures s st h)

pub returns-in-Read : goal.returns-in-Read
returns-in-Read g c = λ s st h. comes_event g.V.Verifier g.S.Signer s st _ _ _ _ c.in-Read.is (c.read.ensures s st h)

pub returns-in-Write : goal.returns-in-Write
returns-in-Write g c = λ s st h. comes_event g.V.Verifier g.S.Signer s st _ _ _ _ c.in-Write.is (c.write.ensures s st h)

pub returns-in-Delete : goal.returns-in-Delete
returns-in-Delete g c = λ s st h. comes_event g.V.Verifier g.S.Signer s st _ _ _ _ c.in-Delete.is (c.write-in-Delete.ensures s st h)

pub returns-in-Claim : goal.returns-in-Claim
returns-in-Claim g c = λ s st h. comes_event g.V.Verifier g.S.Signer s st _ _ _ _ c.in-Claim.is (c.claim.ensures s st h)

pub returns-in-Prepare : goal.returns-in-Prepare
returns-in-Prepare g c = λ s st h. comes_event g.V.Verifier g.S.Signer s st _ _ _ _ c.in-Prepare.is (c.prepare.ensures s st h)

pub returns-in-Settle : goal.returns-in-Settle
returns-in-Settle g c = λ s st h. comes_event g.V.Verifier g.S.Signer s st _ _ _ _ c.in-Settle.is (c.settle.ensures s st h)

pub returns-in-Recover : goal.returns-in-Recover
returns-in-Recover g c = λ s st h. comes_event g.V.Verifier g.S.Signer s st _ _ _ _ c.in-Recover.is (c.recover.ensures s st h)

pub returns-in-Invoke : goal.returns-in-Invoke
returns-in-Invoke g c = λ s st h. comes_event g.V.Verifier g.S.Signer s st _ _ _ _ c.in-Invoke.is (c.invoke.ensures s st h)

pub returns-in-Deliver : goal.returns-in-Deliver
returns-in-Deliver g c = λ s st h. comes_event g.V.Verifier g.S.Signer s st _ _ _ _ c.in-Deliver.is (c.deliver.ensures s st h)

pub returns-in-Lose : goal.returns-in-Lose
returns-in-Lose g c = λ s st h. comes_event g.V.Verifier g.S.Signer s st _ _ _ _ c.in-Lose.is (c.lost.ensures s st h)

pub returns-in-Divert : goal.returns-in-Divert
returns-in-Divert g c = λ s st h. comes_event g.V.Verifier g.S.Signer s st _ _ _ _ c.in-Divert.is (c.divert.ensures s st h)

pub returns-in-Clock : goal.returns-in-Clock
returns-in-Clock g c = λ s st h. comes_event g.V.Verifier g.S.Signer s st _ _ _ _ c.in-Clock.is (c.ticks.ensures s st h)

pub returns-in-Vote : goal.returns-in-Vote
returns-in-Vote g c = λ s st h. comes_event g.V.Verifier g.S.Signer s st _ _ _ _ c.in-Vote.is (c.vote.ensures s st h)

pub returns-in-Second : goal.returns-in-Second
returns-in-Second g c = λ s st h. comes_event g.V.Verifier g.S.Signer s st _ _ _ _ c.in-Second.is (c.second.ensures s st h)

pub returns-in-Logged : goal.returns-in-Logged
returns-in-Logged g c = λ s st h. comes_event g.V.Verifier g.S.Signer s st _ _ _ _ c.in-Logged.is (c.log_reply.ensures s st h)

pub returns-in-Elect : goal.returns-in-Elect
returns-in-Elect g c = λ s st h. comes_event g.V.Verifier g.S.Signer s st _ _ _ _ c.in-Elect.is (c.word.ensures s st h)

pub returns-in-Decide : goal.returns-in-Decide
returns-in-Decide g c = λ s st h. comes_event g.V.Verifier g.S.Signer s st _ _ _ _ c.in-Decide.is (c.proposal.ensures s st h)

pub returns-in-Raw : goal.returns-in-Raw
returns-in-Raw g c = λ s st h. comes_event g.V.Verifier g.S.Signer s st _ _ _ _ c.in-Raw.is (c.raw.ensures s st h)

pub returns-in-Show : goal.returns-in-Show
returns-in-Show g c = λ s st h. comes_event g.V.Verifier g.S.Signer s st _ _ _ _ c.in-Show.is (c.show.ensures s st h)
