use Rattle.std.proofs.Common.{◌≡◌, ◌∙◌, ap, not, subst, sym}
use Rattle.schedule_replay.specs.Reasons.{is_of_others}
use Rattle.schedule_replay.proofs.ReasonLaws.{not_not}
use Rattle.schedule_replay.proofs.course.Course.is_of_others.Goals as goal

pub returns-in-Settle : goal.returns-in-Settle
returns-in-Settle c = λ r h.
    subst (λ l. c.is_faulty_client.result ≡ is_of_others r l) (sym c.in-Settle.is) (c.is_faulty_client.ensures r h)

pub returns-in-Recover : goal.returns-in-Recover
returns-in-Recover c = λ r h.
    subst (λ l. c.is_faulty_client-in-Recover.result ≡ is_of_others r l) (sym c.in-Recover.is) (c.is_faulty_client-in-Recover.ensures r h)

pub returns-in-Invoke : goal.returns-in-Invoke
returns-in-Invoke c = λ r h.
    subst (λ l. c.is_faulty_client-in-Invoke.result ≡ is_of_others r l) (sym c.in-Invoke.is) (c.is_faulty_client-in-Invoke.ensures r h)

pub returns-in-Vote : goal.returns-in-Vote
returns-in-Vote c = λ r h.
    subst (λ l. c.is_correct_replica.result ≡ is_of_others r l) (sym c.in-Vote.is) (c.is_correct_replica.ensures r h)

pub returns-in-Logged : goal.returns-in-Logged
returns-in-Logged c = λ r h.
    subst (λ l. c.is_correct_replica-in-Logged.result ≡ is_of_others r l) (sym c.in-Logged.is) (c.is_correct_replica-in-Logged.ensures r h)

pub returns-in-Elect : goal.returns-in-Elect
returns-in-Elect c = λ r h.
    subst (λ l. c.is_correct_replica-in-Elect.result ≡ is_of_others r l) (sym c.in-Elect.is) (c.is_correct_replica-in-Elect.ensures r h)

pub returns-in-Decide : goal.returns-in-Decide
returns-in-Decide c = λ r h.
    subst (λ l. c.is_correct_replica-in-Decide.result ≡ is_of_others r l) (sym c.in-Decide.is) (c.is_correct_replica-in-Decide.ensures r h)

pub returns-in-Stop : goal.returns-in-Stop
returns-in-Stop c = λ r h.
    subst (λ l. not c.is_correct_replica-in-Stop.result ≡ is_of_others r l) (sym c.in-Stop.is)
    (ap not (c.is_correct_replica-in-Stop.ensures r h) ∙ not_not _)
