use Rattle.std.proofs.Common.{rules}
use Rattle.keyring.proofs.plain.PlainPenSigner.sign_into.Goals as goal

pub returns-then-self-eq0-clause-as_before : goal.returns-then-self-eq0-clause-as_before
returns-then-self-eq0-clause-as_before c = search rules

pub returns-clause-signature : goal.returns-clause-signature
returns-clause-signature c = search rules

pub returns-clause-holds : goal.returns-clause-holds
returns-clause-holds c = search rules

pub returns-clause-spent : goal.returns-clause-spent
returns-clause-spent c = search rules

pub returns-clause-left : goal.returns-clause-left
returns-clause-left c = search rules
