use Rattle.std.proofs.Common.{rules}
use Rattle.client_text.proofs.reporting.state_text.Goals as goal

pub returns-in_ok-from_slice-in_default : goal.returns-in_ok-from_slice-in_default
returns-in_ok-from_slice-in_default c = search rules
