-- What a read of an open transaction answers.
use Rattle.std.specs.Prelude.{Result, Ok, Err}
use Rattle.client_steps.specs.declared.fault.CallFault.{CallFault}
use Rattle.client_steps.specs.declared.steps.ReadStep.{ReadStep}
use Rattle.client_steps.specs.declared.steps.ReadStep.TheVariants.{Refused, Known, Asks}
use Rattle.client_core.specs.Clients.{ClientDone}

abbrev pub by_step : ReadStep → ClientDone → ClientDone → Result ClientDone CallFault
by_step (Refused fault) known asks = Err fault
by_step Known known asks = Ok known
by_step Asks known asks = Ok asks
