-- Who a client is.
use Rattle.certificates.specs.Accepted.{Accepted}
use Rattle.keyring.specs.Signing.{Signing}
use Rattle.client_core.specs.declared.seat.Seat.{Seat}
use Rattle.client_core.specs.Clients.{ClientSelf}

abbrev pub self_at : Seat → Accepted → Signing → ClientSelf
self_at seat accepts signing =
    record { cluster = seat.cluster; number = seat.number; accepts = accepts; signing = signing }
