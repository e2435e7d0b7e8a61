-- A client in its seat.
use Rattle.std.specs.Prelude.{◌≡◌, ◌-◌, [], Result, Ok, Err}
use Rattle.basil_types.specs.declared.party.Party.{Party}
use Rattle.basil_types.specs.declared.party.Party.TheVariants as parties
use Rattle.client_core.specs.Shown.{own, ShowsClient}
use Rattle.client_core.specs.Clients.{ClientSelf, ClientValue, empty_client}
use Rattle.client_core.specs.declared.client.Client.{Client}
use Rattle.cluster_file.specs.Listing.{Listing}
use Rattle.keyring.specs.declared.verifier.Verifier as verifiers
use Rattle.keyring.specs.declared.signer.Signer as signers
use Rattle.keyring_lms.specs.Keys.{lms_accepts}
use Rattle.keyring_lms.specs.Pens.{lms_signing}
use Rattle.lms_sign.specs.Sets.{leaves_of}
use Rattle.lms_sign.specs.Signing.{Key}
use Rattle.node_steps.specs.Pens.{pen_value}
use Rattle.party_seat.specs.Keys.{key_in}
use Rattle.party_seat.specs.declared.client.ClientSeat.{ClientSeat}
use Rattle.party_seat.specs.declared.fault.SeatFault.{SeatFault}

-- a client before its first call: what doesn't change of it, and what it holds
pub record SeatedClient : Type 0 where
  pub me : ClientSelf
  pub client : ClientValue

abbrev pub client_party : ClientSeat → Party
client_party s = parties.Client s.number

-- the client of a seat with this key: it accepts what is valid under the file's public keys, and has signed nothing
abbrev pub client_with : Listing → ClientSeat → Key → SeatedClient
client_with l s key = record {
  me = record {
    cluster = l.cluster;
    number = s.number;
    accepts = lms_accepts l.publics;
    signing = lms_signing (client_party s) key.tree key.next;
  };
  client = empty_client (pen_value 0 (leaves_of key.tree.set - key.next));
}

abbrev pub client_by : Listing → ClientSeat → Result Key SeatFault → Result SeatedClient SeatFault
client_by l s (Ok key) = Ok (client_with l s key)
client_by l s (Err fault) = Err fault

-- the client that a seat of the file gives
abbrev pub client_in : Listing → ClientSeat → Result SeatedClient SeatFault
client_in l s = client_by l s (key_in l (client_party s) s.seed s.leaf)

-- a client is the one that is given
pub record ClientSitsAt {V S : Type 0} {v : verifiers.Ghosts V} {g : signers.Ghosts S} (client : Client V S v g)
    (given : Result SeatedClient SeatFault) : Type 0 where
  pub seated : SeatedClient
  pub is : given ≡ Ok seated
  pub me : own client ≡ seated.me
  pub shows : ShowsClient client seated.client
  pub fresh : seated.client.slots ≡ []
