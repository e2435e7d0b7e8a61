-- A replica in its seat.
use Rattle.std.specs.Prelude.{◌≡◌, ℕ, ◌-◌, List, Option, Some, None, Result, Ok, Err}
use Rattle.keyring.specs.declared.verifier.Verifier as verifiers
use Rattle.keyring.specs.declared.signer.Signer as signers
use Rattle.basil_types.specs.Setting.{Setting}
use Rattle.basil_types.specs.declared.party.Party.{Party}
use Rattle.basil_types.specs.declared.party.Party.TheVariants.{Replica as replica_at}
use Rattle.cluster_file.specs.Listing.{Listing, address_in}
use Rattle.keyring_lms.specs.Keys.{lms_accepts}
use Rattle.keyring_lms.specs.Pens.{lms_signing}
use Rattle.lms_sign.specs.Sets.{leaves_of}
use Rattle.lms_sign.specs.Signing.{Key}
use Rattle.replica_core.specs.Shown.{ShowsBook, own}
use Rattle.node_steps.specs.Pens.{pen_value}
use Rattle.replica_core.specs.Replicas.{ReplicaSelf, BookValue, empty_book}
use Rattle.replica_core.specs.declared.replica.Replica.{Replica}
use Rattle.party_seat.specs.Keys.{key_in}
use Rattle.party_seat.specs.declared.fault.SeatFault.{SeatFault}
use Rattle.party_seat.specs.declared.fault.SeatFault.TheVariants.{WrongKey}
use Rattle.party_seat.specs.declared.station.NodeSeat.{NodeSeat}

-- a replica before its first frame: what doesn't change of it, and its book
pub record Seated : Type 0 where
  pub me : ReplicaSelf
  pub book : BookValue

abbrev pub party_of : NodeSeat → Party
party_of s = replica_at s.shard s.index

-- the replica of a seat with this key: it accepts what is valid under the file's public keys, and has signed nothing
abbrev pub seated_with : Listing → NodeSeat → Key → Seated
seated_with l s key = record {
  me = record {
    home = record { cluster = l.cluster; shard = s.shard };
    index = s.index;
    accepts = lms_accepts l.publics;
    signing = lms_signing (party_of s) key.tree key.next;
  };
  book = empty_book (pen_value 0 (leaves_of key.tree.set - key.next));
}

abbrev pub seated_by : Listing → NodeSeat → Result Key SeatFault → Result Seated SeatFault
seated_by l s (Ok key) = Ok (seated_with l s key)
seated_by l s (Err fault) = Err fault

-- the replica that a seat of the file gives
abbrev pub self_in : Listing → NodeSeat → Result Seated SeatFault
self_in l s = seated_by l s (key_in l (party_of s) s.seed s.leaf)

-- a replica is the one that is given
pub record SitsAt {V S : Type 0} {v : verifiers.Ghosts V} {g : signers.Ghosts S} (replica : Replica V S v g)
    (given : Result Seated SeatFault) : Type 0 where
  pub seated : Seated
  pub is : given ≡ Ok seated
  pub me : own replica ≡ seated.me
  pub book : ShowsBook replica seated.book

-- ---- with its address

-- where a replica listens, and what it is
pub record Station : Type 0 where
  pub address : List ℕ
  pub seated : Seated

abbrev pub station_with : Option (List ℕ) → Result Seated SeatFault → Result Station SeatFault
station_with None seated = Err WrongKey
station_with (Some address) (Ok seated) = Ok (record { address = address; seated = seated })
station_with (Some address) (Err fault) = Err fault

-- the station of a seat: a replica that isn't listed has no address
abbrev pub station_in : Listing → NodeSeat → Result Station SeatFault
station_in l s = station_with (address_in l (party_of s)) (self_in l s)

-- a replica is a station's, before its first frame, in this cluster and at this address
pub record StandsAt {V S : Type 0} {v : verifiers.Ghosts V} {g : signers.Ghosts S} (replica : Replica V S v g)
    (cluster : Setting) (address : List ℕ) (s : Station) : Type 0 where
  pub me : own replica ≡ s.seated.me
  pub book : ShowsBook replica s.seated.book
  pub cluster_is : cluster ≡ s.seated.me.home.cluster
  pub address_is : address ≡ s.address
  pub fresh : (left : ℕ) × (s.seated.book ≡ empty_book (pen_value 0 left))
