-- What holds of a seat's station, and of a node that didn't begin.
use Rattle.std.proofs.Common.{◌≡◌, ℕ, ◌+◌, ◌-◌, ◌≤◌, List, false, Option, Some, None, Result, Ok, Err, refl, sym, ap, subst, ◌∙◌}
use Rattle.std.proofs.Common.{inl, inr, arith}
use Rattle.std.specs.Prelude.{IfErr, OnOk}
use Rattle.basil_types.specs.Links.{LinkState}
use Rattle.basil_types.specs.Setting.{Setting}
use Rattle.cluster_file.specs.Listing.{Listing, address_in}
use Rattle.keyring.specs.declared.verifier.Verifier as verifiers
use Rattle.keyring.specs.declared.signer.Signer as signers
use Rattle.lms_sign.specs.Sets.{leaves_of}
use Rattle.lms_sign.specs.Signing.{Key}
use Rattle.node_steps.specs.Pens.{pen_value}
use Rattle.node_link.specs.Asking.{RoseBy}
use Rattle.node_link.specs.Connections.{Between, Finished, HasListened, IsNode, Node, ServesParts, ServesUntil, Stopped}
use Rattle.node_link.specs.Connections.{failed_outside, listening}
use Rattle.node_link.specs.declared.fault.ServeFault.{ServeFault}
use Rattle.node_link.specs.declared.fault.ServeFault.TheVariants as stops
use Rattle.node_link.specs.Spending.{SignsWithinFrames}
use Rattle.replica_core.specs.declared.replica.Replica.{Replica}
use Rattle.party_seat.specs.Keys.{key_in}
use Rattle.replica_core.specs.Replicas.{ReplicaSelf, BookValue, empty_book}
use Rattle.replica_core.specs.Shown.{ShowsBook, own}
use Rattle.party_seat.specs.Faults.{seat_fault_of, serve_fault_of}
use Rattle.party_seat.specs.Serving.{Begins, HasFinished, HasStopped, Refuses, is_seatless, stop_of}
use Rattle.party_seat.specs.Stations.{Seated, SitsAt, StandsAt, Station, party_of, seated_by, self_in, station_in}
use Rattle.party_seat.specs.declared.fault.NodeFault.{NodeFault}
use Rattle.party_seat.specs.declared.fault.NodeFault.TheVariants.{WrongKey, WrongLeaf, LinkFault, NoMemory}
use Rattle.party_seat.specs.declared.fault.SeatFault.{SeatFault}
use Rattle.party_seat.specs.declared.fault.SeatFault.TheVariants as seats
use Rattle.party_seat.specs.declared.station.NodeSeat.{NodeSeat}

-- ---- the station of a seat

module _ (l : Listing) (seat : NodeSeat) (address : List ℕ) (listed : address_in l (party_of seat) ≡ Some address) where
  pub station_is : (seated : Seated) → self_in l seat ≡ Ok seated →
      station_in l seat ≡ Ok (record { address = address; seated = seated })
  station_is seated e = cc

  abbrev cluster_in : Result Seated SeatFault → Setting
  cluster_in (Ok seated) = seated.me.home.cluster
  cluster_in (Err fault) = l.cluster

  abbrev book_in : Result Seated SeatFault → BookValue
  book_in (Ok seated) = seated.book
  book_in (Err fault) = empty_book (pen_value 0 0)

  -- it is in the file's cluster
  cluster_is : (seated : Seated) (key : Result Key SeatFault) → seated_by l seat key ≡ Ok seated →
      l.cluster ≡ seated.me.home.cluster
  cluster_is seated (Ok key) e = ap cluster_in e
  cluster_is seated (Err fault) e = absurd cc

  -- and it hasn't signed anything
  fresh_is : (seated : Seated) (key : Result Key SeatFault) → seated_by l seat key ≡ Ok seated →
      (left : ℕ) × (seated.book ≡ empty_book (pen_value 0 left))
  fresh_is seated (Ok key) e = (leaves_of key.tree.set - key.next, sym (ap book_in e))
  fresh_is seated (Err fault) e = absurd cc

  pub there : (given : Result Seated SeatFault) → self_in l seat ≡ given → (seated : Seated) → given ≡ Ok seated →
      (s : Station) × (station_in l seat ≡ Ok s)
  there given e seated is = (record { address = address; seated = seated }, station_is seated cc)

  pub stands_at : {V S : Type 0} {v : verifiers.Ghosts V} {g : signers.Ghosts S} (replica : Replica V S v g) →
      SitsAt replica (self_in l seat) → (cluster : Setting) → cluster ≡ l.cluster → (s : Station) → station_in l seat ≡ Ok s →
      StandsAt replica cluster address s
  stands_at replica sits cluster f s e =
      let at : station_in l seat ≡ Ok (record { address = address; seated = sits.seated }) = station_is sits.seated sits.is in
      let same : record { address = address; seated = sits.seated } ≡ s = cc in
      subst (λ (x : Station). StandsAt replica cluster address x) same
      (record {
        me = sits.me;
        book = sits.book;
        cluster_is = f ∙ cluster_is sits.seated (key_in l (party_of seat) seat.seed seat.leaf) sits.is;
        address_is = refl;
        fresh = fresh_is sits.seated (key_in l (party_of seat) seat.seed seat.leaf) sits.is;
      })

-- ---- a node that serves at its station

-- the fault is that of its node
pub stop_is : (fault : ServeFault) → stop_of (Err (serve_fault_of fault)) ≡ Some fault
stop_is stops.LinkFault = refl
stop_is stops.NoMemory = refl

module _ {V S : Type 0} {v : verifiers.Ghosts V} {g : signers.Ghosts S} (first new : Replica V S v g) (cluster : Setting)
    (address : List ℕ) (s : Station) (at : StandsAt first cluster address s) (connections : ℕ) (ticks later : Option (List ℕ))
    (told after : Option LinkState) (n : Node) (begins : Begins s ticks told n) (before now : ℕ) where
  is_node : IsNode first ticks told 0 n
  is_node =
      record {
        book = subst (λ b. ShowsBook first b) (sym begins.book) at.book;
        moments = begins.outside.moments;
        links = begins.outside.links;
        frames = begins.outside.frames;
      }

  -- in the cluster of the seat, and as its replica
  seated_so : (So : Setting → ReplicaSelf → Type 0) → So cluster (own first) → So s.seated.me.home.cluster s.seated.me
  seated_so So h =
      subst (λ (me : ReplicaSelf). So s.seated.me.home.cluster me) at.me (subst (λ (c : Setting). So c (own first)) at.cluster_is h)

  pub has_finished : SignsWithinFrames → (count : ℕ) → (IsNode first ticks told 0 n →
      Finished new later after count cluster (own first) connections (listening address n) before now) →
      HasFinished s connections n later after count before now
  has_finished few count so =
      let f = so is_node in
      let left = at.fresh.0 in
      let most : f.new.book.pen.spent ≤ 0 + f.new.frames =
      few cluster (own first) (pen_value 0 left) connections f.failed (listening address n) f.new (begins.book ∙ at.fresh.1)
      (sym begins.outside.frames) f.served in
      let counted = f.is.frames in
      record {
        new = f.new;
        failed = f.failed;
        served = subst (λ (a : List ℕ). ServesParts connections f.failed s.seated.me.home.cluster s.seated.me (listening a n) f.new)
            at.address_is
            (seated_so (λ c me. ServesParts connections f.failed c me (listening address n) f.new) f.served);
        is = record { moments = f.is.moments; links = f.is.links; frames = f.is.frames };
        risen = f.risen;
        leaves = omega (arith, most, counted);
      }

  pub has_stopped : (fault : ServeFault) (told_as : NodeFault) → told_as ≡ serve_fault_of fault → (IsNode first ticks told 0 n →
      (start : Node) × HasListened address n start ×
      Stopped new later after cluster (own first) connections start before now fault) →
      HasStopped s connections n later after before now (stop_of (Err told_as))
  has_stopped fault told_as same so =
      let f = so is_node in
      rw (same, stop_is fault)
      (record {
        start = f.0;
        listened = subst (λ (a : List ℕ). HasListened a n f.0) at.address_is f.1;
        new = f.2.new;
        failed = f.2.failed;
        served = seated_so (λ c me. ServesUntil (Some fault) connections f.2.failed c me f.0 f.2.new) f.2.served;
        is = record { moments = f.2.is.moments; links = f.2.is.links; frames = refl };
        risen = f.2.risen;
      })

-- behind its last connection it stops without a fault
pub stops_done : (s : Station) (connections : ℕ) (n : Node) (ticks : Option (List ℕ)) (told : Option LinkState)
    (count before now : ℕ) → HasFinished s connections n ticks told count before now →
    HasStopped s connections n ticks told before now None
stops_done s connections n ticks told count before now f =
    record {
      start = listening s.address n;
      listened = inr refl;
      new = f.new;
      failed = f.failed;
      served = record {
        done = connections;
        within = omega arith;
        last = f.new;
        served = f.served;
        stop = Between refl;
      };
      is = record { moments = f.is.moments; links = f.is.links; frames = refl };
      risen = omega (arith, f.risen);
    }

-- ---- a node that didn't begin

pub not_begun : (s : Station) (connections : ℕ) (ticks : Option (List ℕ)) (told : Option LinkState) (n : Node) (count : ℕ)
    (fault : SeatFault) (told_as : NodeFault) → told_as ≡ seat_fault_of fault → Begins s ticks told n →
    HasStopped s connections n ticks told count count (stop_of (Err told_as))
unfolding ServesParts
not_begun s connections ticks told n count fault told_as same b =
    rw same
    (record {
      start = n;
      listened = inl refl;
      new = n;
      failed = 0;
      served = record { done = 0; within = omega arith; last = n; served = (refl, refl); stop = Between refl };
      is = record { moments = b.outside.moments; links = b.outside.links; frames = refl };
      risen = none fault;
    })
  where
    none : (f : SeatFault) → RoseBy (0 + failed_outside (stop_of (Err (seat_fault_of f)))) count count
    none seats.WrongKey = omega arith
    none seats.WrongLeaf = omega arith
    none seats.NoMemory = omega arith

-- ---- a node that got its seat

module _ (result : Result ℕ NodeFault) where
  pub on_any : {P : Type 0} → P → OnOk result P
  on_any {P} p = by result
    where
      by : (r : Result ℕ NodeFault) → OnOk r P
      by (Ok frames) = p
      by (Err fault) = tt

  pub refuses : (answer : Result Station SeatFault) → (s : Station) × (answer ≡ Ok s) →
      IfErr result (λ fault. is_seatless fault ≡ false) → IfErr result (λ fault. Refuses fault answer)
  refuses answer there h = by result h
    where
      by : (r : Result ℕ NodeFault) → IfErr r (λ fault. is_seatless fault ≡ false) → IfErr r (λ fault. Refuses fault answer)
      by (Ok frames) h = tt
      by (Err WrongKey) h = absurd cc
      by (Err WrongLeaf) h = absurd cc
      by (Err LinkFault) h = there
      by (Err NoMemory) h = tt

pub no_refusal : (answer : Result Station SeatFault) → (s : Station) × (answer ≡ Ok s) → (P : Type 0) → IfErr answer (λ _. P)
no_refusal (Ok s) there P = tt
no_refusal (Err fault) there P = absurd (let is = there.1 in cc)
