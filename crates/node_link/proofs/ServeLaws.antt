-- A node that serves connections, one more at each turn.
use Rattle.std.proofs.Common.{◌≡◌, ℕ, zero, suc, ◌+◌, ◌-◌, ◌*◌, ◌<◌, ◌≤◌, List, length, Option, Some, refl, sym, ap, subst, ◌∙◌}
use Rattle.std.proofs.Common.{arith, add-one}
use Rattle.std.specs.Prelude.{option_map}
use Rattle.basil_types.specs.declared.links.LinkFail.{LinkFail}
use Rattle.basil_types.specs.declared.links.LinkFail.TheVariants.{Failed, NoMemory}
use Rattle.basil_types.specs.Causes.{Rose}
use Rattle.basil_types.specs.Links.{LinkState, accepts, closes, listens}
use Rattle.basil_types.specs.Setting.{Setting}
use Rattle.keyring.specs.declared.verifier.Verifier as verifiers
use Rattle.keyring.specs.declared.signer.Signer as signers
use Rattle.replica_core.specs.declared.replica.Replica.{Replica}
use Rattle.replica_core.specs.Replicas.{ReplicaSelf}
use Rattle.node_link.specs.declared.fault.ServeFault.{ServeFault}
use Rattle.node_link.specs.declared.fault.ServeFault.TheVariants as stops
use Rattle.node_link.specs.Asking.{RoseBy}
use Rattle.node_link.specs.Faults.{fault_of}
use Rattle.node_link.specs.Serving.{Served, IsAt, HasServed, serves_all}
use Rattle.replica_core.specs.Shown.{own}
use Rattle.node_link.specs.Connections.{Node, IsNode, served_of, envelopes_of, after_connection, serves_connection, serves_connections}
use Rattle.node_link.specs.Connections.{Cut, Whole, Between, Within, Finished, ServesNext, ServesPart, ServesParts, Stopped, StopsAt}
use Rattle.node_link.specs.Connections.{failed_outside, listening}

-- ---- failed calls

-- the fault of a failing link is that of its links
pub link_fault : (fail : LinkFail) → fault_of fail ≡ stops.LinkFault → fail ≡ Failed
link_fault Failed e = refl
link_fault NoMemory e = absurd cc

-- a call that was on no connection failed, or found memory wanting
pub outside : (fail : LinkFail) (fault : ServeFault) (before now : ℕ) → fault ≡ fault_of fail → before ≤ now →
    (fail ≡ Failed → Rose before now) → RoseBy (failed_outside (Some fault)) before now
outside Failed fault before now e later risen =
    subst (λ (f : ServeFault). RoseBy (failed_outside (Some f)) before now) (sym e) (risen refl)
outside NoMemory fault before now e later risen =
    subst (λ (f : ServeFault). RoseBy (failed_outside (Some f)) before now) (sym e) (omega (arith, later))

rose_then : (a b before mid now : ℕ) → RoseBy a before mid → RoseBy b mid now → RoseBy (a + b) before now
rose_then a b before mid now p q = omega (arith, p, q)

-- where a count didn't rise none did
none_failed : (failed before now : ℕ) → RoseBy failed before now → (Rose before now → ⊥) → failed ≡ 0
none_failed zero before now risen calm = refl
none_failed (suc k) before now risen calm = absurd (calm (omega (arith, risen)))

-- ---- one connection

pub accepted_at : {V S : Type 0} {v : verifiers.Ghosts V} {g : signers.Ghosts S} (replica : Replica V S v g)
    (ticks : Option (List ℕ)) (told after : Option LinkState) (count : ℕ) (n : Node) → IsNode replica ticks told count n →
    after ≡ option_map accepts told → IsAt replica ticks after (accepts n.links) (served_of n)
accepted_at replica ticks told after count n h e =
    record { book = h.book; moments = h.moments; links = e ∙ ap (option_map accepts) h.links }

node_after : {V S : Type 0} {v : verifiers.Ghosts V} {g : signers.Ghosts S} (replica : Replica V S v g)
    (ticks : Option (List ℕ)) (told : Option LinkState) (count before handled : ℕ) (n : Node) (s : Served) →
    IsAt replica ticks told (closes (accepts n.links)) s → before ≡ n.frames → count ≡ before + handled →
    IsNode replica ticks told count (after_connection n s handled)
node_after replica ticks told count before handled n s at b c =
    record { book = at.book; moments = at.moments; links = at.links; frames = omega arith }

-- the next connection was served, and its calls failed as often
abbrev pub NextServed : {V S : Type 0} {v : verifiers.Ghosts V} {g : signers.Ghosts S} → (next : Replica V S v g) →
    (latest : Option (List ℕ)) → (last : Option LinkState) → Setting → ReplicaSelf → (counted : ℕ) → (old : Node) →
    (fails failed : ℕ) → Type 0
NextServed next latest last cluster me counted old fails failed =
    (m : Node) × (cuts : ℕ) × ServesNext cluster me old m 0 cuts × IsNode next latest last counted m × RoseBy cuts fails failed

pub next_whole : {V S : Type 0} {v : verifiers.Ghosts V} {g : signers.Ghosts S} (next : Replica V S v g)
    (latest : Option (List ℕ)) (last : Option LinkState) (cluster : Setting) (me : ReplicaSelf) (count counted : ℕ) (n : Node)
    (fails failed : ℕ) → IsAt next latest last (closes (accepts n.links)) (serves_all me (served_of n) (envelopes_of cluster n)) →
    count ≡ n.frames → counted ≡ count + length (envelopes_of cluster n) → fails ≤ failed →
    NextServed next latest last cluster me counted n fails failed
next_whole next latest last cluster me count counted n fails failed at b c later = (
  serves_connection cluster me n,
  0,
  Whole refl refl,
  node_after next latest last counted count (length (envelopes_of cluster n)) n
      (serves_all me (served_of n) (envelopes_of cluster n)) at b c,
  omega (arith, later),
)

-- some of its envelopes were handled
abbrev pub PartServed : {V S : Type 0} {v : verifiers.Ghosts V} {g : signers.Ghosts S} → (next : Replica V S v g) →
    (latest : Option (List ℕ)) → (last : Option LinkState) → LinkFail → Setting → ReplicaSelf → (counted : ℕ) → (old : Node) → Type 0
PartServed next latest last fail cluster me counted old =
    (m : Node) × ServesPart fail cluster me old m × IsNode next latest last counted m

pub next_part : {V S : Type 0} {v : verifiers.Ghosts V} {g : signers.Ghosts S} (next : Replica V S v g)
    (latest : Option (List ℕ)) (last : Option LinkState) (fail : LinkFail) (cluster : Setting) (me : ReplicaSelf)
    (count counted : ℕ) (n : Node) →
    HasServed next latest last me (closes (accepts n.links)) (served_of n) (envelopes_of cluster n) (counted - count) fail →
    count ≡ n.frames → count ≤ counted → PartServed next latest last fail cluster me counted n
next_part next latest last fail cluster me count counted n did b c = (
  after_connection n did.0 (counted - count),
  record { handled = counted - count; served = did.0; some = did.2; is = refl },
  node_after next latest last counted count (counted - count) n did.0 did.1 b (omega arith),
)

pub next_cut : {V S : Type 0} {v : verifiers.Ghosts V} {g : signers.Ghosts S} (next : Replica V S v g)
    (latest : Option (List ℕ)) (last : Option LinkState) (cluster : Setting) (me : ReplicaSelf) (counted : ℕ) (n : Node)
    (fails failed : ℕ) → PartServed next latest last Failed cluster me counted n → Rose fails failed →
    NextServed next latest last cluster me counted n fails failed
next_cut next latest last cluster me counted n fails failed part risen = (part.0, 1, Cut part.1 refl, part.2, risen)

-- where it stops
abbrev pub NextStopped : {V S : Type 0} {v : verifiers.Ghosts V} {g : signers.Ghosts S} → (next : Replica V S v g) →
    (latest : Option (List ℕ)) → (last : Option LinkState) → Setting → ReplicaSelf → (counted : ℕ) → (old : Node) →
    (fails failed : ℕ) → ServeFault → Type 0
NextStopped next latest last cluster me counted old fails failed fault =
    (m : Node) × StopsAt cluster me old m 1 (Some fault) × IsNode next latest last counted m
    × RoseBy (failed_outside (Some fault)) fails failed

pub stops_within : {V S : Type 0} {v : verifiers.Ghosts V} {g : signers.Ghosts S} (next : Replica V S v g)
    (latest : Option (List ℕ)) (last : Option LinkState) (cluster : Setting) (me : ReplicaSelf) (counted : ℕ) (n : Node)
    (fails failed : ℕ) → PartServed next latest last NoMemory cluster me counted n → fails ≤ failed →
    NextStopped next latest last cluster me counted n fails failed stops.NoMemory
stops_within next latest last cluster me counted n fails failed part later =
    (part.0, Within (omega arith) refl part.1, part.2, omega (arith, later))

pub stops_between : {V S : Type 0} {v : verifiers.Ghosts V} {g : signers.Ghosts S} (replica : Replica V S v g)
    (ticks : Option (List ℕ)) (told after : Option LinkState) (cluster : Setting) (me : ReplicaSelf) (count : ℕ) (n : Node)
    (fails failed : ℕ) (fault : ServeFault) → IsNode replica ticks told count n → after ≡ told →
    RoseBy (failed_outside (Some fault)) fails failed → NextStopped replica ticks after cluster me count n fails failed fault
stops_between replica ticks told after cluster me count n fails failed fault h e risen = (
  n,
  Between refl,
  record { book = h.book; moments = h.moments; links = e ∙ h.links; frames = h.frames },
  risen,
)

-- ---- the turns

pub record Serving {V S : Type 0} {v : verifiers.Ghosts V} {g : signers.Ghosts S} (first now : Replica V S v g)
    (ticks later : Option (List ℕ)) (told after : Option LinkState) (cluster : Setting) (count turn faults fails : ℕ) : Type 0 where
  pub few : count ≤ turn * 16777216
  pub self : own now ≡ own first
  pub risen : faults ≤ fails
  pub served : (n : Node) → IsNode first ticks told 0 n →
      Finished now later after count cluster (own first) turn n faults fails

pub serving_none : {V S : Type 0} {v : verifiers.Ghosts V} {g : signers.Ghosts S} (first : Replica V S v g)
    (ticks : Option (List ℕ)) (told : Option LinkState) (cluster : Setting) (faults : ℕ) →
    Serving first first ticks ticks told told cluster 0 0 faults faults
unfolding ServesParts
serving_none first ticks told cluster faults =
    record {
      few = omega arith;
      self = refl;
      risen = omega arith;
      served = λ n h. record { new = n; failed = 0; served = (refl, refl); is = h; risen = omega arith };
    }

-- behind others, whose failed calls are counted too
next_behind : (cluster : Setting) (me : ReplicaSelf) (old new : Node) (earlier failed : ℕ) → ServesNext cluster me old new 0 failed →
    ServesNext cluster me old new earlier (earlier + failed)
next_behind cluster me old new earlier failed (Whole is none) = Whole is (omega (arith, none))
next_behind cluster me old new earlier failed (Cut part one) = Cut part (omega (arith, one))

finished_more : {V S : Type 0} {v : verifiers.Ghosts V} {g : signers.Ghosts S} (now next : Replica V S v g)
    (later latest : Option (List ℕ)) (after last : Option LinkState) (cluster : Setting) (me : ReplicaSelf) (n : Node)
    (count counted turn faults fails failed : ℕ) → (f : Finished now later after count cluster me turn n faults fails) →
    NextServed next latest last cluster me counted f.new fails failed →
    Finished next latest last counted cluster me (suc turn) n faults failed
unfolding ServesParts
finished_more now next later latest after last cluster me n count counted turn faults fails failed f did =
    record {
      new = did.0;
      failed = f.failed + did.1;
      served = (f.new, f.failed, f.served, next_behind cluster me f.new did.0 f.failed did.1 did.2);
      is = did.3;
      risen = rose_then f.failed did.1 faults fails failed f.risen did.4;
    }

-- what the next connection came to
pub record Turned {V S : Type 0} {v : verifiers.Ghosts V} {g : signers.Ghosts S} (now next : Replica V S v g)
    (later latest : Option (List ℕ)) (after last : Option LinkState) (cluster : Setting) (count counted fails failed : ℕ) : Type 0 where
  pub risen : fails ≤ failed
  pub few : counted ≤ count + 16777216
  pub self : own next ≡ own now
  pub served : (n : Node) → IsNode now later after count n → NextServed next latest last cluster (own now) counted n fails failed

pub serving_more : {V S : Type 0} {v : verifiers.Ghosts V} {g : signers.Ghosts S} (first now next : Replica V S v g)
    (ticks later latest : Option (List ℕ)) (told after last : Option LinkState) (cluster : Setting)
    (count counted turn faults fails failed : ℕ) → Serving first now ticks later told after cluster count turn faults fails →
    Turned now next later latest after last cluster count counted fails failed →
    Serving first next ticks latest told last cluster counted (turn + 1) faults failed
serving_more first now next ticks later latest told after last cluster count counted turn faults fails failed t c =
    rw add-one
    (record {
      few = omega (arith, t.few, c.few);
      self = c.self ∙ t.self;
      risen = omega (arith, t.risen, c.risen);
      served = λ n h.
          let f = t.served n h in
          finished_more now next later latest after last cluster (own first) n count counted turn faults fails failed f
          (subst (λ (me : ReplicaSelf). NextServed next latest last cluster me counted f.new fails failed) t.self (c.served f.new f.is));
    })

-- ---- where no call failed

whole_next : (cluster : Setting) (me : ReplicaSelf) (mid new wanted : Node) (earlier failed : ℕ) → failed ≡ 0 →
    (earlier ≡ 0 → mid ≡ wanted) → ServesNext cluster me mid new earlier failed → new ≡ serves_connection cluster me wanted
whole_next cluster me mid new wanted earlier failed none so (Whole is same) =
    is ∙ ap (serves_connection cluster me) (so (omega (arith, none, same)))
whole_next cluster me mid new wanted earlier failed none so (Cut part more) = absurd (omega (arith, none, more))

parts_whole : (connections failed : ℕ) (cluster : Setting) (me : ReplicaSelf) (old new : Node) → failed ≡ 0 →
    ServesParts connections failed cluster me old new → new ≡ serves_connections connections cluster me old
unfolding ServesParts serves_connections
parts_whole zero failed cluster me old new none p = p.1
parts_whole (suc before) failed cluster me old new none p =
    whole_next cluster me p.0 new (serves_connections before cluster me old) p.1 failed none
    (λ e. parts_whole before p.1 cluster me old p.0 e p.2) p.3

-- all of them were served whole
pub finished_whole : {V S : Type 0} {v : verifiers.Ghosts V} {g : signers.Ghosts S} (replica : Replica V S v g)
    (ticks : Option (List ℕ)) (told : Option LinkState) (count : ℕ) (cluster : Setting) (me : ReplicaSelf) (connections : ℕ)
    (n : Node) (before now : ℕ) → (Rose before now → ⊥) → Finished replica ticks told count cluster me connections n before now →
    IsNode replica ticks told count (serves_connections connections cluster me n)
finished_whole replica ticks told count cluster me connections n before now calm f =
    subst (λ (m : Node). IsNode replica ticks told count m)
    (parts_whole connections f.failed cluster me n f.new (none_failed f.failed before now f.risen calm) f.served) f.is

-- ---- listening

pub listening_at : {V S : Type 0} {v : verifiers.Ghosts V} {g : signers.Ghosts S} (replica : Replica V S v g)
    (ticks : Option (List ℕ)) (told after : Option LinkState) (address : List ℕ) (count : ℕ) (n : Node) →
    IsNode replica ticks told count n → after ≡ option_map (listens address) told →
    IsNode replica ticks after count (listening address n)
listening_at replica ticks told after address count n h e =
    record { book = h.book; moments = h.moments; links = e ∙ ap (option_map (listens address)) h.links; frames = h.frames }

-- a call before it raised no count
pub finished_from : {V S : Type 0} {v : verifiers.Ghosts V} {g : signers.Ghosts S} (replica : Replica V S v g)
    (ticks : Option (List ℕ)) (told : Option LinkState) (count : ℕ) (cluster : Setting) (me : ReplicaSelf) (connections : ℕ)
    (n : Node) (before mid now : ℕ) → mid ≡ before → Finished replica ticks told count cluster me connections n mid now →
    Finished replica ticks told count cluster me connections n before now
finished_from replica ticks told count cluster me connections n before mid now same f = rw (← same) f

pub stopped_from : {V S : Type 0} {v : verifiers.Ghosts V} {g : signers.Ghosts S} (replica : Replica V S v g)
    (ticks : Option (List ℕ)) (told : Option LinkState) (cluster : Setting) (me : ReplicaSelf) (connections : ℕ) (n : Node)
    (before mid now : ℕ) (fault : ServeFault) → mid ≡ before →
    Stopped replica ticks told cluster me connections n mid now fault →
    Stopped replica ticks told cluster me connections n before now fault
stopped_from replica ticks told cluster me connections n before mid now fault same f = rw (← same) f

-- ---- where it stops

-- nothing was served
pub stopped_none : {V S : Type 0} {v : verifiers.Ghosts V} {g : signers.Ghosts S} (replica : Replica V S v g)
    (ticks : Option (List ℕ)) (told after : Option LinkState) (cluster : Setting) (me : ReplicaSelf) (connections count : ℕ)
    (n : Node) (before now : ℕ) (fault : ServeFault) → IsNode replica ticks told count n → after ≡ told →
    RoseBy (failed_outside (Some fault)) before now → Stopped replica ticks after cluster me connections n before now fault
unfolding ServesParts
stopped_none replica ticks told after cluster me connections count n before now fault h e risen =
    record {
      new = n;
      failed = 0;
      served = record { done = 0; within = omega arith; last = n; served = (refl, refl); stop = Between refl };
      is = record { book = h.book; moments = h.moments; links = e ∙ h.links; frames = refl };
      risen = omega (arith, risen);
    }

stops_with_more : (cluster : Setting) (me : ReplicaSelf) (old new : Node) (more : ℕ) (fault : Option ServeFault) → 1 ≤ more →
    StopsAt cluster me old new 1 fault → StopsAt cluster me old new more fault
stops_with_more cluster me old new more fault some (Between is) = Between is
stops_with_more cluster me old new more fault some (Within one wanting part) = Within some wanting part

-- after some turns, at the next
pub stopped_later : {V S : Type 0} {v : verifiers.Ghosts V} {g : signers.Ghosts S} (first now next : Replica V S v g)
    (ticks later latest : Option (List ℕ)) (told after last : Option LinkState) (cluster : Setting)
    (count counted turn faults fails failed connections : ℕ) (n : Node) (fault : ServeFault) →
    Serving first now ticks later told after cluster count turn faults fails → IsNode first ticks told 0 n → turn < connections →
    ((m : Node) → IsNode now later after count m → NextStopped next latest last cluster (own now) counted m fails failed fault) →
    Stopped next latest last cluster (own first) connections n faults failed fault
stopped_later first now next ticks later latest told after last cluster count counted turn faults fails failed connections n fault
    t h more stop =
    let f = t.served n h in
    let end = subst (λ (me : ReplicaSelf). NextStopped next latest last cluster me counted f.new fails failed fault) t.self
    (stop f.new f.is) in
    record {
      new = end.0;
      failed = f.failed;
      served = record {
        done = turn;
        within = omega (arith, more);
        last = f.new;
        served = f.served;
        stop = stops_with_more cluster (own first) f.new end.0 (connections - turn) (Some fault) (omega (arith, more)) end.1;
      };
      is = record { book = end.2.book; moments = end.2.moments; links = end.2.links; frames = refl };
      risen = rose_then f.failed (failed_outside (Some fault)) faults fails failed f.risen end.3;
    }
