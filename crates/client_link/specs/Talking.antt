-- A client that asks the messages which it sends over links, one after another, and takes what it is answered.
use Rattle.std.specs.Prelude.{◌≡◌, ℕ, ◌+◌, ◌-◌, ◌==◌, List, [], ◌∷◌, ◌++◌, fold, map, Option, Some, None}
use Rattle.std.specs.Prelude.{Result, Ok, Err}
use Rattle.std.specs.Prelude.{if◌then◌else◌}
use Rattle.basil_types.specs.declared.outbox.Envelope.{Envelope}
use Rattle.basil_types.specs.declared.party.Party.{Party}
use Rattle.basil_types.specs.declared.party.Party.TheVariants.{Replica, Client}
use Rattle.basil_types.specs.Links.{LinkState}
use Rattle.basil_types.specs.Setting.{Setting}
use Rattle.certificates.specs.declared.fault.FrameFault.{FrameFault}
use Rattle.client_core.specs.Answers.{on_frame}
use Rattle.client_core.specs.Clients.{ClientDone, ClientSelf, ClientValue}
use Rattle.cluster_file.specs.Listing.{Listing, address_in}
use Rattle.node_link.specs.Answering.{envelope_bytes}
use Rattle.node_link.specs.Asking.{Fate, asked, failures_of, given_by}
use Rattle.node_steps.specs.Framed.{framed}

-- what the client holds, what its links have, the messages that wait to be asked, and how many envelopes of others for
-- replicas it still carries
pub record Talk : Type 0 where
  pub client : ClientValue
  pub links : LinkState
  pub queue : List Envelope
  pub left : ℕ

-- ---- what is taken of an answer

-- the client answers a frame, and lets go what it refuses
abbrev pub answered : Talk → Result ClientDone FrameFault → Talk
answered t (Ok d) = record t { client = d.client; queue = t.queue ++ map framed d.sent }
answered t (Err fault) = t

-- an envelope for a replica waits to be asked, while so many are carried
abbrev pub carries : Talk → Envelope → Talk
carries t e = if t.left == 0 then t else record t { queue = t.queue ++ e ∷ []; left = t.left - 1 }

-- one for another client is dropped
abbrev pub takes_for : ClientSelf → Talk → Envelope → (receiver : Party) → Talk
takes_for me t e (Replica shard index) = carries t e
takes_for me t e (Client number) = if number == me.number then answered t (on_frame me t.client e.frame) else t

abbrev pub takes : ClientSelf → Talk → Envelope → Talk
takes me t e = takes_for me t e e.to

unfoldable pub takes_all : ClientSelf → Talk → List Envelope → Talk
takes_all me t envelopes = fold (takes me) t envelopes

-- ---- asks

-- a frame in the envelope in which this client asks it, whoever made it
abbrev pub asking : (number : ℕ) → Envelope → List ℕ
asking number e = envelope_bytes (record { to = Client number; frame = e.frame })

-- a receiver without an address isn't asked
abbrev pub links_after : Fate → (address : Option (List ℕ)) → (envelope : List ℕ) → LinkState → LinkState
links_after fate None envelope s = s
links_after fate (Some address) envelope s = asked fate address envelope s

abbrev pub given_at : Fate → (address : Option (List ℕ)) → Setting → LinkState → List Envelope
given_at fate None cluster s = []
given_at fate (Some address) cluster s = given_by fate cluster s

-- the first message that waits is asked, and what its answer brings is taken
abbrev pub asks_first : ClientSelf → Listing → Fate → Talk → List Envelope → Talk
asks_first me l fate t [] = t
asks_first me l fate t (e ∷ queue) =
    takes_all me
    (record t { queue = queue; links = links_after fate (address_in l e.to) (asking me.number e) t.links })
    (given_at fate (address_in l e.to) me.cluster t.links)

abbrev pub asks_next : ClientSelf → Listing → Talk → Fate → Talk
asks_next me l t fate = asks_first me l fate t t.queue

-- one after another, by how each went
unfoldable pub asks : ClientSelf → Listing → Talk → List Fate → Talk
asks me l t fates = fold (asks_next me l) t fates

-- how many calls of the links failed in them
abbrev pub failures : List Fate → ℕ
failures [] = 0
failures (fate ∷ fates) = failures_of fate + failures fates

-- asks until nothing waits, in which so many calls of the links failed
pub record AsksAll (me : ClientSelf) (l : Listing) (old new : Talk) (failed : ℕ) : Type 0 where
  pub fates : List Fate
  pub asked : new ≡ asks me l old fates
  pub still : new.queue ≡ []
  pub counted : failed ≡ failures fates
