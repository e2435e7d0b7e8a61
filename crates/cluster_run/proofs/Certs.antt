-- What the signatures of a seen certificate stand for is signed.
use Rattle.std.proofs.Common.{ℕ, Bool, [], refl, map}
use Rattle.std.specs.Prelude.{Contains}
use Rattle.basil_types.specs.Setting.{Setting}
use Rattle.basil_types.specs.Transaction.{TransactionValue, id}
use Rattle.certificates.specs.Quorums.{vote_words, log_words}
use Rattle.frame_views.specs.Carried.{paired, rival_in}
use Rattle.frame_views.specs.Values as values
use Rattle.frame_views.specs.Values.{BodyValue}
use Rattle.agreement_laws.specs.Words as laws
use Rattle.law_joins.specs.Shown.{decision_of as decision_as, NoneForged, CarriesText}
use Rattle.cluster_run.specs.Answering.{Moment, IsBacked}
use Rattle.cluster_run.specs.Settings.{Lookup, Finds, basis_of}
use Rattle.cluster_run.proofs.Members.{in_head}

-- what may be shown as a replica's words isn't forged
pub none_forged : (w : Moment) → IsBacked w → NoneForged w.said (basis_of w.cluster w.faulty w.tx) w.signed
none_forged w backed = record {
  votes = λ t s r d k. backed s r (vote_words t s r d) k.signature (laws.Vote s r (id t) (decision_as d)) k.accepted k.sized refl;
  logs = λ t s r d v u k. backed s r (log_words t s r d v u) k.signature (laws.LogReply s r (id t) (decision_as d) v u) k.accepted k.sized
      refl;
}

-- the rival that a certificate carries is a text where the transactions in it are
pub carries : (c : Setting) (faulty : ℕ → ℕ → Bool) (tx : Lookup) (b : BodyValue) →
    ((u : TransactionValue) → Contains (map paired (rival_in b)) u → Finds tx u) → CarriesText (basis_of c faulty tx) b
carries c faulty tx (values.Commits body) f = tt
carries c faulty tx (values.FastAbort tally) f = tt
carries c faulty tx (values.ConflictAbort x) f = f x.other (in_head x.other [])
