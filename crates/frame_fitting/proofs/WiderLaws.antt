-- What fits a cluster fits a wider one.
use Rattle.std.proofs.Common.{ℕ, ◌<◌, Bool, List, [], ◌∷◌, Option, Some, None, arith}
use Rattle.basil_types.specs.Lists.{AreItems}
use Rattle.basil_types.specs.Setting.{Setting, IsSetting}
use Rattle.frame_views.specs.declared.bounds.Bounds.{Bounds}
use Rattle.frame_views.specs.Values.{VoteValue, TallyValue, LogValue, ReplyValue, WordValue, CommitBody, FastCommit, Logged}
use Rattle.frame_views.specs.Values.{CommitValue, BodyValue, Commits, FastAbort, ConflictAbort, CertificateValue, CommittedValue}
use Rattle.frame_views.specs.Values.{MessageValue, Read, ReadReply, St1, Vote, St2, LogReply, Writeback, Recover, Invoke, Elect, Decide}
use Rattle.frame_views.specs.Fitting.{Within, bounds_of, widest, AreCounted, FitsPart, after_vote, after_tally, after_log, after_reply}
use Rattle.frame_views.specs.Fitting.{after_word, FitsVote, FitsVotes, FitsTally, FitsTallies, FitsLog, FitsReply, FitsWord}
use Rattle.frame_views.specs.Fitting.{FitsCommitBody, FitsCommit, FitsBody, FitsCertificate, FitsCommitted, FitsMessage}

module _ {V : Type 0} (Fit Wide : ℕ → V → Type 0) (next : V → ℕ) (one : (floor : ℕ) (v : V) → Fit floor v → Wide floor v) where
  wider_items : (floor : ℕ) (vs : List V) → AreItems Fit next floor vs → AreItems Wide next floor vs
  wider_items floor [] fits = tt
  wider_items floor (v ∷ vs) fits = (one floor v fits.0, wider_items (next v) vs fits.1)

  pub wider_list : (vs : List V) → AreCounted Fit next vs → AreCounted Wide next vs
  wider_list vs fits = record { count = fits.count; each = wider_items 0 vs fits.each }

wider_part : {A : Type 0} (allowed : Bool) (Fit Wide : A → Type 0) (one : (a : A) → Fit a → Wide a) (part : Option A) →
    FitsPart allowed Fit part → FitsPart allowed Wide part
wider_part allowed Fit Wide one None fits = tt
wider_part allowed Fit Wide one (Some a) fits = (fits.0, one a fits.1)

module _ (b wide : Bounds) (w : Within b wide) where
  shard_below : (n : ℕ) → n < b.shards → n < wide.shards
  shard_below n h = omega (arith, h, w.shards)

  replica_below : (n : ℕ) → n < b.replicas → n < wide.replicas
  replica_below n h = omega (arith, h, w.replicas)

  wider_vote : (floor : ℕ) (v : VoteValue) → FitsVote b floor v → FitsVote wide floor v
  wider_vote floor v f = record { above = f.above; below = replica_below v.replica f.below; signature = f.signature }

  wider_votes : (votes : List VoteValue) → FitsVotes b votes → FitsVotes wide votes
  wider_votes = wider_list (FitsVote b) (FitsVote wide) after_vote wider_vote

  wider_tally : (floor : ℕ) (t : TallyValue) → FitsTally b floor t → FitsTally wide floor t
  wider_tally floor t f = record { above = f.above; below = shard_below t.shard f.below; votes = wider_votes t.votes f.votes }

  wider_tallies : (tallies : List TallyValue) → FitsTallies b tallies → FitsTallies wide tallies
  wider_tallies = wider_list (FitsTally b) (FitsTally wide) after_tally wider_tally

  wider_log : (decided floor : ℕ) (l : LogValue) → FitsLog b decided floor l → FitsLog wide decided floor l
  wider_log decided floor l f =
      record { above = f.above; below = replica_below l.replica f.below; later = f.later; current = f.current; signature = f.signature }

  wider_reply : (floor : ℕ) (r : ReplyValue) → FitsReply b floor r → FitsReply wide floor r
  wider_reply floor r f = record {
    above = f.above;
    below = replica_below r.replica f.below;
    decided = f.decided;
    later = f.later;
    current = f.current;
    signature = f.signature;
  }

  wider_word : (floor : ℕ) (v : WordValue) → FitsWord b floor v → FitsWord wide floor v
  wider_word floor v f = record { above = f.above; below = replica_below v.replica f.below; signature = f.signature }

  wider_commit_body : (body : CommitBody) → FitsCommitBody b body → FitsCommitBody wide body
  wider_commit_body (FastCommit tallies) f = wider_tallies tallies f
  wider_commit_body (Logged l) f = record {
    shard = shard_below l.shard f.shard;
    decided = f.decided;
    logs = wider_list (FitsLog b l.decided) (FitsLog wide l.decided) after_log (wider_log l.decided) l.logs f.logs;
  }

  wider_commit : (c : CommitValue) → FitsCommit b c → FitsCommit wide c
  wider_commit c f = record { id = f.id; body = wider_commit_body c.body f.body }

  wider_body : (body : BodyValue) → FitsBody b body → FitsBody wide body
  wider_body (Commits body) f = wider_commit_body body f
  wider_body (FastAbort tally) f = wider_tally 0 tally f
  wider_body (ConflictAbort c) f = record {
    shard = shard_below c.shard f.shard;
    replica = replica_below c.replica f.replica;
    signature = f.signature;
    other = f.other;
    proof = wider_commit c.proof f.proof;
  }

  pub wider_certificate : (c : CertificateValue) → FitsCertificate b c → FitsCertificate wide c
  wider_certificate c f = record { id = f.id; body = wider_body c.body f.body }

  wider_committed : (c : CommittedValue) → FitsCommitted b c → FitsCommitted wide c
  wider_committed c f =
      record { transaction = f.transaction; certificate = wider_certificate c.certificate f.certificate; commits = f.commits }

  pub wider_message : (m : MessageValue) → FitsMessage b m → FitsMessage wide m
  wider_message (Read m) f = f
  wider_message (ReadReply m) f = record {
    shard = shard_below m.shard f.shard;
    replica = replica_below m.replica f.replica;
    key = f.key;
    time = f.time;
    client = f.client;
    committed = wider_part _
        (FitsCommitted b) (FitsCommitted wide) wider_committed m.committed f.committed;
    prepared = f.prepared;
    signature = f.signature;
  }
  wider_message (St1 m) f = f
  wider_message (Vote m) f = record {
    shard = shard_below m.shard f.shard;
    replica = replica_below m.replica f.replica;
    id = f.id;
    proof = wider_part _ (FitsCommitted b) (FitsCommitted wide) wider_committed m.proof f.proof;
    signature = f.signature;
  }
  wider_message (St2 m) f = record { transaction = f.transaction; signature = f.signature; tallies = wider_tallies m.tallies f.tallies }
  wider_message (LogReply m) f = record {
    shard = shard_below m.shard f.shard;
    replica = replica_below m.replica f.replica;
    id = f.id;
    decided = f.decided;
    later = f.later;
    current = f.current;
    signature = f.signature;
  }
  wider_message (Writeback m) f = record { transaction = f.transaction; certificate = wider_certificate m.certificate f.certificate }
  wider_message (Recover m) f = f
  wider_message (Invoke m) f = record {
    id = f.id;
    shard = shard_below m.shard f.shard;
    replies = wider_list (FitsReply b) (FitsReply wide) after_reply wider_reply m.replies f.replies;
  }
  wider_message (Elect m) f = record {
    transaction = f.transaction;
    shard = shard_below m.shard f.shard;
    replica = replica_below m.replica f.replica;
    some = f.some;
    view = f.view;
    signature = f.signature;
  }
  wider_message (Decide m) f =
      record {
        transaction = f.transaction;
        shard = shard_below m.shard f.shard;
        replica = replica_below m.replica f.replica;
        some = f.some;
        view = f.view;
        words = wider_list (FitsWord b) (FitsWord wide) after_word wider_word m.words f.words;
        signature = f.signature;
      }

pub in_widest : (c : Setting) → IsSetting c → Within (bounds_of c) widest
in_widest c fits = record { shards = omega (arith, fits.few); replicas = omega (arith, fits.faulty) }
