-- One write commits.
use Rattle.std.proofs.Common.{◌≡◌, ℕ, List, [], ◌∷◌, ◌++◌, length, refl, ap, ◌∙◌, arith}
use Rattle.std.specs.Prelude.{Ok, Result, Some, None, slice_set, false, true, nat_le}
use Rattle.sha2.specs.Sha256.{sha256, digest_bytes, hash_after, compress, rounds, schedule, first_words}
use Rattle.basil_types.specs.Steps.{◌>>=◌}
use Rattle.basil_types.specs.declared.party.Decision.TheVariants.{Commit}
use Rattle.basil_types.specs.declared.party.Party.TheVariants.{Replica, Client}
use Rattle.basil_types.specs.Transaction.{IsTransaction, id}
use Rattle.basil_types.specs.Words.{TransactionWords, VoteWords}
use Rattle.client_core.specs.Answers.{on_read_frame}
use Rattle.client_core.specs.Clients.{ClientValue, SlotValue}
use Rattle.client_recover.specs.Taken.{PursuitValue, TakenValue, TakenVote}
use Rattle.frame_views.specs.declared.fault.BadFrame.{BadFrame}
use Rattle.frame_views.specs.Fitting.{FitsCertificate, bounds_of}
use Rattle.frame_views.specs.Frames.{frame_in, frame_limit}
use Rattle.frame_views.specs.Spelling.{spelling}
use Rattle.frame_views.specs.Values.{MessageValue, VotedValue, CertificateValue, Writeback, Commits, FastCommit}
use Rattle.replica_core.specs.Answers.{answer_read_frame}
use Rattle.replica_core.specs.Replicas.{BookValue}
use Rattle.txn_table.specs.Entries.{Voted}
use Rattle.cluster_run.specs.Parts.{read_frame, see_message, enter_all, saw, noted, posted, are_bytes}
use Rattle.cluster_run.specs.Parts.{handle, replica_did, replica_self, client_did, client_self}
use Rattle.cluster_run.specs.Events as event
use Rattle.cluster_run.specs.Events.{EventValue, happens, kept, run, begun_by}
use Rattle.cluster_run.specs.declared.fault.WorldFault.{WorldFault}
use Rattle.cluster_run.specs.Headline.{committed}
use Rattle.cluster_run.specs.States.{State, BegunValue, Posted, Delivered, first_standing, start}
use Rattle.cluster_run.specs.Examples.{setup, mark, write, written, first_stage, commit_vote, one_write, OneWriteCommits}
use Rattle.cluster_run.proofs.Decides.{length_id}
use Rattle.cluster_run.proofs.Smallest.{is_setup, are_signed, read_again, frame_read, vote_fits, marks_fit}
use Rattle.cluster_run.proofs.Parting.{bytes_are}

abbrev Read : Type 0
Read = Result MessageValue BadFrame

-- ---- begin and write

abbrev slot : SlotValue
slot = record { begun = true; time = 1; reads = []; writes = []; pursuit = None }

abbrev client : List SlotValue → ℕ → ℕ → ClientValue
client slots spent left = record { last = 1; slots = slots; pen = record { spent = spent; left = left } }

abbrev with_client : ClientValue → State → State
with_client c st = record st { clients = slice_set st.clients 0 c }

abbrev begun : State
begun = record (with_client (client (slot ∷ []) 0 9) (start setup)) { begun = begun_by 1 1 (Some 0) ∷ [] }

begins : happens setup (event.Begin 1 1) (start setup) ≡ Ok begun
begins = refl

abbrev asked : State
asked = with_client (client (record slot { writes = write ∷ [] } ∷ []) 0 9) begun

writes : happens setup (event.Write 0 write) begun ≡ Ok asked
writes = refl

-- ---- prepare

written_fits : IsTransaction written
written_fits = record {
  known = omega arith;
  format = omega arith;
  time = omega arith;
  someone = omega arith;
  client = omega arith;
  few_reads = omega arith;
  reads = tt;
  few_writes = omega arith;
  writes = (
    record {
      key = record { some = omega arith; short = omega arith; bytes = bytes_are write.key refl };
      above = refl;
      value = record { short = omega arith; bytes = bytes_are write.value refl };
      gives = λ e. refl;
      deletes = λ e. absurd cc;
    },
    tt,
  );
}

first_read : read_frame setup (spelling first_stage) ≡ Ok first_stage
first_read = read_again first_stage refl refl (record { transaction = written_fits; signature = marks_fit })

first_again : frame_in (bounds_of setup.cluster) (spelling first_stage) ≡ Ok first_stage
first_again = frame_read first_stage refl (record { transaction = written_fits; signature = marks_fit })

abbrev pursuit : List TakenValue → PursuitValue
pursuit taken = record { transaction = written; signature = mark; taken = taken; second = false }

abbrev formed_slot : List TakenValue → SlotValue
formed_slot taken = record slot { writes = write ∷ []; pursuit = Some (pursuit taken) }

abbrev formed : BegunValue
formed = record (begun_by 1 1 (Some 0)) { formed = Some (record { transaction = written; signature = mark }) }

abbrev first : Posted
first = posted (record { from = Client 1; to = Replica 0 0; frame = spelling first_stage })

abbrev preparing : State
preparing = record (with_client (client (formed_slot [] ∷ []) 1 8) asked) {
  begun = formed ∷ [];
  pool = first ∷ [];
  watch = noted (Client 1) (TransactionWords (id written) ∷ []) asked.watch;
}

abbrev prepared : State
prepared = saw setup first_stage preparing

prepares : happens setup (event.Prepare 0) asked ≡ Ok prepared
unfolding sha256 digest_bytes hash_after compress rounds schedule first_words
prepares = ap (λ (r : Read). see_message setup r preparing >>= enter_all setup []) first_read

-- ---- the first stage is delivered

abbrev vote : MessageValue
vote = commit_vote (id written)

vote_bytes : are_bytes (spelling vote) ≡ true
unfolding sha256 digest_bytes hash_after compress rounds schedule first_words
vote_bytes = refl

vote_short : nat_le (length (spelling vote)) frame_limit ≡ true
unfolding sha256 digest_bytes hash_after compress rounds schedule first_words
vote_short = refl

vote_read : read_frame setup (spelling vote) ≡ Ok vote
vote_read = read_again vote vote_bytes vote_short (vote_fits (id written) (length_id written))

vote_again : frame_in (bounds_of setup.cluster) (spelling vote) ≡ Ok vote
vote_again = frame_read vote vote_short (vote_fits (id written) (length_id written))

abbrev first_given : State
first_given = record prepared { pool = record first { fate = Delivered } ∷ [] }

abbrev first_seen : State
first_seen = saw setup first_stage first_given

abbrev book : BookValue
book = record {
  entries = record { transaction = written; vote = Voted Commit mark None; outcome = None } ∷ [];
  noted = [];
  logged = [];
  kept = [];
  pen = record { spent = 1; left = 8 };
}

abbrev second : Posted
second = posted (record { from = Replica 0 0; to = Client 1; frame = spelling vote })

abbrev voting : State
voting = record first_seen {
  replicas = record (first_standing setup 0 0) { book = book } ∷ [];
  pool = first_seen.pool ++ second ∷ [];
  watch = noted (Replica 0 0) (VoteWords (record { shard = 0; replica = 0; id = id written; decision = Commit }) ∷ [])
      first_seen.watch;
}

abbrev voted : State
voted = saw setup vote voting

is_seen : happens setup (event.Deliver 1 (spelling first_stage)) prepared
    ≡ handle setup 1 (Client 1) (Replica 0 0) (spelling first_stage) first_seen
unfolding sha256 digest_bytes hash_after compress rounds schedule first_words
is_seen =
    ap (λ (r : Read). see_message setup r first_given >>= handle setup 1 (Client 1) (Replica 0 0) (spelling first_stage))
    first_read

is_answered : handle setup 1 (Client 1) (Replica 0 0) (spelling first_stage) first_seen
    ≡ see_message setup (read_frame setup (spelling vote)) voting >>= enter_all setup []
unfolding sha256 digest_bytes hash_after compress rounds schedule first_words
is_answered =
    let x = first_standing setup 0 0 in
    ap (λ (r : Read). replica_did setup 1 x (answer_read_frame (replica_self setup 0 0) 1 (Client 1) x.book r) first_seen)
    first_again

is_voted : see_message setup (read_frame setup (spelling vote)) voting >>= enter_all setup [] ≡ Ok voted
unfolding sha256 digest_bytes hash_after compress rounds schedule first_words
is_voted = ap (λ (r : Read). see_message setup r voting >>= enter_all setup []) vote_read

-- ---- the vote is delivered

abbrev cast : VotedValue
cast = record { shard = 0; replica = 0; id = id written; decision = Commit; proof = None; signature = mark }

abbrev certificate : CertificateValue
certificate = record {
  id = id written;
  body = Commits (FastCommit (record { shard = 0; votes = record { replica = 0; signature = mark } ∷ [] } ∷ []));
}

abbrev writeback : MessageValue
writeback = Writeback (record { transaction = written; certificate = certificate })

certificate_fits : FitsCertificate (bounds_of setup.cluster) certificate
certificate_fits = record {
  id = length_id written;
  body = record {
    count = omega arith;
    each = (
      record {
        above = omega arith;
        below = omega arith;
        votes = record {
          count = omega arith;
          each = (record { above = omega arith; below = omega arith; signature = marks_fit }, tt);
        };
      },
      tt,
    );
  };
}

writeback_bytes : are_bytes (spelling writeback) ≡ true
unfolding sha256 digest_bytes hash_after compress rounds schedule first_words
writeback_bytes = refl

writeback_short : nat_le (length (spelling writeback)) frame_limit ≡ true
unfolding sha256 digest_bytes hash_after compress rounds schedule first_words
writeback_short = refl

writeback_read : read_frame setup (spelling writeback) ≡ Ok writeback
writeback_read =
    read_again writeback writeback_bytes writeback_short
    (record { transaction = written_fits; certificate = certificate_fits })

abbrev second_given : State
second_given = record voted { pool = record first { fate = Delivered } ∷ record second { fate = Delivered } ∷ [] }

abbrev second_seen : State
second_seen = saw setup vote second_given

abbrev telling : State
telling = record (with_client (client (formed_slot (TakenVote cast ∷ []) ∷ []) 1 8) second_seen) {
  pool = second_seen.pool ++ posted (record { from = Client 1; to = Replica 0 0; frame = spelling writeback }) ∷ [];
  watch = noted (Client 1) [] second_seen.watch;
}

abbrev ended : State
ended = saw setup writeback telling

vote_is_seen : happens setup (event.Deliver 2 (spelling vote)) voted
    ≡ handle setup 2 (Replica 0 0) (Client 1) (spelling vote) second_seen
unfolding sha256 digest_bytes hash_after compress rounds schedule first_words
vote_is_seen =
    ap (λ (r : Read). see_message setup r second_given >>= handle setup 2 (Replica 0 0) (Client 1) (spelling vote))
    vote_read

vote_is_taken : handle setup 2 (Replica 0 0) (Client 1) (spelling vote) second_seen
    ≡ see_message setup (read_frame setup (spelling writeback)) telling >>= enter_all setup []
unfolding sha256 digest_bytes hash_after compress rounds schedule first_words
vote_is_taken =
    ap (λ (r : Read). client_did setup 2 1 (on_read_frame (client_self setup 1) (client (formed_slot [] ∷ []) 1 8) r) second_seen)
    vote_again

is_told : see_message setup (read_frame setup (spelling writeback)) telling >>= enter_all setup [] ≡ Ok ended
unfolding sha256 digest_bytes hash_after compress rounds schedule first_words
is_told = ap (λ (r : Read). see_message setup r telling >>= enter_all setup []) writeback_read

is_committed : committed ended ≡ written ∷ []
unfolding sha256 digest_bytes hash_after compress rounds schedule first_words
is_committed = refl

-- ---- the run

goes_on : (e : EventValue) (es : List EventValue) (st after : State) → happens setup e st ≡ Ok after →
    run setup (e ∷ es) st ≡ run setup es after
goes_on e es st after h = ap (λ (r : Result State WorldFault). kept st r >>= run setup es) h

abbrev last : List EventValue
last = event.Deliver 2 (spelling vote) ∷ []

abbrev delivers : List EventValue
delivers = event.Deliver 1 (spelling first_stage) ∷ last

ends : run setup one_write (start setup) ≡ Ok ended
ends =
    goes_on (event.Begin 1 1) (event.Write 0 write ∷ event.Prepare 0 ∷ delivers) (start setup) begun begins
    ∙ goes_on (event.Write 0 write) (event.Prepare 0 ∷ delivers) begun asked writes
    ∙ goes_on (event.Prepare 0) delivers asked prepared prepares
    ∙ goes_on (event.Deliver 1 (spelling first_stage)) last prepared voted (is_seen ∙ is_answered ∙ is_voted)
    ∙ goes_on (event.Deliver 2 (spelling vote)) [] voted ended (vote_is_seen ∙ vote_is_taken ∙ is_told)

pub one_write_commits : OneWriteCommits
one_write_commits = record {
  meets = record {
    setup = is_setup;
    signed = are_signed;
    sized = (omega arith, ((bytes_are write.key refl, bytes_are write.value refl), (_, (_, (_, _)))));
  };
  st = ended;
  ends = ends;
  commits = is_committed;
}
