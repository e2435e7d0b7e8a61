-- The second stage of a faulty client.
use Rattle.std.proofs.Common.{◌≡◌, ◌∙◌, ℕ, List, [], ◌∷◌, map, sym, ap}
use Rattle.basil_types.specs.declared.party.Decision.{Decision}
use Rattle.basil_types.specs.declared.party.Party.TheVariants.{Replica, Client}
use Rattle.basil_types.specs.Setting.{Setting}
use Rattle.basil_types.specs.Transaction.{TransactionValue}
use Rattle.certificates.specs.Accepted.{Accepted}
use Rattle.frame_values.specs.declared.owned.parts.ShardVotes.{ShardVotes}
use Rattle.frame_values.specs.Owned.{tally_value}
use Rattle.frame_views.specs.Spelling.{spelling}
use Rattle.frame_views.specs.Values.{St2, St2Value, TallyValue}
use Rattle.txn_meta.specs.Places.{log_shard}
use Rattle.cluster_run.specs.Faulty.{faulty_second, tallies_from}
use Rattle.cluster_run.specs.Parts.{Mail, mail_from}
use Rattle.cluster_run.specs.States.{FormedValue, Posted, Setup, State}
use Rattle.faulty_parties.specs.Tallies.{tallies_in}
use Rattle.faulty_parties.proofs.HeardLaws.{tallies_are}

abbrev second_of : Decision → TransactionValue → List ℕ → List TallyValue → St2Value
second_of d t signature tallies = record { transaction = t; signature = signature; decision = d; tallies = tallies }

pub second_is : (s : Setup) (st : State) (f : FormedValue) (d : Decision) (r : ℕ) (A : Accepted) (c : Setting) (posts : List Posted)
    (t : TransactionValue) (signature : List ℕ) (list slice : List ShardVotes) (frame bytes : List ℕ) (shard : ℕ) → c ≡ s.cluster →
    A ≡ s.kit.accepts → posts ≡ st.pool → t ≡ f.transaction → signature ≡ f.signature →
    map tally_value list ≡ tallies_in A c posts t d → slice ≡ list →
    frame ≡ spelling (St2 (second_of d t signature (map tally_value slice))) → bytes ≡ frame → shard ≡ log_shard c t →
    faulty_second s f d r st ≡ mail_from (Client f.transaction.client) (record { to = Replica shard r; frame = bytes }) ∷ []
second_is s st f d r A c posts t signature list slice frame bytes shard ec ea ep et es el en ef eb eh =
    let made : ℕ → List ℕ → List Mail =
    λ n b. mail_from (Client f.transaction.client) (record { to = Replica n r; frame = b }) ∷ [] in
    let there : shard ≡ log_shard s.cluster f.transaction =
    eh ∙ ap (λ x. log_shard x t) ec ∙ ap (log_shard s.cluster) et in
    let tallies : map tally_value slice ≡ tallies_from s st f.transaction d =
    ap (map tally_value) en ∙ el ∙ ap (λ a. tallies_in a c posts t d) ea ∙ ap (λ x. tallies_in s.kit.accepts x posts t d) ec
    ∙ ap (λ x. tallies_in s.kit.accepts s.cluster x t d) ep ∙ ap (λ x. tallies_in s.kit.accepts s.cluster st.pool x d) et
    ∙ tallies_are s st f.transaction d in
    let spelled : bytes ≡ spelling (St2 (second_of d f.transaction f.signature (tallies_from s st f.transaction d))) =
    eb ∙ ef ∙ ap (λ x. spelling (St2 (second_of d x signature (map tally_value slice)))) et
    ∙ ap (λ x. spelling (St2 (second_of d f.transaction x (map tally_value slice)))) es
    ∙ ap (λ x. spelling (St2 (second_of d f.transaction f.signature x))) tallies in
    sym (ap (λ n. made n bytes) there ∙ ap (made (log_shard s.cluster f.transaction)) spelled)
