-- Each answer, by the kind of the message.
use Rattle.replica_core.specs.SecondStage.{logs_here}
use Rattle.cluster_run.proofs.Members.{in_head, in_rest}
use Rattle.std.proofs.Common.{◌≡◌, ℕ, ◌==◌, Bool, true, false, cond, List, [], ◌∷◌, ◌++◌, Some, None, refl, sym, subst}
use Rattle.std.proofs.Common.{◌∙◌, map}
use Rattle.std.specs.Prelude.{Ok}
use Rattle.std.proofs.lemmas.Bool.{and_parts, eqb-true}
use Rattle.basil_types.specs.Built.{or_else}
use Rattle.basil_types.specs.declared.party.Party.{Party}
use Rattle.basil_types.specs.declared.party.Decision.{Decision}
use Rattle.basil_types.specs.declared.party.Decision.TheVariants.{Commit, Abort}
use Rattle.basil_types.specs.Setting.{Setting, IsSetting}
use Rattle.basil_types.specs.Transaction.{id}
use Rattle.basil_types.specs.Words.{SignedWords, ElectionWords}
use Rattle.certificates.specs.Accepted.{first_refused}
use Rattle.certificates.specs.Laws.{CertificatesExactly, TalliesExactly, CertificatesCarry, TalliesCarry, TalliesShow}
use Rattle.certificates.specs.Refusals.{refusal, tallies_refusal}
use Rattle.certificates.specs.Refusals as certs
use Rattle.std.proofs.lemmas.List.Elements.{Contains-append_left}
use Rattle.frame_views.specs.Carried.{paired, rival_in}
use Rattle.frame_views.specs.Signed.{signed_in, client_signed, tallies_signed, word_signed}
use Rattle.frame_views.specs.Values.{MessageValue, WritebackValue, St2Value, ElectValue, DecideValue, ReadValue, Read, ReadReply, St1, Vote}
use Rattle.frame_views.specs.Values.{St2, LogReply, Writeback, Recover, Invoke, Elect, Decide}
use Rattle.txn_meta.specs.Form.{form_fault}
use Rattle.txn_meta.specs.Places.{log_shard}
use Rattle.replica_core.specs.declared.refusal.Refusal.TheVariants.{NotMine, BadSignature, BadTransaction, BadCertificate, BadTally}
use Rattle.replica_core.specs.Replicas.{ReplicaSelf, BookValue, Done}
use Rattle.replica_core.specs.Signing.{exhausted}
use Rattle.replica_core.specs.Reads.{answer_read, read_done, read_words, from_future}
use Rattle.replica_core.specs.Refusals.{bad_transaction, is_mine, not_mine, bad_signature, bad_proof, refused, tested}
use Rattle.replica_core.specs.Answers.{answer_kind, answer_message}
use Rattle.agreement_laws.specs.Words as laws
use Rattle.agreement_laws.specs.Replicas as acts
use Rattle.agreement_laws.specs.Replicas.{May}
use Rattle.agreement_laws.specs.Lists.{ElectionOfList}
use Rattle.cluster_run.specs.Settings.{words_as, basis_of}
use Rattle.law_joins.specs.Books.{VerdictsAreSound, ReleasesAreSound}
use Rattle.law_joins.specs.Shown.{decision_of as decision_as, CertificatesAreCertificates, TalliesAreTallies}
use Rattle.cluster_run.specs.Acting.{slots, node, Leads}
use Rattle.cluster_run.specs.Answering.{Moment, setting_of, IsBacked, IsSeen, IsInOrder, AnswersAreActs}
use Rattle.cluster_run.proofs.Certs.{none_forged, carries}
use Rattle.cluster_run.proofs.Finding.{mapped_none}
use Rattle.cluster_run.proofs.Decides.{each_accepted, decide_goes, length_id, or_parts_none}
use Rattle.cluster_run.proofs.Elects.{ProposalsElect, elect_goes}
use Rattle.cluster_run.proofs.Steps.{words_append, words_none, unless_ok, then_ok, then_none, stays}
use Rattle.cluster_run.proofs.Votes.{same_node, st1_goes}
use Rattle.cluster_run.proofs.Logs.{st2_goes, recover_goes, invoke_goes}
use Rattle.cluster_run.proofs.Writes.{writeback_goes}

mine : (me : ReplicaSelf) (m : MessageValue) → not_mine me m ≡ None → is_mine me m ≡ true
mine me m h = by (is_mine me m) refl h
  where
    by : (b : Bool) → is_mine me m ≡ b → cond b None (Some NotMine) ≡ None → is_mine me m ≡ true
    by true e h = e
    by false e h = absurd cc

-- what isn't refused
pub record Passed (me : ReplicaSelf) (m : MessageValue) : Type 0 where
  pub form : bad_transaction m ≡ None
  pub own : is_mine me m ≡ true
  pub signatures : first_refused me.accepts (tested m) ≡ None
  pub proof : bad_proof me m ≡ None

pub passed : (me : ReplicaSelf) (m : MessageValue) → refused me m ≡ None → Passed me m
passed me m h =
    let a = or_parts_none (bad_transaction m) (or_else (not_mine me m) (or_else (bad_signature me m) (bad_proof me m))) h in
    let b = or_parts_none (not_mine me m) (or_else (bad_signature me m) (bad_proof me m)) a.1 in
    let c = or_parts_none (bad_signature me m) (bad_proof me m) b.1 in
    record { form = a.0; own = mine me m b.0; signatures = mapped_none BadSignature (first_refused me.accepts (tested m)) c.0; proof = c.1 }

module _ (exactly : CertificatesExactly) (tallies_exactly : TalliesExactly) (carry : CertificatesCarry) (tallies_carry : TalliesCarry)
    (certificates : CertificatesAreCertificates) (tallies : TalliesAreTallies) (tallies_show : TalliesShow)
    (verdicts : VerdictsAreSound) (releases : ReleasesAreSound) (election_of_list : ElectionOfList) (proposals_elect : ProposalsElect) where
  module _ (v : Moment) (me : ReplicaSelf) (now : ℕ) (from : Party) (book : BookValue) (own : List SignedWords) (done : Done)
      (ok : IsSetting me.home.cluster) where
    -- the scene in the replica's own cluster
    abbrev W : Moment
    W = record v { cluster = me.home.cluster }

    abbrev To : Type 0
    To = Leads (setting_of W) W.signed W.aborted me.home.shard me.index (node own book) (node (own ++ done.signed) done.book)

    module _ (backed : IsBacked W) (order : IsInOrder W me.home.shard book) where
      read_goes : (m : ReadValue) → answer_read me now from book m ≡ Ok done → To
      read_goes m h =
          subst (λ (d : Done). Leads (setting_of W) W.signed W.aborted me.home.shard me.index (node own book)
          (node (own ++ d.signed) d.book)) (unless_ok (or_else (from_future me now m) (exhausted 1 book.pen))
          (read_done me from book m) done h)
          (stays (setting_of W) W.signed W.aborted me.home.shard me.index (node own book) _
          (same_node _ _ _ _ (sym (words_none own) ∙ (words_none own
          ∙ sym (words_append own (read_words me book.entries m ∷ []) ∙ Rattle.std.proofs.Common.append-nil (words_as own)))) refl))

      st2_by : (m : St2Value) → IsSeen W me.accepts (St2 m) → Passed me (St2 m) → answer_kind me now from book (St2 m) ≡ Ok done → To
      st2_by m seen p h =
          let t = m.transaction in
          let form : form_fault t ≡ None = mapped_none BadTransaction (form_fault t) p.form in
          let none =
          tallies_carry me.accepts W.said me.home.cluster t m.decision m.tallies
          (λ g i. seen.said g (in_rest (client_signed t m.signature) g (tallies_signed (id t) m.decision m.tallies) i))
          (mapped_none BadTally (tallies_refusal me.accepts me.home.cluster t m.decision m.tallies) p.proof) in
          let stands = (tallies_exactly W.said me.home.cluster t m.decision m.tallies ok seen.fits.tallies form).0 none in
          st2_goes W.faulty W.tx W.signed W.aborted me own book from t m.decision done
          (tallies W.said (basis_of me.home.cluster W.faulty W.tx) W.signed (none_forged W backed) t (seen.looked t (in_head t []))
          m.decision (tallies_show W.said me.home.cluster t m.decision m.tallies stands)) h

      -- an outcome is taken by its certificate
      may_end : (m : WritebackValue) → IsSeen W me.accepts (Writeback m) → form_fault m.transaction ≡ None → (d : Decision) →
          refusal me.accepts me.home.cluster m.transaction d m.certificate ≡ None →
          (slots book.entries book.logged (id m.transaction)).outcome ≡ None →
          May (setting_of W) W.signed W.aborted me.home.shard (slots book.entries book.logged) (id m.transaction)
          (acts.Ends (decision_as d))
      may_end m seen form Commit none n =
          let t = m.transaction in
          let said = carry me.accepts W.said me.home.cluster t Commit m.certificate seen.said none in
          let proves = (exactly W.said me.home.cluster t Commit m.certificate ok seen.fits.certificate form).0 said in (
            n,
            (certificates W.said (basis_of me.home.cluster W.faulty W.tx) W.signed (none_forged W backed) t (seen.looked t (in_head t _))
                m.certificate seen.fits.certificate (carries me.home.cluster W.faulty W.tx m.certificate.body
                (λ u i. seen.looked u (in_rest t u _ (Contains-append_left (map paired (rival_in m.certificate.body)) [] u i))))).commits
                proves,
          )
      may_end m seen form Abort none n =
          let t = m.transaction in
          let proves = (exactly me.accepts me.home.cluster t Abort m.certificate ok seen.fits.certificate form).0 none in (
            n,
            seen.shown (record { transaction = t; certificate = m.certificate })
                (in_head (record { transaction = t; certificate = m.certificate }) _) proves,
          )

      writeback_by : (m : WritebackValue) → IsSeen W me.accepts (Writeback m) → Passed me (Writeback m) →
          answer_kind me now from book (Writeback m) ≡ Ok done → To
      writeback_by m seen p h =
          let form : form_fault m.transaction ≡ None = mapped_none BadTransaction (form_fault m.transaction) p.form in
          let d = certs.decision_of m.certificate.body in
          writeback_goes releases W.faulty W.tx W.signed W.aborted me own book m done order.looked order.distinct
          (may_end m seen form d (mapped_none BadCertificate (refusal me.accepts me.home.cluster m.transaction d m.certificate) p.proof)) h

      elect_by : (m : ElectValue) → IsSeen W me.accepts (Elect m) → Passed me (Elect m) → answer_kind me now from book (Elect m) ≡ Ok done →
          To
      elect_by m seen p h =
          let t = m.transaction in
          let both = and_parts (logs_here me t) (m.shard == me.home.shard) p.own in
          let g = word_signed m.shard (id t) m.view (record { replica = m.replica; decision = m.decision; signature = m.signature }) in
          let said =
          backed m.shard m.replica (ElectionWords (record {
            shard = m.shard;
            replica = m.replica;
            id = id t;
            decision = m.decision;
            view = m.view;
          })) m.signature (laws.Election m.shard m.replica (id t) (decision_as m.decision) m.view)
          (seen.said g (in_head g []) (each_accepted me.accepts (signed_in (Elect m)) p.signatures g (in_head g [])))
          (record { id = length_id t; view = seen.fits.view }) refl in
          let here : m.shard ≡ me.home.shard = eqb-true m.shard me.home.shard both.1 in
          elect_goes W.faulty W.tx W.signed W.aborted me own book m done proposals_elect election_of_list order.apart
          (λ k i. let q = order.kept k i in (q.below, q.said)) (
            seen.fits.replica,
            subst (λ (s : ℕ). Rattle.agreement_laws.specs.Certificates.Says (setting_of W) W.signed s m.replica
                (laws.Election s m.replica (id t) (decision_as m.decision) m.view)) here said,
          )
          (seen.looked t (in_head t [])) order.looked (eqb-true (log_shard me.home.cluster t) me.home.shard both.0) h

      decide_by : (m : DecideValue) → IsSeen W me.accepts (Decide m) → Passed me (Decide m) → answer_kind me now from book (Decide m)
          ≡ Ok done → To
      decide_by m seen p h =
          let t = m.transaction in
          let both = and_parts (logs_here me t) (m.shard == me.home.shard) p.own in
          decide_goes W.faulty W.tx W.said W.signed W.aborted me own book backed election_of_list m done seen.fits
          (seen.looked t (in_head t [])) order.looked
          (eqb-true m.shard me.home.shard both.1 ∙ sym (eqb-true (log_shard me.home.cluster t) me.home.shard both.0))
          (λ g i. seen.said g i (each_accepted me.accepts (signed_in (Decide m)) p.signatures g i)) h

      by_kind : (m : MessageValue) → IsSeen W me.accepts m → Passed me m → answer_kind me now from book m ≡ Ok done → To
      by_kind (Read m) seen p h = read_goes m h
      by_kind (ReadReply m) seen p h = absurd cc
      by_kind (St1 m) seen p h =
          st1_goes W.faulty W.tx W.signed W.aborted me own book verdicts now from m.transaction done
          (seen.looked m.transaction (in_head m.transaction [])) order.looked h
      by_kind (Vote m) seen p h = absurd cc
      by_kind (St2 m) seen p h = st2_by m seen p h
      by_kind (LogReply m) seen p h = absurd cc
      by_kind (Writeback m) seen p h = writeback_by m seen p h
      by_kind (Recover m) seen p h =
          recover_goes W.faulty W.tx W.signed W.aborted me own book verdicts now from m.transaction done
          (seen.looked m.transaction (in_head m.transaction [])) order.looked h
      by_kind (Invoke m) seen p h = invoke_goes W.faulty W.tx W.signed W.aborted me own book from m done h
      by_kind (Elect m) seen p h = elect_by m seen p h
      by_kind (Decide m) seen p h = decide_by m seen p h

      goes : (m : MessageValue) → IsSeen W me.accepts m → answer_message me now from book m ≡ Ok done → To
      goes m seen h =
          by_kind m seen (passed me m (then_none (refused me m) (answer_kind me now from book m) done h))
          (then_ok (refused me m) (answer_kind me now from book m) done h)

  abbrev At : Setting → Moment → ReplicaSelf → ℕ → Party → BookValue → List SignedWords → MessageValue → Done → Type 0
  At c v me now from book own m done =
      IsSetting c → IsBacked (record v { cluster = c }) → IsSeen (record v { cluster = c }) me.accepts m →
      IsInOrder (record v { cluster = c }) me.home.shard book →
      answer_message me now from book m ≡ Ok done →
      Leads (setting_of (record v { cluster = c })) v.signed v.aborted me.home.shard me.index (node own book)
      (node (own ++ done.signed) done.book)

  pub answers_are_acts : AnswersAreActs
  answers_are_acts v me now from book own m done ok same backed seen order h =
      subst (λ (c : Setting). At c v me now from book own m done) same
      (λ ok backed seen order h. goes v me now from book own done ok backed order m seen h) ok backed seen order h
