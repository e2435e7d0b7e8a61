-- What is sent for a transaction that is pursued.
use Rattle.std.proofs.Common.{◌≡◌, ◌∙◌, ℕ, Bool, true, false, cond, List, [], map, refl, sym, ap, subst}
use Rattle.std.specs.Prelude.{Option, Some, None, option_map, is_some, ◌||◌}
use Rattle.std.specs.Option.{option_map_or}
use Rattle.std.proofs.lemmas.Option.{same_Some}
use Rattle.basil_types.specs.declared.outbox.Outbox.{Outbox}
use Rattle.basil_types.specs.declared.party.Party.{Party}
use Rattle.basil_types.specs.Setting.{Setting}
use Rattle.basil_types.specs.Transaction.{TransactionValue}
use Rattle.client_recover.specs.declared.pursuit.Pursuit.{Pursuit}
use Rattle.client_recover.specs.Certifying.{all_voted, settled}
use Rattle.client_recover.specs.Pursuits.{PursuitDone, go_on, outcome, second_stage, settle, start_second, still, take_frame, tell, took}
use Rattle.client_recover.specs.Pursuits.{to_involved, to_log_shard, to_shard}
use Rattle.client_recover.specs.Standing.{StandsFor}
use Rattle.client_recover.specs.Taken.{PursuitValue, TakenValue, DecidedValue, LogsValue}
use Rattle.frame_views.specs.Spelling.{spelling}
use Rattle.frame_views.specs.Values.{CertificateValue, MessageValue, Writeback}
use Rattle.node_steps.specs.Framed.{framed}
use Rattle.client_steps.specs.declared.sending.Sending.{Sending}
use Rattle.client_steps.specs.Addressing.{enveloped, parties_in, parties_of}
use Rattle.client_steps.specs.Sending.{IsSending, SendsSecond}
use Rattle.client_steps.proofs.AddressLaws.{involved_framed, shard_framed}

-- ---- what the pursuit stands for before the second stage starts

unstarted : (u : Pursuit) (p : PursuitValue) (b : Bool) → StandsFor u (record p { second = b }) → StandsFor u p
unstarted u p b h =
    record { transaction = h.transaction; signature = h.signature; votes = h.votes; logs = h.logs; outcome = h.outcome }

before_settling : (c : Setting) (u : Pursuit) (p : PursuitValue) → StandsFor u (settle c p).pursuit → StandsFor u p
before_settling c u p h = by (is_some (outcome c p) || p.second) (settled c p.transaction p.taken) h
  where
    by : (b : Bool) (o : Option LogsValue) →
        StandsFor u (cond b (still p) (option_map_or (start_second c p) o (still p))).pursuit → StandsFor u p
    by true o g = g
    by false None g = g
    by false (Some l) g = unstarted u p true g

before_going_on : (c : Setting) (u : Pursuit) (p : PursuitValue) → StandsFor u (go_on c p).pursuit → StandsFor u p
before_going_on c u p h = by (all_voted c p.transaction p.taken) h
  where
    by : (b : Bool) → StandsFor u (cond b (settle c p) (still p)).pursuit → StandsFor u p
    by true g = before_settling c u p g
    by false g = g

abbrev pub then_told : Setting → PursuitValue → Option DecidedValue → PursuitDone
then_told c p o = option_map_or (tell c p) o (go_on c p)

before_telling : (c : Setting) (u : Pursuit) (p : PursuitValue) (o : Option DecidedValue) →
    StandsFor u (then_told c p o).pursuit → StandsFor u p
before_telling c u p None h = before_going_on c u p h
before_telling c u p (Some d) h = h

pub take_open : (c : Setting) (p : PursuitValue) (x : TakenValue) →
    is_some (outcome c p) ≡ false → take_frame c p x ≡ then_told c (took p x) (outcome c (took p x))
take_open c p x e = ap (λ b. cond b (still p) (then_told c (took p x) (outcome c (took p x)))) e

pub take_ended : (c : Setting) (p : PursuitValue) (x : TakenValue) → is_some (outcome c p) ≡ true → take_frame c p x ≡ still p
take_ended c p x e = ap (λ b. cond b (still p) (then_told c (took p x) (outcome c (took p x)))) e

pub stands_took : (c : Setting) (u : Pursuit) (p : PursuitValue) (x : TakenValue) →
    is_some (outcome c p) ≡ false → StandsFor u (take_frame c p x).pursuit
    → StandsFor u (took p x)
stands_took c u p x open_yet h =
    before_telling c u (took p x) (outcome c (took p x)) (subst (λ (d : PursuitDone). StandsFor u d.pursuit) (take_open c p x open_yet) h)

-- ---- to whom

pub shard_sent : (c k : Setting) (m : MessageValue) (shard : ℕ) (frame : List ℕ) (parties : List Party) → k ≡ c → frame ≡ spelling m
    → parties ≡ parties_of k shard → map (enveloped frame) parties ≡ map framed (to_shard c m shard)
shard_sent c k m shard frame parties is spelled to =
    ap (λ (f : List ℕ). map (enveloped f) parties) spelled
    ∙ ap (map (enveloped (spelling m))) (to ∙ ap (λ (j : Setting). parties_of j shard) is)
    ∙ sym (shard_framed c m shard)

pub involved_sent : (c k : Setting) (t u : TransactionValue) (m : MessageValue) (frame : List ℕ) (parties : List Party) → k ≡ c → u ≡ t
    → frame ≡ spelling m → parties ≡ parties_in k u → map (enveloped frame) parties ≡ map framed (to_involved c t m)
involved_sent c k t u m frame parties is same spelled to =
    ap (λ (f : List ℕ). map (enveloped f) parties) spelled
    ∙ ap (map (enveloped (spelling m))) (to ∙ ap (λ (j : Setting). parties_in j u) is ∙ ap (parties_in c) same)
    ∙ sym (involved_framed c t m)

-- ---- what is sent

pub second_told : (p : PursuitValue) (m : MessageValue) (o : Option LogsValue) → Some m ≡ option_map (second_stage p) o
    → (l : LogsValue) × (o ≡ Some l) × (m ≡ second_stage p l)
second_told p m None e = absurd cc
second_told p m (Some l) e = (l, refl, same_Some m (second_stage p l) e)

pub second_missing : (p : PursuitValue) (o : Option LogsValue) → None ≡ option_map (second_stage p) o → o ≡ None
second_missing p None e = refl
second_missing p (Some l) e = absurd cc

pub sends_second : (c : Setting) (u : Pursuit) (p : PursuitValue) (m : MessageValue) (out : Outbox) → StandsFor u p
    → Some m ≡ option_map (second_stage p) (settled c p.transaction p.taken)
    → out.messages.items ≡ map framed (to_log_shard c u.transaction m) → out.signed.items ≡ [] → SendsSecond c p (Some out)
sends_second c u p m out h is messages signed =
    let told = second_told p m (settled c p.transaction p.taken) is in (
      told.0,
      told.1,
      messages
          ∙ ap (λ (t : TransactionValue). map framed (to_log_shard c t m)) h.transaction
          ∙ ap (λ (n : MessageValue). map framed (to_log_shard c p.transaction n)) told.2,
      signed,
    )

pub nothing_sent : (s : Sending) (second : Bool) (d : PursuitDone) (p : PursuitValue) →
    d ≡ still p → s.out.messages.items ≡ [] → s.out.signed.items ≡ []
    → s.starts ≡ false → second ≡ p.second → IsSending s second d
nothing_sent s second d p is messages signed starts same =
    record {
      messages = messages ∙ sym (ap (λ (e : PursuitDone). map framed e.sent) is);
      signed = signed;
      starts = ap (λ b. b || second) starts ∙ same ∙ sym (ap (λ (e : PursuitDone). e.pursuit.second) is);
    }

pub told : (s : Sending) (c : Setting) (p : PursuitValue)
    (t : TransactionValue) (k : CertificateValue) (d : DecidedValue) → t ≡ p.transaction
    → k ≡ d.certificate → s.out.messages.items ≡ map framed (to_involved c t (Writeback (record { transaction = t; certificate = k })))
    → s.out.signed.items ≡ [] → s.starts ≡ false → (second : Bool) → second ≡ p.second → IsSending s second (tell c p d)
told s c p t k d same is messages signed starts second as_was =
    record {
      messages =
          messages
          ∙ ap (λ (u : TransactionValue). map framed (to_involved c u (Writeback (record { transaction = u; certificate = k })))) same
          ∙ ap (λ (l : CertificateValue).
          map framed (to_involved c p.transaction (Writeback (record { transaction = p.transaction; certificate = l })))) is;
      signed = signed;
      starts = ap (λ b. b || second) starts ∙ as_was;
    }

module _ (c : Setting) (p : PursuitValue) (none : outcome c p ≡ None) where
  abbrev settles : Bool → Bool → Option LogsValue → PursuitDone
  settles voted b o = cond voted (cond b (still p) (option_map_or (start_second c p) o (still p))) (still p)

  going : (b : Bool) → p.second ≡ b → go_on c p ≡ settles (all_voted c p.transaction p.taken) b (settled c p.transaction p.taken)
  going b e =
      ap (λ (o : Option DecidedValue).
      settles (all_voted c p.transaction p.taken) (is_some o || p.second) (settled c p.transaction p.taken)) none
      ∙ ap (λ d. settles (all_voted c p.transaction p.taken) d (settled c p.transaction p.taken)) e

  pub started_before : p.second ≡ true → go_on c p ≡ still p
  started_before e = going true e ∙ by (all_voted c p.transaction p.taken)
    where
      by : (b : Bool) → settles b true (settled c p.transaction p.taken) ≡ still p
      by true = refl
      by false = refl

  pub votes_missing : all_voted c p.transaction p.taken ≡ false → go_on c p ≡ still p
  votes_missing e = going p.second refl ∙ ap (λ b. settles b p.second (settled c p.transaction p.taken)) e

  pub nothing_settled : p.second ≡ false →
      all_voted c p.transaction p.taken ≡ true → settled c p.transaction p.taken ≡ None → go_on c p ≡ still p
  nothing_settled e all is =
      going false e ∙ ap (λ b. settles b false (settled c p.transaction p.taken)) all ∙ ap (settles true false) is

  pub starts_now : p.second ≡ false → all_voted c p.transaction p.taken ≡ true → (l : LogsValue) → settled c p.transaction p.taken ≡ Some l
      → go_on c p ≡ start_second c p l
  starts_now e all l is =
      going false e ∙ ap (λ b. settles b false (settled c p.transaction p.taken)) all ∙ ap (settles true false) is

  pub second_starts : (s : Sending) (out : Outbox) →
      p.second ≡ false → all_voted c p.transaction p.taken ≡ true → SendsSecond c p (Some out)
      → s.out ≡ out → s.starts ≡ true → IsSending s p.second (go_on c p)
  second_starts s out e all (l, is, messages, signed) same starts =
      let goes = starts_now e all l is in
      record {
        messages =
            ap (λ (o : Outbox). o.messages.items) same ∙ messages ∙ sym (ap (λ (d : PursuitDone). map framed d.sent) goes);
        signed = ap (λ (o : Outbox). o.signed.items) same ∙ signed;
        starts = ap (λ b. b || p.second) starts ∙ sym (ap (λ (d : PursuitDone). d.pursuit.second) goes);
      }
