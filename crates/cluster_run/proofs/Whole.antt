-- What holds in each state of a run besides `Inv`: what books and clients have behind what they hold.
use Rattle.cluster_run.proofs.Members.{any_of, in_head}
use Rattle.std.proofs.Common.{◌≡◌, ℕ, ◌+◌, ◌==◌, Bool, true, false, cond, ◌&&◌, List, [], ◌∷◌, ◌++◌, Option, Some, None, refl, sym, ap}
use Rattle.std.proofs.Common.{subst, ◌∙◌, ◌⊎◌, inl, inr, arith, append-nil, map}
use Rattle.std.specs.Prelude.{◌≤◌, length, Contains, Ok, slice_get, slice_set, nat_le, ◌-◌, is_none, IfSome}
use Rattle.std.specs.List.{list_any}
use Rattle.std.specs.Str.{bytes_eq}
use Rattle.std.proofs.lemmas.Bool.{cases_Bool, cases_eq, and_parts, and_from, eqb-true, ne_eqb, leb-true}
use Rattle.std.proofs.lemmas.List.Elements.{Contains-append_left, Contains-append_right, Contains-append_cases}
use Rattle.basil_types.specs.Built.{or_else}
use Rattle.basil_types.specs.declared.party.Party.{Party}
use Rattle.basil_types.specs.declared.party.Party.TheVariants.{Replica, Client}
use Rattle.basil_types.specs.declared.party.Decision.{Decision}
use Rattle.basil_types.specs.declared.party.Decision.TheVariants.{Commit, Abort}
use Rattle.basil_types.specs.Transaction.{TransactionValue, id}
use Rattle.basil_types.specs.Words.{SignedWords, TransactionWords, words_of}
use Rattle.certificates.specs.Accepted.{Accepted, accepts}
use Rattle.certificates.specs.Laws.{CertificatesExactly}
use Rattle.certificates.specs.Refusals.{PairValue, nested, wrong_ids, mixed, mixed_pairs, strays, shortages, no_conflict, bad_signature}
use Rattle.certificates.specs.Refusals.{decision_of, refusal}
use Rattle.basil_types.specs.Decision.{same_decision}
use Rattle.certificates.specs.declared.refusal.CertRefusal.TheVariants.{Mixed}
use Rattle.client_core.specs.Clients.{ClientSelf, ClientValue, ClientDone}
use Rattle.client_reads.specs.Laws.{RepliesExactly}
use Rattle.client_reads.specs.Replies.{IsValidReply, IsSeenCommitted, reply_fault}
use Rattle.frame_views.specs.Signed.{client_signed, certificate_signed}
use Rattle.frame_views.specs.Values as values
use Rattle.replica_core.specs.Refusals.{subject}
use Rattle.frame_views.specs.Values.{MessageValue, CommittedValue, CertificateValue, ReadValue, ReadReplyValue, WritebackValue, ReadReply}
use Rattle.frame_views.specs.Values.{Writeback}
use Rattle.law_joins.specs.Choices.{Carries}
use Rattle.premise_watch.specs.Breaches.{NotedWords, WatchValue, said}
use Rattle.premise_watch.specs.Marks.{marks}
use Rattle.replica_core.specs.Answers.{answer_message}
use Rattle.replica_core.specs.Replicas.{BookValue, Done}
use Rattle.txn_meta.specs.Form.{form_fault}
use Rattle.txn_table.specs.Entries.{EntryValue, same_party}
use Rattle.agreement_laws.specs.Words as laws
use Rattle.cluster_run.specs.Headline.{proves}
use Rattle.cluster_run.specs.Holding.{Takes, IsHeld, HasFormed, OfKind, Went}
use Rattle.cluster_run.specs.Parts.{is_proven, saw, client_self, replica_self, noted}
use Rattle.cluster_run.specs.Settings.{Lookup}
use Rattle.cluster_run.specs.States.{Setup, IsSetup, is_faulty, Posted, BegunValue, Standing, standing, is_at, put_standing, client_at}
use Rattle.cluster_run.specs.States.{State}
use Rattle.frame_views.specs.Carried.{paired, rival_in, committed_pairs, maybe_one, transactions_in, pairs_in}
use Rattle.cluster_run.proofs.Decides.{length_id, or_parts_none}
use Rattle.cluster_run.proofs.Finding.{same_self, true_false, some_is}
use Rattle.cluster_run.proofs.Handling.{Saw, said_grows, any_append, signed_own, signed_other, at_parts, at_from}
use Rattle.cluster_run.proofs.Heeding.{AreHeeded, heeded_more, answers_heed}
use Rattle.cluster_run.proofs.Holding.{set_same, set_other}
use Rattle.cluster_run.proofs.Marking.{pairs_are}
use Rattle.cluster_run.proofs.Running.{elsewhere, signed_by, book_of, book_at, aborted_in, abs, set, FitsTexts, Inv}
use Rattle.agreement_laws.specs.Runs as runs
use Rattle.cluster_run.specs.Acting.{node, Leads}
use Rattle.cluster_run.proofs.Seeing.{said_after, signed_after, texts_stay}

abbrev pub committed_in : State → laws.Id → Bool
committed_in st x = list_any (λ (p : CommittedValue). bytes_eq x (id p.transaction) && proves Commit p) st.certified

-- the client of the transaction of an id said the words on it, and its form is good
pub record IsAsked (tx : Lookup) (w : WatchValue) (x : List ℕ) : Type 0 where
  pub sized : length x ≡ 32
  pub said : said w (Client (tx x).client) (words_of (TransactionWords x)) [] ≡ true
  pub form : form_fault (tx x) ≡ None

abbrev pub IsEnded : State → List ℕ → Type 0
IsEnded st x = committed_in st x ≡ true

-- a valid reply that was seen
pub record IsTook (s : Setup) (st : State) (read : ReadValue) (m : ReadReplyValue) : Type 0 where
  pub valid : IsValidReply s.kit.accepts s.cluster read m
  pub texts : (t : TransactionValue) → Carries m t → Contains st.watch.texts t
  pub certified : (part : CommittedValue) → m.committed ≡ Some part → committed_in st (id part.transaction) ≡ true

-- a transaction of this kind, or one that was seen
pub record FormedAt (E : OfKind) (st : State) (n : ℕ) (x : List ℕ) : Type 0 where
  pub client : ClientValue
  pub at : client_at st n ≡ Some client
  pub formed : HasFormed client x
  pub seen : E formed.pursuit.transaction ⊎ Contains st.watch.texts formed.pursuit.transaction

pub record Whole (s : Setup) (E : OfKind) (st : State) : Type 0 where
  pub inv : Inv s st
  pub few : (n : ℕ) (c : ClientValue) → client_at st n ≡ Some c → n ≤ 16
  pub pens : (n : ℕ) (c : ClientValue) → client_at st n ≡ Some c → c.pen.spent + c.pen.left
      ≡ (s.kit.pen (Client n)).spent + (s.kit.pen (Client n)).left
  pub heeds : (tx : Lookup) → FitsTexts tx st → (a c : ℕ) → is_faulty s (Replica a c) ≡ false →
      AreHeeded (IsAsked tx st.watch) (IsEnded st) (book_at st a c).entries
  pub held : (n : ℕ) (c : ClientValue) → client_at st n ≡ Some c → IsHeld (client_self s n) (IsTook s st) c
  pub formed : (n : ℕ) (x : List ℕ) → Contains (signed_by st.watch.signed (Client n)) (TransactionWords x) → FormedAt E st n x

-- ---- what is seen and said only grows

pub record Grows (st next : State) : Type 0 where
  pub texts : (t : TransactionValue) → Contains st.watch.texts t → Contains next.watch.texts t
  pub says : (p : Party) (words : List ℕ) → said st.watch p words [] ≡ true → said next.watch p words [] ≡ true
  pub certified : (x : List ℕ) → committed_in st x ≡ true → committed_in next x ≡ true

took_grows : (s : Setup) (st next : State) → Grows st next → (read : ReadValue) (m : ReadReplyValue) → IsTook s st read m →
    IsTook s next read m
took_grows s st next g read m k = record {
  valid = k.valid;
  texts = λ t i. g.texts t (k.texts t i);
  certified = λ part e. g.certified
      (id part.transaction) (k.certified part e);
}

held_more : (me : ClientSelf) (Took More : Takes) → ((read : ReadValue) (m : ReadReplyValue) → Took read m → More read m) →
    (c : ClientValue) → IsHeld me Took c → IsHeld me More c
held_more me Took More f c k = record {
  slots = λ p a h. let z = k.slots p a h in record {
    recovered = z.recovered;
    ascend = z.ascend;
    sizes = z.sizes;
    took = λ r i m j. f _ m
        (z.took r i m j);
    forms = z.forms;
  };
  under = k.under;
  apart = k.apart;
}

seen_grows : (E : OfKind) (st next : State) → Grows st next → (t : TransactionValue) → E t ⊎ Contains st.watch.texts t → E t
    ⊎ Contains next.watch.texts t
seen_grows E st next g t (inl e) = inl e
seen_grows E st next g t (inr i) = inr (g.texts t i)

-- of more kinds, and of fewer where those were seen
pub whole_more : (s : Setup) (E F : OfKind) (st : State) → ((t : TransactionValue) → E t → F t ⊎ Contains st.watch.texts t) → Whole s E st →
    Whole s F st
whole_more s E F st f w = record {
  inv = w.inv;
  few = w.few;
  pens = w.pens;
  heeds = w.heeds;
  held = w.held;
  formed = λ n x i. let k = w.formed n x i in record {
    client = k.client;
    at = k.at;
    formed = k.formed;
    seen = elim k.seen
        [ inl e ↦ f k.formed.pursuit.transaction e | inr j ↦ inr j ];
  };
}

module _ (s : Setup) (E : OfKind) (st next : State) (w : Whole s E st) (g : Grows st next) where
  looked_before : (tx : Lookup) → FitsTexts tx next → FitsTexts tx st
  looked_before tx f t i = f t (g.texts t i)

  asked_grows : (tx : Lookup) (x : List ℕ) → IsAsked tx st.watch x → IsAsked tx next.watch x
  asked_grows tx x k = record {
    sized = k.sized;
    said = g.says (Client (tx x).client)
        (words_of (TransactionWords x)) k.said;
    form = k.form;
  }

  heeds_grow : (tx : Lookup) → FitsTexts tx next → (es : List EntryValue) → AreHeeded (IsAsked tx st.watch) (IsEnded st) es →
      AreHeeded (IsAsked tx next.watch) (IsEnded next) es
  heeds_grow tx f es h =
      heeded_more (IsAsked tx st.watch) (IsEnded st) (IsAsked tx next.watch) (IsEnded next) (asked_grows tx) g.certified es h

  pub held_grows : (n : ℕ) (c : ClientValue) → IsHeld (client_self s n) (IsTook s st) c → IsHeld (client_self s n) (IsTook s next) c
  held_grows n c k = held_more (client_self s n) (IsTook s st) (IsTook s next) (took_grows s st next g) c k

  -- where books' entries, clients and clients' words are as before
  pub whole_grows : Inv s next → ((a c : ℕ) → (book_at next a c).entries ≡ (book_at st a c).entries) → next.clients ≡ st.clients →
      ((p : Party) → signed_by next.watch.signed p ≡ signed_by st.watch.signed p) → Whole s E next
  whole_grows inv books clients signed = record {
    inv = inv;
    few = λ n c h. w.few n c (same n ∙ h);
    pens = λ n c h. w.pens n c (same n ∙ h);
    heeds = λ tx f a c n. subst (AreHeeded (IsAsked tx next.watch) (IsEnded next)) (sym (books a c))
        (heeds_grow tx f (book_at st a c).entries (w.heeds tx (looked_before tx f) a c n));
    held = λ n c h. held_grows n c (w.held n c (same n ∙ h));
    formed = λ n x i. let k = w.formed n x (subst (λ l. Contains l (TransactionWords x)) (signed (Client n)) i)
        in record {
          client = k.client;
          at = sym (same n)
              ∙ k.at;
          formed = k.formed;
          seen = seen_grows E st next g k.formed.pursuit.transaction k.seen;
        };
  }
    where
      same : (n : ℕ) → client_at st n ≡ client_at next n
      same n = ap (λ (cs : List ClientValue). cond (nat_le 1 n) (slice_get cs (n - 1)) None) (sym clients)

pub grows_self : (st next : State) → next.watch ≡ st.watch → next.certified ≡ st.certified → Grows st next
grows_self st next e f = record {
  texts = λ t i. subst (λ (w : WatchValue). Contains w.texts t) (sym e) i;
  says = λ p words h. ap (λ (w : WatchValue). said w p words []) e ∙ h;
  certified =
      λ x h. ap (λ (ps : List CommittedValue). list_any (λ (p : CommittedValue). bytes_eq x (id p.transaction) && proves Commit p) ps) f
      ∙ h;
}

-- what nothing of the argument speaks of
pub around : (s : Setup) (E : OfKind) (st : State) (p : List NotedWords) (b : List BegunValue) (o : List Posted) (r : Option ℕ) →
    Whole s E st → Whole s E (record st { lied = p; begun = b; pool = o; refused = r })
around s E st p b o r w =
    let next : State = record st { lied = p; begun = b; pool = o; refused = r } in
    whole_grows s E st next w (grows_self st next refl refl) (elsewhere s st st.clients p b o r w.inv) (λ a c. refl) refl (λ n. refl)

-- a message that is seen
pub whole_saw : (s : Setup) (E : OfKind) (st : State) (m : MessageValue) → Whole s E st → Inv s (saw s m st) → Whole s E (saw s m st)
whole_saw s E st m w inv =
    let next : State = saw s m st in
    let g : Grows st next = record {
      texts = λ t i. texts_stay st.watch (marks m) t i;
      says = λ p words h. said_after st.watch (marks m) (record { party = p; words = words; signature = [] }) ∙ h;
      certified = λ x h. any_append (λ (p : CommittedValue). bytes_eq x (id p.transaction) && proves Commit p) st.certified _ h;
    } in
    whole_grows s E st next w g inv (λ a c. refl) refl
    (λ p. ap (λ (ns : List NotedWords). signed_by ns p) (signed_after st.watch (marks m)))

grows_noted : (st next : State) (p : Party) (ws : List SignedWords) → next.watch ≡ noted p ws st.watch → next.certified ≡ st.certified →
    Grows st next
grows_noted st next p ws e f = record {
  texts = λ t i. subst (λ (w : WatchValue). Contains w.texts t) (sym e) i;
  says = λ q words h. ap (λ (w : WatchValue). said w q words []) e
      ∙ said_grows st.watch p ws (record { party = q; words = words; signature = [] }) h;
  certified =
      λ x h. ap (λ (ps : List CommittedValue). list_any (λ (p : CommittedValue). bytes_eq x (id p.transaction) && proves Commit p) ps) f
      ∙ h;
}

-- nothing is noted
pub whole_none : (s : Setup) (E : OfKind) (st : State) (p : Party) → Whole s E st → Whole s E (record st { watch = noted p [] st.watch })
whole_none s E st p w =
    subst (λ (l : List NotedWords). Whole s E (record st { watch = record (st.watch) { signed = l } })) (sym (append-nil st.watch.signed)) w

-- ---- what proves a commit

is_commit : (d : Decision) → cond (same_decision d Commit) None (Some Mixed) ≡ None → d ≡ Commit
is_commit Commit h = refl
is_commit Abort h = absurd cc

pub decided_commit : (A : Accepted) (c : Rattle.basil_types.specs.Setting.Setting) (t : TransactionValue) (x : CertificateValue) →
    refusal A c t Commit x ≡ None → decision_of x.body ≡ Commit
decided_commit A c t x h =
    let p : PairValue = record { transaction = t; certificate = x } in
    let rest =
    or_else (strays c p (nested p)) (or_else (shortages c p (nested p))
    (or_else (no_conflict p) (bad_signature A (certificate_signed x)))) in
    let a = or_parts_none (wrong_ids p (nested p)) (or_else (mixed_pairs Commit p (nested p)) rest) h in
    let b = or_parts_none (mixed_pairs Commit p (nested p)) rest a.1 in
    let m = or_parts_none (mixed Commit p) (Rattle.std.specs.Prelude.option_and_then (mixed Commit) (nested p)) b.0 in
    is_commit (decision_of x.body) m.0

-- a proven commit of a pair of a message that was seen
pub commit_seen : (s : Setup) (st : State) (m : MessageValue) → Saw s st m → (p : CommittedValue) → Contains (pairs_in m) p →
    form_fault p.transaction ≡ None → refusal s.kit.accepts s.cluster p.transaction Commit p.certificate ≡ None →
    IsEnded st (id p.transaction)
commit_seen s st m sw p i form none =
    let d = decided_commit s.kit.accepts s.cluster p.transaction p.certificate none in
    let proven : is_proven s p ≡ true =
    and_from _ _ (ap is_none form) (ap is_none (ap (λ (d : Decision). refusal s.kit.accepts s.cluster p.transaction d p.certificate) d
    ∙ none)) in
    any_of (λ (q : CommittedValue). bytes_eq (id p.transaction) (id q.transaction) && proves Commit q) st.certified p
    (sw.certified p i proven)
    (and_from _ _ (same_self (id p.transaction)) (ap (λ (d : Decision). same_decision d Commit) d))

-- ---- a replica's answer

same_text : (a t : TransactionValue) (rest : List TransactionValue) → Some a ≡ Some t → Contains (a ∷ rest) t
same_text a t rest h = let is : a ≡ t = cc in subst (λ (z : TransactionValue). Contains (a ∷ rest) z) is (in_head a rest)

module _ (s : Setup) (ok : IsSetup s) (E : OfKind) (st : State) (w : Whole s E st) (m : MessageValue) (sw : Saw s st m) (from : Party)
    (x : Standing) (here : standing st x.shard x.index ≡ Some x) (correct : is_faulty s (Replica x.shard x.index) ≡ false)
    (d : Done) (did : answer_message (replica_self s x.shard x.index) x.moment from x.book m ≡ Ok d) where
  abbrev P : Party
  P = Replica x.shard x.index

  abbrev X : Standing
  X = record x { book = d.book }

  abbrev St : State
  St = record st { replicas = put_standing X st.replicas; watch = noted P d.signed st.watch }

  g : Grows st St
  g = grows_noted st St P d.signed refl refl

  -- the transaction that a message is about is one of its texts
  about : (m : MessageValue) (t : TransactionValue) → subject m ≡ Some t → Contains (transactions_in m) t
  about (values.Read m) t h = absurd cc
  about (ReadReply m) t h = absurd cc
  about (values.St1 m) t h = same_text m.transaction t [] h
  about (values.Vote m) t h = absurd cc
  about (values.St2 m) t h = same_text m.transaction t [] h
  about (values.LogReply m) t h = absurd cc
  about (Writeback m) t h = same_text m.transaction t _ h
  about (values.Recover m) t h = same_text m.transaction t [] h
  about (values.Invoke m) t h = absurd cc
  about (values.Elect m) t h = same_text m.transaction t [] h
  about (values.Decide m) t h = same_text m.transaction t [] h

  module _ (tx : Lookup) (f : FitsTexts tx st) where
    from_client : (t : TransactionValue) (signature : List ℕ) →
        Contains (Rattle.frame_views.specs.Signed.signed_in m) (client_signed t signature) →
        accepts s.kit.accepts (client_signed t signature) ≡ true → form_fault t ≡ None → Contains (transactions_in m) t →
        IsAsked tx st.watch (id t)
    from_client t signature i h form j =
        let looked : tx (id t) ≡ t = f t (sw.texts t j) in
        record {
          sized = length_id t;
          said = ap (λ (u : TransactionValue). said st.watch (Client u.client) (words_of (TransactionWords (id t))) []) looked
              ∙ sw.said (client_signed t signature) i h;
          form = ap form_fault looked ∙ form;
        }

  ended : (v : WritebackValue) → decision_of v.certificate.body ≡ Commit → form_fault v.transaction ≡ None →
      refusal s.kit.accepts s.cluster v.transaction (decision_of v.certificate.body) v.certificate ≡ None → Saw s st (Writeback v) →
      IsEnded st (id v.transaction)
  ended v dec form none sw' =
      let p : CommittedValue = record { transaction = v.transaction; certificate = v.certificate } in
      commit_seen s st (Writeback v) sw' p (in_head p _) form
      (ap (λ (d : Decision). refusal s.kit.accepts s.cluster v.transaction d v.certificate) (sym dec) ∙ none)

  now_heeded : (tx : Lookup) → FitsTexts tx st → AreHeeded (IsAsked tx st.watch) (IsEnded st) d.book.entries
  now_heeded tx f =
      answers_heed (IsAsked tx st.watch) (IsEnded st) (replica_self s x.shard x.index) x.moment from x.book
      (subst (λ (b : BookValue). AreHeeded (IsAsked tx st.watch) (IsEnded st) b.entries) (ap book_of here)
      (w.heeds tx f x.shard x.index correct))
      m d (λ t signature j i h form. from_client tx f t signature i h form (about m t j))
      (λ v e form dec none. ended v dec form none (subst (λ (m : MessageValue). Saw s st m) e sw)) did

  apart : (a c : ℕ) → is_at a c X ≡ false → same_party (Replica a c) P ≡ false
  apart a c n = elim (cases_Bool (same_party (Replica a c) P)) [
    | inl i ↦
        let both = and_parts (a == x.shard) (c == x.index) i in
        true_false (is_at a c X) (at_from a c X (sym (eqb-true a x.shard both.0)) (sym (eqb-true c x.index both.1))) n
    | inr j ↦ j
  ]

  pub whole_handled : Inv s St → ((tx : Lookup) → FitsTexts tx st →
      Leads (set s tx) (runs.signed_of (abs st)) (aborted_in st) x.shard x.index (node (signed_by st.watch.signed P) x.book)
      (node (signed_by st.watch.signed P ++ d.signed) d.book)) → (book_at St x.shard x.index ≡ d.book) →
      ((a c : ℕ) → is_at a c X ≡ false → book_at St a c ≡ book_at st a c) → Whole s E St
  whole_handled inv went book_here book_there = record {
    inv = inv;
    few = w.few;
    pens = w.pens;
    heeds = λ tx f a c n.
        let f' : FitsTexts tx st = looked_before s E st St w g tx f in
        heeds_grow s E st St w g tx f (book_at St a c).entries (elim (cases_Bool (is_at a c X)) [
          | inl i ↦
              let place = at_parts a c X i in
              subst (λ (b : ℕ). AreHeeded (IsAsked tx st.watch) (IsEnded st) (book_at St b c).entries) place.0
              (subst (λ (b : ℕ). AreHeeded (IsAsked tx st.watch) (IsEnded st) (book_at St x.shard b).entries) place.1
              (subst (λ (b : BookValue). AreHeeded (IsAsked tx st.watch) (IsEnded st) b.entries) (sym book_here)
              (now_heeded tx f')))
          | inr j ↦ subst (λ (b : BookValue). AreHeeded (IsAsked tx st.watch) (IsEnded st) b.entries) (sym (book_there a c j))
              (w.heeds tx f' a c n)
        ]);
    held = λ n c h. held_grows s E st St w g n c (w.held n c h);
    formed = λ n v i. let k = w.formed n v (subst (λ l. Contains l (TransactionWords v))
        (signed_other st.watch P (Client n) d.signed refl) i) in record {
          client =
              k.client;
          at = k.at;
          formed = k.formed;
          seen = seen_grows E st St g k.formed.pursuit.transaction k.seen;
        };
  }

-- ---- a client's call or frame

at_set : (cs : List ClientValue) (n : ℕ) (c x : ClientValue) → cond (nat_le 1 n) (slice_get cs (n - 1)) None ≡ Some c →
    cond (nat_le 1 n) (slice_get (slice_set cs (n - 1) x) (n - 1)) None ≡ Some x
at_set cs n c x h = by (nat_le 1 n) h
  where
    by : (b : Bool) → cond b (slice_get cs (n - 1)) None ≡ Some c → cond b (slice_get (slice_set cs (n - 1) x) (n - 1)) None ≡ Some x
    by true h = set_same cs (n - 1) c x h
    by false h = absurd cc

at_other : (cs : List ClientValue) (n k : ℕ) (c x : ClientValue) → cond (nat_le 1 n) (slice_get cs (n - 1)) None ≡ Some c → (k ≡ n → ⊥) →
    cond (nat_le 1 k) (slice_get (slice_set cs (n - 1) x) (k - 1)) None ≡ cond (nat_le 1 k) (slice_get cs (k - 1)) None
at_other cs n k c x h out = by (nat_le 1 n) (nat_le 1 k) refl refl h
  where
    by : (a b : Bool) → nat_le 1 n ≡ a → nat_le 1 k ≡ b → cond a (slice_get cs (n - 1)) None ≡ Some c →
        cond b (slice_get (slice_set cs (n - 1) x) (k - 1)) None ≡ cond b (slice_get cs (k - 1)) None
    by false b e f h = absurd cc
    by true false e f h = refl
    by true true e f h =
        (let i = leb-true 1 n e in let j = leb-true 1 k f in set_other cs (n - 1) (k - 1) x (λ q. out (omega (arith, i, j, q))))

module _ (s : Setup) (E : OfKind) (st : State) (w : Whole s E st) (n : ℕ) (c : ClientValue) (at : client_at st n ≡ Some c) (d : ClientDone)
    (went : Went (client_self s n) (IsTook s st) E c d) where
  abbrev Cl : State
  Cl = record st { clients = slice_set st.clients (n - 1) d.client; watch = noted (Client n) d.signed st.watch }

  cg : Grows st Cl
  cg = grows_noted st Cl (Client n) d.signed refl refl

  own_at : client_at Cl n ≡ Some d.client
  own_at = at_set st.clients n c d.client at

  other_at : (k : ℕ) → (k ≡ n → ⊥) → client_at Cl k ≡ client_at st k
  other_at k out = at_other st.clients n k c d.client at out

  held_now : (k : ℕ) (z : ClientValue) → client_at Cl k ≡ Some z → IsHeld (client_self s k) (IsTook s Cl) z
  held_now k z h = elim (cases_eq k n) [
    | inl e ↦
        let is : d.client ≡ z = some_is d.client z (Some d.client) refl (sym own_at ∙ sym (ap (client_at Cl) e) ∙ h) in
        subst (λ (j : ℕ). IsHeld (client_self s j) (IsTook s Cl) z) (sym e)
        (subst (IsHeld (client_self s n) (IsTook s Cl)) is (held_grows s E st Cl w cg n d.client went.held))
    | inr out ↦ held_grows s E st Cl w cg k z (w.held k z (sym (other_at k out) ∙ h))
  ]

  kept_formed : (x : List ℕ) (f : HasFormed c x) → E f.pursuit.transaction ⊎ Contains st.watch.texts f.pursuit.transaction →
      FormedAt E Cl n x
  kept_formed x f seen =
      let k = went.keeps f.place f.slot f.stands in
      let p = k.pursues f.pursuit f.pursues in
      record {
        client = d.client;
        at = own_at;
        formed = record {
          place = f.place;
          slot = k.slot;
          stands = k.stands;
          begun = k.begun
              ∙ f.begun;
          pursuit = p.0;
          pursues = p.1;
          named = ap (λ (t : TransactionValue). id t) p.2 ∙ f.named;
        };
        seen = subst (λ (t : TransactionValue). E t ⊎ Contains Cl.watch.texts t) (sym p.2)
            (seen_grows E st Cl cg f.pursuit.transaction seen);
      }

  own_formed : (x : List ℕ) → Contains (signed_by Cl.watch.signed (Client n)) (TransactionWords x) → FormedAt E Cl n x
  own_formed x i =
      elim (Contains-append_cases (signed_by st.watch.signed (Client n)) d.signed (TransactionWords x)
      (subst (λ l. Contains l (TransactionWords x)) (signed_own st.watch (Client n) d.signed) i)) [
        | inl j ↦
            let f = w.formed n x j in
            let is : f.client ≡ c = some_is f.client c (Some f.client) refl (sym f.at ∙ at) in
            by_client f.client is f.formed f.seen
        | inr j ↦
            let g = went.signs (TransactionWords x) j in
            let same : g.named ≡ x =
            (let q : TransactionWords x ≡ TransactionWords g.named = g.words in let r : x ≡ g.named = cc in sym r) in
            subst (FormedAt E Cl n) same (record { client = d.client; at = own_at; formed = g.formed; seen = inl g.kind })
      ]
    where
      by_client : (z : ClientValue) → z ≡ c → (f : HasFormed z x) → E f.pursuit.transaction
          ⊎ Contains st.watch.texts f.pursuit.transaction → FormedAt E Cl n x
      by_client z is f seen =
          kept_formed x (record {
            place = f.place;
            slot = f.slot;
            stands = ap (λ (v : ClientValue). slice_get v.slots f.place) (sym is)
                ∙ f.stands;
            begun = f.begun;
            pursuit = f.pursuit;
            pursues = f.pursues;
            named = f.named;
          }) seen

  formed_now : (k : ℕ) (x : List ℕ) → Contains (signed_by Cl.watch.signed (Client k)) (TransactionWords x) → FormedAt E Cl k x
  formed_now k x i = elim (cases_eq k n) [
    | inl e ↦ subst (λ (j : ℕ). FormedAt E Cl j x) (sym e)
        (own_formed x (subst (λ (j : ℕ). Contains (signed_by Cl.watch.signed (Client j)) (TransactionWords x)) e i))
    | inr out ↦
        let f = w.formed k x (subst (λ l. Contains l (TransactionWords x))
        (signed_other st.watch (Client n) (Client k) d.signed (ne_eqb k n out)) i) in
        record {
          client = f.client;
          at = other_at k out
              ∙ f.at;
          formed = f.formed;
          seen = seen_grows E st Cl cg f.formed.pursuit.transaction f.seen;
        }
  ]

  pub whole_client : Inv s Cl → Whole s E Cl
  whole_client inv = record {
    inv = inv;
    few = λ k z h. elim (cases_eq k n) [
      | inl e ↦ subst (λ (j : ℕ). j ≤ 16) (sym e) (w.few n c at)
      | inr out ↦ w.few k z (sym (other_at k out) ∙ h)
    ];
    pens = λ k z h. elim (cases_eq k n) [
      | inl e ↦
          let is : d.client ≡ z = some_is d.client z (Some d.client) refl (sym own_at ∙ sym (ap (client_at Cl) e) ∙ h) in
          subst (λ (j : ℕ). z.pen.spent + z.pen.left ≡ (s.kit.pen (Client j)).spent + (s.kit.pen (Client j)).left) (sym e)
          (ap (λ (v : ClientValue). v.pen.spent + v.pen.left) (sym is) ∙ went.pen ∙ w.pens n c at)
      | inr out ↦ w.pens k z (sym (other_at k out) ∙ h)
    ];
    heeds = λ tx f a b correct. heeds_grow s E st Cl w cg tx f (book_at st a b).entries
        (w.heeds tx (looked_before s E st Cl w cg tx f) a b correct);
    held = held_now;
    formed = formed_now;
  }

-- what is taken of a seen frame's reply
pub took_seen : (s : Setup) → IsSetup s → RepliesExactly → CertificatesExactly → (st : State) (m : MessageValue) → Saw s st m →
    (r : ReadReplyValue) → m ≡ ReadReply r → (read : ReadValue) → reply_fault s.kit.accepts s.cluster read r ≡ None → IsTook s st read r
took_seen s ok replies exactly st m sw r e read none =
    let sw' : Saw s st (ReadReply r) = subst (Saw s st) e sw in
    let valid = (replies s.kit.accepts s.cluster read r ok.setting sw'.fits).0 none in
    record {
      valid = valid;
      texts = λ t k. sw'.texts t (elim k [
        | inl o ↦ Contains-append_left (map paired (committed_pairs r.committed)) (maybe_one r.prepared) t
            (subst (λ (z : Option CommittedValue). Contains (map paired (committed_pairs z)) t) (sym o.1)
            (same_text (o.0).transaction t (map paired (rival_in (o.0).certificate.body)) (ap (λ (z : TransactionValue). Some z) o.2)))
        | inr o ↦ Contains-append_right (map paired (committed_pairs r.committed)) (maybe_one r.prepared) t
            (subst (λ (z : Option TransactionValue). Contains (maybe_one z) t) (sym o) (in_head t []))
      ]);
      certified = λ part h.
          let P : Option CommittedValue → Type 0 = λ o. IfSome o (IsSeenCommitted s.kit.accepts s.cluster read) in
          let v = subst P h valid.committed in
          let i : Contains (pairs_in (ReadReply r)) part =
          subst (λ (z : Option CommittedValue). Contains (committed_pairs z) part) (sym h) (in_head part _) in
          commit_seen s st (ReadReply r) sw' part i v.seen.form
          ((exactly s.kit.accepts s.cluster part.transaction Commit part.certificate ok.setting
          (pairs_are (Rattle.frame_views.specs.Fitting.bounds_of s.cluster) (ReadReply r) part sw'.fits i).fits v.seen.form).1
          v.commits);
    }
