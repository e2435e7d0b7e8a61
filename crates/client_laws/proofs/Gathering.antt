-- What the reads of a signed transaction rest on.
use Rattle.std.proofs.Common.{◌≡◌, ℕ, ◌≤◌, Bool, true, false, cond, List, [], ◌∷◌, ◌++◌, length, append-nil, append_assoc, Option, Some}
use Rattle.std.proofs.Common.{None, refl, sym, ap, subst, ◌∙◌, inl, inr}
use Rattle.std.specs.Prelude.{Ok, slice_get, slice_set, find, is_some, not, ◌&&◌, ◌||◌, ◌==◌, nat_eq, map, option_map, option_and_then}
use Rattle.std.specs.Prelude.{Contains, if◌then◌else◌}
use Rattle.std.specs.List.{IsDistinct, AllByRecursion, list_any}
use Rattle.std.proofs.lemmas.Bool.{leb-true}
use Rattle.std.proofs.lemmas.List.{map-append}
use Rattle.std.proofs.lemmas.List.Elements.{Contains-append_cases, Contains-append_left, Contains-append_right}
use Rattle.basil_types.proofs.MemberLaws.{in_none, in_head, in_cases, in_map}
use Rattle.basil_types.specs.declared.transaction.parts.ReadPart.{ReadPart}
use Rattle.basil_types.specs.Built.{or_else}
use Rattle.basil_types.specs.Setting.{IsSetting}
use Rattle.basil_types.specs.Transaction.{TransactionValue, id}
use Rattle.basil_types.specs.Words.{SignedWords, TransactionWords, words_of}
use Rattle.client_reads.specs.Choosing.{IsCarried}
use Rattle.client_reads.specs.Laws.{ChoicesCarried, RepliesExactly}
use Rattle.client_reads.specs.Replies.{reply_fault}
use Rattle.client_reads.specs.Versions.{carried_versions}
use Rattle.frame_views.specs.Fitting.{bounds_of}
use Rattle.frame_views.specs.Frames.{IsFrame, frame_in}
use Rattle.frame_views.specs.Values as values
use Rattle.frame_views.specs.Values.{ReadReplyValue}
use Rattle.node_steps.specs.Refusing.{when}
use Rattle.client_steps.specs.declared.fault.CallFault.TheVariants.{Empty, Exhausted, NotOpen, ReadPending}
use Rattle.client_core.specs.Calls.{begun_slot, formed, pending, recovered_slot}
use Rattle.client_core.specs.Clients.{AskedRead, ClientDone, ClientSelf, ClientValue, SlotValue, empty_client}
use Rattle.client_recover.specs.Owned.{unstarted}
use Rattle.client_recover.specs.Taken.{PursuitValue}
use Rattle.client_core.specs.Frames.{with_reply}
use Rattle.client_core.specs.Slots.{as_read, is_chosen}
use Rattle.client_laws.specs.Steps.{Step, Frame, client_after, signed_in, step}
use Rattle.client_laws.specs.Reading.{AreBytes, IsHanded, IsShown, ReadsWereShown}
use Rattle.client_laws.proofs.Changing.{Change, Keeps, Begins, Edits, Edited, Forms, Formed, Pursues, Recovers, IsReplyIn, ReadFrom, Was}
use Rattle.client_laws.proofs.Changing.{New, More, changes}
use Rattle.client_laws.specs.Deciding.{pursuit_in}
use Rattle.client_laws.proofs.Following.{first_none, held, later, push_cases, second_none, set_cases, set_same}

-- ---- lists

all_push : (P : ℕ → Type 0) (xs : List ℕ) (y : ℕ) → AllByRecursion P xs → P y → AllByRecursion P (xs ++ y ∷ [])
all_push P [] y h one = (one, tt)
all_push P (x ∷ xs) y h one = (h.0, all_push P xs y h.1 one)

distinct_none : IsDistinct nat_eq []
unfolding IsDistinct
distinct_none = tt

distinct_push : (xs : List ℕ) (y : ℕ) → IsDistinct nat_eq xs → list_any (λ (x : ℕ). x == y) xs ≡ false → IsDistinct nat_eq (xs ++ y ∷ [])
unfolding IsDistinct
distinct_push [] y h none = (tt, tt)
distinct_push (x ∷ xs) y h none =
    let parts = neither (x == y) (list_any (λ (z : ℕ). z == y) xs) none in
    (all_push (λ z. nat_eq x z ≡ false) xs y h.0 parts.0, distinct_push xs y h.1 parts.1)
  where
    neither : (a b : Bool) → (a || b) ≡ false → (a ≡ false) × (b ≡ false)
    neither true b h = absurd cc
    neither false b h = (refl, h)

any_map : (m : ℕ) (rs : List ReadReplyValue) → list_any (λ (n : ℕ). n == m) (map (λ (r : ReadReplyValue). r.replica) rs)
    ≡ list_any (λ (x : ReadReplyValue). x.replica == m) rs
any_map m [] = refl
any_map m (x ∷ xs) = ap (λ b. (x.replica == m) || b) (any_map m xs)

-- none that fails is found
none_fails : {A : Type 0} (p : A → Bool) (xs : List A) (x : A) → find (λ a. not (p a)) xs ≡ None → Contains xs x → p x ≡ true
none_fails p [] x h i = absurd (in_none x i)
none_fails p (y ∷ ys) x h i = by (p y) refl h (none_fails p ys x)
  where
    by : (b : Bool) → p y ≡ b → cond (not b) (Some y) (find (λ a. not (p a)) ys) ≡ None →
        (find (λ a. not (p a)) ys ≡ None → Contains ys x → p x ≡ true) → p x ≡ true
    by true is h rest = elim (in_cases y ys x i) [ inl e ↦ ap p (sym e) ∙ is | inr j ↦ rest h j ]
    by false is h rest = absurd cc

mapped_none : {A B : Type 0} (f : A → B) (o : Option A) → option_map f o ≡ None → o ≡ None
mapped_none f None h = refl
mapped_none f (Some x) h = absurd cc

-- ---- a read

-- its replies are of different replicas, were handed, and have no fault
record Well (me : ClientSelf) (hs : List Step) (time : ℕ) (r : AskedRead) : Type 0 where
  apart : IsDistinct nat_eq (map (λ (m : ReadReplyValue). m.replica) r.replies)
  handed : (m : ReadReplyValue) → Contains r.replies m → IsHanded me hs m
  valid : (m : ReadReplyValue) → Contains r.replies m →
      reply_fault me.accepts me.cluster (record { key = r.key; time = time; client = me.number }) m ≡ None

handed_more : (me : ClientSelf) (hs more : List Step) (m : ReadReplyValue) → IsHanded me hs m → IsHanded me (hs ++ more) m
handed_more me hs more m h = (h.0, Contains-append_left hs more (Frame h.0) h.1, h.2)

well_more : (me : ClientSelf) (hs more : List Step) (time : ℕ) (r : AskedRead) → Well me hs time r → Well me (hs ++ more) time r
well_more me hs more time r h = record { apart = h.apart; handed = λ m i. handed_more me hs more m (h.handed m i); valid = h.valid }

well_new : (me : ClientSelf) (hs : List Step) (time : ℕ) (r : AskedRead) → r.replies ≡ [] → Well me hs time r
well_new me hs time r none =
    record {
      apart = subst (λ (l : List ReadReplyValue). IsDistinct nat_eq (map (λ (m : ReadReplyValue). m.replica) l)) (sym none) distinct_none;
      handed = λ m i. absurd (in_none m (subst (λ (l : List ReadReplyValue). Contains l m) none i));
      valid = λ m i. absurd (in_none m (subst (λ (l : List ReadReplyValue). Contains l m) none i));
    }

module _ (me : ClientSelf) (hs : List Step) (s : Step) (x : SlotValue) (old : AskedRead) (m : ReadReplyValue)
    (reply : IsReplyIn me s x old m) (h : Well me hs x.time old) where
  now_handed : IsHanded me (hs ++ s ∷ []) m
  now_handed = (
    reply.frame,
    Contains-append_right hs (s ∷ []) (Frame reply.frame) (subst (λ (z : Step). Contains (s ∷ []) z) reply.is (in_head s [])),
    reply.read,
  )

  abbrev more_replies : AskedRead
  more_replies = record old { replies = old.replies ++ m ∷ [] }

  well_push : list_any (λ (z : ReadReplyValue). z.replica == m.replica) old.replies ≡ false → Well me (hs ++ s ∷ []) x.time more_replies
  well_push none =
      let replica : ReadReplyValue → ℕ = λ r. r.replica in
      record {
        apart =
            subst (IsDistinct nat_eq) (sym (map-append replica old.replies (m ∷ [])))
            (distinct_push (map replica old.replies) m.replica h.apart (any_map m.replica old.replies ∙ none));
        handed = λ z i. elim (Contains-append_cases old.replies (m ∷ []) z i) [
          | inl j ↦ handed_more me hs (s ∷ []) z (h.handed z j)
          | inr j ↦ elim (in_cases m [] z j) [
            | inl e ↦ subst (IsHanded me (hs ++ s ∷ [])) e now_handed
            | inr k ↦ absurd (in_none z k)
          ]
        ];
        valid = λ z i. elim (Contains-append_cases old.replies (m ∷ []) z i) [
          | inl j ↦ h.valid z j
          | inr j ↦ elim (in_cases m [] z j) [
            | inl e ↦ ap (reply_fault me.accepts me.cluster (record { key = old.key; time = x.time; client = me.number }))
                (sym e) ∙ reply.valid
            | inr k ↦ absurd (in_none z k)
          ]
        ];
      }

  well_reply : Well me (hs ++ s ∷ []) x.time (with_reply m old)
  well_reply = by (list_any (λ (z : ReadReplyValue). z.replica == m.replica) old.replies) refl
    where
      by : (b : Bool) → list_any (λ (z : ReadReplyValue). z.replica == m.replica) old.replies ≡ b →
          Well me (hs ++ s ∷ []) x.time (if b then old else more_replies)
      by true is = well_more me hs (s ∷ []) x.time old h
      by false is = well_push is

-- ---- a transaction

-- as `IsShown`, of replies without a fault
record Rests (me : ClientSelf) (hs : List Step) (time : ℕ) (read : ReadPart) : Type 0 where
  replies : List ReadReplyValue
  enough : me.cluster.reads ≤ length replies
  apart : IsDistinct nat_eq (map (λ (r : ReadReplyValue). r.replica) replies)
  handed : (r : ReadReplyValue) → Contains replies r → IsHanded me hs r
  valid : (r : ReadReplyValue) → Contains replies r →
      reply_fault me.accepts me.cluster (record { key = read.key; time = time; client = me.number }) r ≡ None
  carried : IsCarried me.cluster (map carried_versions replies) (record { version = read.version; dependency = read.dependency })

-- a slot has formed the transaction with this id, and each of its reads rests so
record Backed (me : ClientSelf) (hs : List Step) (client : ClientValue) (n : List ℕ) : Type 0 where
  slot : ℕ
  pursuit : PursuitValue
  at : pursuit_in client slot ≡ Some pursuit
  named : id pursuit.transaction ≡ n
  rests_on : (read : ReadPart) → Contains pursuit.transaction.reads read → Rests me hs pursuit.transaction.time read

rests_more : (me : ClientSelf) (hs more : List Step) (time : ℕ) (read : ReadPart) → Rests me hs time read → Rests me (hs ++ more) time read
rests_more me hs more time read h = record {
  replies = h.replies;
  enough = h.enough;
  apart = h.apart;
  handed = λ m i. handed_more me hs more m (h.handed m i);
  valid = h.valid;
  carried = h.carried;
}

-- whatever comes next
backed_more : (me : ClientSelf) (hs : List Step) (client : ClientValue) (n : List ℕ) (s : Step) (d : ClientDone) → Change me client s d →
    Backed me hs client n → Backed me (hs ++ s ∷ []) d.client n
backed_more me hs client n s d c b =
    let l = later me client b.slot b.pursuit (held client b.slot b.pursuit b.at) s d c in
    let same : b.pursuit.transaction ≡ l.q.transaction = sym (l.follows).task in
    record {
      slot = b.slot;
      pursuit = l.q;
      at = l.at;
      named = ap id (sym same) ∙ b.named;
      rests_on =
          subst (λ (t : TransactionValue). (read : ReadPart) → Contains t.reads read → Rests me (hs ++ s ∷ []) t.time read) same
          (λ read i. rests_more me hs (s ∷ []) b.pursuit.transaction.time read (b.rests_on read i));
    }

module _ (carries : ChoicesCarried) (me : ClientSelf) (hs : List Step) (client : ClientValue) (f : SlotValue)
    (well : (r : AskedRead) → Contains f.reads r → Well me hs f.time r)
    (chosen : (r : AskedRead) → Contains f.reads r → is_chosen me.cluster r ≡ true) where
  rests : (read : ReadPart) → Contains (formed me f).reads read → Rests me hs f.time read
  rests read i =
      let o = in_map (as_read me.cluster) f.reads read i in
      let r = o.0 in
      let w = well r o.1 in
      subst (Rests me hs f.time) o.2
      (record {
        replies = r.replies;
        enough = leb-true me.cluster.reads (length r.replies) (chosen r o.1);
        apart = w.apart;
        handed = w.handed;
        valid = w.valid;
        carried = carries me.cluster (map carried_versions r.replies);
      })

  backed : (new : ClientValue) (slot : ℕ) (signature : List ℕ) → pursuit_in new slot ≡ Some (unstarted (formed me f) signature) →
      Backed me hs new (id (formed me f))
  backed new slot signature at =
      record { slot = slot; pursuit = unstarted (formed me f) signature; at = at; named = refl; rests_on = rests }

-- ---- steps

record Good (me : ClientSelf) (hs : List Step) (client : ClientValue) (ws : List SignedWords) : Type 0 where
  reads : (k : ℕ) (x : SlotValue) (r : AskedRead) → slice_get client.slots k ≡ Some x → Contains x.reads r → Well me hs x.time r
  signed : (n : List ℕ) → Contains ws (TransactionWords n) → Backed me hs client n

module _ (carries : ChoicesCarried) (me : ClientSelf) (hs : List Step) (client : ClientValue) (ws : List SignedWords)
    (h : Good me hs client ws) (s : Step) where
  abbrev after : List Step
  after = hs ++ s ∷ []

  reads_more : (k : ℕ) (x : SlotValue) (r : AskedRead) → slice_get client.slots k ≡ Some x → Contains x.reads r → Well me after x.time r
  reads_more k x r at i = well_more me hs (s ∷ []) x.time r (h.reads k x r at i)

  signed_more : (d : ClientDone) → Change me client s d → (n : List ℕ) → Contains ws (TransactionWords n) → Backed me after d.client n
  signed_more d c n i = backed_more me hs client n s d c (h.signed n i)

  -- a slot changes
  reads_set : (new : ClientValue) (k : ℕ) (y : SlotValue) → new.slots ≡ slice_set client.slots k y →
      ((r : AskedRead) → Contains y.reads r → Well me after y.time r) →
      (j : ℕ) (z : SlotValue) (r : AskedRead) → slice_get new.slots j ≡ Some z → Contains z.reads r → Well me after z.time r
  reads_set new k y is each j z r at i =
      elim (set_cases client.slots k j y z (ap (λ (l : List SlotValue). slice_get l j) (sym is) ∙ at)) [
        | inl same ↦ subst (λ (w : SlotValue). Well me after w.time r) same
            (each r (subst (λ (w : SlotValue). Contains w.reads r) (sym same) i))
        | inr there ↦ reads_more j z r there i
      ]

  -- one more slot, without reads
  reads_push : (new : ClientValue) (y : SlotValue) → new.slots ≡ client.slots ++ y ∷ [] → y.reads ≡ [] →
      (j : ℕ) (z : SlotValue) (r : AskedRead) → slice_get new.slots j ≡ Some z → Contains z.reads r → Well me after z.time r
  reads_push new y is none j z r at i =
      elim (push_cases client.slots j y z (ap (λ (l : List SlotValue). slice_get l j) (sym is) ∙ at)) [
        | inl same ↦ absurd (in_none r (subst (λ (l : List AskedRead). Contains l r) (ap (λ (w : SlotValue). w.reads) (sym same) ∙ none) i))
        | inr there ↦ reads_more j z r there i
      ]

  no_more : (d : ClientDone) → Change me client s d → (signed : List SignedWords) → signed ≡ [] →
      (n : List ℕ) → Contains (ws ++ signed) (TransactionWords n) → Backed me after d.client n
  no_more d c signed none n i =
      signed_more d c n (subst (λ (l : List SignedWords). Contains l (TransactionWords n)) (ap (λ l. ws ++ l) none ∙ append-nil ws) i)

  edit_read : (d : ClientDone) (e : Edited me client s d) (r : AskedRead) → ReadFrom me s e.x r → Well me after (e.x).time r
  edit_read d e r (Was i) = reads_more e.slot e.x r e.at i
  edit_read d e r (New none) = well_new me after (e.x).time r none
  edit_read d e r (More old m i is reply) =
      subst (Well me after (e.x).time) is (well_reply me hs s e.x old m reply (h.reads e.slot e.x old e.at i))

  -- no read of a slot that is formed waits for its choice
  all_chosen : (d : ClientDone) (f : Formed me client d) (r : AskedRead) → Contains (f.x).reads r → is_chosen me.cluster r ≡ true
  all_chosen d f r i =
      let x = f.x in
      let rest = or_else (when ((length x.reads == 0) && (length x.writes == 0)) Empty) (when (client.pen.left == 0) Exhausted) in
      none_fails (is_chosen me.cluster) x.reads r
      (mapped_none (λ (a : AskedRead). ReadPending a.key) (find (λ a. not (is_chosen me.cluster a)) x.reads)
      (first_none (pending me.cluster x) rest
      (second_none (when (is_some x.pursuit) NotOpen) (or_else (pending me.cluster x) rest) f.fault))) i

  now_formed : (d : ClientDone) (f : Formed me client d) →
      pursuit_in d.client f.slot
      ≡ Some (unstarted (formed me f.x) (me.signing.gives client.pen.spent (words_of (TransactionWords (id (formed me f.x))))))
  now_formed d f =
      ap (λ (x : ClientDone). pursuit_in x.client f.slot) f.is
      ∙ ap (λ (o : Option SlotValue). option_and_then (λ (x : SlotValue). x.pursuit) o) (set_same client.slots f.slot f.x _ f.at)

  signs : (d : ClientDone) (f : Formed me client d) (n : List ℕ) →
      Contains (ws ++ TransactionWords (id (formed me f.x)) ∷ []) (TransactionWords n) → Backed me after d.client n
  signs d f n i =
      let w = TransactionWords (id (formed me f.x)) in
      elim (Contains-append_cases ws (w ∷ []) (TransactionWords n) i) [
        | inl j ↦ signed_more d (Forms f) n j
        | inr j ↦ elim (in_cases w [] (TransactionWords n) j) [
          | inl e ↦ subst (Backed me after d.client) (ap named_in e)
              (backed carries me after client f.x (λ r k. reads_more f.slot f.x r f.at k) (all_chosen d f)
              d.client f.slot _ (now_formed d f))
          | inr k ↦ absurd (in_none (TransactionWords n) k)
        ]
      ]
    where
      named_in : SignedWords → List ℕ
      named_in (TransactionWords y) = y
      named_in (Rattle.basil_types.specs.Words.VoteWords v) = []
      named_in (Rattle.basil_types.specs.Words.ReadReplyWords v) = []
      named_in (Rattle.basil_types.specs.Words.LogReplyWords v) = []
      named_in (Rattle.basil_types.specs.Words.ElectionWords v) = []
      named_in (Rattle.basil_types.specs.Words.ProposalWords v) = []

  good : (d : ClientDone) → Change me client s d → Good me after d.client (ws ++ d.signed)
  good d (Keeps is calm) = record {
    reads = λ k x r at. reads_more k x r (ap (λ (v : ClientValue). slice_get v.slots k) (sym is) ∙ at);
    signed = no_more d (Keeps is calm) d.signed calm.signed;
  }
  good d (Begins time above is) = record {
    reads = reads_push d.client (begun_slot time) (ap (λ (x : ClientDone). x.client.slots) is) refl;
    signed = no_more d (Begins time above is) d.signed (ap (λ (x : ClientDone). x.signed) is);
  }
  good d (Edits e) = record {
    reads = reads_set d.client e.slot _ (ap (λ (v : ClientValue). v.slots) e.is) (λ r i. edit_read d e r (e.each r i));
    signed = no_more d (Edits e) d.signed (e.calm).signed;
  }
  good d (Forms f) = record {
    reads = reads_set d.client f.slot _ (ap (λ (x : ClientDone). x.client.slots) f.is) (λ r i. reads_more f.slot f.x r f.at i);
    signed = λ n i. signs d f n (subst (λ (x : ClientDone). Contains (ws ++ x.signed) (TransactionWords n)) f.is i);
  }
  good d (Pursues p) = record {
    reads = reads_set d.client p.slot _ (ap (λ (x : ClientDone). x.client.slots) p.is) (λ r i. reads_more p.slot p.x r p.at i);
    signed = no_more d (Pursues p) d.signed (ap (λ (x : ClientDone). x.signed) p.is);
  }
  good d (Recovers t signature is calm) = record {
    reads = reads_push d.client (recovered_slot t signature) (ap (λ (v : ClientValue). v.slots) is) refl;
    signed = no_more d (Recovers t signature is calm) d.signed calm.signed;
  }

all_good : ChoicesCarried → (me : ClientSelf) (hs : List Step) (client : ClientValue) (ws : List SignedWords) (ss : List Step) →
    Good me hs client ws → Good me (hs ++ ss) (client_after me client ss) (ws ++ signed_in me client ss)
all_good carries me hs client ws [] h =
    subst (λ (l : List Step). Good me l client (ws ++ [])) (sym (append-nil hs))
    (subst (Good me hs client) (sym (append-nil ws)) h)
all_good carries me hs client ws (s ∷ ss) h =
    let d = step me client s in
    let rest = all_good carries me (hs ++ s ∷ []) d.client (ws ++ d.signed) ss (good carries me hs client ws h s d (changes me client s)) in
    subst (λ (l : List Step). Good me l (client_after me d.client ss) (ws ++ (d.signed ++ signed_in me d.client ss)))
    (append_assoc hs (s ∷ []) ss)
    (subst (Good me ((hs ++ s ∷ []) ++ ss) (client_after me d.client ss)) (append_assoc ws d.signed (signed_in me d.client ss)) rest)

-- ---- the law

abbrev pub FramesFit : Type 0
FramesFit =
    (cluster : Rattle.basil_types.specs.Setting.Setting) (frame : List ℕ) (m : values.MessageValue) →
    Rattle.basil_types.specs.Texts.IsBytes frame → frame_in (bounds_of cluster) frame ≡ Ok m → IsFrame cluster frame m

shown : RepliesExactly → FramesFit → (me : ClientSelf) (hs : List Step) (time : ℕ) (read : ReadPart) → IsSetting me.cluster → AreBytes hs →
    Rests me hs time read → IsShown me hs time read
shown exactly fits me hs time read setting bytes h = record {
  replies = h.replies;
  enough = h.enough;
  apart = h.apart;
  handed = h.handed;
  valid = λ r i.
      let given = h.handed r i in
      (exactly me.accepts me.cluster (record { key = read.key; time = time; client = me.number }) r setting
      (fits me.cluster given.0 (values.ReadReply r) (bytes given.0 given.1) given.2).fits).0 (h.valid r i);
  carried = h.carried;
}

pub reads_shown : ChoicesCarried → RepliesExactly → FramesFit → ReadsWereShown
reads_shown carries exactly fits me pen ss x setting bytes i =
    let start : Good me [] (empty_client pen) [] =
    record { reads = λ k x r at. absurd cc; signed = λ n j. absurd (in_none (TransactionWords n) j) } in
    let all = all_good carries me [] (empty_client pen) [] ss start in
    let b = all.signed x i in
    record {
      slot = b.slot;
      pursuit = b.pursuit;
      formed = b.at;
      named = b.named;
      shown = λ read j. shown exactly fits me ss b.pursuit.transaction.time read setting bytes (b.rests_on read j);
    }
