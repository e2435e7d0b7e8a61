-- How often a client sends of itself.
use Rattle.std.proofs.Common.{◌≡◌, ℕ, zero, suc, ◌+◌, ◌*◌, ◌≤◌, Bool, true, false, cond, List, [], ◌∷◌, length, Option, Some, None}
use Rattle.std.proofs.Common.{refl, sym, ap, ◌∙◌, arith}
use Rattle.std.specs.Prelude.{Result, Ok, Err, slice_get, slice_set, is_some, ◌||◌, ◌==◌, option_map, option_and_then, if◌then◌else◌}
use Rattle.std.specs.Option.{option_map_or}
use Rattle.std.proofs.lemmas.Option.{same_Some}
use Rattle.basil_types.specs.Setting.{Setting}
use Rattle.basil_types.specs.Transaction.{TransactionValue, id}
use Rattle.certificates.specs.declared.fault.FrameFault.{FrameFault}
use Rattle.certificates.specs.declared.fault.FrameFault.TheVariants.{NotMine}
use Rattle.client_reads.specs.Replies.{reply_fault}
use Rattle.client_recover.specs.Certifying.{all_voted, settled}
use Rattle.client_recover.specs.Faults.{vote_fault, log_fault, writeback_fault}
use Rattle.client_recover.specs.Pursuits.{PursuitDone, go_on, outcome, settle, start_second, still, take_frame, tell, took}
use Rattle.client_recover.specs.Taken.{PursuitValue, TakenValue, TakenVote, TakenLog, TakenCertificate, DecidedValue, LogsValue}
use Rattle.frame_views.specs.declared.fault.BadFrame as faults
use Rattle.frame_views.specs.Fitting.{bounds_of}
use Rattle.frame_views.specs.Frames.{frame_in}
use Rattle.frame_views.specs.Values as values
use Rattle.frame_views.specs.Values.{MessageValue, ReadReplyValue}
use Rattle.node_steps.specs.Envelopes.{EnvelopeValue}
use Rattle.node_steps.specs.Refusing.{unless}
use Rattle.client_core.specs.Answers.{on_read_frame}
use Rattle.client_core.specs.Calls.{pursuit_done}
use Rattle.client_core.specs.Clients.{AskedRead, ClientDone, ClientSelf, ClientValue, SlotValue, quiet}
use Rattle.client_core.specs.Frames.{HeldValue, held_at, held_at_slot, read_asked, reply_at, reply_by, reply_taken, reply_to_time, taken_by}
use Rattle.client_core.specs.Frames.{with_reply}
use Rattle.client_core.specs.Slots.{asked, is_chosen, put_read, slot_of_id, slot_of_time, with_pursuit}
use Rattle.client_laws.specs.Steps.{left_by}
use Rattle.client_laws.specs.Saying.{Says, SpeaksTwice, said, said_of}

-- ---- what is said for all slots

two : (a b : Bool) → cond a 1 0 + cond b 1 0 ≤ 2
two true true = omega arith
two true false = omega arith
two false true = omega arith
two false false = omega arith

at_most : (c : Setting) (o : Option PursuitValue) → said_of c o ≤ 2
at_most c None = omega arith
at_most c (Some p) = two p.second (is_some (outcome c p))

most : (c : Setting) (slots : List SlotValue) → said c slots ≤ 2 * length slots
most c [] = omega arith
most c (s ∷ slots) =
    let one = at_most c s.pursuit in
    let rest = most c slots in
    omega (arith, one, rest)

said_set : (c : Setting) (slots : List SlotValue) (k : ℕ) (x y : SlotValue) → slice_get slots k ≡ Some x →
    said c (slice_set slots k y) + said_of c x.pursuit ≡ said c slots + said_of c y.pursuit
said_set c [] k x y at = absurd cc
said_set c (z ∷ zs) zero x y at =
    let same : said_of c z.pursuit ≡ said_of c x.pursuit = ap (λ (s : SlotValue). said_of c s.pursuit) (same_Some z x at) in
    omega (arith, same)
said_set c (z ∷ zs) (suc k) x y at = let rest = said_set c zs k x y at in omega (arith, rest)

length_set : {A : Type 0} (xs : List A) (k : ℕ) (y : A) → length (slice_set xs k y) ≡ length xs
length_set [] k y = refl
length_set (x ∷ xs) zero y = refl
length_set (x ∷ xs) (suc k) y = ap suc (length_set xs k y)

-- ---- one transaction

-- more is said where anything is sent
record Moves (c : Setting) (p : PursuitValue) (e : PursuitDone) : Type 0 where
  later : said_of c (Some p) ≤ said_of c (Some e.pursuit)
  more : 1 ≤ length e.sent → said_of c (Some p) + 1 ≤ said_of c (Some e.pursuit)

abbrev one_of : Bool → ℕ
one_of b = cond b 1 0

module _ (c : Setting) (p q : PursuitValue) (started : q.second ≡ p.second) where
  -- nothing is sent, and as much is decided
  moves_still : is_some (outcome c q) ≡ is_some (outcome c p) → Moves c p (still q)
  moves_still same =
      let second : one_of q.second ≡ one_of p.second = ap one_of started in
      let decided : one_of (is_some (outcome c q)) ≡ one_of (is_some (outcome c p)) = ap one_of same in
      record { later = omega (arith, second, decided); more = λ h. absurd (omega (arith, h)) }

  -- it is decided
  moves_told : is_some (outcome c p) ≡ false → is_some (outcome c q) ≡ true → (sent : List EnvelopeValue) →
      Moves c p (record { pursuit = q; sent = sent })
  moves_told none some sent =
      let second : one_of q.second ≡ one_of p.second = ap one_of started in
      let before : one_of (is_some (outcome c p)) ≡ 0 = ap one_of none in
      let after : one_of (is_some (outcome c q)) ≡ 1 = ap one_of some in
      record { later = omega (arith, second, before, after); more = λ h. omega (arith, second, before, after) }

  -- its second stage starts
  moves_started : is_some (outcome c p) ≡ false → q.second ≡ false → (sent : List EnvelopeValue) →
      Moves c p (record { pursuit = record q { second = true }; sent = sent })
  moves_started none fresh sent =
      let second : one_of p.second ≡ 0 = ap one_of (sym started ∙ fresh) in
      let before : one_of (is_some (outcome c p)) ≡ 0 = ap one_of none in
      record { later = omega (arith, second, before); more = λ h. omega (arith, second, before) }

module _ (c : Setting) (p : PursuitValue) (x : TakenValue) (none : is_some (outcome c p) ≡ false) where
  moves_second : is_some (outcome c (took p x)) ≡ false → (o : Option LogsValue) → (took p x).second ≡ false →
      Moves c p (option_map_or (start_second c (took p x)) o (still (took p x)))
  moves_second still_none None fresh = moves_still c p (took p x) refl (still_none ∙ sym none)
  moves_second still_none (Some l) fresh = moves_started c p (took p x) refl none fresh _

  moves_settle : is_some (outcome c (took p x)) ≡ false → Moves c p (settle c (took p x))
  moves_settle still_none = by (is_some (outcome c (took p x))) (took p x).second still_none refl
    where
      by : (a b : Bool) → a ≡ false → (took p x).second ≡ b → Moves c p
          (if a || b then still (took p x)
          else option_map_or (start_second c (took p x)) (settled c p.transaction (took p x).taken) (still (took p x)))
      by true b h started = absurd cc
      by false true h started = moves_still c p (took p x) refl (still_none ∙ sym none)
      by false false h started = moves_second still_none (settled c p.transaction (took p x).taken) started

  moves_on : is_some (outcome c (took p x)) ≡ false → Moves c p (go_on c (took p x))
  moves_on still_none = by (all_voted c p.transaction (took p x).taken)
    where
      by : (b : Bool) → Moves c p (if b then settle c (took p x) else still (took p x))
      by true = moves_settle still_none
      by false = moves_still c p (took p x) refl (still_none ∙ sym none)

  moves_new : (o : Option DecidedValue) → outcome c (took p x) ≡ o →
      Moves c p (option_map_or (tell c (took p x)) o (go_on c (took p x)))
  moves_new None h = moves_on (ap is_some h)
  moves_new (Some d) h = moves_told c p (took p x) refl none (ap is_some h) _

moves : (c : Setting) (p : PursuitValue) (x : TakenValue) → Moves c p (take_frame c p x)
moves c p x = by (is_some (outcome c p)) refl
  where
    by : (b : Bool) → is_some (outcome c p) ≡ b → Moves c p
        (if b then still p else option_map_or (tell c (took p x)) (outcome c (took p x)) (go_on c (took p x)))
    by true h = moves_still c p p refl refl
    by false h = moves_new c p x h (outcome c (took p x)) refl

-- ---- frames

module _ (me : ClientSelf) (client : ClientValue) where
  abbrev SaysSo : Result ClientDone FrameFault → Type 0
  SaysSo answer = Says me.cluster client (left_by client answer)

  -- nothing changed
  kept : Says me.cluster client (quiet client)
  kept = record { slots = refl; later = omega arith; more = λ h. absurd (omega (arith, h)) }

  refused : (fault : FrameFault) → SaysSo (Err fault)
  refused fault = kept

  unless_says : (o : Option FrameFault) (d : ClientDone) → Says me.cluster client d → SaysSo (unless o d)
  unless_says None d says = says
  unless_says (Some fault) d says = kept

  -- a frame for a transaction
  pursues : (place : ℕ) (x : SlotValue) (p : PursuitValue) (e : PursuitDone) → slice_get client.slots place ≡ Some x →
      x.pursuit ≡ Some p → Moves me.cluster p e → Says me.cluster client (pursuit_done client place x e)
  pursues place x p e at formed m =
      let sum = said_set me.cluster client.slots place x (with_pursuit x e.pursuit) at in
      let old : said_of me.cluster x.pursuit ≡ said_of me.cluster (Some p) = ap (said_of me.cluster) formed in
      let later = m.later in
      record {
        slots = length_set client.slots place (with_pursuit x e.pursuit);
        later = omega (arith, sum, old, later);
        more = λ h. let step = m.more h in omega (arith, sum, old, step);
      }

  takes : (fault : TransactionValue → Option FrameFault) (y : TakenValue) (o : Option ℕ) →
      SaysSo (taken_by me client fault y (option_and_then (held_at client) o))
  takes fault y None = refused NotMine
  takes fault y (Some place) = by_place (slice_get client.slots place) refl
    where
      by_formed : (x : SlotValue) → slice_get client.slots place ≡ Some x → (o : Option PursuitValue) → x.pursuit ≡ o →
          SaysSo (taken_by me client fault y
          (option_map (λ (p : PursuitValue). let h : HeldValue = record { place = place; slot = x; pursuit = p } in h) o))
      by_formed x at None formed = refused NotMine
      by_formed x at (Some p) formed =
          unless_says (fault p.transaction) (pursuit_done client place x (take_frame me.cluster p y))
          (pursues place x p (take_frame me.cluster p y) at formed (moves me.cluster p y))

      by_place : (o : Option SlotValue) → slice_get client.slots place ≡ o →
          SaysSo (taken_by me client fault y (option_and_then (held_at_slot place) o))
      by_place None at = refused NotMine
      by_place (Some x) at = by_formed x at x.pursuit refl

  -- a reply to a read
  module _ (m : ReadReplyValue) where
    replied : (place : ℕ) (x : SlotValue) (r : AskedRead) → slice_get client.slots place ≡ Some x →
        Says me.cluster client (reply_taken client place x m r)
    replied place x r at =
        let y : SlotValue = record x { reads = put_read (with_reply m r) x.reads } in
        let sum = said_set me.cluster client.slots place x y at in
        record {
          slots = length_set client.slots place y;
          later = omega (arith, sum);
          more = λ h. absurd (omega (arith, h));
        }

    replied_by : (place : ℕ) (x : SlotValue) → slice_get client.slots place ≡ Some x → (o : Option AskedRead) →
        SaysSo (reply_by me client place x m o)
    replied_by place x at None = refused NotMine
    replied_by place x at (Some r) = by (is_chosen me.cluster r)
      where
        by : (b : Bool) → SaysSo
            (if b then Err NotMine
            else unless (reply_fault me.accepts me.cluster (read_asked me x r) m) (reply_taken client place x m r))
        by true = refused NotMine
        by false = unless_says (reply_fault me.accepts me.cluster (read_asked me x r) m) (reply_taken client place x m r)
            (replied place x r at)

    replied_at : (place : ℕ) (o : Option SlotValue) → slice_get client.slots place ≡ o → SaysSo (reply_at me client m place o)
    replied_at place None at = refused NotMine
    replied_at place (Some x) at = replied_by place x at (asked m.key x)

    replied_to : (o : Option ℕ) → SaysSo (reply_to_time me client m o)
    replied_to None = refused NotMine
    replied_to (Some place) = replied_at place (slice_get client.slots place) refl

    replies : (b : Bool) → SaysSo (if b then reply_to_time me client m (slot_of_time client m.time) else Err NotMine)
    replies true = replied_to (slot_of_time client m.time)
    replies false = refused NotMine

  framed : (r : Result MessageValue faults.BadFrame) → SaysSo (on_read_frame me client r)
  framed (Err fault) = kept
  framed (Ok (values.Read m)) = refused NotMine
  framed (Ok (values.ReadReply m)) = replies m (m.client == me.number)
  framed (Ok (values.St1 m)) = refused NotMine
  framed (Ok (values.Vote m)) = takes (λ t. vote_fault me.accepts me.cluster t m) (TakenVote m) (slot_of_id client m.id)
  framed (Ok (values.St2 m)) = refused NotMine
  framed (Ok (values.LogReply m)) = takes (λ t. log_fault me.accepts me.cluster t m) (TakenLog m) (slot_of_id client m.id)
  framed (Ok (values.Writeback m)) =
      takes (λ t. writeback_fault me.accepts me.cluster t m) (TakenCertificate m.certificate) (slot_of_id client (id m.transaction))
  framed (Ok (values.Recover m)) = refused NotMine
  framed (Ok (values.Invoke m)) = refused NotMine
  framed (Ok (values.Elect m)) = refused NotMine
  framed (Ok (values.Decide m)) = refused NotMine

pub speaks : SpeaksTwice
speaks = record {
  says = λ me client frame. framed me client (frame_in (bounds_of me.cluster) frame);
  most = most;
}
