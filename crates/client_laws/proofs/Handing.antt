-- Valid frames are taken, until they decide.
use Rattle.std.proofs.Common.{◌≡◌, ℕ, zero, suc, ◌+◌, Bool, true, false, cond, List, [], ◌∷◌, ◌++◌, append-nil, rules, Option, Some, None}
use Rattle.std.proofs.Common.{refl, sym, ap, subst, ◌∙◌}
use Rattle.std.specs.Prelude.{Result, Ok, Err, slice_get, slice_set, position, is_some, ◌||◌, map, option_map, option_and_then}
use Rattle.std.specs.Prelude.{if◌then◌else◌}
use Rattle.std.specs.Option.{option_map_or}
use Rattle.std.specs.Str.{bytes_eq}
use Rattle.std.proofs.lemmas.List.{append_assoc}
use Rattle.std.proofs.lemmas.Option.{same_Some}
use Rattle.basil_types.proofs.Walks.{position-cons}
use Rattle.basil_types.specs.Built.{or_else}
use Rattle.basil_types.specs.Setting.{Setting}
use Rattle.basil_types.specs.Transaction.{TransactionValue, id}
use Rattle.certificates.specs.declared.fault.FrameFault.{FrameFault}
use Rattle.client_recover.specs.Certifying.{all_voted, decided, settled}
use Rattle.client_recover.specs.Faults.{vote_fault, log_fault, writeback_fault}
use Rattle.client_recover.specs.Frames.{if_mine}
use Rattle.client_recover.specs.Pursuits.{PursuitDone, go_on, outcome, settle, start_second, still, take_frame, tell, took}
use Rattle.client_recover.specs.Taken.{PursuitValue, TakenValue, TakenVote, TakenLog, TakenCertificate, DecidedValue, LogsValue}
use Rattle.frame_views.specs.declared.fault.BadFrame as faults
use Rattle.frame_views.specs.Fitting.{bounds_of}
use Rattle.frame_views.specs.Frames.{frame_in}
use Rattle.frame_views.specs.Values as values
use Rattle.frame_views.specs.Values.{MessageValue}
use Rattle.node_steps.specs.Refusing.{unless}
use Rattle.client_core.specs.Answers.{on_message, on_read_frame}
use Rattle.client_core.specs.Calls.{pursuit_done}
use Rattle.client_core.specs.Clients.{ClientDone, ClientSelf, ClientValue, SlotValue}
use Rattle.client_core.specs.Frames.{HeldValue, held_at, held_at_slot, held_with, taken_by}
use Rattle.client_core.specs.Slots.{is_named, slot_of_id, with_pursuit, with_slot}
use Rattle.client_core.specs.Taking.{taken_of}
use Rattle.client_laws.specs.Steps.{Frame, client_after, left_by, step}
use Rattle.client_laws.specs.Deciding.{AreTaken, DecidingSetDecides, first_decided, outcome_at, pursuit_in, taken_of_read}
use Rattle.client_laws.proofs.Following.{held, goes_frame, outcomes_stay, pursued_at, set_same}

-- ---- what is taken of a frame

-- the frame names the transaction, has no fault, and this is taken of it
record Mine (named : List ℕ) (t : TransactionValue) (fault : Option FrameFault) (x y : TakenValue) : Type 0 where
  named_so : named ≡ id t
  valid : fault ≡ None
  same : x ≡ y

module _ {E A : Type 0} where
  ok_same : (a b : A) (r : Result A E) → r ≡ Ok a → r ≡ Ok b → a ≡ b
  ok_same a b r h k = ap value (sym h ∙ k)
    where
      value : Result A E → A
      value (Ok x) = x
      value (Err e) = a

same_bytes : (x y : List ℕ) → bytes_eq x y ≡ true → x ≡ y
same_bytes x y h = search rules

mine : (named : List ℕ) (t : TransactionValue) (fault : Option FrameFault) (x y : TakenValue) → if_mine named t fault x ≡ Ok y →
    Mine named t fault x y
mine named t fault x y h = by (bytes_eq named (id t)) refl h
  where
    valid : (o : Option FrameFault) → fault ≡ o → bytes_eq named (id t) ≡ true → unless o x ≡ Ok y → Mine named t fault x y
    valid None none b h = record { named_so = same_bytes named (id t) b; valid = none; same = ok_same x y (Ok x) refl h }
    valid (Some e) none b h = absurd cc

    by : (b : Bool) → bytes_eq named (id t) ≡ b →
        (if b then unless fault x else Err Rattle.certificates.specs.declared.fault.FrameFault.TheVariants.NotMine) ≡ Ok y →
        Mine named t fault x y
    by true e h = valid fault refl e h
    by false e h = absurd cc

module _ (me : ClientSelf) (client : ClientValue) (slot : ℕ) (p : PursuitValue) (x : SlotValue)
    (at : slice_get client.slots slot ≡ Some x) (formed : x.pursuit ≡ Some p)
    (found : slot_of_id client (id p.transaction) ≡ Some slot) where
  -- it is taken for the transaction in its slot
  abbrev here : HeldValue
  here = record { place = slot; slot = x; pursuit = p }

  held_here : (named : List ℕ) → named ≡ id p.transaction → held_with client named ≡ Some here
  held_here named same =
      ap (λ (n : List ℕ). held_with client n) same ∙ ap (option_and_then (held_at client)) found
      ∙ ap (option_and_then (held_at_slot slot)) at
      ∙ ap
      (λ (o : Option PursuitValue). option_map
      (λ (q : PursuitValue). let h : HeldValue = record { place = slot; slot = x; pursuit = q } in h) o)
      formed

  took_it : (named : List ℕ) (fault : TransactionValue → Option FrameFault) (y z : TakenValue) →
      Mine named p.transaction (fault p.transaction) y z →
      left_by client (taken_by me client fault y (held_with client named)) ≡ pursuit_done client slot x (take_frame me.cluster p z)
  took_it named fault y z m =
      ap (λ (o : Option HeldValue). left_by client (taken_by me client fault y o)) (held_here named m.named_so)
      ∙ ap (λ (o : Option FrameFault). left_by client (unless o (pursuit_done client slot x (take_frame me.cluster p y)))) m.valid
      ∙ ap (λ (w : TakenValue). pursuit_done client slot x (take_frame me.cluster p w)) m.same

  takes_message : (m : MessageValue) (z : TakenValue) → taken_of me.accepts me.cluster p.transaction m ≡ Ok z →
      left_by client (on_message me client m) ≡ pursuit_done client slot x (take_frame me.cluster p z)
  takes_message (values.Read m) z h = absurd cc
  takes_message (values.ReadReply m) z h = absurd cc
  takes_message (values.St1 m) z h = absurd cc
  takes_message (values.Vote m) z h =
      took_it m.id (λ t. vote_fault me.accepts me.cluster t m) (TakenVote m) z (mine m.id p.transaction _ (TakenVote m) z h)
  takes_message (values.St2 m) z h = absurd cc
  takes_message (values.LogReply m) z h =
      took_it m.id (λ t. log_fault me.accepts me.cluster t m) (TakenLog m) z (mine m.id p.transaction _ (TakenLog m) z h)
  takes_message (values.Writeback m) z h =
      took_it (id m.transaction) (λ t. writeback_fault me.accepts me.cluster t m) (TakenCertificate m.certificate) z
      (mine (id m.transaction) p.transaction _ (TakenCertificate m.certificate) z h)
  takes_message (values.Recover m) z h = absurd cc
  takes_message (values.Invoke m) z h = absurd cc
  takes_message (values.Elect m) z h = absurd cc
  takes_message (values.Decide m) z h = absurd cc

  takes_read : (r : Result MessageValue faults.BadFrame) (z : TakenValue) → taken_of_read me p.transaction r ≡ Ok z →
      left_by client (on_read_frame me client r) ≡ pursuit_done client slot x (take_frame me.cluster p z)
  takes_read (Ok m) z h = takes_message m z h
  takes_read (Err e) z h = absurd cc

-- ---- the slot of an id stays

named_set : (named : List ℕ) (slots : List SlotValue) (k : ℕ) (x y : SlotValue) → slice_get slots k ≡ Some x →
    is_named named y ≡ is_named named x → position (is_named named) (slice_set slots k y) ≡ position (is_named named) slots
named_set named [] k x y at same = absurd cc
named_set named (z ∷ zs) zero x y at same =
    position-cons (is_named named) y zs
    ∙ ap (λ b. cond b (Some 0) (option_map (λ k. k + 1) (position (is_named named) zs)))
    (same ∙ ap (is_named named) (sym (same_Some z x at)))
    ∙ sym (position-cons (is_named named) z zs)
named_set named (z ∷ zs) (suc k) x y at same =
    position-cons (is_named named) z (slice_set zs k y)
    ∙ ap (λ o. cond (is_named named z) (Some 0) (option_map (λ k. k + 1) o)) (named_set named zs k x y at same)
    ∙ sym (position-cons (is_named named) z zs)

-- ---- one frame

-- the transaction stands in this slot, which its id finds
record Stands (client : ClientValue) (slot : ℕ) (p : PursuitValue) : Type 0 where
  found : slot_of_id client (id p.transaction) ≡ Some slot
  at : pursuit_in client slot ≡ Some p

takes : (me : ClientSelf) (client : ClientValue) (slot : ℕ) (p : PursuitValue) (frame : List ℕ) (z : TakenValue) → Stands client slot p →
    taken_of_read me p.transaction (frame_in (bounds_of me.cluster) frame) ≡ Ok z →
    Stands (step me client (Frame frame)).client slot (take_frame me.cluster p z).pursuit
takes me client slot p frame z h valid =
    let x = held client slot p h.at in
    let q = (take_frame me.cluster p z).pursuit in
    let task : q.transaction ≡ p.transaction = ((goes_frame me.cluster p z).follows).task in
    let y = with_pursuit x.x q in
    let done = takes_read me client slot p x.x x.at x.formed h.found (frame_in (bounds_of me.cluster) frame) z valid in
    let new : ClientValue = with_slot client slot y in
    let named : is_named (id q.transaction) y ≡ is_named (id q.transaction) x.x =
    ap (λ (t : TransactionValue). bytes_eq (id q.transaction) (id t)) task
    ∙ ap (λ (o : Option PursuitValue). option_map_or (λ (r : PursuitValue). bytes_eq (id q.transaction) (id r.transaction)) o false)
    (sym x.formed) in
    subst (λ (d : ClientDone). Stands d.client slot q) (sym done)
    (record {
      found =
          named_set (id q.transaction) client.slots slot x.x y x.at named ∙ ap (λ (t : TransactionValue). slot_of_id client (id t)) task
          ∙ h.found;
      at = pursued_at new slot y (set_same client.slots slot x.x y x.at);
    })

-- ---- many frames

-- what an undecided transaction has taken then
abbrev Took : PursuitValue → TakenValue → PursuitDone → Type 0
Took p z e = (e.pursuit.transaction ≡ p.transaction) × (e.pursuit.taken ≡ p.taken ++ z ∷ [])

module _ (c : Setting) (p : PursuitValue) (z : TakenValue) where
  by_settled : (o : Option LogsValue) → Took p z (option_map_or (start_second c (took p z)) o (still (took p z)))
  by_settled None = (refl, refl)
  by_settled (Some l) = (refl, refl)

  by_second : (b : Bool) →
      Took p z
      (cond b (still (took p z)) (option_map_or (start_second c (took p z)) (settled c p.transaction (took p z).taken) (still (took p z))))
  by_second true = (refl, refl)
  by_second false = by_settled (settled c p.transaction (took p z).taken)

  by_all : (b : Bool) → Took p z (cond b (settle c (took p z)) (still (took p z)))
  by_all true = by_second (is_some (outcome c (took p z)) || p.second)
  by_all false = (refl, refl)

  by_outcome : (o : Option DecidedValue) → Took p z (option_map_or (tell c (took p z)) o (go_on c (took p z)))
  by_outcome None = by_all (all_voted c p.transaction (took p z).taken)
  by_outcome (Some d) = (refl, refl)

undecided : (c : Setting) (p : PursuitValue) (z : TakenValue) → outcome c p ≡ None → Took p z (take_frame c p z)
undecided c p z none =
    subst (λ (b : Bool). Took p z (cond b (still p) (option_map_or (tell c (took p z)) (outcome c (took p z)) (go_on c (took p z)))))
    (sym (ap is_some none)) (by_outcome c p z (outcome c (took p z)))

outcome_of : (me : ClientSelf) (client : ClientValue) (slot : ℕ) (p : PursuitValue) → Stands client slot p →
    outcome_at me client slot ≡ decided me.cluster p.transaction p.taken
outcome_of me client slot p h = ap (option_and_then (outcome me.cluster)) h.at

-- one frame more: what was decided stays, and otherwise it is taken
one_more : (me : ClientSelf) (slot : ℕ) (p : PursuitValue) (z : TakenValue) (zs : List TakenValue) (last : ClientValue)
    (o : Option DecidedValue) →
    decided me.cluster p.transaction p.taken ≡ o →
    ((d : DecidedValue) → decided me.cluster p.transaction p.taken ≡ Some d → outcome_at me last slot ≡ Some d) →
    outcome_at me last slot
    ≡ first_decided me.cluster (take_frame me.cluster p z).pursuit.transaction (take_frame me.cluster p z).pursuit.taken zs →
    outcome_at me last slot ≡ or_else o (first_decided me.cluster p.transaction (p.taken ++ z ∷ []) zs)
one_more me slot p z zs last (Some d) is stay rest = stay d is
one_more me slot p z zs last None is stay rest =
    let taken = undecided me.cluster p z is in
    rest ∙ ap (λ (t : TransactionValue). first_decided me.cluster t (take_frame me.cluster p z).pursuit.taken zs) taken.0
    ∙ ap (λ (l : List TakenValue). first_decided me.cluster p.transaction l zs) taken.1

first : (me : ClientSelf) (client : ClientValue) (slot : ℕ) (p : PursuitValue) (frames : List (List ℕ)) (zs : List TakenValue) →
    Stands client slot p → AreTaken me p.transaction frames zs →
    outcome_at me (client_after me client (map Frame frames)) slot ≡ first_decided me.cluster p.transaction p.taken zs
first me client slot p [] [] h valid = outcome_of me client slot p h
first me client slot p [] (z ∷ zs) h valid = absurd valid
first me client slot p (frame ∷ frames) [] h valid = absurd valid
first me client slot p (frame ∷ frames) (z ∷ zs) h valid =
    let q = (take_frame me.cluster p z).pursuit in
    let new = (step me client (Frame frame)).client in
    let stands = takes me client slot p frame z h valid.0 in
    let task : q.transaction ≡ p.transaction = ((goes_frame me.cluster p z).follows).task in
    one_more me slot p z zs (client_after me new (map Frame frames)) (decided me.cluster p.transaction p.taken) refl
    (λ d is. outcomes_stay me new slot d (map Frame frames)
    (outcome_of me new slot q stands ∙ ((goes_frame me.cluster p z).follows).decided d is))
    (first me new slot q frames zs stands (subst (λ (t : TransactionValue). AreTaken me t frames zs) (sym task) valid.1))

-- ---- where all that was taken decides

either : (a b : Option DecidedValue) → is_some b ≡ true → is_some (or_else a b) ≡ true
either (Some d) b h = refl
either None b h = h

some_first : (c : Setting) (t : TransactionValue) (taken more : List TakenValue) → is_some (decided c t (taken ++ more)) ≡ true →
    is_some (first_decided c t taken more) ≡ true
some_first c t taken [] h = ap (λ (l : List TakenValue). is_some (decided c t l)) (sym (append-nil taken)) ∙ h
some_first c t taken (z ∷ more) h =
    either (decided c t taken) (first_decided c t (taken ++ z ∷ []) more)
    (some_first c t (taken ++ z ∷ []) more (ap (λ (l : List TakenValue). is_some (decided c t l)) (append_assoc taken (z ∷ []) more) ∙ h))

pub deciding_set : DecidingSetDecides
deciding_set me client slot p frames zs found at valid =
    let is = first me client slot p frames zs (record { found = found; at = at }) valid in
    record {
      first = is;
      decides = λ h. ap is_some is ∙ some_first me.cluster p.transaction p.taken zs h;
    }
