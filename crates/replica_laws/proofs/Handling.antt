-- Each accepted answer keeps what is known, and takes as many places as it signs words.
use Rattle.std.proofs.Common.{◌≡◌, ℕ, ◌≤◌, Bool, true, false, List, [], ◌∷◌, ◌++◌, length, length-append, append-nil, append_assoc}
use Rattle.std.proofs.Common.{Option, Some, None, refl, sym, ap, subst, ◌∙◌, inl, inr, arith}
use Rattle.std.specs.Prelude.{Result, Ok, Err, if◌then◌else◌, nat_le, nat_lt, option_map}
use Rattle.std.specs.Option.{option_map_or}
use Rattle.std.proofs.lemmas.Bool.{leb-false}
use Rattle.basil_types.specs.Built.{or_else}
use Rattle.basil_types.specs.declared.party.Decision.{Decision}
use Rattle.basil_types.specs.declared.party.Party.{Party}
use Rattle.basil_types.specs.Transaction.{TransactionValue, id}
use Rattle.decision_log.specs.Cells.{cell_of, entered, first_cell}
use Rattle.decision_log.specs.declared.cell.LogFault.TheVariants.{StaleView, AlreadyDecidedIn}
use Rattle.fallback_leader.specs.Elections.{ProposalValue, proposal_of}
use Rattle.frame_views.specs.declared.fault.BadFrame as faults
use Rattle.frame_views.specs.Fitting.{bounds_of}
use Rattle.frame_views.specs.Frames.{frame_in}
use Rattle.frame_views.specs.Values.{MessageValue, ReadValue, WritebackValue, InvokeValue, ElectValue, DecideValue}
use Rattle.frame_views.specs.Values.{Read, ReadReply, St1, Vote, St2, LogReply, Writeback, Recover, Invoke, Elect, Decide}
use Rattle.txn_table.specs.Entries.{EntryValue, OutcomeValue}
use Rattle.txn_table.specs.Laws.{IdsTellPlaces, ReleasedAscend}
use Rattle.txn_table.specs.Tables.{entry_with}
use Rattle.replica_core.specs.Answers as answers
use Rattle.replica_core.specs.declared.refusal.Refusal.{Refusal}
use Rattle.replica_core.specs.Elections as elections
use Rattle.replica_core.specs.FirstStage.{first_stage}
use Rattle.replica_core.specs.Invokes as invokes
use Rattle.replica_core.specs.Known.{asked_by, known_of, logged_with, outcome_with}
use Rattle.replica_core.specs.Reads as reads
use Rattle.replica_core.specs.Refusals.{refused}
use Rattle.replica_core.specs.Replicas.{ReplicaSelf, BookValue, Done, LoggedEntry, empty_book}
use Rattle.replica_core.specs.SecondStage as second
use Rattle.replica_core.specs.Signing.{election_words, exhausted, log_words, signature}
use Rattle.replica_core.specs.Writebacks as ends
use Rattle.replica_laws.specs.Steps.{Grows, Spends, Handed, step, left_by, book_after, signed_in, votes_on}
use Rattle.replica_laws.proofs.Voting.{Once, placed_known}
use Rattle.basil_types.specs.Words.{SignedWords, LogReplyOf}
use Rattle.node_steps.specs.Pens.{PenValue}
use Rattle.replica_laws.proofs.Growing.{grows_same, grows_then, grows_known}
use Rattle.replica_laws.proofs.Going.{Accepted, Goes, calm, unless_goes, refused_goes, spends_none, spends_one, quiet_goes, second_none}
use Rattle.replica_laws.proofs.Going.{ended_goes, first_none, first_stage_goes, named_so, unlogged}
use Rattle.replica_laws.proofs.Viewing.{IsOne, Moves, Views, logged_id, no_log, views_put, views_said}
use Rattle.replica_laws.proofs.Releasing.{end_goes}

module _ (laws : IdsTellPlaces) (ascend : ReleasedAscend) (me : ReplicaSelf) (now : ℕ) (from : Party) (book : BookValue) where
  read_goes : (m : ReadValue) → Accepted book (reads.answer_read me now from book m)
  read_goes m =
      unless_goes book (or_else (reads.from_future me now m) (exhausted 1 book.pen)) (reads.read_done me from book m) (λ h. record {
        grows = grows_same book.entries;
        spends = spends_one book _ (second_none (reads.from_future me now m) (exhausted 1 book.pen) h) refl;
        views = unlogged book (reads.read_done me from book m) refl (no_log _ (λ a e. absurd cc));
        once = calm book (reads.read_done me from book m) (grows_same book.entries) (λ p. p) (λ x. refl);
      })

  -- ---- what is logged

  reply_goes : (t : TransactionValue) (l : LoggedEntry) → Moves (logged_with book.logged l.id) l.cell
      → Accepted book (second.reply_of me from book t l)
  reply_goes t l moves = by l.reply
    where
      with_reply : List ℕ → LoggedEntry
      with_reply r = record l { reply = Some r; askers = asked_by from l.askers }

      reply : LogReplyOf
      reply = record {
        shard = me.home.shard;
        replica = me.index;
        id = l.id;
        decision = l.cell.decision;
        decided = l.cell.decided;
        current = l.cell.current;
      }

      by : (o : Option (List ℕ)) → Accepted book (second.reply_by me from book t l o)
      by (Some stored) = record {
        grows = grows_known book.entries t;
        spends = spends_none book _ refl;
        views = λ ws v. views_put book.logged (with_reply stored) ws [] moves (λ a h. h) v;
        once = calm book (second.reply_again me from book t l stored) (grows_known book.entries t)
            (λ p. placed_known laws book.entries t p) (λ x. refl);
      }
      by None = unless_goes book (exhausted 1 book.pen) (second.reply_anew me from book t l) (λ h. record {
        grows = grows_known book.entries t;
        spends = spends_one book _ h refl;
        views = λ ws v. views_said book.logged (with_reply (signature me book.pen (log_words me l.id l.cell))) ws reply
            moves refl refl refl v;
        once = calm book (second.reply_anew me from book t l) (grows_known book.entries t)
            (λ p. placed_known laws book.entries t p) (λ x. refl);
      })

  -- what is logged is found by its own id
  own : (x : List ℕ) (l : LoggedEntry) → logged_with book.logged x ≡ Some l → logged_with book.logged l.id ≡ Some l
  own x l there = ap (logged_with book.logged) (logged_id book.logged x l there) ∙ there

  -- a cell that stays
  stays : (x : List ℕ) (l : LoggedEntry) → logged_with book.logged x ≡ Some l → Moves (logged_with book.logged l.id) l.cell
  stays x l there = subst (λ (o : Option LoggedEntry). Moves o l.cell) (sym (own x l there)) (inr (refl, refl))

  log_goes : (t : TransactionValue) (d : Decision) (o : Option LoggedEntry) → logged_with book.logged (id t) ≡ o →
      Accepted book (second.log_or_reply me from book t d o)
  log_goes t d (Some l) there = reply_goes t l (stays (id t) l there)
  log_goes t d None there =
      reply_goes t (second.unsigned (id t) (first_cell d)) (subst (λ (o : Option LoggedEntry). Moves o (first_cell d)) (sym there) tt)

  recover_goes : (t : TransactionValue) (o : Option LoggedEntry) → logged_with book.logged (id t) ≡ o →
      Accepted book (second.recover_by me now from book t o)
  recover_goes t None there = first_stage_goes laws me now from book t
  recover_goes t (Some l) there = by (second.logs_here me (known_of book.entries t))
    where
      by : (b : Bool) → Accepted book (if b then second.reply_of me from book t l else first_stage me now from book t)
      by true = reply_goes t l (stays (id t) l there)
      by false = first_stage_goes laws me now from book t

  enter_goes : (t : TransactionValue) (l : LoggedEntry) (view : ℕ) → logged_with book.logged l.id ≡ Some l →
      Accepted book (invokes.enter_view me from book t l view)
  enter_goes t l view there =
      let moved : LoggedEntry = record l { cell = entered l.cell view; reply = None; askers = asked_by from l.askers } in
      let stale = invokes.stale l.cell.current view in
      unless_goes book (or_else stale (exhausted 1 book.pen)) (invokes.enter_done me from book t l view) (λ h. record {
        grows = grows_same book.entries;
        spends = spends_one book _ (second_none stale (exhausted 1 book.pen) h) refl;
        views = λ ws v. views_put book.logged moved ws (election_words me l.id l.cell.decision view ∷ [])
            (subst (λ (o : Option LoggedEntry). Moves o moved.cell) (sym there) (inr (refl, refl))) (no_log _ (λ a e. absurd cc)) v;
        once = calm book (invokes.enter_done me from book t l view) (grows_same book.entries) (λ p. p) (λ x. refl);
      })

  invoke_goes : (m : InvokeValue) (e : Option EntryValue) (l : Option LoggedEntry) → logged_with book.logged m.id ≡ l →
      Accepted book (invokes.invoke_logged me from book m e l)
  invoke_goes m (Some e) (Some l) there = enter_goes e.transaction l (invokes.raised_view me m l) (own m.id l there)
  invoke_goes m (Some e) None there = tt
  invoke_goes m None l there = tt

  -- ---- elections

  collect_goes : (t : TransactionValue) (m : ElectValue) (o : Option ProposalValue) → Accepted book (elections.collect_by me book t m o)
  collect_goes t m None = quiet_goes book _ (grows_same book.entries) (λ p. p) refl refl
  collect_goes t m (Some p) = unless_goes book (exhausted 1 book.pen) (elections.propose_done me book t m p)
      (λ h. record {
        grows = grows_same book.entries;
        spends = spends_one book _ h refl;
        views = unlogged book
            (elections.propose_done me book t m p) refl (no_log _ (λ a e. absurd cc));
        once = calm book (elections.propose_done me book t m p)
            (grows_same book.entries) (λ p. p) (λ x. refl);
      })

  -- the decision of a later view
  later : (l : Option LoggedEntry) (d : Decision) (view : ℕ) → elections.not_adopted l view ≡ None → Moves l (cell_of d view)
  later None d view h = tt
  later (Some k) d view h = by (nat_lt view k.cell.current) (nat_le view k.cell.decided) refl h
    where
      by : (b c : Bool) → nat_le view k.cell.decided ≡ c →
          option_map elections.fault_of
          (if b then Some (StaleView k.cell.current) else if c then Some (AlreadyDecidedIn k.cell.decided) else None) ≡ None →
          Moves (Some k) (cell_of d view)
      by true c i h = absurd cc
      by false true i h = absurd cc
      by false false i h = inl (leb-false view k.cell.decided i)

  adopt_goes : (t : TransactionValue) (m : DecideValue) (l : Option LoggedEntry) → logged_with book.logged (id t) ≡ l →
      Accepted book (elections.adopt_by me book t m l)
  adopt_goes t m l there =
      let cell = cell_of m.decision m.view in
      let adopted : LoggedEntry = record {
        id = id t;
        cell = cell;
        reply = Some (signature me book.pen (log_words me (id t) cell));
        askers = elections.askers_with l;
      } in
      let reply : LogReplyOf = record {
        shard = me.home.shard;
        replica = me.index;
        id = id t;
        decision = m.decision;
        decided = m.view;
        current = m.view;
      } in
      let leads = elections.not_leader me t m.view m.replica in
      let adopts = elections.not_adopted l m.view in
      let elected = elections.bad_election me m in
      let left = exhausted 1 book.pen in
      unless_goes book (elections.adopt_refusal me book t m l) (elections.adopt_done me book t m l) (λ h. record {
        grows = grows_known book.entries t;
        spends = spends_one book _
            (second_none elected left
            (second_none adopts (or_else elected left) (second_none leads (or_else adopts (or_else elected left)) h))) refl;
        views = λ ws v. views_said book.logged adopted ws reply
            (subst (λ (o : Option LoggedEntry). Moves o cell) (sym there)
            (later l m.decision m.view
            (first_none adopts (or_else elected left) (second_none leads (or_else adopts (or_else elected left)) h)))) refl refl refl v;
        once = calm book (elections.adopt_done me book t m l) (grows_known book.entries t) (λ p. placed_known laws book.entries t p)
            (λ x. refl);
      })

  -- ---- every kind

  -- the known text of an id has that id
  named_known : (t : TransactionValue) → id (known_of book.entries t) ≡ id t
  named_known t = by (entry_with book.entries (id t)) refl
    where
      by : (o : Option EntryValue) → entry_with book.entries (id t) ≡ o → id (option_map_or (λ (e : EntryValue). e.transaction) o t) ≡ id t
      by None there = refl
      by (Some e) there = named_so laws me now from book (id t) e there

  writeback_goes : (m : WritebackValue) → Accepted book (ends.answer_writeback me book m)
  writeback_goes m = by (outcome_with book.entries (id m.transaction)) refl
    where
      by : (o : Option OutcomeValue) → outcome_with book.entries (id m.transaction) ≡ o →
          Accepted book (ends.end_unless_ended me book m.transaction m.certificate o)
      by (Some o) there = quiet_goes book book (grows_same book.entries) (λ p. p) refl refl
      by None there = end_goes laws ascend me book m.transaction m.certificate there

  kind_goes : (m : MessageValue) → Accepted book (answers.answer_kind me now from book m)
  kind_goes (Read m) = read_goes m
  kind_goes (ReadReply m) = tt
  kind_goes (St1 m) = ended_goes laws me now from book (id m.transaction) _ (first_stage_goes laws me now from book m.transaction)
  kind_goes (Vote m) = tt
  kind_goes (St2 m) =
      ended_goes laws me now from book (id m.transaction) _
      (log_goes m.transaction m.decision (logged_with book.logged (id m.transaction)) refl)
  kind_goes (LogReply m) = tt
  kind_goes (Writeback m) = writeback_goes m
  kind_goes (Recover m) =
      ended_goes laws me now from book (id m.transaction) _
      (recover_goes m.transaction (logged_with book.logged (id m.transaction)) refl)
  kind_goes (Invoke m) =
      ended_goes laws me now from book m.id _
      (invoke_goes m (entry_with book.entries m.id) (logged_with book.logged m.id) refl)
  kind_goes (Elect m) =
      let t = known_of book.entries m.transaction in
      refused_goes book (elections.not_leader me t m.view me.index) (elections.collect me book t m)
      (collect_goes t m (proposal_of me.home.cluster.f book.kept (id t) m.view (elections.word_of m)))
  kind_goes (Decide m) =
      adopt_goes (known_of book.entries m.transaction) m (logged_with book.logged (id m.transaction))
      (ap (logged_with book.logged) (named_known m.transaction))

  frame_goes : (r : Result MessageValue faults.BadFrame) → Accepted book (answers.answer_read_frame me now from book r)
  frame_goes (Ok m) = refused_goes book (refused me m) (answers.answer_kind me now from book m) (kind_goes m)
  frame_goes (Err fault) = tt

  pub answer_goes : (frame : List ℕ) → Accepted book (answers.answer me now from book frame)
  answer_goes frame = frame_goes (frame_in (bounds_of me.home.cluster) frame)

-- ---- lists of steps

module _ (laws : IdsTellPlaces) (ascend : ReleasedAscend) (me : ReplicaSelf) where
  left_goes : (book : BookValue) (a : Result Done Refusal) → Accepted book a → Goes book (left_by book a)
  left_goes book (Ok done) h = h
  left_goes book (Err refusal) h = quiet_goes book book (grows_same book.entries) (λ p. p) refl refl

  pub step_goes : (book : BookValue) (h : Handed) → Goes book (step me book h)
  step_goes book h = left_goes book (answers.answer me h.now h.from book h.frame) (answer_goes laws ascend me h.now h.from book h.frame)

  pub all_grow : (book : BookValue) (hs : List Handed) → Grows book.entries (book_after me book hs).entries
  all_grow book [] = grows_same book.entries
  all_grow book (h ∷ hs) =
      grows_then book.entries (step me book h).book.entries _ (step_goes book h).grows (all_grow (step me book h).book hs)

  pub all_spend : (book : BookValue) (hs : List Handed) → Spends book (book_after me book hs) (length (signed_in me book hs))
  all_spend book [] = spends_none book book refl
  all_spend book (h ∷ hs) =
      let one = (step_goes book h).spends in
      let more = all_spend (step me book h).book hs in
      let s1 = one.spent in
      let s2 = more.spent in
      let l1 = one.left in
      let l2 = more.left in
      let is = length-append (step me book h).signed (signed_in me (step me book h).book hs) in
      record { spent = omega (arith, s1, s2, is); left = omega (arith, l1, l2, is) }

  all_once : (book : BookValue) (hs : List Handed) (ws : List SignedWords) → Once book.entries ws →
      Once (book_after me book hs).entries (ws ++ signed_in me book hs)
  all_once book [] ws o = subst (Once book.entries) (sym (append-nil ws)) o
  all_once book (h ∷ hs) ws o =
      subst (Once (book_after me (step me book h).book hs).entries) (append_assoc ws (step me book h).signed _)
      (all_once (step me book h).book hs (ws ++ (step me book h).signed) ((step_goes book h).once ws o))

  pub one_vote : (pen : PenValue) (hs : List Handed) (x : List ℕ) → votes_on x (signed_in me (empty_book pen) hs) ≤ 1
  one_vote pen hs x = elim ((all_once (empty_book pen) hs [] (record { placed = λ p e h. absurd cc; once = λ x. inl refl })).once x) [
    | inl none ↦ omega (arith, none)
    | inr one ↦ (let n = one.0 in omega (arith, n))
  ]

  all_views : (book : BookValue) (hs : List Handed) (ws : List SignedWords) → Views book.logged ws →
      Views (book_after me book hs).logged (ws ++ signed_in me book hs)
  all_views book [] ws o = subst (Views book.logged) (sym (append-nil ws)) o
  all_views book (h ∷ hs) ws o =
      subst (Views (book_after me (step me book h).book hs).logged) (append_assoc ws (step me book h).signed _)
      (all_views (step me book h).book hs (ws ++ (step me book h).signed) ((step_goes book h).views ws o))

  pub one_decision : (pen : PenValue) (hs : List Handed) → IsOne (signed_in me (empty_book pen) hs)
  one_decision pen hs = (all_views (empty_book pen) hs [] (record { kept = λ a h. absurd h; one = λ a b h. absurd h })).one
