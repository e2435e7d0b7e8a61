-- At most as many words are signed as frames are handed: a frame signs one, or lets a vote wait that a later one signs.
use Rattle.std.proofs.Common.{◌≡◌, ℕ, zero, suc, ◌+◌, ◌≤◌, Bool, true, false, List, [], ◌∷◌, ◌++◌, length, length-append}
use Rattle.std.proofs.Common.{Option, Some, None, refl, sym, ap, subst, ◌∙◌, arith}
use Rattle.std.specs.Prelude.{Result, Ok, Err, slice_get, slice_set, is_some, if◌then◌else◌, ⊤}
use Rattle.std.specs.Option.{option_map_or}
use Rattle.std.proofs.lemmas.Option.{same_Some}
use Rattle.basil_types.specs.Built.{or_else}
use Rattle.basil_types.specs.declared.party.Decision.{Decision}
use Rattle.basil_types.specs.declared.party.Party.{Party}
use Rattle.basil_types.specs.Transaction.{TransactionValue, id}
use Rattle.certificates.specs.Refusals.{decision_of}
use Rattle.decision_log.specs.Cells.{first_cell}
use Rattle.fallback_leader.specs.Elections.{ProposalValue, proposal_of}
use Rattle.frame_views.specs.declared.fault.BadFrame as faults
use Rattle.frame_views.specs.Fitting.{bounds_of}
use Rattle.frame_views.specs.Frames.{frame_in}
use Rattle.frame_views.specs.Spelling.{certificate_bytes}
use Rattle.frame_views.specs.Values.{CertificateValue, MessageValue, ReadValue, WritebackValue, InvokeValue, ElectValue, DecideValue}
use Rattle.frame_views.specs.Values.{Read, ReadReply, St1, Vote, St2, LogReply, Writeback, Recover, Invoke, Elect, Decide}
use Rattle.mvtso_check.specs.declared.verdict.Verdict.{Verdict}
use Rattle.mvtso_check.specs.declared.verdict.Verdict.TheVariants as verdicts
use Rattle.node_steps.specs.Refusing.{unless, unless_refused}
use Rattle.txn_table.specs.declared.released.Supposed.{Supposed}
use Rattle.txn_table.specs.Entries.{EntryValue, OutcomeValue, VoteValue, Unvoted, Waiting, Voted}
use Rattle.txn_table.specs.Entries.{arrived, asked, voted, decided, is_waiting}
use Rattle.txn_table.specs.Laws.{ReleasedAscend, Ascend}
use Rattle.txn_table.specs.Released.{released}
use Rattle.txn_table.specs.Tables.{changed, entry_with, id_of, place_of}
use Rattle.replica_core.specs.Answers as answers
use Rattle.replica_core.specs.declared.refusal.Refusal.{Refusal}
use Rattle.replica_core.specs.Elections as elections
use Rattle.replica_core.specs.FirstStage as first
use Rattle.replica_core.specs.Invokes as invokes
use Rattle.replica_core.specs.Known.{changed_at, known_of, logged_with, outcome_with, with_known}
use Rattle.replica_core.specs.Reads as reads
use Rattle.replica_core.specs.Refusals.{refused}
use Rattle.replica_core.specs.Replicas.{ReplicaSelf, BookValue, Done, LoggedEntry, empty_book, quiet}
use Rattle.replica_core.specs.SecondStage as second
use Rattle.replica_core.specs.Signing.{exhausted, signature, vote_words}
use Rattle.replica_core.specs.Writebacks as ends
use Rattle.replica_laws.specs.Steps.{Handed, SignsNoMoreThanHanded, left_by, signed_in, step}
use Rattle.replica_laws.proofs.Growing.{other_stays}

-- ---- how many votes wait

abbrev waits_by : Bool → ℕ
waits_by true = 1
waits_by false = 0

abbrev waits : EntryValue → ℕ
waits e = waits_by (is_waiting e.vote)

abbrev waiting : List EntryValue → ℕ
waiting [] = 0
waiting (e ∷ es) = waits e + waiting es

waits_little : (b : Bool) → waits_by b ≤ 1
waits_little true = omega arith
waits_little false = omega arith

waiting_push : (es : List EntryValue) (x : EntryValue) → waiting (es ++ x ∷ []) ≡ waiting es + waits x
waiting_push [] x = omega arith
waiting_push (e ∷ es) x = let h = waiting_push es x in omega (arith, h)

waiting_set : (es : List EntryValue) (p : ℕ) (e x : EntryValue) → slice_get es p ≡ Some e →
    waiting (slice_set es p x) + waits e ≡ waiting es + waits x
waiting_set [] p e x h = absurd cc
waiting_set (d ∷ es) zero e x h =
    let same : waits d ≡ waits e = ap waits (same_Some d e h) in omega (arith, same)
waiting_set (d ∷ es) (suc p) e x h = let i = waiting_set es p e x h in omega (arith, i)

module _ (f : EntryValue → EntryValue) where
  waiting_changed : (place : ℕ) (es : List EntryValue) (e : EntryValue) → slice_get es place ≡ Some e →
      waiting (changed f place es) + waits e ≡ waiting es + waits (f e)
  waiting_changed place es e h =
      let is : changed f place es ≡ slice_set es place (f e) = ap (λ o. option_map_or (λ e. slice_set es place (f e)) o es) h in
      let same : waiting (changed f place es) ≡ waiting (slice_set es place (f e)) = ap waiting is in
      let set = waiting_set es place e (f e) h in
      omega (arith, same, set)

  -- a change that lets at most so many wait
  module _ (most : ℕ) (adds : (e : EntryValue) → waits (f e) ≤ waits e + most) where
    most_changed : (place : ℕ) (es : List EntryValue) → waiting (changed f place es) ≤ waiting es + most
    most_changed place es = by (slice_get es place) refl
      where
        by : (o : Option EntryValue) → slice_get es place ≡ o →
            waiting (option_map_or (λ e. slice_set es place (f e)) o es) ≤ waiting es + most
        by None h = omega arith
        by (Some e) h =
            let set = waiting_set es place e (f e) h in
            let added = adds e in
            omega (arith, set, added)

    most_at : (x : List ℕ) (es : List EntryValue) → waiting (changed_at f x es) ≤ waiting es + most
    most_at x es = by (place_of es x)
      where
        by : (o : Option ℕ) → waiting (option_map_or (λ place. changed f place es) o es) ≤ waiting es + most
        by None = omega arith
        by (Some place) = most_changed place es

waiting_known : (es : List EntryValue) (t : TransactionValue) → waiting (with_known es t) ≡ waiting es
waiting_known es t = by (is_some (place_of es (id t)))
  where
    by : (b : Bool) → waiting (if b then es else es ++ arrived t ∷ []) ≡ waiting es
    by true = refl
    by false = let h = waiting_push es (arrived t) in omega (arith, h)

-- ---- releases

-- from this place on each of these places has an entry that waits
abbrev AreWaiting : List EntryValue → ℕ → List (ℕ × Decision) → Type 0
AreWaiting es least [] = ⊤
AreWaiting es least (v ∷ vs) =
    (least ≤ v.0) × ((e : EntryValue) × (slice_get es v.0 ≡ Some e) × (is_waiting e.vote ≡ true)) × AreWaiting es (v.0 + 1) vs

waiting_other : (f : EntryValue → EntryValue) (place : ℕ) (es : List EntryValue) (least : ℕ) (vs : List (ℕ × Decision)) →
    suc place ≤ least → AreWaiting es least vs → AreWaiting (changed f place es) least vs
waiting_other f place es least [] h a = tt
waiting_other f place es least (v ∷ vs) h a =
    let below = a.0 in (
      a.0,
      (a.1.0, other_stays f place es v.0 (λ e. absurd (omega (arith, h, below, e))) ∙ a.1.1, a.1.2),
      waiting_other f place es (v.0 + 1) vs (omega (arith, h, below)) a.2,
    )

waiting_after : (f : EntryValue → EntryValue) (s : Supposed) (es : List EntryValue) (least : ℕ) (vs : List (ℕ × Decision)) →
    Ascend s es least vs → AreWaiting (changed f s.place es) least vs
waiting_after f s es least [] a = tt
waiting_after f s es least (v ∷ vs) a =
    let can = a.1 in (
      a.0,
      (can.entry, other_stays f s.place es v.0 can.other ∙ can.at, can.waits),
      waiting_after f s es (v.0 + 1) vs a.2,
    )

-- words that were signed, and votes that wait
abbrev due : Done → ℕ
due done = length done.signed + waiting done.book.entries

module _ (me : ReplicaSelf) where
  -- a vote that is released waits no more
  one_due : (place : ℕ) (d : Decision) (done : Done) (e : EntryValue) → slice_get done.book.entries place ≡ Some e →
      is_waiting e.vote ≡ true → due (ends.release_entry me place d done e) ≡ due done
  one_due place d done e at waited =
      let w = vote_words me (id_of e) d in
      let sum = length-append done.signed (w ∷ []) in
      let set = waiting_changed (voted d (signature me done.book.pen w) None) place done.book.entries e at in
      let one : waits e ≡ 1 = ap waits_by waited in
      omega (arith, sum, set, one)

  releases_due : (least : ℕ) (vs : List (ℕ × Decision)) (done : Done) → AreWaiting done.book.entries least vs →
      due (ends.release_all me vs done) ≡ due done
  releases_due least [] done a = refl
  releases_due least (v ∷ vs) done a =
      let e = a.1.0 in
      let next = ends.release_entry me v.0 v.1 done e in
      let is : ends.release_one me v done ≡ next =
      ap (λ o. option_map_or (ends.release_entry me v.0 v.1 done) o done) a.1.1 in
      let given = signature me done.book.pen (vote_words me (id_of e) v.1) in
      let more = releases_due (v.0 + 1) vs next
      (waiting_other (voted v.1 given None) v.0 done.book.entries (v.0 + 1) vs (omega arith) a.2) in
      ap (λ (x : Done). due (ends.release_all me vs x)) is ∙ more ∙ one_due v.0 v.1 done e a.1.1 a.1.2

  -- ---- accepted answers

  module _ (ascend : ReleasedAscend) (now : ℕ) (from : Party) (book : BookValue) where
    abbrev Bounded : Result Done Refusal → Type 0
    Bounded (Ok done) = due done ≤ waiting book.entries + 1
    Bounded (Err refusal) = ⊤

    unless_bounded : (o : Option Refusal) (done : Done) → due done ≤ waiting book.entries + 1 → Bounded (unless o done)
    unless_bounded None done h = h
    unless_bounded (Some r) done h = tt

    refused_bounded : (o : Option Refusal) (a : Result Done Refusal) → Bounded a → Bounded (unless_refused o a)
    refused_bounded None a h = h
    refused_bounded (Some r) a h = tt

    -- at most one word is signed, and no vote more waits
    calm : (done : Done) → length done.signed ≤ 1 → waiting done.book.entries ≤ waiting book.entries →
        due done ≤ waiting book.entries + 1
    calm done few same = omega (arith, few, same)

    stays : (done : Done) → done.book.entries ≡ book.entries → waiting done.book.entries ≤ waiting book.entries
    stays done e = let same = ap waiting e in omega (arith, same)

    knows : (t : TransactionValue) (done : Done) → done.book.entries ≡ with_known book.entries t →
        waiting done.book.entries ≤ waiting book.entries
    knows t done e =
        let same = ap waiting e in
        let known = waiting_known book.entries t in
        omega (arith, same, known)

    waits_due : (t : TransactionValue) → due (first.wait_done from book t) ≤ waiting book.entries + 1
    waits_due t =
        let es = with_known book.entries t in
        let known = waiting_known book.entries t in
        let more = most_at (asked from) 1
        (λ e. let little = waits_little (is_waiting (asked from e).vote) in omega (arith, little)) (id t) es in
        omega (arith, known, more)

    votes_bounded : (t : TransactionValue) (d : Decision) (proof : Option ℕ) → Bounded (first.votes me from book t d proof)
    votes_bounded t d proof =
        let es = with_known book.entries t in
        let given = signature me book.pen (vote_words me (id t) d) in
        let known = waiting_known book.entries t in
        let more = most_at (voted d given proof) 0 (λ e. omega arith) (id t) es in
        unless_bounded (exhausted 1 book.pen) (first.vote_done me from book t d proof) (omega (arith, known, more))

    verdict_bounded : (t : TransactionValue) (v : Verdict) → Bounded (first.by_verdict me from book t v)
    verdict_bounded t verdicts.Commit = votes_bounded t _ None
    verdict_bounded t verdicts.Abort = votes_bounded t _ None
    verdict_bounded t (verdicts.AbortBy place) = votes_bounded t _ (Some place)
    verdict_bounded t verdicts.Wait = waits_due t

    vote_bounded : (t : TransactionValue) (v : VoteValue) → Bounded (first.by_vote me now from book t v)
    vote_bounded t Unvoted = verdict_bounded t (first.verdict_of me now book t)
    vote_bounded t (Waiting askers) = waits_due t
    vote_bounded t (Voted d s p) =
        let done = first.vote_again me from book t d s p in calm done (omega arith) (stays done refl)

    first_bounded : (t : TransactionValue) → Bounded (first.first_stage me now from book t)
    first_bounded t = by (entry_with book.entries (id t))
      where
        by : (o : Option EntryValue) → Bounded (first.answer_known me now from book t o)
        by None = verdict_bounded t (first.verdict_of me now book t)
        by (Some e) = vote_bounded e.transaction e.vote

    ended_bounded : (x : List ℕ) (a : Result Done Refusal) → Bounded a → Bounded (first.unless_ended from book x a)
    ended_bounded x a h = by (entry_with book.entries x)
      where
        told : (e : EntryValue) (o : Option OutcomeValue) →
            Bounded (option_map_or (λ outcome. Ok (first.tell_outcome from book e outcome)) o a)
        told e None = h
        told e (Some o) = let done = first.tell_outcome from book e o in calm done (omega arith) (stays done refl)

        by : (o : Option EntryValue) → Bounded (option_map_or (first.told_or from book a) o a)
        by None = h
        by (Some e) = told e e.outcome

    read_bounded : (m : ReadValue) → Bounded (reads.answer_read me now from book m)
    read_bounded m =
        let done = reads.read_done me from book m in
        unless_bounded (or_else (reads.from_future me now m) (exhausted 1 book.pen)) done
        (calm done (omega arith) (stays done refl))

    reply_bounded : (t : TransactionValue) (l : LoggedEntry) → Bounded (second.reply_of me from book t l)
    reply_bounded t l = by l.reply
      where
        by : (o : Option (List ℕ)) → Bounded (second.reply_by me from book t l o)
        by (Some stored) =
            let done = second.reply_again me from book t l stored in calm done (omega arith) (knows t done refl)
        by None =
            let done = second.reply_anew me from book t l in
            unless_bounded (exhausted 1 book.pen) done (calm done (omega arith) (knows t done refl))

    log_bounded : (t : TransactionValue) (d : Decision) (o : Option LoggedEntry) → Bounded (second.log_or_reply me from book t d o)
    log_bounded t d (Some l) = reply_bounded t l
    log_bounded t d None = reply_bounded t (second.unsigned (id t) (first_cell d))

    recover_bounded : (t : TransactionValue) (o : Option LoggedEntry) → Bounded (second.recover_by me now from book t o)
    recover_bounded t None = first_bounded t
    recover_bounded t (Some l) = by (second.logs_here me (known_of book.entries t))
      where
        by : (b : Bool) → Bounded (if b then second.reply_of me from book t l else first.first_stage me now from book t)
        by true = reply_bounded t l
        by false = first_bounded t

    invoke_bounded : (m : InvokeValue) (e : Option EntryValue) (l : Option LoggedEntry) →
        Bounded (invokes.invoke_logged me from book m e l)
    invoke_bounded m (Some e) (Some l) =
        let view = invokes.raised_view me m l in
        let done = invokes.enter_done me from book e.transaction l view in
        unless_bounded (or_else (invokes.stale l.cell.current view) (exhausted 1 book.pen)) done
        (calm done (omega arith) (stays done refl))
    invoke_bounded m (Some e) None = tt
    invoke_bounded m None l = tt

    collect_bounded : (t : TransactionValue) (m : ElectValue) (o : Option ProposalValue) →
        Bounded (elections.collect_by me book t m o)
    collect_bounded t m None = let done = quiet (elections.kept_after me book t m) in calm done (omega arith) (stays done refl)
    collect_bounded t m (Some p) =
        let done = elections.propose_done me book t m p in
        unless_bounded (exhausted 1 book.pen) done (calm done (omega arith) (stays done refl))

    adopt_bounded : (t : TransactionValue) (m : DecideValue) (l : Option LoggedEntry) → Bounded (elections.adopt_by me book t m l)
    adopt_bounded t m l =
        let done = elections.adopt_done me book t m l in
        unless_bounded (elections.adopt_refusal me book t m l) done (calm done (omega arith) (knows t done refl))

    -- ---- outcomes

    module _ (t : TransactionValue) (c : CertificateValue) where
      ends_bounded : (d : Decision) (least : ℕ) (vs : List (ℕ × Decision)) → AreWaiting (ends.with_outcome book t d c).entries least vs →
          Bounded (ends.end_with me book t d c vs)
      ends_bounded d least vs a =
          let start = quiet (ends.with_outcome book t d c) in
          let es = with_known book.entries t in
          let all = releases_due least vs start a in
          let known = waiting_known book.entries t in
          let more = most_at (decided d (certificate_bytes c)) 0 (λ e. omega arith) (id t) es in
          unless_bounded (exhausted (length vs) book.pen) (ends.outcome_done me book t d c vs) (omega (arith, all, known, more))

      known_waiting : (d : Decision) (place : ℕ) → place_of book.entries (id t) ≡ Some place →
          AreWaiting (ends.with_outcome book t d c).entries 0 (ends.releases me book.entries (Some place) d)
      known_waiting d place there =
          let s : Supposed = record { place = place; outcome = d } in
          let f = decided d (certificate_bytes c) in
          let is : changed f place book.entries ≡ (ends.with_outcome book t d c).entries = sym (
          ap (λ o. changed_at f (id t) (if is_some o then book.entries else book.entries ++ arrived t ∷ [])) there
          ∙ ap (λ o. option_map_or (λ place. changed f place book.entries) o book.entries) there) in
          subst (λ (es : List EntryValue). AreWaiting es 0 (released me.home s book.entries)) is
          (waiting_after f s book.entries 0 (released me.home s book.entries) (ascend me.home s book.entries))

      end_bounded : Bounded (ends.end_unless_ended me book t c None)
      end_bounded = by (place_of book.entries (id t)) refl
        where
          by : (o : Option ℕ) → place_of book.entries (id t) ≡ o →
              Bounded (ends.end_with me book t (decision_of c.body) c (ends.releases me book.entries o (decision_of c.body)))
          by None there = ends_bounded (decision_of c.body) 0 [] tt
          by (Some place) there = ends_bounded (decision_of c.body) 0 (ends.releases me book.entries (Some place) (decision_of c.body))
              (known_waiting (decision_of c.body) place there)

    writeback_bounded : (m : WritebackValue) → Bounded (ends.answer_writeback me book m)
    writeback_bounded m = by (outcome_with book.entries (id m.transaction))
      where
        by : (o : Option OutcomeValue) → Bounded (ends.end_unless_ended me book m.transaction m.certificate o)
        by (Some o) = calm (quiet book) (omega arith) (stays (quiet book) refl)
        by None = end_bounded m.transaction m.certificate

    -- ---- every kind

    kind_bounded : (m : MessageValue) → Bounded (answers.answer_kind me now from book m)
    kind_bounded (Read m) = read_bounded m
    kind_bounded (ReadReply m) = tt
    kind_bounded (St1 m) = ended_bounded (id m.transaction) _ (first_bounded m.transaction)
    kind_bounded (Vote m) = tt
    kind_bounded (St2 m) =
        ended_bounded (id m.transaction) _ (log_bounded m.transaction m.decision (logged_with book.logged (id m.transaction)))
    kind_bounded (LogReply m) = tt
    kind_bounded (Writeback m) = writeback_bounded m
    kind_bounded (Recover m) =
        ended_bounded (id m.transaction) _ (recover_bounded m.transaction (logged_with book.logged (id m.transaction)))
    kind_bounded (Invoke m) =
        ended_bounded m.id _ (invoke_bounded m (entry_with book.entries m.id) (logged_with book.logged m.id))
    kind_bounded (Elect m) =
        let t = known_of book.entries m.transaction in
        refused_bounded (elections.not_leader me t m.view me.index) (elections.collect me book t m)
        (collect_bounded t m (proposal_of me.home.cluster.f book.kept (id t) m.view (elections.word_of m)))
    kind_bounded (Decide m) =
        adopt_bounded (known_of book.entries m.transaction) m (logged_with book.logged (id m.transaction))

    frame_bounded : (r : Result MessageValue faults.BadFrame) → Bounded (answers.answer_read_frame me now from book r)
    frame_bounded (Ok m) = refused_bounded (refused me m) (answers.answer_kind me now from book m) (kind_bounded m)
    frame_bounded (Err fault) = tt

    left_bounded : (a : Result Done Refusal) → Bounded a → due (left_by book a) ≤ waiting book.entries + 1
    left_bounded (Ok done) h = h
    left_bounded (Err refusal) h = omega arith

-- ---- lists of steps

module _ (ascend : ReleasedAscend) (me : ReplicaSelf) where
  step_due : (book : BookValue) (h : Handed) → due (step me book h) ≤ waiting book.entries + 1
  step_due book h =
      left_bounded me ascend h.now h.from book (answers.answer me h.now h.from book h.frame)
      (frame_bounded me ascend h.now h.from book (frame_in (bounds_of me.home.cluster) h.frame))

  signed_due : (book : BookValue) (hs : List Handed) → length (signed_in me book hs) ≤ waiting book.entries + length hs
  signed_due book [] = omega arith
  signed_due book (h ∷ hs) =
      let done = step me book h in
      let here = step_due book h in
      let later = signed_due done.book hs in
      let sum = length-append done.signed (signed_in me done.book hs) in
      omega (arith, here, later, sum)

pub signs_few : ReleasedAscend → SignsNoMoreThanHanded
signs_few ascend me pen hs = let all = signed_due ascend me (empty_book pen) hs in omega (arith, all)
