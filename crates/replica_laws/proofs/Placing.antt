-- Which place of the pen each signed word takes, and where its signature stands.
use Rattle.std.proofs.Common.{◌≡◌, ℕ, zero, suc, ◌+◌, ◌*◌, Bool, true, false, List, [], ◌∷◌, ◌++◌, length, length-append, map}
use Rattle.std.proofs.Common.{Option, Some, None, refl, sym, ap, subst, ◌∙◌, ◌⊎◌, inl, inr, arith}
use Rattle.std.specs.Prelude.{Result, Ok, Err, Contains, slice_get, slice_set, if◌then◌else◌, ⊤}
use Rattle.std.specs.List.{range_with_len}
use Rattle.std.specs.Option.{option_map_or}
use Rattle.std.proofs.lemmas.List.Elements.{Contains-append_left, Contains-append_right, Contains-push}
use Rattle.std.proofs.lemmas.Option.{same_Some}
use Rattle.basil_types.specs.Built.{or_else}
use Rattle.basil_types.specs.declared.party.Decision.{Decision}
use Rattle.basil_types.specs.declared.party.Party.{Party}
use Rattle.basil_types.specs.declared.party.Party.TheVariants.{Replica}
use Rattle.basil_types.specs.Transaction.{TransactionValue, id}
use Rattle.basil_types.specs.Words.{SignedWords, words_of}
use Rattle.certificates.specs.Refusals.{decision_of}
use Rattle.decision_log.specs.Cells.{cell_of, first_cell}
use Rattle.fallback_leader.specs.Elections.{ProposalValue, proposal_of}
use Rattle.frame_views.specs.declared.fault.BadFrame as faults
use Rattle.frame_views.specs.Fitting.{bounds_of}
use Rattle.frame_views.specs.Frames.{frame_in}
use Rattle.frame_views.specs.Signed as messages
use Rattle.frame_views.specs.Values.{CertificateValue, MessageValue, ReadValue, WritebackValue, InvokeValue, ElectValue, DecideValue}
use Rattle.frame_views.specs.Values.{Read, ReadReply, St1, Vote, St2, LogReply, Writeback, Recover, Invoke, Elect, Decide}
use Rattle.mvtso_check.specs.declared.verdict.Verdict.{Verdict}
use Rattle.mvtso_check.specs.declared.verdict.Verdict.TheVariants as verdicts
use Rattle.node_steps.specs.Envelopes.{EnvelopeValue}
use Rattle.node_steps.specs.Refusing.{unless, unless_refused}
use Rattle.txn_table.specs.Entries.{EntryValue, OutcomeValue, VoteValue, Unvoted, Waiting, Voted, voted}
use Rattle.txn_table.specs.Laws.{IdsTellPlaces, ReleasedAscend}
use Rattle.txn_table.specs.Tables.{changed, entry_with, id_of, place_of}
use Rattle.replica_core.specs.Answers as answers
use Rattle.replica_core.specs.declared.refusal.Refusal.{Refusal}
use Rattle.replica_core.specs.Elections as elections
use Rattle.replica_core.specs.FirstStage as first
use Rattle.replica_core.specs.Invokes as invokes
use Rattle.replica_core.specs.Known.{known_of, logged_with, outcome_with}
use Rattle.replica_core.specs.Reads as reads
use Rattle.replica_core.specs.Refusals.{refused}
use Rattle.replica_core.specs.Replicas.{ReplicaSelf, BookValue, Done, LoggedEntry, quiet}
use Rattle.replica_core.specs.SecondStage as second
use Rattle.replica_core.specs.Signing.{election_words, exhausted, log_words, proposal_words, signature, vote_words}
use Rattle.replica_core.specs.Writebacks as ends
use Rattle.replica_laws.specs.Placing.{IsStoredVote, Gives, WordsTakePlaces, own_signed}
use Rattle.replica_laws.specs.Steps.{Grows, Handed, left_by, signed_in, step}
use Rattle.replica_laws.proofs.Growing.{IsOpen, grows_changed, keeps_voted, set_same}
use Rattle.replica_laws.proofs.Going.{named_so}
use Rattle.replica_laws.proofs.Handling.{step_goes}
use Rattle.replica_laws.proofs.Releasing.{AreOpen, known_end, open_other}
use Rattle.replica_laws.proofs.Viewing.{logged_id, put_same}

-- ---- members

at_head : {X : Type 0} (x : X) (xs : List X) → Contains (x ∷ xs) x
at_head x xs = (0, omega arith, refl)

in_tail : {X : Type 0} (x y : X) (xs : List X) → Contains xs y → Contains (x ∷ xs) y
in_tail x y xs h = Contains-append_right (x ∷ []) xs y h

in_got : {X : Type 0} (xs : List X) (n : ℕ) (y : X) → slice_get xs n ≡ Some y → Contains xs y
in_got [] n y h = absurd cc
in_got (x ∷ xs) zero y h = subst (Contains (x ∷ xs)) (same_Some x y h) (at_head x xs)
in_got (x ∷ xs) (suc n) y h = in_tail x y xs (in_got xs n y h)

-- an element of two lists stands in the first, or so far behind it in the second
got_append : {X : Type 0} (xs ys : List X) (n : ℕ) (y : X) → slice_get (xs ++ ys) n ≡ Some y →
    (slice_get xs n ≡ Some y) ⊎ ((k : ℕ) × (n ≡ length xs + k) × (slice_get ys k ≡ Some y))
got_append [] ys n y h = inr (n, omega arith, h)
got_append (x ∷ xs) ys zero y h = inl h
got_append (x ∷ xs) ys (suc n) y h = elim (got_append xs ys n y h) [
  | inl here ↦ inl here
  | inr more ↦ (let behind = more.1 in inr (more.0, omega (arith, behind), more.2))
]

first_of : {X : Type 0} (g : ℕ → X) (k : ℕ) → Contains (map g (range_with_len 0 (5 * k + 1))) (g 0)
first_of g k =
    let e : suc (5 * k) ≡ 5 * k + 1 = omega arith in
    subst (λ (len : ℕ). Contains (map g (range_with_len 0 len)) (g 0)) e (at_head (g 0) _)

-- ---- what one step signs

module _ (me : ReplicaSelf) where
  -- each of the words, at the places from this one on
  abbrev InTurn : ℕ → Done → Type 0
  InTurn spent done = (n : ℕ) (w : SignedWords) → slice_get done.signed n ≡ Some w →
      Gives me done w (me.signing.gives (spent + n) (words_of w))

  nothing : (spent : ℕ) (done : Done) → done.signed ≡ [] → InTurn spent done
  nothing spent done none n w at =
      let no = ap (λ (l : List SignedWords). slice_get l n) (sym none) ∙ at in absurd cc

  once : (spent : ℕ) (done : Done) (w : SignedWords) → done.signed ≡ w ∷ [] →
      Gives me done w (me.signing.gives spent (words_of w)) → InTurn spent done
  once spent done w one g n x at = by n (ap (λ (l : List SignedWords). slice_get l n) (sym one) ∙ at)
    where
      by : (n : ℕ) → slice_get (w ∷ []) n ≡ Some x → Gives me done x (me.signing.gives (spent + n) (words_of x))
      by zero h =
          let e : spent ≡ spent + 0 = omega arith in
          subst (λ (y : SignedWords). Gives me done y (me.signing.gives (spent + 0) (words_of y))) (same_Some w x h)
          (subst (λ (place : ℕ). Gives me done w (me.signing.gives place (words_of w))) e g)
      by (suc n) h = absurd cc

  -- ---- releases

  -- all that was signed so far, and where the pen stands
  record Turned (spent : ℕ) (done : Done) : Type 0 where
    place : done.book.pen.spent ≡ spent + length done.signed
    each : InTurn spent done

  module _ (spent place : ℕ) (d : Decision) (done : Done) (e : EntryValue) (at : slice_get done.book.entries place ≡ Some e)
      (unvoted : IsOpen e) (old : Turned spent done) where
    abbrev said_now : SignedWords
    said_now = vote_words me (id_of e) d

    abbrev f : EntryValue → EntryValue
    f = voted d (signature me done.book.pen said_now) None

    abbrev next : Done
    next = ends.release_entry me place d done e

    grows : Grows done.book.entries next.book.entries
    grows = grows_changed f place done.book.entries
        (λ x i. keeps_voted d _ None x (subst IsOpen (same_Some _ _ (sym at ∙ i)) unvoted))

    still : (x : SignedWords) (s : List ℕ) → Gives me done x s → Gives me next x s
    still x s (inl g) = inl (g.0, Contains-append_left done.sent _ g.0 g.1, g.2)
    still x s (inr (inl v)) = inr (inl (
        let k = grows v.place v.entry v.at in
        record {
          place = v.place;
          entry = k.0;
          decision = v.decision;
          proof = v.proof;
          at = k.1;
          vote = k.2.vote v.decision s v.proof v.vote;
          said = v.said ∙ ap (λ (t : TransactionValue). vote_words me (id t) v.decision) (sym k.2.text);
        }))
    still x s (inr (inr r)) = inr (inr r)

    new : IsStoredVote me next.book.entries said_now (signature me done.book.pen said_now)
    new =
        let es = done.book.entries in
        let set : changed f place es ≡ slice_set es place (f e) =
        ap (λ o. option_map_or (λ (e : EntryValue). slice_set es place (f e)) o es) at in
        record {
          place = place;
          entry = f e;
          decision = d;
          proof = None;
          at = ap (λ (l : List EntryValue). slice_get l place) set ∙ set_same es place e (f e) at;
          vote = refl;
          said = refl;
        }

    newest : (k : ℕ) (x : SignedWords) → slice_get (said_now ∷ []) k ≡ Some x →
        Gives me next x (me.signing.gives (spent + (length done.signed + k)) (words_of x))
    newest zero x h =
        let there = old.place in
        let e : done.book.pen.spent ≡ spent + (length done.signed + 0) = omega (arith, there) in
        subst (λ (y : SignedWords). Gives me next y (me.signing.gives (spent + (length done.signed + 0)) (words_of y)))
        (same_Some said_now x h)
        (subst (λ (p : ℕ). Gives me next said_now (me.signing.gives p (words_of said_now))) e (inr (inl new)))
    newest (suc k) x h = absurd cc

    one_turned : Turned spent next
    one_turned =
        let there = old.place in
        let sum = length-append done.signed (said_now ∷ []) in
        record {
          place = omega (arith, there, sum);
          each = λ n x h. elim (got_append done.signed (said_now ∷ []) n x h) [
            | inl here ↦ still x _ (old.each n x here)
            | inr more ↦
                subst (λ (p : ℕ). Gives me next x (me.signing.gives (spent + p) (words_of x))) (sym more.1)
                (newest more.0 x more.2)
          ];
        }

  releases_turned : (spent least : ℕ) (vs : List (ℕ × Decision)) (done : Done) → AreOpen done.book.entries least vs →
      Turned spent done → Turned spent (ends.release_all me vs done)
  releases_turned spent least [] done a t = t
  releases_turned spent least (v ∷ vs) done a t =
      let e = a.1.0 in
      let next = ends.release_entry me v.0 v.1 done e in
      let is : ends.release_one me v done ≡ next =
      ap (λ o. option_map_or (ends.release_entry me v.0 v.1 done) o done) a.1.1 in
      let given = signature me done.book.pen (vote_words me (id_of e) v.1) in
      subst (λ (x : Done). Turned spent (ends.release_all me vs x)) (sym is)
      (releases_turned spent (v.0 + 1) vs next
      (open_other (voted v.1 given None) v.0 done.book.entries (v.0 + 1) vs (omega arith) a.2)
      (one_turned spent v.0 v.1 done e a.1.1 a.1.2 t))

  -- ---- accepted answers

  module _ (laws : IdsTellPlaces) (ascend : ReleasedAscend) (now : ℕ) (from : Party) (book : BookValue) where
    abbrev Turns : Result Done Refusal → Type 0
    Turns (Ok done) = InTurn book.pen.spent done
    Turns (Err refusal) = ⊤

    unless_turns : (o : Option Refusal) (done : Done) → InTurn book.pen.spent done → Turns (unless o done)
    unless_turns None done h = h
    unless_turns (Some r) done h = tt

    refused_turns : (o : Option Refusal) (a : Result Done Refusal) → Turns a → Turns (unless_refused o a)
    refused_turns None a h = h
    refused_turns (Some r) a h = tt

    -- one word, whose signature stands in the first message
    sends : (done : Done) (w : SignedWords) (e : EnvelopeValue) (more : List EnvelopeValue) → done.signed ≡ w ∷ [] →
        done.sent ≡ e ∷ more → Contains (messages.signed_in e.message) (own_signed me w (signature me book.pen w)) →
        InTurn book.pen.spent done
    sends done w e more one there h =
        once book.pen.spent done w one
        (inl (e, subst (λ (l : List EnvelopeValue). Contains l e) (sym there) (at_head e more), h))

    votes_turn : (t : TransactionValue) (d : Decision) (proof : Option ℕ) → Turns (first.votes me from book t d proof)
    votes_turn t d proof =
        unless_turns (exhausted 1 book.pen) (first.vote_done me from book t d proof)
        (sends (first.vote_done me from book t d proof) (vote_words me (id t) d) _ _ refl refl (Contains-push _ _))

    verdict_turns : (t : TransactionValue) (v : Verdict) → Turns (first.by_verdict me from book t v)
    verdict_turns t verdicts.Commit = votes_turn t _ None
    verdict_turns t verdicts.Abort = votes_turn t _ None
    verdict_turns t (verdicts.AbortBy place) = votes_turn t _ (Some place)
    verdict_turns t verdicts.Wait = nothing book.pen.spent (first.wait_done from book t) refl

    vote_turns : (t : TransactionValue) (v : VoteValue) → Turns (first.by_vote me now from book t v)
    vote_turns t Unvoted = verdict_turns t (first.verdict_of me now book t)
    vote_turns t (Waiting askers) = nothing book.pen.spent (first.wait_done from book t) refl
    vote_turns t (Voted d s p) = nothing book.pen.spent (first.vote_again me from book t d s p) refl

    first_stage_turns : (t : TransactionValue) → Turns (first.first_stage me now from book t)
    first_stage_turns t = by (entry_with book.entries (id t))
      where
        by : (o : Option EntryValue) → Turns (first.answer_known me now from book t o)
        by None = verdict_turns t (first.verdict_of me now book t)
        by (Some e) = vote_turns e.transaction e.vote

    ended_turns : (x : List ℕ) (a : Result Done Refusal) → Turns a → Turns (first.unless_ended from book x a)
    ended_turns x a h = by (entry_with book.entries x)
      where
        told : (e : EntryValue) (o : Option OutcomeValue) →
            Turns (option_map_or (λ outcome. Ok (first.tell_outcome from book e outcome)) o a)
        told e None = h
        told e (Some o) = nothing book.pen.spent (first.tell_outcome from book e o) refl

        by : (o : Option EntryValue) → Turns (option_map_or (first.told_or from book a) o a)
        by None = h
        by (Some e) = told e e.outcome

    read_turns : (m : ReadValue) → Turns (reads.answer_read me now from book m)
    read_turns m =
        unless_turns (or_else (reads.from_future me now m) (exhausted 1 book.pen)) (reads.read_done me from book m)
        (sends (reads.read_done me from book m) (reads.read_words me book.entries m) _ _ refl refl (Contains-push _ _))

    reply_turns : (t : TransactionValue) (l : LoggedEntry) → Turns (second.reply_of me from book t l)
    reply_turns t l = by l.reply
      where
        by : (o : Option (List ℕ)) → Turns (second.reply_by me from book t l o)
        by (Some stored) = nothing book.pen.spent (second.reply_again me from book t l stored) refl
        by None =
            unless_turns (exhausted 1 book.pen) (second.reply_anew me from book t l)
            (sends (second.reply_anew me from book t l) (log_words me l.id l.cell) _ _ refl refl (at_head _ []))

    log_turns : (t : TransactionValue) (d : Decision) (o : Option LoggedEntry) → Turns (second.log_or_reply me from book t d o)
    log_turns t d (Some l) = reply_turns t l
    log_turns t d None = reply_turns t (second.unsigned (id t) (first_cell d))

    recover_turns : (t : TransactionValue) (o : Option LoggedEntry) → Turns (second.recover_by me now from book t o)
    recover_turns t None = first_stage_turns t
    recover_turns t (Some l) = by (second.logs_here me (known_of book.entries t))
      where
        by : (b : Bool) → Turns (if b then second.reply_of me from book t l else first.first_stage me now from book t)
        by true = reply_turns t l
        by false = first_stage_turns t

    enter_turns : (t : TransactionValue) (l : LoggedEntry) (view : ℕ) → id t ≡ l.id →
        Turns (invokes.enter_view me from book t l view)
    enter_turns t l view named =
        let w : List ℕ → SignedWords = λ x. election_words me x l.cell.decision view in
        let given = signature me book.pen (w l.id) in
        unless_turns (or_else (invokes.stale l.cell.current view) (exhausted 1 book.pen)) (invokes.enter_done me from book t l view)
        (sends (invokes.enter_done me from book t l view) (w l.id) _ _ refl refl
        (subst (λ (x : List ℕ). Contains (own_signed me (w (id t)) given ∷ []) (own_signed me (w x) given)) named (at_head _ [])))

    invoke_turns : (m : InvokeValue) (e : Option EntryValue) (l : Option LoggedEntry) → entry_with book.entries m.id ≡ e →
        logged_with book.logged m.id ≡ l → Turns (invokes.invoke_logged me from book m e l)
    invoke_turns m (Some e) (Some l) known there =
        enter_turns e.transaction l (invokes.raised_view me m l)
        (named_so laws me now from book m.id e known ∙ sym (logged_id book.logged m.id l there))
    invoke_turns m (Some e) None known there = tt
    invoke_turns m None l known there = tt

    collect_turns : (t : TransactionValue) (m : ElectValue) (o : Option ProposalValue) →
        Turns (elections.collect_by me book t m o)
    collect_turns t m None = nothing book.pen.spent (quiet (elections.kept_after me book t m)) refl
    collect_turns t m (Some p) =
        let done = elections.propose_done me book t m p in
        let to : ℕ → EnvelopeValue =
        λ r. record { to = Replica me.home.shard r; message = Decide (elections.decide_value me book t m.view p) } in
        unless_turns (exhausted 1 book.pen) done
        (once book.pen.spent done (proposal_words me (id t) p.decision m.view) refl
        (inl (to 0, first_of to me.home.cluster.f, Contains-push _ _)))

    adopt_turns : (t : TransactionValue) (m : DecideValue) (l : Option LoggedEntry) → Turns (elections.adopt_by me book t m l)
    adopt_turns t m l =
        let done = elections.adopt_done me book t m l in
        let cell = cell_of m.decision m.view in
        let w = log_words me (id t) cell in
        let adopted : LoggedEntry =
        record { id = id t; cell = cell; reply = Some (signature me book.pen w); askers = elections.askers_with l } in
        unless_turns (elections.adopt_refusal me book t m l) done
        (once book.pen.spent done w refl
        (inr (inr (record { entry = adopted; found = put_same adopted book.logged; reply = refl; said = refl }))))

    -- ---- outcomes

    module _ (t : TransactionValue) (c : CertificateValue) where
      ends_turn : (d : Decision) (least : ℕ) (vs : List (ℕ × Decision)) → AreOpen (ends.with_outcome book t d c).entries least vs →
          Turns (ends.end_with me book t d c vs)
      ends_turn d least vs a =
          let start = quiet (ends.with_outcome book t d c) in
          unless_turns (exhausted (length vs) book.pen) (ends.outcome_done me book t d c vs)
          (releases_turned book.pen.spent least vs start a
          (record { place = omega arith; each = nothing book.pen.spent start refl })).each

      end_turns : outcome_with book.entries (id t) ≡ None → Turns (ends.end_unless_ended me book t c None)
      end_turns none = by (place_of book.entries (id t)) refl
        where
          by : (o : Option ℕ) → place_of book.entries (id t) ≡ o →
              Turns (ends.end_with me book t (decision_of c.body) c (ends.releases me book.entries o (decision_of c.body)))
          by None there = ends_turn (decision_of c.body) 0 [] tt
          by (Some place) there = ends_turn (decision_of c.body) 0 (ends.releases me book.entries (Some place) (decision_of c.body))
              (known_end laws ascend me book t c none (decision_of c.body) place there)

    writeback_turns : (m : WritebackValue) → Turns (ends.answer_writeback me book m)
    writeback_turns m = by (outcome_with book.entries (id m.transaction)) refl
      where
        by : (o : Option OutcomeValue) → outcome_with book.entries (id m.transaction) ≡ o →
            Turns (ends.end_unless_ended me book m.transaction m.certificate o)
        by (Some o) there = nothing book.pen.spent (quiet book) refl
        by None there = end_turns m.transaction m.certificate there

    -- ---- every kind

    kind_turns : (m : MessageValue) → Turns (answers.answer_kind me now from book m)
    kind_turns (Read m) = read_turns m
    kind_turns (ReadReply m) = tt
    kind_turns (St1 m) = ended_turns (id m.transaction) _ (first_stage_turns m.transaction)
    kind_turns (Vote m) = tt
    kind_turns (St2 m) =
        ended_turns (id m.transaction) _ (log_turns m.transaction m.decision (logged_with book.logged (id m.transaction)))
    kind_turns (LogReply m) = tt
    kind_turns (Writeback m) = writeback_turns m
    kind_turns (Recover m) =
        ended_turns (id m.transaction) _ (recover_turns m.transaction (logged_with book.logged (id m.transaction)))
    kind_turns (Invoke m) =
        ended_turns m.id _ (invoke_turns m (entry_with book.entries m.id) (logged_with book.logged m.id) refl refl)
    kind_turns (Elect m) =
        let t = known_of book.entries m.transaction in
        refused_turns (elections.not_leader me t m.view me.index) (elections.collect me book t m)
        (collect_turns t m (proposal_of me.home.cluster.f book.kept (id t) m.view (elections.word_of m)))
    kind_turns (Decide m) =
        adopt_turns (known_of book.entries m.transaction) m (logged_with book.logged (id m.transaction))

    frame_turns : (r : Result MessageValue faults.BadFrame) → Turns (answers.answer_read_frame me now from book r)
    frame_turns (Ok m) = refused_turns (refused me m) (answers.answer_kind me now from book m) (kind_turns m)
    frame_turns (Err fault) = tt

    left_turns : (a : Result Done Refusal) → Turns a → InTurn book.pen.spent (left_by book a)
    left_turns (Ok done) h = h
    left_turns (Err refusal) h = nothing book.pen.spent (quiet book) refl

-- ---- lists of steps

module _ (laws : IdsTellPlaces) (ascend : ReleasedAscend) where
  step_turns : (me : ReplicaSelf) (book : BookValue) (h : Handed) → InTurn me book.pen.spent (step me book h)
  step_turns me book h =
      left_turns me laws ascend h.now h.from book (answers.answer me h.now h.from book h.frame)
      (frame_turns me laws ascend h.now h.from book (frame_in (bounds_of me.home.cluster) h.frame))

  pub words_placed : WordsTakePlaces
  words_placed me book [] n w at = absurd cc
  words_placed me book (h ∷ hs) n w at =
      let done = step me book h in
      elim (got_append done.signed (signed_in me done.book hs) n w at) [
        | inl here ↦ record {
          done = done;
          among = at_head done _;
          signed = in_got done.signed n w here;
          given = step_turns me book h n w here;
        }
        | inr more ↦
            let later = words_placed me done.book hs more.0 w more.2 in
            let spent = (step_goes laws ascend me book h).spends.spent in
            let behind = more.1 in
            let e : done.book.pen.spent + more.0 ≡ book.pen.spent + n = omega (arith, spent, behind) in
            record {
              done = later.done;
              among = in_tail done later.done _ later.among;
              signed = later.signed;
              given = subst (λ (place : ℕ). Gives me later.done w (me.signing.gives place (words_of w))) e later.given;
            }
      ]
