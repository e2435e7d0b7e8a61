-- The answers to a second stage, a recovery and an invoke.
use Rattle.std.proofs.Common.{◌≡◌, ℕ, ◌<◌, Bool, true, false, cond, List, [], ◌∷◌, ◌++◌, Option, Some, None, refl, sym, ap, subst, ◌∙◌, inl}
use Rattle.std.proofs.Common.{inr}
use Rattle.std.specs.Prelude.{Ok, nat_lt}
use Rattle.std.specs.Str.{bytes_eq}
use Rattle.std.proofs.lemmas.Bool.{cases_Bool, ltb-true}
use Rattle.basil_types.specs.Built.{or_else}
use Rattle.basil_types.specs.declared.party.Party.{Party}
use Rattle.basil_types.specs.declared.party.Decision.{Decision}
use Rattle.basil_types.specs.Transaction.{TransactionValue, id}
use Rattle.basil_types.specs.Words.{SignedWords}
use Rattle.decision_log.specs.Cells.{first_cell}
use Rattle.decision_log.specs.Cells as cells
use Rattle.fallback_views.specs.Views.{raised}
use Rattle.frame_views.specs.Values.{InvokeValue}
use Rattle.txn_table.specs.Entries.{EntryValue}
use Rattle.replica_core.specs.declared.refusal.Refusal.{Refusal}
use Rattle.replica_core.specs.Replicas.{ReplicaSelf, BookValue, LoggedEntry, Done}
use Rattle.replica_core.specs.Known.{logged_with, put_logged, asked_by, with_known, known_of}
use Rattle.txn_table.specs.Tables.{entry_with}
use Rattle.replica_core.specs.Signing.{log_words, election_words, signature, exhausted}
use Rattle.replica_core.specs.FirstStage.{first_stage}
use Rattle.replica_core.specs.SecondStage.{unsigned, reply_again, reply_anew, reply_by, reply_of, log_or_reply, answer_st2, logs_here}
use Rattle.replica_core.specs.SecondStage.{recover_by, answer_recover}
use Rattle.replica_core.specs.Invokes.{stale, enter_done, invoke_logged, answer_invoke, reported}
use Rattle.agreement_laws.specs.Words as laws
use Rattle.agreement_laws.specs.Replicas as acts
use Rattle.agreement_laws.specs.Replicas.{Slot}
use Rattle.agreement_laws.specs.Runs.{put_id, Node}
use Rattle.agreement_laws.specs.Certificates.{Signed, Tallied}
use Rattle.cluster_run.specs.Settings.{Lookup, Finds, setting, words_as}
use Rattle.law_joins.specs.Shown.{decision_of as decision_as}
use Rattle.cluster_run.specs.Acting.{slot_with, slots, cell_as, cell_in, node, Leads, FindsEach}
use Rattle.cluster_run.proofs.Finding.{same_true, ok_is}
use Rattle.cluster_run.proofs.Slots.{slots_known, slots_logged}
use Rattle.cluster_run.proofs.Steps.{words_append, words_none, unless_ok, unless_none, stays, one_act}
use Rattle.law_joins.specs.Books.{VerdictsAreSound}
use Rattle.cluster_run.proofs.Votes.{same_node, put_same, first_stage_goes, unless_ended_goes}

abbrev pub cell_slot : LoggedEntry → Slot → Slot
cell_slot l t = record t { cell = Some (cell_as l.cell) }

-- what is logged of an id is found under it
pub logged_id : (ls : List LoggedEntry) (x : List ℕ) (l : LoggedEntry) → logged_with ls x ≡ Some l → l.id ≡ x
logged_id [] x l h = absurd cc
logged_id (d ∷ ls) x l h = elim (cases_Bool (bytes_eq d.id x)) [
  | inl i ↦
      let q : Some d ≡ Some l = sym (ap (λ b. cond b (Some d) (logged_with ls x)) i) ∙ h in
      let is : d ≡ l = cc in
      ap (λ (e : LoggedEntry). e.id) (sym is) ∙ same_true d.id x i
  | inr n ↦ logged_id ls x l (sym (ap (λ b. cond b (Some d) (logged_with ls x)) n) ∙ h)
]

-- a cell that is put is the cell of its slot
pub slots_put : (es : List EntryValue) (ls : List LoggedEntry) (l : LoggedEntry) → slots es (put_logged l ls)
    ≡ put_id (slots es ls) l.id (cell_slot l (slots es ls l.id))
slots_put es ls l = slots_logged l es ls

pub slots_known_put : (t : TransactionValue) (es : List EntryValue) (ls : List LoggedEntry) (l : LoggedEntry) →
    slots (with_known es t) (put_logged l ls) ≡ put_id (slots es ls) l.id (cell_slot l (slots es ls l.id))
slots_known_put t es ls l =
    slots_put (with_known es t) ls l ∙ ap (λ (b : acts.Book). put_id b l.id (cell_slot l (b l.id))) (slots_known t es ls)

module _ (faulty : ℕ → ℕ → Bool) (tx : Lookup) (signed : Signed) (aborted : laws.Id → Bool) (me : ReplicaSelf) (own : List SignedWords)
    (book : BookValue) where
  abbrev C : Rattle.agreement_laws.specs.Settings.Setting
  C = setting me.home.cluster faulty tx

  abbrev S : ℕ
  S = me.home.shard

  abbrev G : Node → Node → Type 0
  G p q = Leads C signed aborted S me.index p q

  abbrev N : Node
  N = node own book

  abbrev B : acts.Book
  B = slots book.entries book.logged

  abbrev To : Done → Type 0
  To done = G N (node (own ++ done.signed) done.book)

  -- what is put again with the same cell changes no slot
  same_put : (t : TransactionValue) (l m : LoggedEntry) → logged_with book.logged l.id ≡ Some l → m.id ≡ l.id → m.cell ≡ l.cell →
      slots (with_known book.entries t) (put_logged m book.logged) ≡ B
  same_put t l m h i e =
      slots_known_put t book.entries book.logged m
      ∙ put_same B m.id (cell_slot m (B m.id))
      (ap B i ∙ ap (slot_with (entry_with book.entries l.id)) h
      ∙ sym (ap (λ (k : Rattle.decision_log.specs.declared.cell.LogCell.LogCell). record (B l.id) { cell = Some (cell_as k) }) e)
      ∙ sym (ap (λ (x : List ℕ). cell_slot m (B x)) i))

  again_goes : (from : Party) (t : TransactionValue) (l : LoggedEntry) (stored : List ℕ) → logged_with book.logged l.id ≡ Some l →
      To (reply_again me from book t l stored)
  again_goes from t l stored h = stays C signed aborted S me.index N _
      (same_node _ _ _ _ (sym (words_none own)) (sym (same_put t l
      (record l { reply = Some stored; askers = asked_by from l.askers }) h refl refl)))

  anew_goes : (from : Party) (t : TransactionValue) (l : LoggedEntry) → logged_with book.logged l.id ≡ Some l →
      To (reply_anew me from book t l)
  anew_goes from t l h =
      let given = signature me book.pen (log_words me l.id l.cell) in
      one_act C signed aborted S me.index N l.id acts.Repeats _ tt
      (same_node _ _ _ _
      (ap (λ (o : Option acts.LogCell). words_as own ++ acts.reply_of S me.index l.id o) (ap cell_in h)
      ∙ sym (words_append own (log_words me l.id l.cell ∷ [])))
      (put_same B l.id (B l.id) refl ∙ sym (same_put t l (record l { reply = Some given; askers = asked_by from l.askers }) h refl refl)))

  reply_goes : (from : Party) (t : TransactionValue) (l : LoggedEntry) (o : Option (List ℕ)) (done : Done) → logged_with book.logged l.id
      ≡ Some l → reply_by me from book t l o ≡ Ok done → To done
  reply_goes from t l (Some stored) done h k =
      subst To (ok_is (reply_again me from book t l stored) done (reply_by me from book t l (Some stored)) refl k)
      (again_goes from t l stored h)
  reply_goes from t l None done h k =
      subst To (unless_ok (exhausted 1 book.pen) (reply_anew me from book t l) done k) (anew_goes from t l h)

  first_goes : (from : Party) (t : TransactionValue) (d : Decision) → B (id t) ≡ B (id t) → (B (id t)).outcome ≡ None → (B (id t)).cell
      ≡ None → Tallied C signed (id t) (decision_as d) → To (reply_anew me from book t (unsigned (id t) (first_cell d)))
  first_goes from t d _ n h tallied =
      let l = unsigned (id t) (first_cell d) in
      let given = signature me book.pen (log_words me (id t) (first_cell d)) in
      one_act C signed aborted S me.index N (id t) (acts.Logs (decision_as d)) _ (n, h, tallied)
      (same_node _ _ _ _ (sym (words_append own (log_words me (id t) (first_cell d) ∷ [])))
      (sym (slots_known_put t book.entries book.logged (record l { reply = Some given; askers = asked_by from [] }))))

  logs_go : (from : Party) (t : TransactionValue) (d : Decision) (o : Option LoggedEntry) (done : Done) → logged_with book.logged (id t)
      ≡ o → (B (id t)).outcome ≡ None → Tallied C signed (id t) (decision_as d) → log_or_reply me from book t d o ≡ Ok done → To done
  logs_go from t d None done e n tallied k =
      subst To (unless_ok (exhausted 1 book.pen) (reply_anew me from book t (unsigned (id t) (first_cell d))) done k)
      (first_goes from t d refl n (ap cell_in e) tallied)
  logs_go from t d (Some l) done e n tallied k =
      reply_goes from t l l.reply done (ap (logged_with book.logged) (logged_id book.logged (id t) l e) ∙ e) k

  pub st2_goes : (from : Party) (t : TransactionValue) (d : Decision) (done : Done) → Tallied C signed (id t) (decision_as d) →
      answer_st2 me from book t d ≡ Ok done → To done
  st2_goes from t d done tallied h =
      unless_ended_goes faulty tx signed aborted me own book from (id t)
      (log_or_reply me from book t d (logged_with book.logged (id t))) done
      (λ n k. logs_go from t d (logged_with book.logged (id t)) done refl n tallied k) h

  -- ---- a recovery

  recover_goes_by : VerdictsAreSound → (now : ℕ) (from : Party) (t : TransactionValue) (o : Option LoggedEntry) (done : Done) → Finds tx t →
      FindsEach tx book.entries → logged_with book.logged (id t) ≡ o → (B (id t)).outcome ≡ None → recover_by me now from book t o
      ≡ Ok done → To done
  recover_goes_by law now from t None done looked all e n k =
      first_stage_goes faulty tx signed aborted me own book law now from t done looked all n k
  recover_goes_by law now from t (Some l) done looked all e n k = by (logs_here me (known_of book.entries t)) k
    where
      by : (b : Bool) → cond b (reply_of me from book t l) (first_stage me now from book t) ≡ Ok done → To done
      by true k = reply_goes from t l l.reply done (ap (logged_with book.logged) (logged_id book.logged (id t) l e) ∙ e) k
      by false k = first_stage_goes faulty tx signed aborted me own book law now from t done looked all n k

  pub recover_goes : VerdictsAreSound → (now : ℕ) (from : Party) (t : TransactionValue) (done : Done) → Finds tx t →
      FindsEach tx book.entries → answer_recover me now from book t ≡ Ok done → To done
  recover_goes law now from t done looked all h =
      unless_ended_goes faulty tx signed aborted me own book from (id t)
      (recover_by me now from book t (logged_with book.logged (id t))) done
      (λ n k. recover_goes_by law now from t (logged_with book.logged (id t)) done looked all refl n k) h

  -- ---- an invoke

  or_none_left : {A : Type 0} (a b : Option A) → or_else a b ≡ None → a ≡ None
  or_none_left None b h = refl
  or_none_left (Some x) b h = absurd cc

  raised_above : (current view : ℕ) → stale current view ≡ None → current < view
  raised_above current view h = by (nat_lt current view) refl h
    where
      by : (b : Bool) → nat_lt current view ≡ b → cond b None
          (Some (Rattle.replica_core.specs.declared.refusal.Refusal.TheVariants.StaleView current)) ≡ None → current < view
      by true e h = ltb-true current view e
      by false e h = absurd cc

  enter_goes : (from : Party) (t : TransactionValue) (l : LoggedEntry) (view : ℕ) → logged_with book.logged l.id ≡ Some l → (B l.id).outcome
      ≡ None → l.cell.current < view → To (enter_done me from book t l view)
  enter_goes from t l view h n above =
      one_act C signed aborted S me.index N l.id (acts.Enters view) _
      (n, subst (λ (o : Option acts.LogCell). acts.CanEnter o view) (sym (ap cell_in h)) above)
      (same_node _ _ _ _
      (ap (λ (o : Option acts.LogCell). words_as own ++ acts.election_of S me.index l.id view o) (ap cell_in h)
      ∙ sym (words_append own (election_words me l.id l.cell.decision view ∷ [])))
      (ap (λ (o : Option acts.LogCell). put_id B l.id (record (B l.id) { cell = acts.entered view o })) (ap cell_in h)
      ∙ sym (slots_put book.entries book.logged (record l {
        cell = cells.entered l.cell view;
        reply = None;
        askers = asked_by from l.askers;
      }))))

  invoke_goes_by : (from : Party) (m : InvokeValue) (e : Option EntryValue) (o : Option LoggedEntry) (done : Done) →
      logged_with book.logged m.id ≡ o → (B m.id).outcome ≡ None → invoke_logged me from book m e o ≡ Ok done → To done
  invoke_goes_by from m None o done h n k = absurd cc
  invoke_goes_by from m (Some e) None done h n k = absurd cc
  invoke_goes_by from m (Some e) (Some l) done h n k =
      let view = raised me.home.cluster.f (reported m) l.cell.current in
      let refused = or_else (stale l.cell.current view) (exhausted 1 book.pen) in
      let is : l.id ≡ m.id = logged_id book.logged m.id l h in
      let above =
      raised_above l.cell.current view (or_none_left (stale l.cell.current view) (exhausted 1 book.pen)
      (unless_none refused (enter_done me from book e.transaction l view) done k)) in
      subst To (unless_ok refused (enter_done me from book e.transaction l view) done k)
      (enter_goes from e.transaction l view (ap (logged_with book.logged) is ∙ h) (ap (λ (x : List ℕ). (B x).outcome) is ∙ n) above)

  pub invoke_goes : (from : Party) (m : InvokeValue) (done : Done) → answer_invoke me from book m ≡ Ok done → To done
  invoke_goes from m done h =
      unless_ended_goes faulty tx signed aborted me own book from m.id
      (invoke_logged me from book m (entry_with book.entries m.id) (logged_with book.logged m.id)) done
      (λ n k. invoke_goes_by from m (entry_with book.entries m.id) (logged_with book.logged m.id) done refl n k) h
