-- What holds of a client's seat, and of what it comes to.
use Rattle.std.proofs.Common.{◌≡◌, ◌<◌, ◌≤◌, ℕ, ◌∷◌, [], List, length, Bool, true, false, Option, Some, None, Result, Ok, Err}
use Rattle.std.proofs.Common.{refl, sym, ap, subst, ◌∙◌, inl, inr, arith}
use Rattle.std.specs.Prelude.{IfSome, IfOk, IfErr, if◌then◌else◌, map, nat_lt}
use Rattle.std.proofs.lemmas.Grind.{common_steps}
use Rattle.basil_types.specs.Causes.{Ticks}
use Rattle.basil_types.specs.Links.{LinkState}
use Rattle.cluster_file.specs.Listing.{Listing}
use Rattle.cluster_file.specs.Text.{cluster_in}
use Rattle.client_core.specs.Shown.{own, ShowsClient}
use Rattle.basil_types.specs.Transaction.{TransactionValue}
use Rattle.client_core.specs.Calls.{recovered_at}
use Rattle.client_core.specs.Clients.{ClientSelf, ClientValue, SlotValue}
use Rattle.client_core.specs.declared.client.Client.{Client}
use Rattle.client_link.specs.declared.fault.RunFault.{RunFault}
use Rattle.client_link.specs.declared.fault.RunFault.TheVariants as runs
use Rattle.client_link.specs.declared.aim.Aim.{Aim}
use Rattle.client_link.specs.declared.aim.Aim.TheVariants as aims
use Rattle.client_link.specs.declared.op.Op.{Op}
use Rattle.client_link.specs.Talking.{Talk}
use Rattle.client_link.specs.Having.{HasRun, OnEnd}
use Rattle.client_link.specs.Running.{RunsPlan, RunsRecovery, starting}
use Rattle.frame_views.specs.Values.{SignedValue}
use Rattle.node_link.specs.Serving.{next_moment}
use Rattle.keyring.specs.declared.verifier.Verifier as verifiers
use Rattle.keyring.specs.declared.signer.Signer as signers
use Rattle.party_seat.specs.Clients.{ClientSitsAt, client_in}
use Rattle.party_seat.specs.declared.client.ClientSeat.{ClientSeat}
use Rattle.line_fields.specs.Tokens.{Token}
use Rattle.command_ends.specs.Answers.{IsTold, status_of}
use Rattle.party_commands.specs.Clients.{CallRefused, ClientStation, IsClientTold, IsRunEnding, Open, RanTo, Reported, SitsInFile}
use Rattle.party_commands.specs.Clients.{RunsTask, client_call_of, client_seated, client_seated_in}
use Rattle.party_commands.specs.Clients.{client_station, end_of, outcome_of_run, time_at}
use Rattle.command_ends.specs.Outcome.{Outcome, TooLong, is_too_long, longest_input}
use Rattle.command_ends.specs.Endings.{outcome_is}
use Rattle.command_input.specs.Inputs.{IsWhole}
use Rattle.party_commands.specs.declared.client.ClientTask.{ClientTask}
use Rattle.party_commands.specs.declared.client.ClientTask.TheVariants.{Transact, Form, Recover, Certify}
use Rattle.command_ends.specs.declared.ending.Ending.{Ending}
use Rattle.command_input.specs.declared.input.InputFail.{InputFail}
use Rattle.command_input.specs.declared.input.Whole.TheVariants as whole
use Rattle.command_ends.specs.declared.status.Status.{Status}
use Rattle.command_ends.specs.declared.status.Status.TheVariants as ends
use Rattle.party_commands.proofs.NodeLaws.{some_any, some_map}

-- ---- arguments

-- fewer than three words behind a name call nobody
pub too_few : {A : Type 0} (spell : A → Token) (name : Token) (words : List A) → length words < 3 →
    None ≡ client_call_of name (map spell words)
too_few spell name [] h = refl
too_few spell name (one ∷ []) h = refl
too_few spell name (one ∷ two ∷ []) h = refl
too_few spell name (one ∷ two ∷ three ∷ words) h = absurd (omega (arith, h))

-- ---- its seat and its file

err_any : (r : Result ClientStation Outcome) (P : Outcome → Type 0) → ((refusal : Outcome) → P refusal) → IfErr r P
err_any (Ok s) P h = tt
err_any (Err refusal) P h = h refusal

pub client_refused_any : (left : Option (List ℕ)) (seat : ClientSeat) (P : Outcome → Type 0) → ((refusal : Outcome) → P refusal) →
    IfSome left (λ bytes. IfErr (client_station seat bytes) P)
client_refused_any left seat P h =
    some_any left (λ bytes. IfErr (client_station seat bytes) P) (λ bytes. err_any (client_station seat bytes) P h)

module _ (seat : ClientSeat) where
  pub client_idle_in : (read : Result Listing ℕ) (l : Listing) → read ≡ Ok l → (P : Type 0) →
      IfErr (client_seated l (client_in l seat)) (λ _. P) → IfErr (client_seated_in read seat) (λ _. P)
  client_idle_in read l found P h = subst (λ (r : Result Listing ℕ). IfErr (client_seated_in r seat) (λ _. P)) (sym found) h

  pub client_in_file : (read : Result Listing ℕ) (l : Listing) → read ≡ Ok l → (s : ClientStation) → client_seated_in read seat ≡ Ok s →
      client_seated l (client_in l seat) ≡ Ok s
  client_in_file read l found s e = subst (λ (r : Result Listing ℕ). client_seated_in r seat ≡ Ok s) found e

  not_longer : (m n : ℕ) → n ≤ m → nat_lt m n ≡ false
  not_longer m n h = grind (arith, common_steps)

  -- a file that was read whole
  client_whole_is : (all bytes : List ℕ) → IsWhole (whole.Bytes all) bytes →
      client_station seat bytes ≡ client_seated_in (cluster_in all) seat
  client_whole_is all bytes h =
      let short : is_too_long bytes ≡ false = not_longer longest_input (length bytes) h.1 in
      let same : all ≡ bytes = h.0 in
      subst (λ (x : List ℕ). client_station seat bytes ≡ client_seated_in (cluster_in x) seat) (sym same) (by (is_too_long bytes) short)
    where
      by : (b : Bool) → b ≡ false →
          (if b then Err TooLong else client_seated_in (cluster_in bytes) seat) ≡ client_seated_in (cluster_in bytes) seat
      by false e = refl
      by true e = absurd cc

  pub client_idle_whole : (all : List ℕ) (left : Option (List ℕ)) (P : Type 0) →
      IfSome left (λ bytes. IsWhole (whole.Bytes all) bytes) → IfErr (client_seated_in (cluster_in all) seat) (λ _. P) →
      IfSome left (λ bytes. IfErr (client_station seat bytes) (λ _. P))
  client_idle_whole all left P read h =
      some_map left (λ bytes. IsWhole (whole.Bytes all) bytes) (λ bytes. IfErr (client_station seat bytes) (λ _. P))
      (λ bytes w. subst (λ (r : Result ClientStation Outcome). IfErr r (λ _. P)) (sym (client_whole_is all bytes w)) h) read

  pub client_ok_whole : (all : List ℕ) (left : Option (List ℕ)) (P : Type 0) → IfSome left (λ bytes. IsWhole (whole.Bytes all) bytes) →
      IfOk (client_seated_in (cluster_in all) seat) (λ _. P) → IfSome left (λ bytes. IfOk (client_station seat bytes) (λ _. P))
  client_ok_whole all left P read h =
      some_map left (λ bytes. IsWhole (whole.Bytes all) bytes) (λ bytes. IfOk (client_station seat bytes) (λ _. P))
      (λ bytes w. subst (λ (r : Result ClientStation Outcome). IfOk r (λ _. P)) (sym (client_whole_is all bytes w)) h) read

  pub client_refused_whole : (all : List ℕ) (left : Option (List ℕ)) (P : Outcome → Type 0) →
      IfSome left (λ bytes. IsWhole (whole.Bytes all) bytes) → IfErr (client_seated_in (cluster_in all) seat) P →
      IfSome left (λ bytes. IfErr (client_station seat bytes) P)
  client_refused_whole all left P read h =
      some_map left (λ bytes. IsWhole (whole.Bytes all) bytes) (λ bytes. IfErr (client_station seat bytes) P)
      (λ bytes w. subst (λ (r : Result ClientStation Outcome). IfErr r P) (sym (client_whole_is all bytes w)) h) read

  pub client_ran_whole : (all : List ℕ) (left : Option (List ℕ)) (s : ClientStation) (P : Type 0) →
      IfSome left (λ bytes. IsWhole (whole.Bytes all) bytes) → (client_seated_in (cluster_in all) seat ≡ Ok s → P) →
      IfSome left (λ bytes. client_station seat bytes ≡ Ok s → P)
  client_ran_whole all left s P read h =
      some_map left (λ bytes. IsWhole (whole.Bytes all) bytes) (λ bytes. client_station seat bytes ≡ Ok s → P)
      (λ bytes w e. h (sym (client_whole_is all bytes w) ∙ e)) read

-- ---- its run

-- the client of the seat sits in the file
pub sits_in : {V S : Type 0} {v : verifiers.Ghosts V} {g : signers.Ghosts S} (client : Client V S v g) (file : Listing)
    (seat : ClientSeat) (s : ClientStation) → ClientSitsAt client (client_in file seat) → client_seated file (client_in file seat) ≡ Ok s →
    SitsInFile client file s
sits_in client file seat s sits e =
    let at : client_seated file (Ok sits.seated) ≡ Ok s =
    subst (λ r. client_seated file r ≡ Ok s) sits.is e in
    let same : record { listing = file; seated = sits.seated } ≡ s = cc in
    subst (λ (x : ClientStation). SitsInFile client file x) same
    (record { me = sits.me; shows = sits.shows; listing_is = refl; first = ap length sits.fresh })

-- the clock's next moment
pub moment_of : (moments : List ℕ) (ticks later : Option (List ℕ)) (moment : ℕ) → ticks ≡ Some moments → Ticks ticks later moment →
    moment ≡ next_moment moments
moment_of moments ticks later moment is h = by moments (subst (λ (t : Option (List ℕ)). Ticks t later moment) is h)
  where
    by : (ms : List ℕ) → Ticks (Some ms) later moment → moment ≡ next_moment ms
    by [] h = h.0
    by (m ∷ ms) h = h.0

pub on_ok : {T E : Type 0} (r : Result T E) {P Q : T → Type 0} → ((x : T) → P x → Q x) → IfOk r P → IfOk r Q
on_ok (Ok x) turn h = turn x h
on_ok (Err e) turn h = tt

pub wanting_ok : (result : Result Ending InputFail) (fail : InputFail) → result ≡ Err fail → (P : Ending → Type 0) → IfOk result P
wanting_ok (Ok e) fail is P = absurd cc
wanting_ok (Err f) fail is P = tt

-- what is told by its ending
module _ {V S : Type 0} {v : verifiers.Ghosts V} {g : signers.Ghosts S} (client : Client V S v g) (me : ClientSelf) (file : Listing)
    (s : ClientStation) (task : ClientTask) (moments : List ℕ) (state : LinkState) (told : Option LinkState) (before now : ℕ)
    (is : me ≡ s.seated.me) (self : own client ≡ me) (listing : file ≡ s.listing)
  where
    ran_end : (end : Option RunFault) (result : Result Ending InputFail) →
        HasRun client told (RunsTask me file (time_at moments) task) (starting s.seated.client state) before now end →
        ((w : ClientValue) → ShowsClient client w → IfOk result (λ e. outcome_is e ≡ outcome_of_run (own client) task w end)) →
        IfOk result (λ e. RanTo s task moments state told before now (outcome_is e))
    ran_end end (Ok e) h tells =
        record {
          end = end;
          new = h.new;
          failed = h.failed;
          ran =
              subst (λ (m : ClientSelf). RunsTask m s.listing (time_at moments) task (starting s.seated.client state) h.failed end h.new) is
              (subst (λ (l : Listing). RunsTask me l (time_at moments) task (starting s.seated.client state) h.failed end h.new) listing
              h.runs_so);
          links = h.links;
          risen = h.risen;
          is = tells h.new.client h.client_is ∙ ap (λ (m : ClientSelf). outcome_of_run m task h.new.client end) (self ∙ is);
        }
    ran_end end (Err fail) h tells = tt

    pub ran_to : (ran : Result ℕ RunFault) (result : Result Ending InputFail) →
        OnEnd ran (HasRun client told (RunsTask me file (time_at moments) task) (starting s.seated.client state) before now) →
        (ran ≡ Err runs.NoMemory → (P : Ending → Type 0) → IfOk result P) →
        ((w : ClientValue) → ShowsClient client w → IfOk result (λ e. outcome_is e ≡ outcome_of_run (own client) task w (end_of ran))) →
        IfOk result (λ e. RanTo s task moments state told before now (outcome_is e))
    ran_to (Ok slot) result h wanting tells = ran_end None result h tells
    ran_to (Err (runs.Undecided replies)) result h wanting tells = ran_end (Some (runs.Undecided replies)) result h tells
    ran_to (Err (runs.Call fault)) result h wanting tells = ran_end (Some (runs.Call fault)) result h tells
    ran_to (Err runs.NoMemory) result h wanting tells = wanting refl _

-- what was told is an ending's, or memory was wanting
pub ending_told : (status : Status) (outcome : Outcome) → IsRunEnding outcome → IsTold status outcome → (s : ClientStation) →
    IsClientTold status (Ok s)
ending_told status outcome (Reported text is) (inl told) s = inl (told ∙ ap (λ o. status_of o) is)
ending_told status outcome (Open replies is) (inl told) s = inr (inl (replies, told ∙ ap (λ o. status_of o) is))
ending_told status outcome (CallRefused is) (inl told) s = inr (inr (inl (told ∙ ap (λ o. status_of o) is)))
ending_told status outcome ending (inr wanting) s = inr (inr (inr wanting))

pub client_told : (status : Status) (outcome : Outcome) (r : Result ClientStation Outcome) → IfErr r (λ refusal. outcome ≡ refusal) →
    IfOk r (λ _. IsRunEnding outcome) → IsTold status outcome → IsClientTold status r
client_told status outcome (Ok s) refused ending told = ending_told status outcome ending told s
client_told status outcome (Err refusal) refused ending told = subst (λ (o : Outcome). IsTold status o) refused told

-- a client that holds nothing gives the transaction that it takes up its first slot
pub taken_up_first : (v : ClientValue) (t : TransactionValue) (slot : ℕ) → length v.slots ≡ 0 → slot ≡ recovered_at v t → slot ≡ 0
taken_up_first v t slot none is = is ∙ by v.slots none
  where
    by : (slots : List SlotValue) → length slots ≡ 0 → recovered_at (record v { slots = slots }) t ≡ 0
    by [] h = refl
    by (s ∷ slots) h = absurd (omega (arith, h))

-- a run of what is to be done, where that is this; its time and its plan have other names
module _ {V S : Type 0} {v : verifiers.Ghosts V} {g : signers.Ghosts S} (client : Client V S v g) (me : ClientSelf) (l : Listing)
    (told : Option LinkState) (t : Talk) (before now moment : ℕ) (task : ClientTask) (ran : Result ℕ RunFault) where
  ran_as : (known : ClientTask) → task ≡ known → OnEnd ran (HasRun client told (RunsTask me l moment known) t before now) →
      OnEnd ran (HasRun client told (RunsTask me l moment task) t before now)
  ran_as known is h = subst (λ (k : ClientTask). OnEnd ran (HasRun client told (RunsTask me l moment k) t before now)) (sym is) h

  ran_by : (aim : Aim) (time : ℕ) (lent plan : List Op) → time ≡ moment → lent ≡ plan →
      OnEnd ran (HasRun client told (RunsPlan me l aim time lent) t before now) →
      OnEnd ran (HasRun client told (RunsPlan me l aim moment plan) t before now)
  ran_by aim time lent plan at same h =
      subst (λ (p : List Op). OnEnd ran (HasRun client told (RunsPlan me l aim moment p) t before now)) same
      (subst (λ (k : ℕ). OnEnd ran (HasRun client told (RunsPlan me l aim k lent) t before now)) at h)

  pub transacted : (time : ℕ) (lent plan : List Op) → task ≡ Transact plan → time ≡ moment → lent ≡ plan →
      OnEnd ran (HasRun client told (RunsPlan me l aims.Decision time lent) t before now) →
      OnEnd ran (HasRun client told (RunsTask me l moment task) t before now)
  transacted time lent plan is at same h = ran_as (Transact plan) is (ran_by aims.Decision time lent plan at same h)

  pub formed : (time : ℕ) (lent plan : List Op) → task ≡ Form plan → time ≡ moment → lent ≡ plan →
      OnEnd ran (HasRun client told (RunsPlan me l aims.Form time lent) t before now) →
      OnEnd ran (HasRun client told (RunsTask me l moment task) t before now)
  formed time lent plan is at same h = ran_as (Form plan) is (ran_by aims.Form time lent plan at same h)

  pub taken_up : (x : SignedValue) → task ≡ Recover x → OnEnd ran (HasRun client told (RunsRecovery me l x) t before now) →
      OnEnd ran (HasRun client told (RunsTask me l moment task) t before now)
  taken_up x is h = ran_as (Recover x) is h

  pub taken_to_certify : (x : SignedValue) → task ≡ Certify x → OnEnd ran (HasRun client told (RunsRecovery me l x) t before now) →
      OnEnd ran (HasRun client told (RunsTask me l moment task) t before now)
  taken_to_certify x is h = ran_as (Certify x) is h
