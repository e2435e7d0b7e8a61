-- Why a line is refused, from what a world and its names tell.
use Rattle.std.proofs.Common.{◌≡◌, ℕ, ◌≤◌, length, Bool, true, false, not, List, Option, Some, None, inl, inr, refl, sym, ap, ◌∙◌}
use Rattle.std.proofs.Common.{arith, is_some}
use Rattle.std.specs.Prelude.{◌&&◌, ◌||◌, ◌==◌, ◌⊎◌, find, is_none, nat_le, nat_lt, option_and_then, option_map}
use Rattle.std.specs.Option.{option_map_or}
use Rattle.std.proofs.lemmas.Bool.{eqb-true}
use Rattle.std.proofs.lemmas.Grind.{common_steps}
use Rattle.basil_types.specs.Built.{or_else}
use Rattle.basil_types.specs.Setting.{Setting}
use Rattle.basil_types.specs.Transaction.{TransactionValue}
use Rattle.basil_types.specs.declared.party.Party.TheVariants.{Client, Replica}
use Rattle.cluster_run.specs.States.{State, is_faulty}
use Rattle.cluster_run.specs.Telling.{transaction_at}
use Rattle.schedule_replay.specs.Names.{is_begun, is_by_faulty, is_formed, is_named, is_of_faulty, number_of}
use Rattle.schedule_replay.specs.Reasons.{CanStop, is_late_faulty, is_late_header, is_message, is_of_others, is_outside, is_stop}
use Rattle.schedule_replay.specs.Reasons.{lacks_journal, misnames, misses, reason_of}
use Rattle.node_steps.specs.Refusing.{when}
use Rattle.run_journals.specs.Journals.{journal_at}
use Rattle.keyring_lms.specs.Replay.{is_party_of}
use Rattle.schedule_text.specs.declared.line.Line.{Line}
use Rattle.schedule_text.specs.declared.line.Line.TheVariants.{Claim, Stop}
use Rattle.line_fields.specs.declared.reason.Reason.{Reason}
use Rattle.line_fields.specs.declared.reason.Reason.TheVariants.{CannotBeFaulty, Misspelt, NoJournal, NoMessage, OutOfRange}
use Rattle.line_fields.specs.declared.reason.Reason.TheVariants.{WrongName, WrongParty}
use Rattle.schedule_replay.specs.Replays.{NamedValue, NamesValue, ReplayValue}

there : {A B : Type 0} (f : A → B) (o : Option A) → is_some o ≡ is_some (option_map f o)
there f None = refl
there f (Some x) = refl

pub not_not : (b : Bool) → not (not b) ≡ b
not_not true = refl
not_not false = refl

pub formed : {A : Type 0} (f : A → TransactionValue) (o : Option A) (r : ReplayValue) (names : NamesValue) (name : List ℕ) (tx : ℕ) →
    r.names ≡ names → Some tx ≡ number_of name names → option_map f o ≡ transaction_at r.state tx → is_some o ≡ is_formed r name
formed f o r names name tx same number told =
    there f o ∙ ap is_some told
    ∙ ap (λ n. is_some (option_and_then (transaction_at r.state) n)) (number ∙ ap (λ (ns : NamesValue). number_of name ns) (sym same))

client_faulty : (r : ReplayValue) (number : ℕ) (o : Option NamedValue) (b : Bool) →
    Some number ≡ option_map (λ (n : NamedValue). n.client) o → b ≡ is_faulty r.setup (Client number) →
    b ≡ option_map_or (is_of_faulty r) o false
client_faulty r number None b is told = absurd cc
client_faulty r number (Some n) b is told =
    let same : number ≡ n.client = cc in told ∙ ap (λ (k : ℕ). is_faulty r.setup (Client k)) same

pub by_faulty : (r : ReplayValue) (names : NamesValue) (name : List ℕ) (number : ℕ) (b : Bool) → r.names ≡ names →
    Some number ≡ option_map (λ (n : NamedValue). n.client) (find (is_named name) names.begun) →
    b ≡ is_faulty r.setup (Client number) → b ≡ is_by_faulty r name
by_faulty r names name number b same is told =
    client_faulty r number (find (is_named name) r.names.begun) b
    (is ∙ ap (λ (ns : NamesValue). option_map (λ (n : NamedValue). n.client) (find (is_named name) ns.begun)) (sym same)) told

at_most : (count message : ℕ) → 1 ≤ message → nat_lt count message ≡ not (nat_le 1 message && nat_le message count)
at_most count message some = grind (arith, common_steps)

pub no_message : (st : State) (count message : ℕ) → 1 ≤ message → count ≡ length st.pool →
    nat_lt count message ≡ not (is_message st message)
no_message st count message some same =
    at_most count message some ∙ ap (λ (n : ℕ). not (nat_le 1 message && nat_le message n)) same

-- a claim whose transaction is begun is misnamed where its writer isn't formed
pub claim_misnamed : (r : ReplayValue) (name key : List ℕ) (writer : Option (List ℕ)) (b : Bool) → b ≡ is_begun r.names name → b ≡ true →
    option_map_or (λ n. not (is_formed r n)) writer false ≡ misnames r (Claim name key writer)
claim_misnamed r name key None b is h = sym (ap not (sym is ∙ h))
claim_misnamed r name key (Some w) b is h = sym (ap (λ x. x || not (is_formed r w)) (ap not (sym is ∙ h)))

-- ---- no reason holds

no_first : {A : Type 0} (x y : Option A) → or_else x y ≡ None → y ≡ None
no_first None y h = h
no_first (Some a) y h = absurd cc

never : (b : Bool) (reason : Reason) → when b reason ≡ None → b ≡ false
never true reason h = absurd cc
never false reason h = refl

-- then a stopped disk has a journal
pub lacks_none : (r : ReplayValue) (line : Line) → reason_of r line ≡ None → lacks_journal r.journals line ≡ false
lacks_none r line h =
    never (lacks_journal r.journals line) NoJournal
    (no_first (when (misses r.state line) NoMessage) _
    (no_first (when (is_of_others r line) WrongParty) _
    (no_first (when (is_late_faulty line) CannotBeFaulty) _
    (no_first (when (misnames r line) WrongName) _
    (no_first (when (is_outside r.setup.cluster line) OutOfRange) _
    (no_first (when (is_late_header line) Misspelt) _ h))))))

-- ---- stops

either_zero : (a b : Bool) → not a || not b ≡ false → b ≡ true
either_zero true true h = refl
either_zero true false h = absurd cc
either_zero false b h = absurd cc

one_of_two : (write : ℕ) → (write == 1) || (write == 2) ≡ true → (write ≡ 1) ⊎ (write ≡ 2)
one_of_two write h = by (write == 1) refl h
  where
    by : (b : Bool) → (write == 1) ≡ b → b || (write == 2) ≡ true → (write ≡ 1) ⊎ (write ≡ 2)
    by true e h = inl (eqb-true write 1 e)
    by false e h = inr (eqb-true write 2 h)

both : (a b : Bool) → a && b ≡ true → (a ≡ true) × (b ≡ true)
both true true h = (refl, refl)
both true false h = absurd cc
both false b h = absurd cc

-- a line that isn't outside stops a disk as it can be
pub can_stop : (c : Setting) (line : Line) → is_outside c line ≡ false → CanStop line
can_stop c (Stop shard replica message write bytes) h =
    let is = either_zero (is_party_of c (Replica shard replica)) (is_stop write bytes) h in
    let b = both ((write == 1) || (write == 2)) (nat_lt 0 (length bytes)) is in
    (one_of_two write b.0, let some = b.1 in grind (arith, common_steps))
can_stop c line h = tt

-- ---- journals

has_none : {A : Type 0} (o : Option A) (b : Bool) → b ≡ is_some o → not b ≡ is_none o
has_none None b h = ap not h
has_none (Some x) b h = ap not h

pub lacks_at : (r : ReplayValue) (line : Line) (shard replica message write : ℕ) (bytes : List ℕ) (has : Bool) →
    line ≡ Stop shard replica message write bytes → has ≡ is_some (journal_at r.journals shard replica) →
    not has ≡ lacks_journal r.journals line
lacks_at r line shard replica message write bytes has is told =
    has_none (journal_at r.journals shard replica) has told ∙ sym (ap (lacks_journal r.journals) is)
