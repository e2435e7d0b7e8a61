-- What is read fits, and so does its event.
use Rattle.std.proofs.Common.{◌≡◌, ℕ, List, [], Option, Some, None, inl, inr, subst, arith}
use Rattle.std.specs.Prelude.{true, false, Ok, option_map, option_and_then}
use Rattle.cluster_run.specs.Events as events
use Rattle.cluster_run.specs.Events.{EventValue}
use Rattle.cluster_run.specs.Safety.{IsEvent}
use Rattle.schedule_text.specs.Fitting.{Fits, GrammarIsRead}
use Rattle.schedule_text.specs.Reading.{line_at}
use Rattle.schedule_text.specs.declared.line.Line.{Line}
use Rattle.schedule_text.specs.declared.line.Line.TheVariants.{Header, Skipped, Faulty, Begin, Read, Write, Delete}
use Rattle.schedule_text.specs.declared.line.Line.TheVariants.{Claim, Prepare, Settle, Recover, Invoke, Round}
use Rattle.schedule_text.specs.declared.line.Line.TheVariants.{Deliver, Lose, Divert, Clock, Vote, Second}
use Rattle.schedule_text.specs.declared.line.Line.TheVariants.{Logged, Elect, Decide, Raw, Show, Stop}
use Rattle.schedule_replay.specs.Events.{by_name, claim_of, event_of}
use Rattle.schedule_replay.specs.Names.{number_of}
use Rattle.schedule_replay.specs.Replays.{NamesValue}

-- ---- lines

fits_skipped : (value : Line) → value ≡ Skipped → Fits value
fits_skipped Skipped e = tt
fits_skipped value e = absurd cc

pub read_fits : GrammarIsRead → (line : List ℕ) (number : ℕ) (value : Line) → line_at line number ≡ Ok value → Fits value
read_fits law line number value e =
    elim ((law line number value).0 e).0 [
      | inl skipped ↦ fits_skipped value skipped.0
      | inr said ↦ said.1
    ]

-- ---- events

one : (e : EventValue) → IsEvent e → (f : EventValue) → Some e ≡ Some f → IsEvent f
one e i f h = let same : e ≡ f = cc in subst IsEvent same i

of_number : (o : Option ℕ) (event : ℕ → EventValue) → ((tx : ℕ) → IsEvent (event tx)) → (e : EventValue) → option_map event o ≡ Some e →
    IsEvent e
of_number None event i e h = absurd cc
of_number (Some tx) event i e h = one (event tx) (i tx) e h

named : (names : NamesValue) (name : List ℕ) (event : ℕ → EventValue) → ((tx : ℕ) → IsEvent (event tx)) → (e : EventValue) →
    by_name names name event ≡ Some e → IsEvent e
named names name event i e h = of_number (number_of name names) event i e h

claims : (names : NamesValue) (name key : List ℕ) (w : Option ℕ) (e : EventValue) →
    option_and_then (λ w. by_name names name (λ tx. events.Claim tx key (Some w))) w ≡ Some e → IsEvent e
claims names name key None e h = absurd cc
claims names name key (Some w) e h = named names name (λ tx. events.Claim tx key (Some w)) (λ tx. tt) e h

claimed : (names : NamesValue) (name key : List ℕ) (writer : Option (List ℕ)) (e : EventValue) → claim_of names name key writer ≡ Some e →
    IsEvent e
claimed names name key None e h = named names name (λ tx. events.Claim tx key None) (λ tx. tt) e h
claimed names name key (Some writer) e h = claims names name key (number_of writer names) e h

-- the event of a line that fits is one whose time and bytes are in their ranges
pub event_fits : (names : NamesValue) (given : List ℕ) (line : Line) (e : EventValue) → Fits line → event_of names given line ≡ Some e →
    IsEvent e
event_fits names given (Begin name client time) e f h = one (events.Begin client time) f.2 e h
event_fits names given (Read name key) e f h = named names name (λ tx. events.Read tx key) (λ tx. f.1.2) e h
event_fits names given (Write name key value) e f h =
    named names name (λ tx. events.Write tx (record { key = key; value = value; deletes = false }))
    (λ tx. (f.1.2, f.2.2)) e h
event_fits names given (Delete name key) e f h =
    named names name (λ tx. events.Write tx (record { key = key; value = []; deletes = true }))
    (λ tx. (f.1.2, λ i. omega arith)) e h
event_fits names given (Claim name key writer) e f h = claimed names name key writer e h
event_fits names given (Prepare name) e f h = named names name events.Prepare (λ tx. tt) e h
event_fits names given (Settle name client) e f h = named names name (λ tx. events.Settle tx client) (λ tx. tt) e h
event_fits names given (Recover name client) e f h = named names name (λ tx. events.Recover tx client) (λ tx. tt) e h
event_fits names given (Invoke name client) e f h = named names name (λ tx. events.Invoke tx client) (λ tx. tt) e h
event_fits names given (Deliver message) e f h = one _ tt e h
event_fits names given (Lose message) e f h = one _ tt e h
event_fits names given (Divert message to) e f h = one _ tt e h
event_fits names given (Clock shard replica moment) e f h = one _ tt e h
event_fits names given (Vote shard replica name decision client) e f h =
    named names name (λ tx. events.Vote shard replica tx decision client) (λ tx. tt) e h
event_fits names given (Second name decision replica) e f h = named names name (λ tx. events.Second tx decision replica) (λ tx. tt) e h
event_fits names given (Logged shard replica name decision decided current client) e f h =
    named names name (λ tx. events.Logged shard replica tx decision decided current client) (λ tx. tt) e h
event_fits names given (Elect shard replica name decision view) e f h =
    named names name (λ tx. events.Elect shard replica tx decision view) (λ tx. tt) e h
event_fits names given (Decide shard replica name decision view to) e f h =
    named names name (λ tx. events.Decide shard replica tx decision view to) (λ tx. tt) e h
event_fits names given (Raw from to frame) e f h = one _ tt e h
event_fits names given (Show frame) e f h = one _ tt e h
event_fits names given (Header cluster clock keys journal) e f h = absurd cc
event_fits names given Skipped e f h = absurd cc
event_fits names given (Faulty party) e f h = absurd cc
event_fits names given Round e f h = absurd cc
event_fits names given (Stop shard replica message write bytes) e f h = absurd cc
