-- Certificates that can be shown go on to be possible.
use Rattle.std.proofs.Common.{◌≡◌, ℕ, true, List, [], ◌∷◌}
use Rattle.std.specs.List.{Contains}
use Rattle.std.proofs.lemmas.List.Elements.{Contains-append_left}
use Rattle.agreement_laws.specs.Words.{Word}
use Rattle.agreement_laws.specs.Settings.{Setting}
use Rattle.agreement_laws.specs.Certificates.{Grows, CanAbort}
use Rattle.agreement_laws.specs.Replicas.{words}
use Rattle.agreement_laws.specs.Runs.{Node, State, signed_of, Event, Acts, Lies, Shows, put_node}
use Rattle.agreement_laws.specs.Runs.{acted, lied, happens, IsLawful, run, AreLawful, start}
use Rattle.agreement_laws.specs.Laws.{WithMoreWords, WithMoreEvents, ShownArePossible, InEveryRun}
use Rattle.agreement_laws.proofs.Puts.{put_id_cases, put_node_cases}
use Rattle.agreement_laws.proofs.Growth.{CanCommit-grows, CanAbort-grows}

-- one replica signs more
node_grows : (st : State) (s r : ℕ) (p : Node) → ((w : Word) → Contains (st.nodes s r).own w → Contains p.own w) →
    Grows (signed_of st) (λ t q. (put_node st.nodes s r p t q).own)
node_grows st s r p g =
    put_node_cases (λ t q z. (w : Word) → Contains (st.nodes t q).own w → Contains z.own w) st.nodes s r p g (λ t q w k. k)

event_grows : (st : State) (e : Event) → Grows (signed_of st) (signed_of (happens st e))
event_grows st (Acts s r x a) =
    node_grows st s r (acted s r (st.nodes s r) x a)
    (λ w k. Contains-append_left (st.nodes s r).own (words s r x a ((st.nodes s r).book x)) w k)
event_grows st (Lies s r w) = node_grows st s r (lied (st.nodes s r) w) (λ v k. Contains-append_left (st.nodes s r).own (w ∷ []) v k)
event_grows st (Shows x) = λ s r w k. k

run_grows : (es : List Event) (st : State) → Grows (signed_of st) (signed_of (run es st))
run_grows [] st = λ s r w k. k
run_grows (e ∷ es) st = λ s r w k. run_grows es (happens st e) s r w (event_grows st e s r w k)

pub with_more_words : WithMoreWords
with_more_words c p q g = record { commit = CanCommit-grows c p q g; abort = CanAbort-grows c p q g }

pub with_more_events : WithMoreEvents
with_more_events c st es = with_more_words c (signed_of st) (signed_of (run es st)) (run_grows es st)

-- an abort certificate is shown where it is possible
shown_after : (c : Setting) (st : State) (e : Event) → ShownArePossible c st → IsLawful c st e → ShownArePossible c (happens st e)
shown_after c st (Acts s r x a) all m = λ y h. CanAbort-grows c (signed_of st) _ (event_grows st (Acts s r x a)) y (all y h)
shown_after c st (Lies s r w) all m = λ y h. CanAbort-grows c (signed_of st) _ (event_grows st (Lies s r w)) y (all y h)
shown_after c st (Shows x) all m =
    put_id_cases (λ y b. b ≡ true → CanAbort c (signed_of st) y) st.aborted x true (λ _. m) (λ y _ h. all y h)

shown_in : (c : Setting) (es : List Event) (st : State) → ShownArePossible c st → AreLawful c es st → ShownArePossible c (run es st)
shown_in c [] st all m = all
shown_in c (e ∷ es) st all m = shown_in c es (happens st e) (shown_after c st e all m.0) m.1

pub shown_in_every_run : InEveryRun ShownArePossible
shown_in_every_run c ok es m = shown_in c es start (λ x h. cc) m
