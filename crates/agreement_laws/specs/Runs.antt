use Rattle.std.specs.Prelude.{◌≡◌, ℕ, ◌==◌, Bool, true, false, cond, List, [], ◌∷◌, ◌++◌, None}
use Rattle.agreement_laws.specs.Words.{Id, same_id, Word}
use Rattle.agreement_laws.specs.Settings.{Setting}
use Rattle.agreement_laws.specs.Certificates.{Signed, CanAbort}
use Rattle.agreement_laws.specs.Replicas.{Unvoted, Book, Act, after, words, May}

-- a replica: the words that it has signed, and its book
pub record Node : Type 0 where
  pub own : List Word
  pub book : Book

pub record State : Type 0 where
  pub nodes : (shard replica : ℕ) → Node
  -- whether an abort certificate of a transaction was shown
  pub aborted : Id → Bool

abbrev pub signed_of : State → Signed
signed_of st s r = (st.nodes s r).own

pub data Event : Type 0 where
  -- a correct replica does something to a transaction
  Acts : (shard replica : ℕ) (id : Id) (act : Act) → Event
  -- a faulty replica signs what it likes
  Lies : (shard replica : ℕ) (word : Word) → Event
  -- an abort certificate of a transaction is shown for somebody to take
  Shows : (id : Id) → Event

-- a function with another value at one id, at one number, at one replica
abbrev pub put_id : {A : Type 0} → (Id → A) → Id → A → Id → A
put_id g x a y = cond (same_id y x) a (g y)

abbrev pub put : {A : Type 0} → (ℕ → A) → ℕ → A → ℕ → A
put g i a j = cond (j == i) a (g j)

abbrev pub put_node : {A : Type 0} → (ℕ → ℕ → A) → (shard replica : ℕ) → A → ℕ → ℕ → A
put_node g s r a = put g s (put (g s) r a)

abbrev pub acted : (shard replica : ℕ) → Node → Id → Act → Node
acted s r p x a = record { own = p.own ++ words s r x a (p.book x); book = put_id p.book x (after a (p.book x)) }

abbrev pub lied : Node → Word → Node
lied p w = record p { own = p.own ++ w ∷ [] }

abbrev pub happens : State → Event → State
happens st (Acts s r x a) = record st { nodes = put_node st.nodes s r (acted s r (st.nodes s r) x a) }
happens st (Lies s r w) = record st { nodes = put_node st.nodes s r (lied (st.nodes s r) w) }
happens st (Shows x) = record st { aborted = put_id st.aborted x true }

abbrev pub IsLawful : Setting → State → Event → Type 0
IsLawful c st (Acts s r x a) = (c.faulty s r ≡ false) × May c (signed_of st) st.aborted s (st.nodes s r).book x a
IsLawful c st (Lies s r w) = c.faulty s r ≡ true
IsLawful c st (Shows x) = CanAbort c (signed_of st) x

abbrev pub run : List Event → State → State
run [] st = st
run (e ∷ es) st = run es (happens st e)

-- each event is lawful in the state in which it happens
abbrev pub AreLawful : Setting → List Event → State → Type 0
AreLawful c [] st = Unit {0}
AreLawful c (e ∷ es) st = IsLawful c st e × AreLawful c es (happens st e)

-- nothing is signed, known or shown
abbrev pub start : State
start = record {
  nodes = λ _ _. record { own = []; book = λ _. record { vote = Unvoted; outcome = None; cell = None } };
  aborted = λ _. false;
}

-- A replica's answer to one message may be several acts, each judged by the book that the ones before it left and
-- by what was signed and shown before the message.
abbrev pub answered : (shard replica : ℕ) → Node → List (Id × Act) → Node
answered s r p [] = p
answered s r p (a ∷ rest) = answered s r (acted s r p a.0 a.1) rest

abbrev pub MayAnswer : Setting → Signed → (Id → Bool) → (shard replica : ℕ) → Node → List (Id × Act) → Type 0
MayAnswer c signed aborted s r p [] = Unit {0}
MayAnswer c signed aborted s r p (a ∷ rest) =
    May c signed aborted s p.book a.0 a.1 × MayAnswer c signed aborted s r (acted s r p a.0 a.1) rest

abbrev pub answers : State → (shard replica : ℕ) → List (Id × Act) → State
answers st s r acts = record st { nodes = put_node st.nodes s r (answered s r (st.nodes s r) acts) }
