-- Counting the replicas of a list whose signatures are all accepted.
use Rattle.std.proofs.Common.{◌≡◌, ℕ, suc, ◌+◌, ◌*◌, ◌<◌, ◌≤◌, ◌==◌, nat_lt, Bool, true, false, cond, not, ◌||◌, ◌&&◌, List, [], ◌∷◌}
use Rattle.std.proofs.Common.{length, map, Option, None, Some, refl, sym, ap, ◌∙◌, subst, arith, length-append, inl, inr, add-one}
use Rattle.std.specs.Prelude.{find, option_map}
use Rattle.std.specs.List.{list_any, list_all, All}
use Rattle.std.proofs.lemmas.Bool.{cases_lt, lt-ltb, le-ltb, and_parts}
use Rattle.std.proofs.lemmas.List.{length-map}
use Rattle.std.proofs.lemmas.List.Elements.{All-nil, All-cons, All-head, All-tail}
use Rattle.std.proofs.lemmas.List.Folds.{list_all-append}
use Rattle.basil_types.specs.declared.party.Decision.{Decision}
use Rattle.basil_types.specs.Lists.{AreItems}
use Rattle.basil_types.proofs.Walks.{position-cons}
use Rattle.frame_views.specs.declared.bounds.Bounds.{Bounds}
use Rattle.frame_views.specs.Fitting.{FitsVote, FitsTally, FitsLog, after_vote, after_tally, after_log}
use Rattle.frame_views.specs.Signed.{SignedBy, vote_signed, tally_signed, tallies_signed, one_logged, logged_signed}
use Rattle.frame_views.specs.Values.{VoteValue, TallyValue, LogValue, LoggedValue}
use Rattle.quorum_laws.specs.Numbers.{replicas}
use Rattle.quorum_laws.specs.Sets.{size}
use Rattle.quorum_laws.specs.Lists.{AreRising, listed}
use Rattle.quorum_laws.proofs.Counts.{size_same}
use Rattle.quorum_laws.proofs.ListSets.{lists_are_sets}
use Rattle.certificates.specs.declared.refusal.CertRefusal.TheVariants.{Few, BadSignature}
use Rattle.certificates.specs.Accepted.{Accepted, accepts, first_refused}
use Rattle.certificates.specs.Voters.{voters, Voted, loggers}
use Rattle.certificates.specs.Refusals.{few, few_listed, bad_signature}

-- ---- lists of replicas

abbrev numbers : {X : Type 0} → (X → ℕ) → List X → List ℕ
numbers who [] = []
numbers who (x ∷ xs) = who x ∷ numbers who xs

length_numbers : {X : Type 0} (who : X → ℕ) (xs : List X) → length (numbers who xs) ≡ length xs
length_numbers who [] = refl
length_numbers who (x ∷ xs) = ap suc (length_numbers who xs)

rising_votes : (b : Bounds) (floor : ℕ) (votes : List VoteValue) → AreItems (FitsVote b) after_vote floor votes
    → AreRising floor b.replicas (numbers (λ (v : VoteValue). v.replica) votes)
rising_votes b floor [] h = tt
rising_votes b floor (v ∷ vs) h = (
  h.0.above,
  h.0.below,
  subst (λ (k : ℕ). AreRising k b.replicas (numbers (λ (w : VoteValue). w.replica) vs))
      (add-one v.replica) (rising_votes b (v.replica + 1) vs h.1),
)

rising_logs : (b : Bounds) (decided floor : ℕ) (logs : List LogValue) → AreItems (FitsLog b decided) after_log floor logs
    → AreRising floor b.replicas (numbers (λ (l : LogValue). l.replica) logs)
rising_logs b decided floor [] h = tt
rising_logs b decided floor (l ∷ ls) h = (
  h.0.above,
  h.0.below,
  subst (λ (k : ℕ). AreRising k b.replicas (numbers (λ (w : LogValue). w.replica) ls))
      (add-one l.replica) (rising_logs b decided (l.replica + 1) ls h.1),
)

-- ---- those whose item passes a test

abbrev pub passing : {X : Type 0} → (X → ℕ) → (X → Bool) → List X → ℕ → Bool
passing who ok xs r = list_any (λ x. (who x == r) && ok x) xs

passed : (a b c d : Bool) → b ≡ true → c ≡ d → ((a && b) || c) ≡ (a || d)
passed true b c d e f = rw e refl
passed false b c d e f = f

passing_all : {X : Type 0} (who : X → ℕ) (ok : X → Bool) (xs : List X) (r : ℕ) → list_all ok xs ≡ true
    → passing who ok xs r ≡ listed (numbers who xs) r
passing_all who ok [] r h = refl
passing_all who ok (x ∷ xs) r h =
    let both = and_parts (ok x) (list_all ok xs) h in
    passed (who x == r) (ok x) (passing who ok xs r) (listed (numbers who xs) r) both.0 (passing_all who ok xs r both.1)

size_passing : {X : Type 0} (who : X → ℕ) (ok : X → Bool) (n : ℕ) (xs : List X) → AreRising 0 n (numbers who xs) → list_all ok xs ≡ true
    → size (passing who ok xs) n ≡ length xs
size_passing who ok n xs rising h =
    size_same (passing who ok xs) (listed (numbers who xs)) n (λ r _. passing_all who ok xs r h)
    ∙ lists_are_sets n (numbers who xs) rising
    ∙ length_numbers who xs

all_mapped : {X Y : Type 0} (p : Y → Bool) (f : X → Y) (xs : List X) → list_all p (map f xs) ≡ true → list_all (λ x. p (f x)) xs ≡ true
all_mapped p f [] h = refl
all_mapped p f (x ∷ xs) h =
    let both = and_parts (p (f x)) (list_all p (map f xs)) h in
    rw (both.0, all_mapped p f xs both.1) refl

-- as many voters as votes
pub size_voters : (A : Accepted) (b : Bounds) (id : List ℕ) (d : Decision) (tally : TallyValue)
    → AreItems (FitsVote b) after_vote 0 tally.votes → list_all (accepts A) (tally_signed id d tally) ≡ true
    → size (voters A id d tally) b.replicas ≡ length tally.votes
size_voters A b id d tally fits h =
    size_passing (λ (v : VoteValue). v.replica)
    (λ v. accepts A (vote_signed tally.shard id d v)) b.replicas tally.votes (rising_votes b 0 tally.votes fits)
    (all_mapped (accepts A) (vote_signed tally.shard id d) tally.votes h)

pub size_loggers : (A : Accepted) (b : Bounds) (id : List ℕ) (l : LoggedValue) → AreItems (FitsLog b l.decided) after_log 0 l.logs
    → list_all (accepts A) (logged_signed id l) ≡ true → size (loggers A id l) b.replicas ≡ length l.logs
size_loggers A b id l fits h =
    size_passing (λ (v : LogValue). v.replica)
    (λ v. accepts A (one_logged l.shard id l.decision l.decided v)) b.replicas l.logs (rising_logs b l.decided 0 l.logs fits)
    (all_mapped (accepts A) (one_logged l.shard id l.decision l.decided) l.logs h)

-- ---- signatures

pub none_refused : (A : Accepted) (signed : List SignedBy) → bad_signature A signed ≡ None → list_all (accepts A) signed ≡ true
none_refused A [] h = refl
none_refused A (s ∷ rest) h =
    by (accepts A s) (ap (option_map BadSignature) (sym (position-cons (λ x. not (accepts A x)) s rest)) ∙ h) (none_refused A rest) where
      shift : (o : Option ℕ) → option_map BadSignature (option_map (λ k. k + 1) o) ≡ None → option_map BadSignature o ≡ None
      shift None e = refl
      shift (Some k) e = absurd cc

      by : (b : Bool) → option_map BadSignature (cond (not b) (Some 0) (option_map (λ k. k + 1) (first_refused A rest))) ≡ None
          → (bad_signature A rest ≡ None → list_all (accepts A) rest ≡ true) → (b && list_all (accepts A) rest) ≡ true
      by true g later = later (shift (first_refused A rest) g)
      by false g later = absurd cc

pub refused_none : (A : Accepted) (signed : List SignedBy) → list_all (accepts A) signed ≡ true → bad_signature A signed ≡ None
refused_none A [] h = refl
refused_none A (s ∷ rest) h =
    let both = and_parts (accepts A s) (list_all (accepts A) rest) h in
    ap (option_map BadSignature) (position-cons (λ x. not (accepts A x)) s rest)
    ∙ ap (λ b. option_map BadSignature (cond (not b) (Some 0) (option_map (λ k. k + 1) (first_refused A rest)))) both.0
    ∙ shift (first_refused A rest) (refused_none A rest both.1)
  where
    shift : (o : Option ℕ) → option_map BadSignature o ≡ None → option_map BadSignature (option_map (λ k. k + 1) o) ≡ None
    shift None e = refl
    shift (Some k) e = absurd cc

-- ---- counts

pub enough : (count needed : ℕ) → few count needed ≡ None → needed ≤ count
enough count needed h = elim (cases_lt count needed) [
  | inl l ↦ absurd (let e = ap (λ b. cond b (Some (Few count needed)) None) (sym (lt-ltb count needed l)) ∙ h in some_none e)
  | inr l ↦ l
]
  where
    some_none : {X : Type 0} {x : X} → Some x ≡ None → ⊥
    some_none e = cc

pub not_few : (count needed : ℕ) → needed ≤ count → few count needed ≡ None
not_few count needed h = ap (λ b. cond b (Some (Few count needed)) None) (le-ltb count needed h)

pub enough_each : (needed : ℕ) (tallies : List TallyValue) → few_listed needed tallies ≡ None
    → All (λ (t : TallyValue). needed ≤ length t.votes) tallies
enough_each needed [] h = All-nil (λ (t : TallyValue). needed ≤ length t.votes)
enough_each needed (t ∷ ts) h = elim (cases_lt (length t.votes) needed) [
  | inl l ↦ absurd (some_none (ap (λ b. option_map (λ (u : TallyValue). Few (length u.votes) needed)
      (cond b (Some t) (find (λ u. nat_lt (length u.votes) needed) ts))) (sym (lt-ltb (length t.votes) needed l)) ∙ h))
  | inr l ↦ All-cons (λ (u : TallyValue). needed ≤ length u.votes) t ts l
      (enough_each needed ts (ap (λ b. option_map (λ (u : TallyValue). Few (length u.votes) needed)
      (cond b (Some t) (find (λ u. nat_lt (length u.votes) needed) ts))) (sym (le-ltb (length t.votes) needed l)) ∙ h))
]
  where
    some_none : {X : Type 0} {x : X} → Some x ≡ None → ⊥
    some_none e = cc

pub none_few : (needed : ℕ) (tallies : List TallyValue) → All (λ (t : TallyValue). needed ≤ length t.votes) tallies
    → few_listed needed tallies ≡ None
none_few needed [] h = refl
none_few needed (t ∷ ts) h =
    ap (λ b. option_map (λ (u : TallyValue). Few (length u.votes) needed) (cond b (Some t) (find (λ u. nat_lt (length u.votes) needed) ts)))
    (le-ltb (length t.votes) needed (All-head (λ (u : TallyValue). needed ≤ length u.votes) t ts h))
    ∙ none_few needed ts (All-tail (λ (u : TallyValue). needed ≤ length u.votes) t ts h)

-- ---- each tally

pub front_accepted : (A : Accepted) (id : List ℕ) (d : Decision) (t : TallyValue) (ts : List TallyValue)
    → list_all (accepts A) (tallies_signed id d (t ∷ ts)) ≡ true
    → (list_all (accepts A) (tally_signed id d t) ≡ true) × (list_all (accepts A) (tallies_signed id d ts) ≡ true)
front_accepted A id d t ts h = and_parts _ _ (sym (list_all-append (accepts A) (tally_signed id d t) (tallies_signed id d ts)) ∙ h)

pub voted_of : (A : Accepted) (b : Bounds) (f : ℕ) (id : List ℕ) (d : Decision) (needed : ℕ) (t : TallyValue) → b.replicas ≡ replicas f
    → AreItems (FitsVote b) after_vote 0 t.votes → list_all (accepts A) (tally_signed id d t) ≡ true → needed ≤ length t.votes
    → Voted A f id d needed t
voted_of A b f id d needed t n fits h k =
    let e : size (voters A id d t) (replicas f) ≡ length t.votes =
    subst (λ (m : ℕ). size (voters A id d t) m ≡ length t.votes) n (size_voters A b id d t fits h) in
    omega arith

pub counted_of : (A : Accepted) (b : Bounds) (f : ℕ) (id : List ℕ) (d : Decision) (needed : ℕ) (t : TallyValue) → b.replicas ≡ replicas f
    → AreItems (FitsVote b) after_vote 0 t.votes → list_all (accepts A) (tally_signed id d t) ≡ true → Voted A f id d needed t
    → needed ≤ length t.votes
counted_of A b f id d needed t n fits h k =
    let e : size (voters A id d t) (replicas f) ≡ length t.votes =
    subst (λ (m : ℕ). size (voters A id d t) m ≡ length t.votes) n (size_voters A b id d t fits h) in
    omega arith

pub each_voted : (A : Accepted) (b : Bounds) (f : ℕ) (id : List ℕ) (d : Decision) (needed floor : ℕ) (tallies : List TallyValue)
    → b.replicas ≡ replicas f → AreItems (FitsTally b) after_tally floor tallies → list_all (accepts A) (tallies_signed id d tallies) ≡ true
    → All (λ (t : TallyValue). needed ≤ length t.votes) tallies → All (Voted A f id d needed) tallies
each_voted A b f id d needed floor [] n fits h k = All-nil (Voted A f id d needed)
each_voted A b f id d needed floor (t ∷ ts) n fits h k =
    let parts = front_accepted A id d t ts h in
    All-cons (Voted A f id d needed) t ts
    (voted_of A b f id d needed t n fits.0.votes.each parts.0 (All-head (λ (u : TallyValue). needed ≤ length u.votes) t ts k))
    (each_voted A b f id d needed (t.shard + 1) ts n fits.1 parts.1 (All-tail (λ (u : TallyValue). needed ≤ length u.votes) t ts k))

pub each_counted : (A : Accepted) (b : Bounds) (f : ℕ) (id : List ℕ) (d : Decision) (needed floor : ℕ) (tallies : List TallyValue)
    → b.replicas ≡ replicas f → AreItems (FitsTally b) after_tally floor tallies → list_all (accepts A) (tallies_signed id d tallies) ≡ true
    → All (Voted A f id d needed) tallies → All (λ (t : TallyValue). needed ≤ length t.votes) tallies
each_counted A b f id d needed floor [] n fits h k = All-nil (λ (t : TallyValue). needed ≤ length t.votes)
each_counted A b f id d needed floor (t ∷ ts) n fits h k =
    let parts = front_accepted A id d t ts h in
    All-cons (λ (u : TallyValue). needed ≤ length u.votes) t ts
    (counted_of A b f id d needed t n fits.0.votes.each parts.0 (All-head (Voted A f id d needed) t ts k))
    (each_counted A b f id d needed (t.shard + 1) ts n fits.1 parts.1 (All-tail (Voted A f id d needed) t ts k))

-- ---- how many signatures there may be

pub length_tally : (id : List ℕ) (d : Decision) (t : TallyValue) → length (tally_signed id d t) ≡ length t.votes
length_tally id d t = length-map t.votes (vote_signed t.shard id d)

pub length_tallies : (b : Bounds) (id : List ℕ) (d : Decision) (floor : ℕ) (tallies : List TallyValue)
    → AreItems (FitsTally b) after_tally floor tallies → length (tallies_signed id d tallies) ≤ 255 * length tallies
length_tallies b id d floor [] h = omega arith
length_tallies b id d floor (t ∷ ts) h =
    let rest = length_tallies b id d (t.shard + 1) ts h.1 in
    let here = length_tally id d t in
    let few_votes : length t.votes < 256 = h.0.votes.count in
    let joined = length-append (tally_signed id d t) (tallies_signed id d ts) in
    omega arith
