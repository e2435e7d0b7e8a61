-- Committed transactions one after another.
use Rattle.std.proofs.Common.{◌≡◌, ℕ, Bool, true, false, cond, inl, inr, List, [], ◌∷◌, Option, Some, None, refl, ap, sym, ◌∙◌, subst}
use Rattle.std.specs.Prelude.{filter}
use Rattle.std.specs.List.{Contains}
use Rattle.std.proofs.lemmas.Bool.{false_from_ne_true}
use Rattle.basil_types.specs.declared.replayed.Latest.{Latest}
use Rattle.basil_types.specs.declared.transaction.parts.ReadPart.{ReadPart}
use Rattle.basil_types.specs.Latest.{at, IsLatest, IsOneEach, IsBelow, MapsAreLatest, MapsBeforeAreLatest}
use Rattle.basil_types.specs.Replayed.{Replayed, put_writes, replay, by_version, map_of, before}
use Rattle.basil_types.specs.Transaction.{TransactionValue, id, version_of, writes_key}
use Rattle.basil_types.specs.Version.{genesis, below}
use Rattle.basil_types.proofs.MemberLaws.{in_head, in_tail, in_filter, filter_in}
use Rattle.basil_types.proofs.ReplayLaws.{left_written, IsRising, by_version_rises, in_order, order_in, replayed_latest, latest_by}
use Rattle.basil_types.proofs.ReplayLaws.{one_latest}
use Rattle.basil_types.proofs.VersionLaws.{below_itself, not_both}
use Rattle.agreement_laws.specs.Laws as agreed
use Rattle.serial_laws.specs.Bases.{Basis, IsSane, setting_of}
use Rattle.serial_laws.specs.Committed.{IsCommitted, IsShown, IsCommittedBelow, IsShownBelow, ReadsWithin, AreClosed}
use Rattle.serial_laws.specs.Invariants.{Invariant}
use Rattle.serial_laws.specs.Laws.{SettingsAreSane, OneOfEachVersion, ReadsAreLatest, Serial, ClosedAreSerial}
use Rattle.serial_laws.specs.Laws.{ShownAreClosed, ShownAreSerial, ShownMapsAreLatest, AreSafe, FromInvariant}
use Rattle.serial_laws.specs.Reads.{version_found}
use Rattle.serial_laws.specs.Runs.{State}
use Rattle.serial_laws.specs.Serving.{IsServed, AreServed}
use Rattle.serial_laws.proofs.Committing.{above_genesis, one_of_each_version}

-- ---- all that were shown

shown_committed : (b : Basis) (st : State) → Invariant b st → (t : TransactionValue) → IsShown b st t → IsCommitted b st t
shown_committed b st inv t h = record { text = h.text; can = inv.certified (id t) h.shown }

pub shown_are_closed : FromInvariant ReadsAreLatest → FromInvariant ShownAreClosed
shown_are_closed latest b few st inv ts all = record {
  committed = λ t h. shown_committed b st inv t (all.only t h);
  closed = λ t h correct r i.
      let o = latest b few st inv t (shown_committed b st inv t (all.only t h)) correct r i in
      within t r (st.given (id t) r.key) o.latest o.version;
}
  where
    within : (t : TransactionValue) (r : ReadPart) (o : Option Latest) →
        IsLatest (IsShownBelow b st t) (IsCommittedBelow b st t) r.key o → r.version ≡ version_found o → ReadsWithin ts r
    within t r None l e = inl e
    within t r (Some x) l e = inr (l.0, all.every l.0 (l.1).is, sym (left_written l.0 r.key x l.2).1 ∙ sym e)

-- ---- one after another

empty_filter : {A : Type 0} (p : A → Bool) (xs : List A) → ((x : A) → Contains xs x → p x ≡ false) → filter p xs ≡ []
empty_filter p [] h = refl
empty_filter p (x ∷ xs) h =
    ap (λ t. cond t (x ∷ filter p xs) (filter p xs)) (h x (in_head x xs)) ∙ empty_filter p xs (λ y k. h y (in_tail x xs y k))

abbrev under : TransactionValue → TransactionValue → Bool
under t u = below (version_of u) (version_of t)

rising_filter : (p : TransactionValue → Bool) (ts : List TransactionValue) → IsRising ts → IsRising (filter p ts)
rising_filter p [] s = tt
rising_filter p (t ∷ ts) s = by (p t) (rising_filter p ts s.1)
  where
    by : (c : Bool) → IsRising (filter p ts) → IsRising (cond c (t ∷ filter p ts) (filter p ts))
    by true r = (λ u h. s.0 u (in_filter p ts u h).0, r)
    by false r = r

not_under : (t u : TransactionValue) → below (version_of t) (version_of u) ≡ true → under t u ≡ false
not_under t u h = false_from_ne_true (under t u) (λ k. not_both (version_of t) (version_of u) h k)

-- the map that those below a transaction leave, after these entries
abbrev left_under : List TransactionValue → Replayed → TransactionValue → Replayed
left_under us entries t = replay entries (filter (under t) us)

serve : (b : Basis) (st : State) (us : List TransactionValue) → IsRising us → (entries : Replayed) →
    ((t : TransactionValue) → Contains us t → IsServed b st (left_under us entries t) t) → AreServed b st entries us
serve b st [] s entries h = tt
serve b st (t ∷ us) s entries h = (
  subst (λ z. IsServed b st (replay entries z) t) none_under (h t (in_head t us)),
  serve b st us s.1 (put_writes (version_of t) entries t.writes) (λ u k.
      subst (λ z. IsServed b st (replay entries z) u) (one_more u k) (h u (in_tail t us u k))),
)
  where
    none_under : filter (under t) (t ∷ us) ≡ []
    none_under =
        ap (λ c. cond c (t ∷ filter (under t) us) (filter (under t) us)) (below_itself (version_of t))
        ∙ empty_filter (under t) us (λ u k. not_under t u (s.0 u k))

    one_more : (u : TransactionValue) → Contains us u → filter (under u) (t ∷ us) ≡ t ∷ filter (under u) us
    one_more u k = ap (λ c. cond c (t ∷ filter (under u) us) (filter (under u) us)) (s.0 u k)

module _ (latest : FromInvariant ReadsAreLatest) (b : Basis) (few : IsSane b) (st : State) (inv : Invariant b st)
    (above : (u : TransactionValue) (key : List ℕ) → IsCommitted b st u → writes_key u key ≡ true → below genesis (version_of u) ≡ true)
    (ts : List TransactionValue) (closed : AreClosed b st ts) where
  one_each : IsOneEach ts
  one_each t u h k e = one_of_each_version b few st inv t u (closed.committed t h) (closed.committed u k) e

  -- the writer that a read names is of the list
  writer_within : (r : ReadPart) (y : TransactionValue) → ReadsWithin ts r → IsCommitted b st y → writes_key y r.key ≡ true →
      r.version ≡ version_of y → Contains ts y
  writer_within r y (inl g) cy w same =
      absurd (let impossible : true ≡ false = sym (above y r.key cy w) ∙ ap (λ z. below z (version_of y)) (sym g ∙ same)
      ∙ below_itself (version_of y) in cc)
  writer_within r y (inr u) cy w same =
      subst (λ z. Contains ts z) (one_of_each_version b few st inv u.0 y (closed.committed u.0 u.1) cy (u.2 ∙ same)) u.1

  -- what was given is what the latest of the list left
  given_latest : (t : TransactionValue) (r : ReadPart) → ReadsWithin ts r → (o : Option Latest) →
      IsLatest (IsShownBelow b st t) (IsCommittedBelow b st t) r.key o → r.version ≡ version_found o →
      IsLatest (IsBelow ts t) (IsBelow ts t) r.key o
  given_latest t r c None l e = λ u h. l u (record { is = closed.committed u h.0; below = h.1 })
  given_latest t r c (Some x) l e =
      let y = l.0 in
      let w = left_written y r.key x l.2 in
      let member : Contains ts y = writer_within r y c (shown_committed b st inv y (l.1).is) w.0 (e ∙ w.1) in
      (y, (member, (l.1).below), l.2, λ u h a. l.3 u (record { is = closed.committed u h.0; below = h.1 }) a)

  abbrev HasLatest : Replayed → TransactionValue → Type 0
  HasLatest entries t = (key : List ℕ) → IsLatest (IsBelow ts t) (IsBelow ts t) key (at entries key)

  -- so each map that has the latest serves the read
  serves : (entries : Replayed) (t : TransactionValue) → Contains ts t → HasLatest entries t → IsServed b st entries t
  serves entries t h found correct r i =
      let o = latest b few st inv t (closed.committed t h) correct r i in
      let g = given_latest t r (closed.closed t h correct r i) (st.given (id t) r.key) o.latest o.version in
      let e : at entries r.key ≡ st.given (id t) r.key =
      one_latest (IsBelow ts t) (λ x y j k. one_each x y j.0 k.0) r.key (at entries r.key) (st.given (id t) r.key) (found r.key) g in
      record { found = e; version = o.version ∙ ap version_found (sym e) }

  -- the map that those below it leave has the latest
  under_latest : (t : TransactionValue) → HasLatest (left_under (by_version ts) [] t) t
  under_latest t key =
      let us = by_version ts in
      latest_by (Contains (filter (under t) us)) (Contains (filter (under t) us)) (IsBelow ts t) (IsBelow ts t)
      (λ u k. let j = in_filter (under t) us u k in (in_order ts u j.0, j.1))
      (λ u k. filter_in (under t) us u (order_in ts one_each u k.0) k.1)
      key (at (left_under us [] t) key)
      (replayed_latest (filter (under t) us) (rising_filter (under t) us (by_version_rises ts)) key)

  pub serial : MapsBeforeAreLatest → Serial b st ts
  serial maps = record {
    reads = λ t h correct r i. serves (before ts (version_of t)) t h (maps ts one_each t) correct r i;
    served = serve b st (by_version ts) (by_version_rises ts) [] (λ t h.
        serves (left_under (by_version ts) [] t) t (in_order ts t h) (under_latest t));
  }

pub closed_are_serial : SettingsAreSane → agreed.FromInvariant agreed.Voters → MapsBeforeAreLatest → FromInvariant ReadsAreLatest →
    FromInvariant ClosedAreSerial
closed_are_serial sane voters maps latest b few st inv ts closed =
    serial latest b few st inv (above_genesis sane voters b few st inv) ts closed maps

pub shown_are_serial : FromInvariant ShownAreClosed → FromInvariant ClosedAreSerial → FromInvariant ShownAreSerial
shown_are_serial closed serial' b few st inv ts all = serial' b few st inv ts (closed b few st inv ts all)

-- ---- the map of all that were shown

pub shown_maps_are_latest : MapsAreLatest → FromInvariant ShownAreClosed → FromInvariant OneOfEachVersion →
    FromInvariant ShownMapsAreLatest
shown_maps_are_latest maps closed one b few st inv ts all key =
    let c = (closed b few st inv ts all).committed in
    latest_by (Contains ts) (Contains ts) (IsShown b st) (IsShown b st) all.only all.every key (at (map_of ts) key)
    (maps ts (λ t u h k. one b few st inv t u (c t h) (c u k)) key)

-- ---- both parts

pub are_safe : SettingsAreSane → agreed.FromInvariant agreed.Agreement → FromInvariant ShownAreSerial → FromInvariant AreSafe
are_safe sane agreement serial' b few st inv ts all = record {
  agreement = λ x h. (agreement (setting_of b) (sane b few) st.inner inv.agrees).none_shown x (inv.certified x h);
  reads = (serial' b few st inv ts all).reads;
}
