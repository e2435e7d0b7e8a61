-- What the index of a key finds is what a search through the entered transactions finds.
use Rattle.std.proofs.Common.{◌≡◌, ℕ, Bool, true, false, cond, List, [], Option, Some, None, map, refl, sym, ap, subst, ◌∙◌}
use Rattle.std.specs.Prelude.{◌&&◌, MatchOption, filter, min, is_some, option_map, option_and_then, unwrap_or, Contains}
use Rattle.std.specs.List.{list_any, filter_map, reduce}
use Rattle.std.specs.Str.{bytes_eq}
use Rattle.std.specs.BTreeMap.{BTreeMap, IsOrdered, get}
use Rattle.std.specs.BTreeMap.Range.{range_contains}
use Rattle.std.specs.Map.{keys_of}
use Rattle.std.specs.List.Sorted.{IsStrictlySortedBy}
use Rattle.std.specs.declared.ops.Bound.TheVariants.{Excluded, Unbounded}
use Rattle.std.proofs.lemmas.Map.Views.{btree_map_get_iff}
use Rattle.basil_types.specs.declared.version.Version.{Version}
use Rattle.basil_types.specs.declared.transaction.parts.ReadPart.{ReadPart}
use Rattle.basil_types.specs.Version.{version_cmp, below}
use Rattle.basil_types.specs.Transaction.{writes_key}
use Rattle.basil_types.specs.Version.{is_between}
use Rattle.mv_store.specs.declared.hits.Hits.{Hits}
use Rattle.mv_store.specs.declared.index.Entered.{Entered}
use Rattle.mv_store.specs.declared.index.Reader.{Reader}
use Rattle.mv_store.specs.declared.index.KeyIndex.{KeyIndex}
use Rattle.mv_store.specs.declared.store.Store.{Store}
use Rattle.mv_store.specs.Index
use Rattle.mv_store.specs.Index.{is_told, committed_place, committed_place_below, place_if_committed, reads_below}
use Rattle.mv_store.specs.Slots.{slot_at}
use Rattle.mv_store.specs.Keys.{index_of, writer_at, reader_at}
use Rattle.mv_store.specs.Held as held
use Rattle.mv_store.specs.Held.{Held, NotedRead, version, latest, hits, is_committed, is_prepared, reads_key_below}
use Rattle.mv_store.specs.Store.{Stands, entry, read_entry}
use Rattle.basil_types.proofs.KeyLaws.{bytes_tell, bytes_same}
use Rattle.basil_types.proofs.VersionLaws.{version_total, version_exact, same_from_neither}
use Rattle.mv_store.proofs.VersionLaws.{and_parts, is_in_between, is_before, is_above}
use Rattle.mv_store.proofs.PutLaws.{both}
use Rattle.mv_store.proofs.Searches.{Source, any_same, any_from, any_to, filter_from, filter_to}
use Rattle.mv_store.proofs.Searches.{filter_map_from, filter_map_to, map_from, map_to, least_same, Contains-nil}
use Rattle.mv_store.proofs.LatestLaws.{IsLast, NonePasses, IsLatest, last_found, latest_is}

-- ---- the entries of a map, and what is told at versions

pub record Shows {E : Type 0} (es : List (Version × Option E)) (told : Version → Option E) : Type 0 where
  pub from : (v : Version) (x : E) → told v ≡ Some x → Contains es (v, Some x)
  pub to : (v : Version) (x : E) → Contains es (v, Some x) → told v ≡ Some x

inner : {E : Type 0} (o : Option (Option E)) (x : E) → unwrap_or o None ≡ Some x → o ≡ Some (Some x)
inner None x e = absurd cc
inner (Some o) x e = ap Some e

pub shows_map : {E : Type 0} (m : BTreeMap Version (Option E)) (told : Version → Option E) → IsOrdered version_cmp m
    → ((v : Version) → told v ≡ unwrap_or (get version_cmp m v) None) → Shows m.entries told
shows_map m told ordered is =
    record {
      from = λ v x e. (btree_map_get_iff version_total version_exact m ordered v (Some x)).0 (inner _ x (sym (is v) ∙ e));
      to = λ v x h. is v ∙ ap (λ o. unwrap_or o None) ((btree_map_get_iff version_total version_exact m ordered v (Some x)).1 h);
    }

pub shows_none : {E : Type 0} (told : Version → Option E) → ((v : Version) → told v ≡ None) → Shows [] told
shows_none told is =
    record {
      from = λ v x e. absurd (let never : None ≡ Some x = sym (is v) ∙ e in cc);
      to = λ v x h. Contains-nil (v, Some x) h;
    }

-- ---- hits

abbrev place_of : Held → Option ℕ
place_of h = cond h.committed (Some h.place) None

-- the entries that pass a test at versions in a range, and the entered transactions that they tell of
record Matches {E : Type 0} (told : Version → Option E) (range : Version → Bool) (pass : Option E → Bool) (place : Option E
    → Option ℕ) (these : Held → Bool) (all : List Held) (v : Version) (x : E) (h : Held) : Type 0 where
  among : Contains all h
  hit : these h ≡ true
  told_at : told v ≡ Some x
  in_range : range v ≡ true
  passes : pass (Some x) ≡ true
  at : place (Some x) ≡ place_of h

module _ {E : Type 0} (es : List (Version × Option E)) (told : Version → Option E) (range : Version → Bool) (pass : Option E
    → Bool) (place : Option E → Option ℕ) (these : Held → Bool) (all : List Held)
    (shows : Shows es told)
    (forth : (v : Version) (x : E) → told v ≡ Some x → range v ≡ true → pass (Some x) ≡ true
    → (h : Held) × Matches told range pass place these all v x h)
    (back : (h : Held) → Contains all h → these h ≡ true → (v : Version) × (x : E) × Matches told range pass place these all v x h)
    (room : pass None ≡ false) (no_place : place None ≡ None) (placed : (x : E) (n : ℕ) → place (Some x) ≡ Some n
    → pass (Some x) ≡ true) where
  slots : List (Version × Option E)
  slots = filter (λ e. range e.0) es

  of_slot : (e : Version × Option E) → Contains slots e → pass e.1 ≡ true
      → (x : E) × (e.1 ≡ Some x) × ((h : Held) × Matches told range pass place these all e.0 x h)
  unfolding slots
  of_slot e among ok = by e.1 refl
    where
      by : (o : Option E) → e.1 ≡ o → (x : E) × (e.1 ≡ Some x) × ((h : Held) × Matches told range pass place these all e.0 x h)
      by None q = absurd (let impossible : true ≡ false = sym ok ∙ ap pass q ∙ room in cc)
      by (Some x) q =
          let f = filter_to (λ z. range z.0) es e among in
          let is : told e.0 ≡ Some x = shows.to e.0 x (subst (λ o. Contains es (e.0, o)) q f.0) in
          (x, q, forth e.0 x is f.1 (ap pass (sym q) ∙ ok))

  slot_of : (v : Version) (x : E) (h : Held) → Matches told range pass place these all v x h → Contains slots (v, Some x)
  unfolding slots
  slot_of v x h m = filter_from (λ z. range z.0) es (v, Some x) (shows.from v x m.told_at) m.in_range

  any_hit : list_any (λ e. pass e.1) slots ≡ list_any these all
  any_hit =
      any_same (λ e. pass e.1) these slots all
      (λ f. let m = of_slot f.item f.among f.passes in let h =
      (m.2).0 in let k = (m.2).1 in record { item = h; among = k.among; passes = k.hit })
      (λ f. let m =
      back f.item f.among f.passes in record { item = (m.0, Some m.1); among = slot_of m.0 m.1 f.item m.2; passes = (m.2).passes })

  placed_by : (h : Held) (n : ℕ) (b : Bool) → h.committed ≡ b → cond b (Some h.place) None ≡ Some n → (h.committed ≡ true) × (h.place ≡ n)
  placed_by h n true q e = (q, cc)
  placed_by h n false q e = absurd cc

  least_hit : reduce min (filter_map (λ e. place e.1) slots)
      ≡ reduce min (map (λ (h : Held). h.place) (filter (λ h. h.committed && these h) all))
  least_hit = least_same _ _ there here
    where
      there : (n : ℕ) → Contains (filter_map (λ e. place e.1) slots) n
          → Contains (map (λ (h : Held). h.place) (filter (λ h. h.committed && these h) all)) n
      there n c =
          let s = filter_map_to (λ e. place e.1) slots n c in
          by s s.item.1 refl
        where
          by : (s : Source (λ e. place e.1) slots (Some n)) (o : Option E) → s.item.1 ≡ o
              → Contains (map (λ (h : Held). h.place) (filter (λ h. h.committed && these h) all)) n
          by s None q = absurd (let never : None ≡ Some n = sym (ap place q ∙ no_place) ∙ s.gives in cc)
          by s (Some x) q =
              let m = of_slot s.item s.among (ap pass q ∙ placed x n (ap place (sym q) ∙ s.gives)) in
              let h = (m.2).0 in let k = (m.2).1 in
              let p = placed_by h n h.committed refl (sym k.at ∙ ap place (sym m.1) ∙ s.gives) in
              subst (λ z. Contains (map (λ (h' : Held). h'.place) (filter (λ h'. h'.committed && these h') all)) z) p.1
              (map_from (λ (h' : Held). h'.place) (filter (λ h'. h'.committed && these h') all) h (filter_from (λ h'. h'.committed
              && these h') all h k.among (both h.committed (these h) p.0 k.hit)))

      here : (n : ℕ) → Contains (map (λ (h : Held). h.place) (filter (λ h. h.committed && these h) all)) n
          → Contains (filter_map (λ e. place e.1) slots) n
      here n c =
          let s = map_to (λ (h : Held). h.place) (filter (λ h. h.committed && these h) all) n c in
          let f = filter_to (λ h. h.committed && these h) all s.item s.among in
          let parts = and_parts (s.item).committed (these s.item) f.1 in
          let m = back s.item f.0 parts.1 in
          filter_map_from (λ e. place e.1) slots (m.0, Some m.1) n (slot_of m.0 m.1 s.item m.2)
          ((m.2).at ∙ ap (λ b. cond b (Some (s.item).place) None) parts.0 ∙ ap Some s.gives)

  same_hits : (let found : Hits = record {
    any = list_any (λ e. pass e.1) (filter (λ e. range e.0) es);
    committed = reduce min (filter_map (λ e. place e.1) (filter (λ e. range e.0) es));
  } in found) ≡ hits these all
  unfolding slots
  same_hits = ap (λ (b : Bool). let h : Hits = record { any = b; committed = reduce min (filter_map (λ e. place e.1) slots) } in h) any_hit
      ∙ ap (λ (o : Option ℕ). let h : Hits = record { any = list_any these all; committed = o } in h) least_hit

placed_below : (at : Version) (x : Reader) (n : ℕ) (b : Bool) → below x.read at ≡ b
    → cond (below x.read at) (place_if_committed x.entered) None ≡ Some n → below x.read at ≡ true
placed_below at x n true q e = q
placed_below at x n false q e = absurd (let never : None ≡ Some n = sym (ap (λ b. cond b (place_if_committed x.entered) None) q) ∙ e in cc)

-- ---- the latest

abbrev pub state : Bool → Held → Bool
state true = is_committed
state false = is_prepared

told_in : (committed : Bool) (h : Held) → is_told committed (Some (entry h)) ≡ state committed h
told_in true h = refl
told_in false h = refl

abbrev told_as : Version → Entered → Version × ℕ
told_as v e = (v, e.place)

told_latest : (o : Option Entered) (v u : Version) (x y : Entered) → o ≡ Some x → x ≡ y → v ≡ u
    → option_map (told_as v) o ≡ Some (told_as u y)
told_latest o v u x y is same at = ap (option_map (told_as v)) is ∙ ap (λ z. Some (told_as v z)) same ∙ ap (λ w. Some (told_as w y)) at

-- of a key whose index tells what the store stands for
module _ (store : Store) (key : List ℕ) (all : List Held) (noted : List NotedRead) (s : Stands store all noted) where
  pub writer_hits : (es : List (Version × Option Entered)) (low high : Version) → Shows es (writer_at store.keys key)
      → Index.writers_between low high es ≡ held.writer_between key low high all
  writer_hits es low high shows =
      same_hits es (writer_at store.keys key) (λ v. range_contains version_cmp (Excluded low) (Excluded high) v)
      (λ o. is_some o) committed_place (λ h. writes_key h.transaction key && is_between low (version h) high) all shows
      (λ v x told within ok.
      let w = s.writers key v x told in (
        w.by,
        record {
          among = w.among;
          hit = both (writes_key (w.by).transaction key) (is_between low (version w.by) high) w.writes (ap (λ z. is_between low z high) w.at
              ∙ sym (is_in_between low high v) ∙ within);
          told_at = told;
          in_range = within;
          passes = ok;
          at = ap (λ e. committed_place (Some e)) (sym w.told);
        },
      ))
      (λ h among hit.
      let parts = and_parts (writes_key h.transaction key) (is_between low (version h) high) hit in (
        version h,
        entry h,
        record {
          among = among;
          hit = hit;
          told_at = s.written h key among parts.0;
          in_range = is_in_between low high (version h) ∙ parts.1;
          passes = refl;
          at = refl;
        },
      ))
      refl refl (λ x n e. refl)

  pub reader_hits : (es : List (Version × Option Reader)) (at : Version) → Shows es (reader_at store.keys key)
      → Index.readers_across at es ≡ held.reader_across key at all
  reader_hits es at shows =
      same_hits es (reader_at store.keys key) (λ v. range_contains version_cmp (Excluded at) Unbounded v)
      (reads_below at) (committed_place_below at) (λ h. below at (version h) && reads_key_below key at h.transaction) all shows
      (λ v x told within ok.
      let w = s.readers key v x told in
      let reads = any_from (λ (r : ReadPart). bytes_eq r.key key
      && below r.version at) ((w.by).transaction).reads w.read w.reads (both (bytes_eq (w.read).key key) (below (w.read).version at)
      (ap (λ k. bytes_eq k key) w.of_key ∙ bytes_same key) (ap (λ (z : Reader). below z.read at) w.told ∙ ok)) in (
        w.by,
        record {
          among = w.among;
          hit = both (below at (version w.by)) (reads_key_below key at (w.by).transaction) (ap (below at) w.at ∙ sym (is_above at v)
              ∙ within) reads;
          told_at = told;
          in_range = within;
          passes = ok;
          at = ap (λ b. cond b (place_if_committed x.entered) None) ok ∙ ap (λ (z : Reader). place_if_committed z.entered) (sym w.told);
        },
      ))
      (λ h among hit.
      let parts = and_parts (below at (version h)) (reads_key_below key at h.transaction) hit in
      let f = any_to (λ (r : ReadPart). bytes_eq r.key key && below r.version at) (h.transaction).reads parts.1 in
      let r = f.item in
      let read = and_parts (bytes_eq r.key key) (below r.version at) f.passes in (
        version h,
        read_entry h r,
        record {
          among = among;
          hit = hit;
          told_at = ap (λ k. reader_at store.keys k (version h)) (sym (bytes_tell r.key key read.0)) ∙ s.read h r among f.among;
          in_range = is_above at (version h) ∙ parts.0;
          passes = read.1;
          at = ap (λ b. cond b (place_if_committed (entry h)) None) read.1;
        },
      ))
      refl refl (λ x n e. placed_below at x n (below x.read at) refl e)

  module _ (es : List (Version × Option Entered)) (committed : Bool) (bound : Version) (shows : Shows es (writer_at store.keys key)) where
    these : Held → Bool
    these h = state committed h && (writes_key h.transaction key && below (version h) bound)

    pass : Version × Option Entered → Bool
    pass e = range_contains version_cmp Unbounded (Excluded bound) e.0 && is_told committed e.1

    record Writer (e : Version × Option Entered) : Type 0 where
      slot : Entered
      is : e.1 ≡ Some slot
      by : Held
      among : Contains (filter these all) by
      at : version by ≡ e.0
      told : entry by ≡ slot

    writer_of : (e : Version × Option Entered) → Contains es e → pass e ≡ true → Writer e
    unfolding these pass
    writer_of e among ok = by e.1 refl
      where
        by : (o : Option Entered) → e.1 ≡ o → Writer e
        by None q = absurd (let impossible : true
            ≡ false = sym (and_parts (range_contains version_cmp Unbounded (Excluded bound) e.0) (is_told committed e.1) ok).1
            ∙ ap (is_told committed) q in cc)
        by (Some x) q =
            let parts = and_parts (range_contains version_cmp Unbounded (Excluded bound) e.0) (is_told committed e.1) ok in
            let w = s.writers key e.0 x (shows.to e.0 x (subst (λ o. Contains es (e.0, o)) q among)) in
            let right : state committed w.by ≡ true = sym (told_in committed w.by) ∙ ap (λ z. is_told committed (Some z)) w.told
            ∙ ap (is_told committed) (sym q) ∙ parts.1 in
            let before : below (version w.by) bound ≡ true = ap (λ v. below v bound) w.at ∙ sym (is_before bound e.0) ∙ parts.0 in
            record {
              slot = x;
              is = q;
              by = w.by;
              among = filter_from these all w.by w.among (both (state committed w.by) (writes_key (w.by).transaction key
                  && below (version w.by) bound) right
                  (both (writes_key (w.by).transaction key) (below (version w.by) bound) w.writes before));
              at = w.at;
              told = w.told;
            }

    entry_of : (h : Held) → Contains (filter these all) h
        → Contains es (version h, Some (entry h)) × (pass (version h, Some (entry h)) ≡ true)
    unfolding these pass
    entry_of h among =
        let f = filter_to these all h among in
        let parts = and_parts (state committed h) (writes_key h.transaction key && below (version h) bound) f.1 in
        let more = and_parts (writes_key h.transaction key) (below (version h) bound) parts.1 in (
          shows.from (version h) (entry h) (s.written h key f.0 more.0),
          both (range_contains version_cmp Unbounded (Excluded bound)
              (version h)) (is_told committed (Some (entry h))) (is_before bound (version h) ∙ more.1) (told_in committed h ∙ parts.0),
        )

    same_latest : (found : Option (Version × Option Entered)) (last : Option Held) → MatchOption found (NonePasses pass es) (IsLast pass es)
        → MatchOption last (filter these all ≡ []) (IsLatest (filter these all))
        → option_and_then Index.version_and_place found ≡ option_map held.version_and_place last
    same_latest None None f l = refl
    same_latest None (Some h) f l =
        let e = entry_of h l.among in absurd (let impossible : true ≡ false = sym e.1 ∙ f (version h, Some (entry h)) e.0 in cc)
    same_latest (Some e) None f l =
        let w = writer_of e f.among f.passes in Contains-nil w.by (subst (λ hs. Contains hs w.by) l w.among)
    same_latest (Some e) (Some h) f l =
        let w = writer_of e f.among f.passes in
        let g = entry_of h l.among in
        let same : e.0 ≡ version h = same_from_neither e.0
        (version h) (f.last (version h, Some (entry h)) g.0 g.1) (ap (below (version h)) (sym w.at) ∙ l.last w.by w.among) in
        let told : Some w.slot ≡ Some (entry h) = sym (shows.to e.0 w.slot (subst (λ o. Contains es (e.0, o)) w.is f.among))
        ∙ ap (writer_at store.keys key) same ∙ shows.to (version h) (entry h) g.0 in
        let slot : w.slot ≡ entry h = cc in
        told_latest e.1 e.0 (version h) w.slot (entry h) w.is slot same

    pub latest_writer : IsStrictlySortedBy version_cmp (keys_of es)
        → Index.latest committed bound es ≡ held.latest_below (state committed) key bound all
    unfolding these pass
    latest_writer sorted =
        same_latest (Index.last_told committed bound es) (latest (filter these all))
        (last_found (λ e. is_told committed e.1) (λ e. range_contains version_cmp Unbounded (Excluded bound) e.0) es sorted)
        (latest_is (filter these all))

  -- ---- the answers of the store

  told_map : (i : KeyIndex) → index_of store.keys key ≡ Some i → (v : Version)
      → writer_at store.keys key v ≡ unwrap_or (get version_cmp i.writers.map v) None
  told_map i found v = ap (λ o. unwrap_or (option_and_then (λ (x : KeyIndex). slot_at x.writers v) o) None) found

  read_map : (i : KeyIndex) → index_of store.keys key ≡ Some i → (v : Version)
      → reader_at store.keys key v ≡ unwrap_or (get version_cmp i.readers.map v) None
  read_map i found v = ap (λ o. unwrap_or (option_and_then (λ (x : KeyIndex). slot_at x.readers v) o) None) found

  pub writers_found : (i : KeyIndex) (low high : Version) → index_of store.keys key ≡ Some i → IsOrdered version_cmp i.writers.map
      → Index.writers_between low high i.writers.map.entries ≡ held.writer_between key low high all
  writers_found i low high found ordered =
      writer_hits i.writers.map.entries low high (shows_map i.writers.map (writer_at store.keys key) ordered (told_map i found))

  pub no_writers : (low high : Version) → index_of store.keys key ≡ None
      → Index.writers_between low high [] ≡ held.writer_between key low high all
  no_writers low high none = writer_hits [] low high (shows_none (writer_at store.keys key)
      (λ v. ap (λ o. unwrap_or (option_and_then (λ (x : KeyIndex). slot_at x.writers v) o) None) none))

  pub readers_found : (i : KeyIndex) (at : Version) → index_of store.keys key ≡ Some i → IsOrdered version_cmp i.readers.map
      → Index.readers_across at i.readers.map.entries ≡ held.reader_across key at all
  readers_found i at found ordered =
      reader_hits i.readers.map.entries at (shows_map i.readers.map (reader_at store.keys key) ordered (read_map i found))

  pub no_readers : (at : Version) → index_of store.keys key ≡ None → Index.readers_across at [] ≡ held.reader_across key at all
  no_readers at none = reader_hits [] at (shows_none (reader_at store.keys key)
      (λ v. ap (λ o. unwrap_or (option_and_then (λ (x : KeyIndex). slot_at x.readers v) o) None) none))

  pub latest_found : (i : KeyIndex) (committed : Bool) (bound : Version) → index_of store.keys key ≡ Some i
      → IsOrdered version_cmp i.writers.map
      → Index.latest committed bound i.writers.map.entries ≡ held.latest_below (state committed) key bound all
  latest_found i committed bound found ordered = latest_writer i.writers.map.entries committed bound
      (shows_map i.writers.map (writer_at store.keys key) ordered (told_map i found)) ordered

  pub no_latest : (committed : Bool) (bound : Version) → index_of store.keys key ≡ None
      → Index.latest committed bound [] ≡ held.latest_below (state committed) key bound all
  unfolding IsStrictlySortedBy
  no_latest committed bound none = latest_writer [] committed bound (shows_none (writer_at store.keys key)
      (λ v. ap (λ o. unwrap_or (option_and_then (λ (x : KeyIndex). slot_at x.writers v) o) None) none)) tt
