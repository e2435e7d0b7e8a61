-- What a store stands for once a transaction is entered or taken out, or a read is noted.
use Rattle.std.proofs.Common.{◌≡◌, ℕ, ◌⊎◌, inl, inr, Bool, true, false, List, [], ◌∷◌, Option, Some, None, refl, sym, ap, subst, ◌∙◌}
use Rattle.std.specs.Prelude.{◌&&◌, not, unwrap_or, option_map, Contains}
use Rattle.std.specs.List.{list_any}
use Rattle.std.specs.Str.{bytes_eq}
use Rattle.std.proofs.lemmas.List.Elements.{Contains-push, Contains-push_cases, Contains-append_left}
use Rattle.basil_types.specs.declared.version.Version.{Version}
use Rattle.basil_types.specs.declared.transaction.parts.ReadPart.{ReadPart}
use Rattle.basil_types.specs.declared.transaction.parts.WritePart.{WritePart}
use Rattle.basil_types.specs.Transaction.{TransactionValue, version_of}
use Rattle.basil_types.specs.Transaction.{writes_key}
use Rattle.mv_store.specs.declared.index.Entered.{Entered}
use Rattle.mv_store.specs.declared.index.Reader.{Reader}
use Rattle.mv_store.specs.declared.store.Store.{Store}
use Rattle.basil_types.specs.Version.{same_version}
use Rattle.mv_store.specs.Keys.{writer_at, reader_at}
use Rattle.mv_store.specs.Noted.{is_above}
use Rattle.mv_store.specs.Held.{Held, NotedRead, version, removed, entered, NoOther}
use Rattle.mv_store.specs.Changes.{Tells, reader_of}
use Rattle.mv_store.specs.Store.{Stands, IsWriter, IsReader, entry, read_entry}
use Rattle.basil_types.proofs.KeyLaws.{bytes_tell, bytes_same}
use Rattle.basil_types.proofs.VersionLaws.{same_exactly}
use Rattle.mv_store.proofs.VersionLaws.{and_parts}
use Rattle.mv_store.proofs.PutLaws.{both}
use Rattle.mv_store.proofs.Searches.{any_from, any_to, filter_from, filter_to}

and_false : (a b : Bool) → b ≡ false → (a && b) ≡ false
and_false true b h = h
and_false false b h = refl

not_true : (b : Bool) → not b ≡ true → b ≡ false
not_true true h = absurd cc
not_true false h = refl

-- at another version all is as before
module _ (old new : Store) (t : TransactionValue) (told : Option Entered) (tells : Tells old.keys new.keys t told) where
  writer_elsewhere : (key : List ℕ) (v : Version) → same_version (version_of t) v ≡ false
      → writer_at new.keys key v ≡ writer_at old.keys key v
  writer_elsewhere key v apart = ap (λ s. unwrap_or s None)
      (tells.writers.others key v (and_false (list_any (λ (w : WritePart). bytes_eq w.key key) t.writes) _ apart))

  reader_elsewhere : (key : List ℕ) (v : Version) → same_version (version_of t) v ≡ false
      → reader_at new.keys key v ≡ reader_at old.keys key v
  reader_elsewhere key v apart =
      ap (λ s. unwrap_or s None) (tells.readers.others key v (and_false (list_any (λ (r : ReadPart). bytes_eq r.key key) t.reads) _ apart))

  told_of : (o : Option Entered) → unwrap_or (option_map Some o) None ≡ o
  told_of None = refl
  told_of (Some e) = refl

  -- at its keys this is told
  writer_here : (key : List ℕ) → writes_key t key ≡ true → writer_at new.keys key (version_of t) ≡ told
  writer_here key writes =
      let f = any_to (λ (w : WritePart). bytes_eq w.key key) t.writes writes in
      ap (λ k. writer_at new.keys k (version_of t)) (sym (bytes_tell _ key f.passes))
      ∙ ap (λ s. unwrap_or s None) (tells.writers.put f.item f.among) ∙ told_of told

  read_told : (r : ReadPart) (o : Option Entered) → unwrap_or (option_map (λ e. Some (reader_of r e)) o) None ≡ option_map (reader_of r) o
  read_told r None = refl
  read_told r (Some e) = refl

  reader_here : (r : ReadPart) → Contains t.reads r → reader_at new.keys r.key (version_of t) ≡ option_map (reader_of r) told
  reader_here r reads = ap (λ s. unwrap_or s None) (tells.readers.put r reads) ∙ read_told r told

  -- what was told of others is of others
  module _ (held : List Held) (noted : List NotedRead) (s : Stands old held noted) (alone : NoOther held t) where
    among_removed : (h : Held) → Contains held h → same_version (version_of t) (version h) ≡ false → Contains (removed held t) h
    among_removed h among apart = filter_from (λ h'. not (same_version (version_of t) (version h'))) held h among (ap not apart)

    of_removed : (h : Held) → Contains (removed held t) h → Contains held h × (same_version (version_of t) (version h) ≡ false)
    of_removed h among = let f = filter_to (λ h'. not (same_version (version_of t) (version h'))) held h among in (f.0, not_true _ f.1)

    pub written_elsewhere : (h : Held) (key : List ℕ) → Contains (removed held t) h → writes_key h.transaction key ≡ true
        → writer_at new.keys key (version h) ≡ Some (entry h)
    written_elsewhere h key among writes =
        let f = of_removed h among in writer_elsewhere key (version h) f.1 ∙ s.written h key f.0 writes

    pub read_elsewhere : (h : Held) (r : ReadPart) → Contains (removed held t) h → Contains h.transaction.reads r
        → reader_at new.keys r.key (version h) ≡ Some (read_entry h r)
    read_elsewhere h r among reads =
        let f = of_removed h among in reader_elsewhere r.key (version h) f.1 ∙ s.read h r f.0 reads

    -- a writer that is told of is the transaction, or another one as before
    pub writer_cases : (key : List ℕ) (v : Version) (e : Entered) → writer_at new.keys key v ≡ Some e
        → ((writes_key t key ≡ true) × (version_of t ≡ v) × (told ≡ Some e)) ⊎ IsWriter (removed held t) key v e
    writer_cases key v e is = by (writes_key t key && same_version (version_of t) v) refl
      where
        by : (b : Bool) → (writes_key t key && same_version (version_of t) v) ≡ b
            → ((writes_key t key ≡ true) × (version_of t ≡ v) × (told ≡ Some e)) ⊎ IsWriter (removed held t) key v e
        by true q =
            let parts = and_parts (writes_key t key) (same_version (version_of t) v) q in
            let at = (same_exactly (version_of t) v).0 parts.1 in
            inl (parts.0, at, sym (writer_here key parts.0) ∙ ap (writer_at new.keys key) at ∙ is)
        by false q =
            let w = s.writers key v e (sym (ap (λ s. unwrap_or s None) (tells.writers.others key v q)) ∙ is) in
            inr (record {
              by = w.by;
              among = among_removed w.by w.among (apart w (same_version (version_of t) (version w.by)) refl);
              writes = w.writes;
              at = w.at;
              told = w.told;
            })
          where
            apart : (w : IsWriter held key v e) (c : Bool) → same_version (version_of t) (version w.by) ≡ c → c ≡ false
            apart w true r =
                let same = alone w.by w.among (sym ((same_exactly (version_of t) (version w.by)).0 r)) in
                let writes = ap (λ u. writes_key u key) (sym same) ∙ w.writes in
                let at = ap (same_version (version_of t)) (sym w.at) ∙ r in
                let impossible : true ≡ false = sym (both _ _ writes at) ∙ q in absurd cc
            apart w false r = refl

    pub reader_cases : (key : List ℕ) (v : Version) (e : Reader) → reader_at new.keys key v ≡ Some e
        → ((r : ReadPart) × Contains t.reads r × (r.key ≡ key) × (version_of t ≡ v)
        × (option_map (reader_of r) told ≡ Some e)) ⊎ IsReader (removed held t) key v e
    reader_cases key v e is = by (list_any (λ (r : ReadPart). bytes_eq r.key key) t.reads && same_version (version_of t) v) refl
      where
        by : (b : Bool) → (list_any (λ (r : ReadPart). bytes_eq r.key key) t.reads && same_version (version_of t) v) ≡ b
            → ((r : ReadPart) × Contains t.reads r × (r.key ≡ key) × (version_of t ≡ v)
            × (option_map (reader_of r) told ≡ Some e)) ⊎ IsReader (removed held t) key v e
        by true q =
            let parts = and_parts (list_any (λ (r : ReadPart). bytes_eq r.key key) t.reads) (same_version (version_of t) v) q in
            let at = (same_exactly (version_of t) v).0 parts.1 in
            let f = any_to (λ (r : ReadPart). bytes_eq r.key key) t.reads parts.0 in
            let of_key = bytes_tell _ key f.passes in
            inl (
              f.item,
              f.among,
              of_key,
              at,
              sym (reader_here f.item f.among) ∙ ap (λ k. reader_at new.keys k (version_of t)) of_key
                  ∙ ap (reader_at new.keys key) at ∙ is,
            )
        by false q =
            let w = s.readers key v e (sym (ap (λ s. unwrap_or s None) (tells.readers.others key v q)) ∙ is) in
            inr (record {
              by = w.by;
              among = among_removed w.by w.among (apart w (same_version (version_of t) (version w.by)) refl);
              read = w.read;
              reads = w.reads;
              of_key = w.of_key;
              at = w.at;
              told = w.told;
            })
          where
            apart : (w : IsReader held key v e) (c : Bool) → same_version (version_of t) (version w.by) ≡ c → c ≡ false
            apart w true r =
                let same = alone w.by w.among (sym ((same_exactly (version_of t) (version w.by)).0 r)) in
                let reads = subst (λ (u : TransactionValue). Contains u.reads w.read) same w.reads in
                let any = any_from (λ (x : ReadPart). bytes_eq x.key key) t.reads w.read reads (ap (λ k. bytes_eq k key) w.of_key
                ∙ bytes_same key) in
                let at = ap (same_version (version_of t)) (sym w.at) ∙ r in
                let impossible : true ≡ false = sym (both _ _ any at) ∙ q in absurd cc
            apart w false r = refl

pub stands_entered : (old new : Store) (t : TransactionValue) (place : ℕ) (committed : Bool) (held : List Held) (noted : List NotedRead)
    → Tells old.keys new.keys t (Some (record { place = place; committed = committed })) → Stands old held noted → NoOther held t
    → Stands new (entered held t place committed) noted
stands_entered old new t place committed held noted tells s alone =
    let e : Entered = record { place = place; committed = committed } in
    let x : Held = record { place = place; committed = committed; transaction = t } in
    record {
      written =
          λ h key among writes.
          elim (Contains-push_cases (removed held t) x h among) [
            | inl other ↦ written_elsewhere old new t (Some e) tells held noted s alone h key other writes
            | inr same ↦ subst (λ (h' : Held). writes_key h'.transaction key ≡ true
                → writer_at new.keys key (version h') ≡ Some (entry h')) same (λ w. writer_here old new t (Some e) tells key w) writes
          ];
      writers =
          λ key v e' is.
          elim (writer_cases old new t (Some e) tells held noted s alone key v e' is) [
            | inl this ↦ record {
              by = x;
              among = Contains-push (removed held t) x;
              writes = this.0;
              at = this.1;
              told = (let same : e
                  ≡ e' = cc (this.2) in same);
            }
            | inr w ↦ record {
              by = w.by;
              among = Contains-append_left (removed held t) (x ∷ []) w.by w.among;
              writes = w.writes;
              at = w.at;
              told = w.told;
            }
          ];
      read =
          λ h r among reads.
          elim (Contains-push_cases (removed held t) x h among) [
            | inl other ↦ read_elsewhere old new t (Some e) tells held noted s alone h r other reads
            | inr same ↦ subst (λ (h' : Held). Contains h'.transaction.reads r
                → reader_at new.keys r.key (version h')
                ≡ Some (read_entry h' r)) same (λ among'. reader_here old new t (Some e) tells r among') reads
          ];
      readers =
          λ key v e' is.
          elim (reader_cases old new t (Some e) tells held noted s alone key v e' is) [
            | inl this ↦ record {
              by = x;
              among = Contains-push (removed held t) x;
              read = this.0;
              reads = this.1;
              of_key = this.2;
              at = this.3;
              told = (let same : reader_of this.0 e ≡ e' = cc (this.4) in same);
            }
            | inr w ↦ record {
              by = w.by;
              among = Contains-append_left (removed held t) (x ∷ []) w.by w.among;
              read = w.read;
              reads = w.reads;
              of_key = w.of_key;
              at = w.at;
              told = w.told;
            }
          ];
      behind = λ key time client. ap (λ o. is_above o (time, client)) (tells.noted key) ∙ s.behind key time client;
    }

pub stands_removed : (old new : Store) (t : TransactionValue) (held : List Held) (noted : List NotedRead)
    → Tells old.keys new.keys t None → Stands old held noted → NoOther held t
    → Stands new (removed held t) noted
stands_removed old new t held noted tells s alone =
    record {
      written = λ h key among writes. written_elsewhere old new t None tells held noted s alone h key among writes;
      writers =
          λ key v e is.
          elim (writer_cases old new t None tells held noted s alone key v e is) [
            | inl this ↦ let never : None ≡ Some e = this.2 in absurd cc
            | inr w ↦ w
          ];
      read = λ h r among reads. read_elsewhere old new t None tells held noted s alone h r among reads;
      readers =
          λ key v e is.
          elim (reader_cases old new t None tells held noted s alone key v e is) [
            | inl this ↦ let never : None ≡ Some e = this.4 in absurd cc
            | inr w ↦ w
          ];
      behind = λ key time client. ap (λ o. is_above o (time, client)) (tells.noted key) ∙ s.behind key time client;
    }
