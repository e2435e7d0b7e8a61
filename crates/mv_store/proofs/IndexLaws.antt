-- What one index that changes makes of the answers at all keys.
use Rattle.std.proofs.Common.{◌≡◌, ℕ, Bool, true, false, cond, List, [], ◌∷◌, ◌++◌, Option, Some, None, Vec, Global, refl, sym, ap, ◌∙◌}
use Rattle.std.specs.Prelude.{◌&&◌, IsSome, is_some, option_map, option_and_then, unwrap_or}
use Rattle.std.specs.Str.{bytes_eq}
use Rattle.std.specs.Map.{lookup, set_value}
use Rattle.basil_types.specs.declared.version.Version.{Version}
use Rattle.mv_store.specs.declared.index.Entered.{Entered}
use Rattle.mv_store.specs.declared.index.Reader.{Reader}
use Rattle.mv_store.specs.declared.index.KeyIndex.{KeyIndex}
use Rattle.mv_store.specs.declared.keys.Keys.{Keys}
use Rattle.basil_types.specs.Version.{same_version}
use Rattle.mv_store.specs.Slots.{slot_at, told_at, slot_after}
use Rattle.mv_store.specs.Keys.{index_of, HasKey, writer_slot, reader_slot, noted_of}
use Rattle.mv_store.specs.Keys.{writer_at, reader_at, OnlyRoom, PutsWriter, PutsReader, Notes}
use Rattle.mv_store.specs.Noted.{greatest}
use Rattle.basil_types.proofs.KeyLaws.{bytes_tell, lookup-set_value, lookup-push}

-- the index of this key is w, and each other key has the one that it had
pub record Indexes (old new : Keys) (key : List ℕ) (w : KeyIndex) : Type 0 where
  pub at : (k : List ℕ) → index_of new k ≡ cond (bytes_eq key k) (Some w) (index_of old k)

read_of : {A : Type 0} (g : KeyIndex → Option A) (w : KeyIndex) (o : Option KeyIndex) (b : Bool)
    → option_and_then g (cond b (Some w) o) ≡ cond b (g w) (option_and_then g o)
read_of g w o true = refl
read_of g w o false = refl

-- what is read of the indexes
changed : {A : Type 0} (g : KeyIndex → Option A) (old new : Keys) (key : List ℕ) (w : KeyIndex) → Indexes old new key w → (k : List ℕ)
    → option_and_then g (index_of new k) ≡ cond (bytes_eq key k) (g w) (option_and_then g (index_of old k))
changed g old new key w h k = ap (option_and_then g) (h.at k) ∙ read_of g w (index_of old k) (bytes_eq key k)

same_choice : {A : Type 0} (b : Bool) (x y z : A) → (b ≡ true → x ≡ y) → cond b x z ≡ cond b y z
same_choice true x y z h = h refl
same_choice false x y z h = refl

chosen : {A : Type 0} (b : Bool) (x y z : A) → (b ≡ true → x ≡ z) → (b ≡ false → y ≡ z) → cond b x y ≡ z
chosen true x y z h k = h refl
chosen false x y z h k = k refl

-- what is read as before at the key is read as before
unchanged : {A : Type 0} (g : KeyIndex → Option A) (old new : Keys) (key : List ℕ) (w : KeyIndex) → Indexes old new key w
    → g w ≡ option_and_then g (index_of old key) → (k : List ℕ) → option_and_then g (index_of new k) ≡ option_and_then g (index_of old k)
unchanged g old new key w h e k =
    changed g old new key w h k
    ∙ chosen (bytes_eq key k) (g w) _ _ (λ p. e ∙ ap (λ q. option_and_then g (index_of old q)) (bytes_tell key k p)) (λ p. refl)

nested : {A : Type 0} (b c : Bool) (x inner old : A) → (b ≡ true → inner ≡ old) → cond b (cond c x inner) old ≡ cond (b && c) x old
nested true true x inner old h = refl
nested true false x inner old h = h refl
nested false c x inner old h = refl

-- the slot of one version changes
replaced : {A : Type 0} (g : KeyIndex → Version
    → Option A) (old new : Keys) (key : List ℕ) (version : Version) (slot : Option A) (i w : KeyIndex) → index_of old key ≡ Some i
    → Indexes old new key w → ((v : Version) → g w v ≡ cond (same_version version v) slot (g i v)) → (k : List ℕ) (v : Version)
    → option_and_then (λ x. g x v) (index_of new k)
    ≡ cond (bytes_eq key k && same_version version v) slot (option_and_then (λ x. g x v) (index_of old k))
replaced g old new key version slot i w found h put k v =
    changed (λ x. g x v) old new key w h k
    ∙ ap (λ s. cond (bytes_eq key k) s (option_and_then (λ x. g x v) (index_of old k))) (put v)
    ∙ nested (bytes_eq key k) (same_version version v) slot (g i v) _ (λ p. ap (option_and_then (λ x. g x v)) (sym found
    ∙ ap (index_of old) (bytes_tell key k p)))

has : {A : Type 0} (b : Bool) (w : A) (o n : Option A) → n ≡ cond b (Some w) o → IsSome o → IsSome n
has true w o n e h = ap is_some e
has false w o n e h = ap is_some e ∙ h

has_keys : (old new : Keys) (key : List ℕ) (w : KeyIndex) → Indexes old new key w → (k : List ℕ) → HasKey old k → HasKey new k
has_keys old new key w h k there = has (bytes_eq key k) w (index_of old k) (index_of new k) (h.at k) there

-- ---- writers, readers and noted reads

pub puts_writer : (old new : Keys) (key : List ℕ) (version : Version) (told : Option Entered) (i w : KeyIndex) → index_of old key ≡ Some i
    → Indexes old new key w → ((v : Version) → slot_at w.writers v ≡ slot_after version (option_map Some told) v (slot_at i.writers v))
    → w.readers ≡ i.readers → w.noted ≡ i.noted → PutsWriter old new key version told
puts_writer old new key version told i w found h put readers noted =
    record {
      writers = replaced (λ x v. slot_at x.writers v) old new key version (option_map Some told) i w found h put;
      readers = λ k v. unchanged (λ x. slot_at x.readers v) old new key w h (ap (λ r. slot_at r v) readers
          ∙ sym (ap (option_and_then (λ x. slot_at x.readers v)) found)) k;
      noted = λ k. unchanged (λ x. x.noted) old new key w h (noted ∙ sym (ap (option_and_then (λ x. x.noted)) found)) k;
      keys = has_keys old new key w h;
    }

pub puts_reader : (old new : Keys) (key : List ℕ) (version : Version) (told : Option Reader) (i w : KeyIndex) → index_of old key ≡ Some i
    → Indexes old new key w → ((v : Version) → slot_at w.readers v ≡ slot_after version (option_map Some told) v (slot_at i.readers v))
    → w.writers ≡ i.writers → w.noted ≡ i.noted → PutsReader old new key version told
puts_reader old new key version told i w found h put writers noted =
    record {
      writers = λ k v. unchanged (λ x. slot_at x.writers v) old new key w h (ap (λ r. slot_at r v) writers
          ∙ sym (ap (option_and_then (λ x. slot_at x.writers v)) found)) k;
      readers = replaced (λ x v. slot_at x.readers v) old new key version (option_map Some told) i w found h put;
      noted = λ k. unchanged (λ x. x.noted) old new key w h (noted ∙ sym (ap (option_and_then (λ x. x.noted)) found)) k;
      keys = has_keys old new key w h;
    }

pub notes : (old new : Keys) (key : List ℕ) (read : ℕ × ℕ) (i w : KeyIndex) → index_of old key ≡ Some i → Indexes old new key w
    → w.writers ≡ i.writers → w.readers ≡ i.readers → w.noted ≡ Some (greatest i.noted read) → Notes old new key read
notes old new key read i w found h writers readers noted =
    record {
      writers = λ k v. unchanged (λ x. slot_at x.writers v) old new key w h (ap (λ r. slot_at r v) writers
          ∙ sym (ap (option_and_then (λ x. slot_at x.writers v)) found)) k;
      readers = λ k v. unchanged (λ x. slot_at x.readers v) old new key w h (ap (λ r. slot_at r v) readers
          ∙ sym (ap (option_and_then (λ x. slot_at x.readers v)) found)) k;
      noted =
          λ k.
          changed (λ x. x.noted) old new key w h k
          ∙ ap (λ n. cond (bytes_eq key k) n (noted_of old k)) noted
          ∙ same_choice (bytes_eq key k) _ _ (noted_of old k)
          (λ p. ap (λ o. Some (greatest (option_and_then (λ x. x.noted) o) read)) (sym found ∙ ap (index_of old) (bytes_tell key k p)));
      keys = has_keys old new key w h;
    }

-- ---- room

told_as_before : {A : Type 0} (g : KeyIndex → Option (Option A)) (old new : Keys) (key : List ℕ) (w : KeyIndex) → Indexes old new key w
    → unwrap_or (g w) None ≡ unwrap_or (option_and_then g (index_of old key)) None → (k : List ℕ)
    → unwrap_or (option_and_then g (index_of new k)) None ≡ unwrap_or (option_and_then g (index_of old k)) None
told_as_before g old new key w h e k =
    ap (λ o. unwrap_or o None) (changed g old new key w h k)
    ∙ by (bytes_eq key k) (λ p. e ∙ ap (λ q. unwrap_or (option_and_then g (index_of old q)) None) (bytes_tell key k p))
  where
    by : (b : Bool) → (b ≡ true → unwrap_or (g w) None ≡ unwrap_or (option_and_then g (index_of old k)) None)
        → unwrap_or (cond b (g w) (option_and_then g (index_of old k))) None ≡ unwrap_or (option_and_then g (index_of old k)) None
    by true f = f refl
    by false f = refl

slots_kept : {A : Type 0} (g : KeyIndex → Option A) (old new : Keys) (key : List ℕ) (w : KeyIndex) → Indexes old new key w
    → (IsSome (option_and_then g (index_of old key)) → IsSome (g w)) → (k : List ℕ) → IsSome (option_and_then g (index_of old k))
    → IsSome (option_and_then g (index_of new k))
slots_kept g old new key w h kept k there = ap is_some (changed g old new key w h k)
    ∙ by (bytes_eq key k) (λ p. kept (ap (λ q. is_some (option_and_then g (index_of old q))) (bytes_tell key k p) ∙ there))
  where
    by : (b : Bool) → (b ≡ true → is_some (g w) ≡ true) → is_some (cond b (g w) (option_and_then g (index_of old k))) ≡ true
    by true f = f refl
    by false f = there

rooms : (old new : Keys) (key : List ℕ) (w : KeyIndex) → Indexes old new key w
    → ((v : Version) → told_at w.writers v ≡ writer_at old key v)
    → ((v : Version) → told_at w.readers v ≡ reader_at old key v)
    → w.noted ≡ noted_of old key
    → ((v : Version) → IsSome (writer_slot old key v) → IsSome (slot_at w.writers v))
    → ((v : Version) → IsSome (reader_slot old key v) → IsSome (slot_at w.readers v))
    → OnlyRoom old new
rooms old new key w h writers readers noted writer_slots reader_slots =
    record {
      writers = λ k v. told_as_before (λ x. slot_at x.writers v) old new key w h (writers v) k;
      readers = λ k v. told_as_before (λ x. slot_at x.readers v) old new key w h (readers v) k;
      noted = unchanged (λ x. x.noted) old new key w h noted;
      writer_slots = λ k v. slots_kept (λ x. slot_at x.writers v) old new key w h (writer_slots v) k;
      reader_slots = λ k v. slots_kept (λ x. slot_at x.readers v) old new key w h (reader_slots v) k;
      keys = has_keys old new key w h;
    }

pub more_room : (a b c : Keys) → OnlyRoom a b → OnlyRoom b c → OnlyRoom a c
more_room a b c p q =
    record {
      writers = λ k v. q.writers k v ∙ p.writers k v;
      readers = λ k v. q.readers k v ∙ p.readers k v;
      noted = λ k. q.noted k ∙ p.noted k;
      writer_slots = λ k v h. q.writer_slots k v (p.writer_slots k v h);
      reader_slots = λ k v h. q.reader_slots k v (p.reader_slots k v h);
      keys = λ k h. q.keys k (p.keys k h);
    }

pub rooms_for_writer : (old new : Keys) (key : List ℕ) (i w : KeyIndex) → index_of old key ≡ Some i → Indexes old new key w
    → ((v : Version) → told_at w.writers v ≡ told_at i.writers v)
    → ((v : Version) → IsSome (slot_at i.writers v) → IsSome (slot_at w.writers v)) → w.readers ≡ i.readers → w.noted ≡ i.noted
    → OnlyRoom old new
rooms_for_writer old new key i w found h told kept readers noted =
    rooms old new key w h
    (λ v. told v ∙ sym (ap (λ o. unwrap_or (option_and_then (λ x. slot_at x.writers v) o) None) found))
    (λ v. ap (λ r. told_at r v) readers ∙ sym (ap (λ o. unwrap_or (option_and_then (λ x. slot_at x.readers v) o) None) found))
    (noted ∙ sym (ap (option_and_then (λ x. x.noted)) found))
    (λ v there. kept v (sym (ap (λ o. is_some (option_and_then (λ x. slot_at x.writers v) o)) found) ∙ there))
    (λ v there. ap (λ r. is_some (slot_at r v)) readers ∙ sym (ap (λ o. is_some (option_and_then (λ x. slot_at x.readers v) o)) found)
    ∙ there)

pub rooms_for_reader : (old new : Keys) (key : List ℕ) (i w : KeyIndex) → index_of old key ≡ Some i → Indexes old new key w
    → ((v : Version) → told_at w.readers v ≡ told_at i.readers v)
    → ((v : Version) → IsSome (slot_at i.readers v) → IsSome (slot_at w.readers v)) → w.writers ≡ i.writers → w.noted ≡ i.noted
    → OnlyRoom old new
rooms_for_reader old new key i w found h told kept writers noted =
    rooms old new key w h
    (λ v. ap (λ r. told_at r v) writers ∙ sym (ap (λ o. unwrap_or (option_and_then (λ x. slot_at x.writers v) o) None) found))
    (λ v. told v ∙ sym (ap (λ o. unwrap_or (option_and_then (λ x. slot_at x.readers v) o) None) found))
    (noted ∙ sym (ap (option_and_then (λ x. x.noted)) found))
    (λ v there. ap (λ r. is_some (slot_at r v)) writers ∙ sym (ap (λ o. is_some (option_and_then (λ x. slot_at x.writers v) o)) found)
    ∙ there)
    (λ v there. kept v (sym (ap (λ o. is_some (option_and_then (λ x. slot_at x.readers v) o)) found) ∙ there))

-- a key gets an index in which nothing stands
pub rooms_for_key : (old new : Keys) (key : List ℕ) (w : KeyIndex) → index_of old key ≡ None → Indexes old new key w
    → ((v : Version) → slot_at w.writers v ≡ None) → ((v : Version) → slot_at w.readers v ≡ None) → w.noted ≡ None → OnlyRoom old new
rooms_for_key old new key w none h writers readers noted =
    rooms old new key w h
    (λ v. ap (λ o. unwrap_or o None) (writers v) ∙ sym (ap (λ o. unwrap_or (option_and_then (λ x. slot_at x.writers v) o) None) none))
    (λ v. ap (λ o. unwrap_or o None) (readers v) ∙ sym (ap (λ o. unwrap_or (option_and_then (λ x. slot_at x.readers v) o) None) none))
    (noted ∙ sym (ap (option_and_then (λ x. x.noted)) none))
    (λ v there. absurd (let h : false ≡ true = sym (ap (λ o. is_some (option_and_then (λ x. slot_at x.writers v) o)) none) ∙ there in cc))
    (λ v there. absurd (let h : false ≡ true = sym (ap (λ o. is_some (option_and_then (λ x. slot_at x.readers v) o)) none) ∙ there in cc))

-- ---- one value written, and one key more

pub written : (old new : Keys) (key : List ℕ) (i w : KeyIndex) → index_of old key ≡ Some i
    → new.map.entries ≡ set_value (λ k. bytes_eq key k.items) old.map.entries w → Indexes old new key w
written old new key i w found e =
    record {
      at = λ k. ap (lookup (λ x. bytes_eq k x.items)) e ∙ lookup-set_value (λ x. x.items) key k old.map.entries i w found;
    }

pub pushed : (old new : Keys) (key : List ℕ) (bytes : Vec ℕ Global) (w : KeyIndex) → bytes.items ≡ key → index_of old key ≡ None
    → new.map.entries ≡ old.map.entries ++ (bytes, w) ∷ [] → Indexes old new key w
pushed old new key bytes w is none e =
    record {
      at = λ k. ap (lookup (λ x. bytes_eq k x.items)) e ∙ lookup-push (λ x. x.items) key k old.map.entries bytes w is none;
    }
