-- Room, and what a store stands for.
use Rattle.std.proofs.Common.{◌≡◌, ℕ, ◌+◌, ◌≤◌, List, length, take, Some, Result, Ok, Err, sym, ap, subst, ◌∙◌}
use Rattle.std.specs.Prelude.{All, IsSome, OnOk, slice_get}
use Rattle.std.proofs.lemmas.List.Elements.{All-push, All-weaker}
use Rattle.basil_types.specs.declared.version.Version.{Version}
use Rattle.basil_types.specs.Transaction.{TransactionValue, version_of}
use Rattle.mv_store.proofs.Searches.{take_more, take_all}
use Rattle.mv_store.specs.declared.store.Store.{Store}
use Rattle.mv_store.specs.Keys.{OnlyRoom, writer_slot, reader_slot}
use Rattle.mv_store.specs.Held.{Held, NotedRead, version}
use Rattle.mv_store.specs.Noted.{is_above}
use Rattle.mv_store.specs.Store.{Stands, HasRoom}

pub stands_with_room : (old new : Store) (held : List Held) (noted : List NotedRead) → OnlyRoom old.keys new.keys → Stands old held noted
    → Stands new held noted
stands_with_room old new held noted room s =
    record {
      written = λ h key among writes. room.writers key (version h) ∙ s.written h key among writes;
      writers = λ key v e told. s.writers key v e (sym (room.writers key v) ∙ told);
      read = λ h r among reads. room.readers r.key (version h) ∙ s.read h r among reads;
      readers = λ key v e told. s.readers key v e (sym (room.readers key v) ∙ told);
      behind = λ key time client. ap (λ o. is_above o (time, client)) (room.noted key) ∙ s.behind key time client;
    }

-- ---- a walk along the items of a transaction

pub room_more : {X : Type 0} (P Q : X → Type 0) (xs : List X) (i : ℕ) (x : X) → slice_get xs i ≡ Some x → ((y : X) → P y → Q y) → Q x
    → All P (take i xs) → All Q (take (i + 1) xs)
room_more P Q xs i x at kept here room =
    subst (All Q) (sym (take_more xs i x at)) (All-push Q (take i xs) x (All-weaker P Q kept (take i xs) room) here)

pub room_all : {X : Type 0} (P : X → Type 0) (xs : List X) (i : ℕ) → length xs ≤ i → All P (take i xs) → All P xs
room_all P xs i h room = subst (All P) (take_all xs i h) room

pub on_ok : {T E A B : Type 0} (r : Result T E) → (A → B) → OnOk r A → OnOk r B
on_ok (Ok x) f h = f h
on_ok (Err e) f h = h

-- the room of the writes stays while that of the reads is made
pub room_of_both : (middle new : Store) (t : TransactionValue) (v : Version) → v ≡ version_of t → OnlyRoom middle.keys new.keys
    → All (λ w. IsSome (writer_slot middle.keys w.key v)) t.writes
    → All (λ r. IsSome (reader_slot new.keys r.key v)) t.reads
    → HasRoom new t
room_of_both middle new t v same more writes reads =
    record {
      writes = subst (λ z. All (λ w. IsSome (writer_slot new.keys w.key z)) t.writes) same (All-weaker (λ w. IsSome (writer_slot middle.keys
          w.key v)) (λ w. IsSome (writer_slot new.keys w.key v)) (λ w h. more.writer_slots w.key v h) t.writes writes);
      reads = subst (λ z. All (λ r. IsSome (reader_slot new.keys r.key z)) t.reads) same reads;
    }
