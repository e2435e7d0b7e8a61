-- What a store stands for decides by its elements alone; and there is room for them.
use Rattle.std.proofs.Common.{◌≡◌, List, get_or, Option, Some, None, refl, ap, ◌∙◌}
use Rattle.std.specs.Prelude.{◌&&◌, IsSome, is_some, unwrap_or, Contains}
use Rattle.std.specs.Str.{bytes_eq}
use Rattle.std.proofs.lemmas.List.Elements.{Contains-get_or}
use Rattle.basil_types.specs.declared.transaction.parts.WritePart.{WritePart}
use Rattle.basil_types.specs.Transaction.{TransactionValue}
use Rattle.mv_store.specs.declared.index.Entered.{Entered}
use Rattle.mv_store.specs.declared.store.Store.{Store}
use Rattle.mv_store.specs.Noted.{comes_before}
use Rattle.mv_store.specs.Held.{Held, NotedRead}
use Rattle.mv_store.specs.Changes.{Tells}
use Rattle.mv_store.specs.Store.{Stands, HasRoom, HaveSame}
use Rattle.basil_types.proofs.KeyLaws.{bytes_same}
use Rattle.mv_store.proofs.Searches.{any_same, any_from}

pub stands_by_elements : (store : Store) (held others : List Held) (noted other_reads : List NotedRead) → Stands store held noted
    → HaveSame held others → HaveSame noted other_reads → Stands store others other_reads
stands_by_elements store held others noted other_reads s same same_reads =
    record {
      written = λ h key among writes. s.written h key ((same h).1 among) writes;
      writers =
          λ key v e is.
          let w = s.writers key v e is in
          record { by = w.by; among = (same w.by).0 w.among; writes = w.writes; at = w.at; told = w.told };
      read = λ h r among reads. s.read h r ((same h).1 among) reads;
      readers =
          λ key v e is.
          let w = s.readers key v e is in
          record { by = w.by; among = (same w.by).0 w.among; read = w.read; reads = w.reads; of_key = w.of_key; at = w.at; told = w.told };
      behind =
          λ key time client.
          s.behind key time client
          ∙ any_same (λ (n : NotedRead). bytes_eq n.key key && comes_before (time, client) (n.time, n.client)) _ noted other_reads
          (λ f. record { item = f.item; among = (same_reads f.item).0 f.among; passes = f.passes })
          (λ f. record { item = f.item; among = (same_reads f.item).1 f.among; passes = f.passes });
    }

slot_of_told : {E : Type 0} (o : Option (Option E)) (x : E) → unwrap_or o None ≡ Some x → IsSome o
slot_of_told None x e = absurd cc
slot_of_told (Some o) x e = refl

pub room_of_entered : (store : Store) (held : List Held) (noted : List NotedRead) (h : Held) → Stands store held noted → Contains held h
    → HasRoom store h.transaction
room_of_entered store held noted h s among =
    record {
      writes =
          λ k d lt.
          let w : WritePart = get_or (h.transaction).writes k d in
          slot_of_told _ _ (s.written h w.key among (any_from (λ (x : WritePart). bytes_eq x.key w.key)
          (h.transaction).writes w (Contains-get_or (h.transaction).writes k d lt) (bytes_same w.key)));
      reads = λ k d lt. slot_of_told _ _ (s.read h _ among (Contains-get_or (h.transaction).reads k d lt));
    }

pub room_of_told : (old new : Store) (t : TransactionValue) (e : Entered) → Tells old.keys new.keys t (Some e) → HasRoom new t
room_of_told old new t e tells =
    record {
      writes = λ k d lt. ap is_some (tells.writers.put _ (Contains-get_or t.writes k d lt));
      reads = λ k d lt. ap is_some (tells.readers.put _ (Contains-get_or t.reads k d lt));
    }
