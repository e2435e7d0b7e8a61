-- Entered transactions and noted reads, and what is searched for among them.
use Rattle.std.specs.Prelude.{◌≡◌, ℕ, Bool, not, List, [], ◌∷◌, ◌++◌, Option, None, Some}
use Rattle.std.specs.Prelude.{option_map, filter, map, min, ◌&&◌, if◌then◌else◌, Contains}
use Rattle.std.specs.List.{list_any, reduce}
use Rattle.std.specs.Str.{bytes_eq}
use Rattle.basil_types.specs.declared.version.Version.{Version}
use Rattle.basil_types.specs.Version.{below, is_between, same_version}
use Rattle.basil_types.specs.Transaction.{TransactionValue, version_of, writes_key}
use Rattle.mv_store.specs.declared.hits.Hits.{Hits}
use Rattle.mv_store.specs.Noted.{comes_before, greatest}

-- an entered transaction, at its place in order of arrival
pub record Held : Type 0 where
  pub place : ℕ
  pub committed : Bool
  pub transaction : TransactionValue

pub record NotedRead : Type 0 where
  pub key : List ℕ
  pub time : ℕ
  pub client : ℕ

abbrev pub version : Held → Version
version h = version_of h.transaction

abbrev pub is_committed : Held → Bool
is_committed h = h.committed

abbrev pub is_prepared : Held → Bool
is_prepared h = not h.committed

-- ---- the latest

-- the one of the greater version
abbrev pub later : Held → Option Held → Held
later h None = h
later h (Some other) = if below (version h) (version other) then other else h

-- the one of the greatest version
abbrev pub latest : List Held → Option Held
latest [] = None
latest (h ∷ held) = Some (later h (latest held))

abbrev pub version_and_place : Held → Version × ℕ
version_and_place h = (version h, h.place)

-- the latest of these that writes or deletes the key at a version below this one
abbrev pub latest_below : (Held → Bool) → List ℕ → Version → List Held → Option (Version × ℕ)
latest_below these key bound held =
    option_map version_and_place
    (latest (filter (λ h. these h && (writes_key h.transaction key && below (version h) bound)) held))

abbrev pub latest_committed : List ℕ → Version → List Held → Option (Version × ℕ)
latest_committed = latest_below is_committed

abbrev pub latest_prepared : List ℕ → Version → List Held → Option (Version × ℕ)
latest_prepared = latest_below is_prepared

-- ---- hits

-- whether there is one of these, and the least place of a committed one
abbrev pub hits : (Held → Bool) → List Held → Hits
hits these held =
    record {
      any = list_any these held;
      committed = reduce min (map (λ h. h.place) (filter (λ h. h.committed && these h) held));
    }

-- those that write or delete the key at a version strictly between
abbrev pub writer_between : List ℕ → Version → Version → List Held → Hits
writer_between key low high held = hits (λ h. writes_key h.transaction key && is_between low (version h) high) held

-- whether it reads the key at a version below this one
abbrev pub reads_key_below : List ℕ → Version → TransactionValue → Bool
reads_key_below key at t = list_any (λ r. bytes_eq r.key key && below r.version at) t.reads

-- those of a version above that read the key at a version below
abbrev pub reader_across : List ℕ → Version → List Held → Hits
reader_across key at held = hits (λ h. below at (version h) && reads_key_below key at h.transaction) held

-- ---- noted reads

-- whether a read of the key is noted that comes behind this time and client
abbrev pub read_above : List ℕ → ℕ → ℕ → List NotedRead → Bool
read_above key time client noted =
    list_any (λ n. bytes_eq n.key key && comes_before (time, client) (n.time, n.client)) noted

-- the greatest noted read of a key
abbrev pub greatest_noted : List ℕ → List NotedRead → Option (ℕ × ℕ)
greatest_noted key [] = None
greatest_noted key (n ∷ noted) =
    if bytes_eq n.key key then Some (greatest (greatest_noted key noted) (n.time, n.client))
    else greatest_noted key noted

-- ---- changes

-- the entered transactions of other versions
abbrev pub removed : List Held → TransactionValue → List Held
removed held t = filter (λ h. not (same_version (version_of t) (version h))) held

-- the others, and this one
abbrev pub entered : List Held → TransactionValue → ℕ → Bool → List Held
entered held t place committed =
    removed held t ++ (record { place = place; committed = committed; transaction = t }) ∷ []

-- no other transaction of its version is entered
abbrev pub NoOther : List Held → TransactionValue → Type 0
NoOther held t = (h : Held) → Contains held h → version h ≡ version_of t → h.transaction ≡ t
