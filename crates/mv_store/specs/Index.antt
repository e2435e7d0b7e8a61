-- The index of one key.
use Rattle.std.specs.Prelude.{ℕ, List, Bool, true, false, not, Option, Some, None, option_map}
use Rattle.std.specs.Prelude.{option_and_then, find, reverse, is_some, min, if◌then◌else◌}
use Rattle.std.specs.List.{list_any, filter_map, reduce, fold}
use Rattle.std.specs.BTreeMap.Range.{entries_between}
use Rattle.std.specs.declared.ops.Bound.TheVariants.{Excluded, Unbounded}
use Rattle.basil_types.specs.Version.{version_cmp, below}
use Rattle.basil_types.specs.declared.version.Version.{Version}
use Rattle.mv_store.specs.declared.index.Entered.{Entered}
use Rattle.mv_store.specs.declared.index.Reader.{Reader}
use Rattle.mv_store.specs.declared.hits.Hits.{Hits}
use Rattle.mv_store.specs.Hits.{no_hits, joined}

-- the place of a committed one
abbrev pub place_if_committed : Entered → Option ℕ
place_if_committed e = if e.committed then Some e.place else None

-- the place of a committed writer
abbrev pub committed_place : Option Entered → Option ℕ
committed_place slot = option_and_then place_if_committed slot

-- whether a slot tells of a reader that read the key below a version
abbrev pub reads_below : Version → Option Reader → Bool
reads_below at None = false
reads_below at (Some r) = below r.read at

-- the place of a committed one of those
abbrev pub committed_place_below : Version → Option Reader → Option ℕ
committed_place_below at None = None
committed_place_below at (Some r) = if below r.read at then place_if_committed r.entered else None

-- whether a slot tells of a committed, or of a prepared transaction
abbrev pub is_told : Bool → Option Entered → Bool
is_told committed None = false
is_told true (Some e) = e.committed
is_told false (Some e) = not e.committed

-- what one slot tells of a writer, and of a reader that read the key below a version
abbrev pub writer_hit : Option Entered → Hits
writer_hit slot = record { any = is_some slot; committed = committed_place slot }

abbrev pub reader_hit : Version → Option Reader → Hits
reader_hit at slot = record { any = reads_below at slot; committed = committed_place_below at slot }

-- what all of these slots tell
abbrev pub walked : {T : Type 0} → (Option T → Hits) → List (Version × Option T) → Hits
walked hit slots = fold (λ found e. joined found (hit e.1)) no_hits slots

-- the slots at versions below one
abbrev pub slots_below : Version → List (Version × Option Entered) → List (Version × Option Entered)
slots_below bound entries = entries_between version_cmp Unbounded (Excluded bound) entries

-- what is told of a writer in a slot
abbrev pub version_and_place : Version × Option Entered → Option (Version × ℕ)
version_and_place e = option_map (λ x. (e.0, x.place)) e.1

-- the last slot below a version that tells of a committed, or of a prepared transaction
abbrev pub last_told : Bool → Version → List (Version × Option Entered) → Option (Version × Option Entered)
last_told committed bound entries = find (λ e. is_told committed e.1) (reverse (slots_below bound entries))

-- the version and the place of that one
abbrev pub latest : Bool → Version → List (Version × Option Entered) → Option (Version × ℕ)
latest committed bound entries = option_and_then version_and_place (last_told committed bound entries)

-- the slots at versions strictly between two
abbrev pub slots_between : {T : Type 0} → Version → Version → List (Version × Option T) → List (Version × Option T)
slots_between low high entries = entries_between version_cmp (Excluded low) (Excluded high) entries

-- the slots at versions above one
abbrev pub slots_above : {T : Type 0} → Version → List (Version × Option T) → List (Version × Option T)
slots_above low entries = entries_between version_cmp (Excluded low) Unbounded entries

-- whether there is a writer, and the least place of a committed one
abbrev pub has_writer_between : Version → Version → List (Version × Option Entered) → Bool
has_writer_between low high entries = list_any (λ e. is_some e.1) (slots_between low high entries)

abbrev pub least_committed_between : Version → Version → List (Version × Option Entered) → Option ℕ
least_committed_between low high entries =
    reduce min (filter_map (λ e. committed_place e.1) (slots_between low high entries))

-- both, of the writers strictly between two versions
abbrev pub writers_between : Version → Version → List (Version × Option Entered) → Hits
writers_between low high entries =
    record { any = has_writer_between low high entries; committed = least_committed_between low high entries }

-- whether there is a reader above a version that read the key below it, and the least place of a committed one
abbrev pub has_reader_across : Version → List (Version × Option Reader) → Bool
has_reader_across at entries = list_any (λ e. reads_below at e.1) (slots_above at entries)

abbrev pub least_committed_across : Version → List (Version × Option Reader) → Option ℕ
least_committed_across at entries =
    reduce min (filter_map (λ e. committed_place_below at e.1) (slots_above at entries))

-- both, of those readers
abbrev pub readers_across : Version → List (Version × Option Reader) → Hits
readers_across at entries =
    record { any = has_reader_across at entries; committed = least_committed_across at entries }
