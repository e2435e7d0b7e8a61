-- What the search among readers finds.
use Rattle.std.specs.Prelude.{Bool, ◌&&◌}
use Rattle.std.specs.List.{list_any}
use Rattle.basil_types.specs.declared.transaction.parts.WritePart.{WritePart}
use Rattle.basil_types.specs.Transaction.{TransactionValue, version_of}
use Rattle.basil_types.specs.Version.{below}
use Rattle.txn_table.specs.declared.released.Home.{Home}
use Rattle.mv_store.specs.Held.{reads_key_below}
use Rattle.mvtso_check.specs.Verdict.{is_own}

-- the write is of a key of the shard, which the other, above, read at a version below
abbrev pub is_write_under : Home → (writer reader : TransactionValue) → WritePart → Bool
is_write_under home writer reader w =
    is_own home w.key && (below (version_of writer) (version_of reader)
    && reads_key_below w.key (version_of writer) reader)

abbrev pub writes_under : Home → (writer reader : TransactionValue) → Bool
writes_under home writer reader = list_any (is_write_under home writer reader) writer.writes
