-- What the views inside of a transaction show.
use Rattle.std.specs.Prelude.{List, []}
use Rattle.basil_types.specs.declared.transaction.parts.ReadPart.{ReadPart}
use Rattle.basil_types.specs.declared.transaction.parts.WritePart.{WritePart}
use Rattle.basil_types.specs.declared.transaction.lists.Front.{Front}
use Rattle.basil_types.specs.declared.transaction.lists.ReadsView.{ReadsView}
use Rattle.basil_types.specs.declared.transaction.lists.WritesView.{WritesView}
use Rattle.basil_types.specs.declared.transaction.lists.Parts.{Parts}
use Rattle.basil_types.specs.Lists.{items_at, list_of}
use Rattle.basil_types.specs.Parsed.{Head, read_at, write_at}
use Rattle.basil_types.specs.Transaction.{TransactionValue, key_of_read, key_of_write}

abbrev pub head_of : Front → Head
head_of h = record { format = h.format; time = h.time; client = h.client }

abbrev pub reads_of : ReadsView → List ReadPart
reads_of v = list_of (items_at read_at key_of_read v.count [] (v.bytes).now)

abbrev pub writes_of : WritesView → List WritePart
writes_of v = list_of (items_at (write_at v.format) key_of_write v.count [] (v.bytes).now)

abbrev pub whole_of : Parts → TransactionValue
whole_of p =
    record {
      format = p.front.format;
      time = p.front.time;
      client = p.front.client;
      reads = reads_of p.reads;
      writes = writes_of p.writes;
    }
