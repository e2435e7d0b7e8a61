-- Borrowed reads and writes, without where they lie in memory.
use Rattle.basil_types.specs.declared.transaction.parts.ReadPart.{ReadPart}
use Rattle.basil_types.specs.declared.transaction.parts.WritePart.{WritePart}
use Rattle.basil_types.specs.declared.transaction.parts.ReadItem.{ReadItem}
use Rattle.basil_types.specs.declared.transaction.parts.WriteItem.{WriteItem}

abbrev pub read_of : ReadItem → ReadPart
read_of r = record { key = (r.key).now; version = r.version; dependency = r.dependency }

abbrev pub write_of : WriteItem → WritePart
write_of w = record { key = (w.key).now; value = (w.value).now; deletes = w.deletes }
