-- What views show, and what iterators have left.
use Rattle.std.specs.Prelude.{List}
use Rattle.basil_types.specs.declared.transaction.view.TransactionView.{TransactionView}
use Rattle.basil_types.specs.declared.transaction.lists.ReadsIter.{ReadsIter}
use Rattle.basil_types.specs.declared.transaction.lists.WritesIter.{WritesIter}
use Rattle.basil_types.specs.declared.transaction.parts.ReadPart.{ReadPart}
use Rattle.basil_types.specs.declared.transaction.parts.WritePart.{WritePart}
use Rattle.basil_types.specs.Lists.{items_at, list_of}
use Rattle.basil_types.specs.Transaction.{TransactionValue, key_of_read, key_of_write}
use Rattle.basil_types.specs.Parsed.{transaction_in, read_at, write_at}
pub use Rattle.basil_types.specs.Items.{read_of, write_of}

abbrev pub transaction_of : TransactionView → TransactionValue
transaction_of t = transaction_in (t.bytes).now

abbrev pub reads_left : ReadsIter → List ReadPart
reads_left i = list_of (items_at read_at key_of_read i.left (i.before).now (i.rest).now)

abbrev pub writes_left : WritesIter → List WritePart
writes_left i = list_of (items_at (write_at i.format) key_of_write i.left (i.before).now (i.rest).now)
