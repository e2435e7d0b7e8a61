-- What holds of the marks of every message.
use Rattle.std.specs.Prelude.{◌≡◌, Option, Some, None, filter_map}
use Rattle.basil_types.specs.Transaction.{TransactionValue}
use Rattle.frame_views.specs.Carried.{transactions_in}
use Rattle.frame_views.specs.Signed.{SignedBy, signed_in}
use Rattle.frame_views.specs.Values.{MessageValue}
use Rattle.premise_watch.specs.Marks.{MarkValue, Signature, Text, marks}

abbrev pub signature_of : MarkValue → Option SignedBy
signature_of (Signature signed) = Some signed
signature_of (Text transaction) = None

abbrev pub text_of : MarkValue → Option TransactionValue
text_of (Signature signed) = None
text_of (Text transaction) = Some transaction

-- the marks are the message's signatures and its transactions, each in its order
pub record MarksTellBoth : Type 0 where
  pub signatures : (m : MessageValue) → filter_map signature_of (marks m) ≡ signed_in m
  pub texts : (m : MessageValue) → filter_map text_of (marks m) ≡ transactions_in m
