-- What the walks over carried pairs and transactions have left.
use Rattle.std.specs.Prelude.{List, ◌++◌, map, option_map}
use Rattle.basil_types.specs.Shown.{transaction_of}
use Rattle.basil_types.specs.Transaction.{TransactionValue}
use Rattle.frame_views.specs.declared.carried.walks.PairItem.{PairItem}
use Rattle.frame_views.specs.declared.carried.walks.Pairs.{Pairs}
use Rattle.frame_views.specs.declared.carried.walks.Transactions.{Transactions}
use Rattle.frame_views.specs.Carried.{paired, maybe_one}
use Rattle.frame_views.specs.Shown.{certificate_of}
use Rattle.frame_views.specs.Values.{PairValue}

abbrev pub pair_of : PairItem → PairValue
pair_of p = record { transaction = transaction_of p.transaction; certificate = certificate_of p.certificate }

abbrev pub pairs_left : Pairs → List PairValue
pairs_left w = maybe_one (option_map pair_of w.outer) ++ maybe_one (option_map pair_of w.inner)

abbrev pub transactions_left : Transactions → List TransactionValue
transactions_left w = map paired (pairs_left w.pairs) ++ maybe_one (option_map transaction_of w.bare)
