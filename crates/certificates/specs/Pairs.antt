-- What a pair in the code stands for.
use Rattle.frame_views.specs.Shown.{body_of}
use Rattle.basil_types.specs.Shown.{transaction_of}
use Rattle.certificates.specs.declared.pair.Pair.{Pair}
use Rattle.frame_views.specs.Values.{PairValue}

abbrev pub pair_of : Pair → PairValue
pair_of p =
    record {
      transaction = transaction_of p.transaction;
      certificate = record { id = p.id; body = body_of p.body };
    }
