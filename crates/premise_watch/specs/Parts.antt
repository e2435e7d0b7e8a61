-- The parts of a frame, in the order of the bytes.
use Rattle.std.specs.Prelude.{List, [], ◌∷◌, ◌++◌, Option, Some, None, option_map}
use Rattle.basil_types.specs.Shown.{transaction_of}
use Rattle.basil_types.specs.Transaction.{TransactionValue}
use Rattle.frame_views.specs.Signed.{SignedBy}
use Rattle.frame_views.specs.Values.{BodyValue, Commits, FastAbort, ConflictAbort}
use Rattle.frame_views.specs.Walks.{signed_of, signed_left}
use Rattle.frame_views.specs.declared.signed.item.SignedItem.{SignedItem}
use Rattle.premise_watch.specs.declared.parts.Parts.{Parts}
use Rattle.premise_watch.specs.Marks.{MarkValue, Signature, Text, as_marks, maybe_text}

abbrev pub maybe_signature : Option SignedItem → List MarkValue
maybe_signature None = []
maybe_signature (Some item) = Signature (signed_of item) ∷ []

-- what a walk over the parts looks at
abbrev pub parts_marks : Parts → List MarkValue
parts_marks p =
    (maybe_text (option_map transaction_of p.first) ++ maybe_signature p.own)
    ++ (maybe_text (option_map transaction_of p.rival)
    ++ (as_marks (signed_left p.signed)
    ++ (maybe_text (option_map transaction_of p.prepared) ++ maybe_signature p.last)))

-- the rival that a conflict abort names
abbrev pub rival_of : BodyValue → Option TransactionValue
rival_of (Commits body) = None
rival_of (FastAbort tally) = None
rival_of (ConflictAbort c) = Some c.other

-- signatures, the first of which stands before a rival
abbrev pub around : Option TransactionValue → List SignedBy → List MarkValue
around None signed = as_marks signed
around (Some rival) [] = Text rival ∷ []
around (Some rival) (g ∷ signed) = Signature g ∷ Text rival ∷ as_marks signed
