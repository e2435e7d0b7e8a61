-- Batches.
use Rattle.std.specs.Prelude.{ℕ, ◌==◌, nat_le, nat_lt, List, length, ◌||◌, Option, Some, None, if◌then◌else◌}
use Rattle.batch_sign.specs.Trees.{most_messages}
use Rattle.batch_sign.specs.declared.batch.BatchFault.{BatchFault}
use Rattle.batch_sign.specs.declared.batch.BatchFault.TheVariants.{Full, SizeOut, Empty, Exhausted}

-- the most bytes of a message
abbrev pub longest_message : ℕ
longest_message = 8192

-- why a message isn't added: there are 256, or it has no byte, or more than 8,192
abbrev pub add_fault : (messages : List (List ℕ)) (message : List ℕ) → Option BatchFault
add_fault messages message =
    if nat_le most_messages (length messages) then Some Full
    else if nat_lt (length message) 1 || nat_lt longest_message (length message) then Some SizeOut
    else None

-- why messages aren't signed: there is none, or the pen has no signature left
abbrev pub sign_fault : (messages : List (List ℕ)) (left : ℕ) → Option BatchFault
sign_fault messages left =
    if length messages == 0 then Some Empty
    else if left == 0 then Some Exhausted
    else None
