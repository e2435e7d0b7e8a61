-- Four bytes are read, one after another, unless the connection ends before.
use Rattle.std.proofs.Common.{Some, ap}
use Rattle.node_link.proofs.AskingLaws.{count_0, count_1, count_2, count_3, count_4, byte_first, none_of, open_as, open_byte}
use Rattle.node_link.proofs.asking.read_count.Goals as goal

pub returns-in_default-clause-count : goal.returns-in_default-clause-count
returns-in_default-clause-count g c s bytes left =
    count_0 s _ bytes (none_of s bytes _ _ (c.in_ok-first.ensures.byte s bytes left) c.in_default.is)

pub returns-in_default-clause-stays : goal.returns-in_default-clause-stays
returns-in_default-clause-stays g c s bytes left = open_byte s bytes _ _ (c.in_ok-first.ensures.byte s bytes left)

pub returns-in_err-second-clause-stays : goal.returns-in_err-second-clause-stays
returns-in_err-second-clause-stays g c s bytes left =
    let b1 = byte_first s bytes _ _ _ (c.in_ok-first.ensures.byte s bytes left) c.in-Some.is in
    open_as s _ _ b1.rest b1.left c.in_err-second.ensures.as_before

pub returns-in_default-2-clause-count : goal.returns-in_default-2-clause-count
returns-in_default-2-clause-count g c s bytes left =
    let b1 = byte_first s bytes _ _ _ (c.in_ok-first.ensures.byte s bytes left) c.in-Some.is in
    count_1 s _ bytes b1.rest _ b1.is (none_of s b1.rest _ _ (c.in_ok-second.ensures.byte s b1.rest b1.left) c.in_default-2.is)

pub returns-in_default-2-clause-stays : goal.returns-in_default-2-clause-stays
returns-in_default-2-clause-stays g c s bytes left =
    let b1 = byte_first s bytes _ _ _ (c.in_ok-first.ensures.byte s bytes left) c.in-Some.is in
    open_byte s b1.rest _ _ (c.in_ok-second.ensures.byte s b1.rest b1.left)

pub returns-in_err-third-clause-stays : goal.returns-in_err-third-clause-stays
returns-in_err-third-clause-stays g c s bytes left =
    let b1 = byte_first s bytes _ _ _ (c.in_ok-first.ensures.byte s bytes left) c.in-Some.is in
    let b2 = byte_first s b1.rest _ _ _ (c.in_ok-second.ensures.byte s b1.rest b1.left) c.in-Some-2.is in
    open_as s _ _ b2.rest b2.left c.in_err-third.ensures.as_before

pub returns-in_default-3-clause-count : goal.returns-in_default-3-clause-count
returns-in_default-3-clause-count g c s bytes left =
    let b1 = byte_first s bytes _ _ _ (c.in_ok-first.ensures.byte s bytes left) c.in-Some.is in
    let b2 = byte_first s b1.rest _ _ _ (c.in_ok-second.ensures.byte s b1.rest b1.left) c.in-Some-2.is in
    count_2 s _ bytes b1.rest b2.rest _ _ b1.is b2.is
    (none_of s b2.rest _ _ (c.in_ok-third.ensures.byte s b2.rest b2.left) c.in_default-3.is)

pub returns-in_default-3-clause-stays : goal.returns-in_default-3-clause-stays
returns-in_default-3-clause-stays g c s bytes left =
    let b1 = byte_first s bytes _ _ _ (c.in_ok-first.ensures.byte s bytes left) c.in-Some.is in
    let b2 = byte_first s b1.rest _ _ _ (c.in_ok-second.ensures.byte s b1.rest b1.left) c.in-Some-2.is in
    open_byte s b2.rest _ _ (c.in_ok-third.ensures.byte s b2.rest b2.left)

pub returns-in_err-fourth-clause-stays : goal.returns-in_err-fourth-clause-stays
returns-in_err-fourth-clause-stays g c s bytes left =
    let b1 = byte_first s bytes _ _ _ (c.in_ok-first.ensures.byte s bytes left) c.in-Some.is in
    let b2 = byte_first s b1.rest _ _ _ (c.in_ok-second.ensures.byte s b1.rest b1.left) c.in-Some-2.is in
    let b3 = byte_first s b2.rest _ _ _ (c.in_ok-third.ensures.byte s b2.rest b2.left) c.in-Some-3.is in
    open_as s _ _ b3.rest b3.left c.in_err-fourth.ensures.as_before

pub returns-in_default-4-clause-count : goal.returns-in_default-4-clause-count
returns-in_default-4-clause-count g c s bytes left =
    let b1 = byte_first s bytes _ _ _ (c.in_ok-first.ensures.byte s bytes left) c.in-Some.is in
    let b2 = byte_first s b1.rest _ _ _ (c.in_ok-second.ensures.byte s b1.rest b1.left) c.in-Some-2.is in
    let b3 = byte_first s b2.rest _ _ _ (c.in_ok-third.ensures.byte s b2.rest b2.left) c.in-Some-3.is in
    count_3 s _ bytes b1.rest b2.rest b3.rest _ _ _ b1.is b2.is b3.is
    (none_of s b3.rest _ _ (c.in_ok-fourth.ensures.byte s b3.rest b3.left) c.in_default-4.is)

pub returns-in_default-4-clause-stays : goal.returns-in_default-4-clause-stays
returns-in_default-4-clause-stays g c s bytes left =
    let b1 = byte_first s bytes _ _ _ (c.in_ok-first.ensures.byte s bytes left) c.in-Some.is in
    let b2 = byte_first s b1.rest _ _ _ (c.in_ok-second.ensures.byte s b1.rest b1.left) c.in-Some-2.is in
    let b3 = byte_first s b2.rest _ _ _ (c.in_ok-third.ensures.byte s b2.rest b2.left) c.in-Some-3.is in
    open_byte s b3.rest _ _ (c.in_ok-fourth.ensures.byte s b3.rest b3.left)

pub returns-clause-count : goal.returns-clause-count
returns-clause-count g c s bytes left =
    let b1 = byte_first s bytes _ _ _ (c.in_ok-first.ensures.byte s bytes left) c.in-Some.is in
    let b2 = byte_first s b1.rest _ _ _ (c.in_ok-second.ensures.byte s b1.rest b1.left) c.in-Some-2.is in
    let b3 = byte_first s b2.rest _ _ _ (c.in_ok-third.ensures.byte s b2.rest b2.left) c.in-Some-3.is in
    let b4 = byte_first s b3.rest _ _ _ (c.in_ok-fourth.ensures.byte s b3.rest b3.left) c.in-Some-4.is in
    count_4 s _ bytes b1.rest b2.rest b3.rest b4.rest _ _ _ _ _ b1.is b2.is b3.is b4.is (ap Some c.from_be_bytes.ensures) b4.left

pub returns-clause-stays : goal.returns-clause-stays
returns-clause-stays g c s bytes left =
    let b1 = byte_first s bytes _ _ _ (c.in_ok-first.ensures.byte s bytes left) c.in-Some.is in
    let b2 = byte_first s b1.rest _ _ _ (c.in_ok-second.ensures.byte s b1.rest b1.left) c.in-Some-2.is in
    let b3 = byte_first s b2.rest _ _ _ (c.in_ok-third.ensures.byte s b2.rest b2.left) c.in-Some-3.is in
    open_byte s b3.rest _ _ (c.in_ok-fourth.ensures.byte s b3.rest b3.left)
