use Rattle.std.proofs.Common.{rules}
use Rattle.batch_sign.proofs.SealLaws.{sealed-as, written}
use Rattle.batch_sign.proofs.sealed.seal.Goals as goal

pub invariant_of-result : goal.invariant_of-result
invariant_of-result g c =
    sealed-as _ c.put_all.new.out _ c.deref-2.ensures.value c.deref-4.ensures.value c.requires.most c.put_all.ensures.each
    c.put_all.ensures.bytes (written c.in_ok-bytes.bytes.len c.put_all.new.out c.in_ok-bytes.bytes.items (search rules) (search rules))
