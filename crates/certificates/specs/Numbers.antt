-- The numbers of refusals.
use Rattle.std.specs.Prelude.{ℕ}
use Rattle.certificates.specs.declared.refusal.CertRefusal.{CertRefusal}
use Rattle.certificates.specs.declared.refusal.CertRefusal.TheVariants.{WrongId, Mixed, NotInvolved, Few}
use Rattle.certificates.specs.declared.refusal.CertRefusal.TheVariants.{NoConflict, BadSignature}

abbrev pub number_of : CertRefusal → ℕ
number_of WrongId = 1
number_of Mixed = 2
number_of (NotInvolved shard) = 3
number_of (Few count needed) = 4
number_of NoConflict = 5
number_of (BadSignature place) = 6
