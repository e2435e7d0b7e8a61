-- What answering with a fault says.
use Rattle.std.specs.Prelude.{⊤}
use Rattle.certificates.specs.declared.fault.FrameFault.{FrameFault}
use Rattle.certificates.specs.declared.fault.FrameFault.TheVariants.{BadFrame, NotMine, BadSignature, BadVersion}
use Rattle.certificates.specs.declared.fault.FrameFault.TheVariants.{BadCertificate, NoMemory}

-- the faults of what a frame says: neither of its bytes nor of memory
abbrev pub IsOfContents : FrameFault → Type 0
IsOfContents (BadFrame fault) = ⊥
IsOfContents NotMine = ⊤
IsOfContents BadSignature = ⊤
IsOfContents BadVersion = ⊤
IsOfContents (BadCertificate refusal) = ⊤
IsOfContents NoMemory = ⊥
