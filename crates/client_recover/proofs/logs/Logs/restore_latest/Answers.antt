use Rattle.std.proofs.Common.{ℕ, List, None, Some, refl, ap}
use Rattle.std.specs.Map.{lookup}
use Rattle.std.specs.Prelude.{nat_eq}
use Rattle.frame_values.specs.declared.owned.parts.InvokePart.{InvokePart}
use Rattle.client_recover.specs.Writable.{IsLatest}
use Rattle.client_recover.proofs.FitLaws.{for_one, for_none}
use Rattle.client_recover.proofs.SoundLaws.{either_way, sound_restored, sound_unchanged}
use Rattle.client_recover.proofs.logs.Logs.restore_latest.Goals as goal

pub returns-in-New-clause-sound : goal.returns-in-New-clause-sound
returns-in-New-clause-sound c sound puts =
    sound_restored c.args.self.now _ c.args.replica None refl c.swap_remove.ensures.updates.0 (for_none (IsLatest c.args.replica)) sound

pub returns-in-Replaced-clause-sound : goal.returns-in-Replaced-clause-sound
returns-in-Replaced-clause-sound c sound puts =
    either_way c.insert.result c.insert.ensures.updates c.insert.ensures.err
    (λ updates. sound_restored c.args.self.now _ c.args.replica (Some c.in-Replaced.part) refl updates.0
    (for_one (IsLatest c.args.replica) c.in-Replaced.part (puts c.in-Replaced.part c.in-Replaced.is)) sound)
    (λ same. sound_unchanged c.args.self.now _ refl (λ n. ap (λ (es : List (ℕ × InvokePart)). lookup (nat_eq n) es) same) sound)
