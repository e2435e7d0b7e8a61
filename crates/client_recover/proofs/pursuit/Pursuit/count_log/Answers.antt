use Rattle.std.proofs.Common.{refl}
use Rattle.frame_views.specs.Fitting.{FitsLogReply}
use Rattle.frame_views.specs.declared.bounds.Bounds.{Bounds}
use Rattle.frame_views.specs.Shown.{log_reply_of}
use Rattle.frame_views.specs.Values.{LogReplyValue}
use Rattle.quorum_laws.specs.Numbers.{replicas}
use Rattle.client_recover.specs.Writable.{IsSound}
use Rattle.client_recover.proofs.SoundLaws.{below_same, either_way, sound_same, sound_last, shown_fits}
use Rattle.client_recover.proofs.TakeLaws.{counts_log, as_before}
use Rattle.client_recover.proofs.pursuit.Pursuit.count_log.Goals as goal

pub returns-in-Ok-clause-taken : goal.returns-in-Ok-clause-taken
returns-in-Ok-clause-taken c =
    counts_log c.args.self.now _ (log_reply_of c.args.reply.now) c.in_ok-last.last
    (record { transaction = refl; signature = refl; cluster = refl }) refl
    c.in_ok-last.ensures.holds c.in_ok-last.ensures.back refl c.requires.open c.in-Ok.ensures

pub returns-in-Err-clause-as_before : goal.returns-in-Err-clause-as_before
returns-in-Err-clause-as_before c =
    as_before c.args.self.now _ (record { transaction = refl; signature = refl; cluster = refl }) refl
    (c.take_back.ensures.same c.args.self.now.logs c.in_ok-last.ensures.back) refl refl

sound_of : (b : Bounds) (r : LogReplyValue) → FitsLogReply b r → IsSound r
sound_of b r f = record { decided = f.decided; later = f.later; current = f.current; signature = f.signature }

pub invariant_of-self-clause-logs_sound : goal.invariant_of-self-clause-logs_sound
invariant_of-self-clause-logs_sound c =
    let u = c.args.self.now in
    either_way c.add.result c.add.ensures.sound c.add.ensures.as_before
    (λ more. more (sound_of _ (log_reply_of c.args.reply.now) c.requires.fits) u.logs_sound)
    (λ same. sound_same u.logs c.add.new.self same u.logs_sound)

pub invariant_of-self-in-Ok-clause-logs_sound : goal.invariant_of-self-in-Ok-clause-logs_sound
invariant_of-self-in-Ok-clause-logs_sound c =
    c.in_ok-last.ensures.sound (sound_of _ (log_reply_of c.args.reply.now) c.requires.fits) c.args.self.now.logs_sound

pub invariant_of-self-in-Ok-clause-last_sound : goal.invariant_of-self-in-Ok-clause-last_sound
invariant_of-self-in-Ok-clause-last_sound c =
    sound_last c.in_ok-last.last (c.in_ok-last.ensures.sound_back c.args.self.now.logs_sound)

pub invariant_of-self-in-Ok-clause-outcome_fits : goal.invariant_of-self-in-Ok-clause-outcome_fits
invariant_of-self-in-Ok-clause-outcome_fits c = shown_fits c.in-Ok.outcome _ c.in-Ok.ensures c.logged_fits.ensures

pub invariant_of-self-clause-logs_below : goal.invariant_of-self-clause-logs_below
invariant_of-self-clause-logs_below c =
    let u = c.args.self.now in
    let n = replicas u.cluster.f in
    either_way c.add.result c.add.ensures.below c.add.ensures.as_before (λ more. more n c.requires.fits.replica u.logs_below)
    (λ same. below_same u.logs c.add.new.self same n u.logs_below)

pub invariant_of-self-in-Ok-clause-logs_below : goal.invariant_of-self-in-Ok-clause-logs_below
invariant_of-self-in-Ok-clause-logs_below c =
    c.in_ok-last.ensures.below (replicas c.args.self.now.cluster.f) c.requires.fits.replica c.args.self.now.logs_below
