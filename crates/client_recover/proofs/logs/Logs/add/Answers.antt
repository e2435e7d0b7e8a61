use Rattle.std.proofs.Common.{refl}
use Rattle.frame_views.specs.Shown.{log_reply_of}
use Rattle.client_recover.proofs.ReplyLaws.{held_more, is_before}
use Rattle.client_recover.proofs.SoundLaws.{below_first, below_latest, sound_more, sound_before}
use Rattle.client_recover.proofs.logs.Logs.add.Goals as goal

pub returns-in-Ok-clause-holds : goal.returns-in-Ok-clause-holds
returns-in-Ok-clause-holds c replies held =
    held_more c.args.self.now c.note_first.new.self c.note_latest.new.self replies
    (log_reply_of c.args.reply.now) c.in_ok-first.first c.in-Ok.latest
    c.in_ok-first.ensures.noted c.in-Ok.ensures.noted held _ refl refl refl

pub returns-in-Ok-clause-back : goal.returns-in-Ok-clause-back
returns-in-Ok-clause-back c =
    is_before c.args.self.now c.note_first.new.self c.note_latest.new.self
    (log_reply_of c.args.reply.now) c.in_ok-first.first c.in-Ok.latest
    c.in_ok-first.ensures.noted c.in-Ok.ensures.noted _ refl refl refl

pub returns-in-Ok-clause-sound : goal.returns-in-Ok-clause-sound
returns-in-Ok-clause-sound c good sound =
    sound_more c.args.self.now c.note_first.new.self c.note_latest.new.self
    (log_reply_of c.args.reply.now) c.in_ok-first.first c.in-Ok.latest
    c.in_ok-first.ensures.noted c.in-Ok.ensures.noted _ refl refl good sound

pub returns-in-Ok-clause-sound_back : goal.returns-in-Ok-clause-sound_back
returns-in-Ok-clause-sound_back c sound =
    sound_before c.args.self.now c.note_first.new.self c.note_latest.new.self
    (log_reply_of c.args.reply.now) c.in_ok-first.first c.in-Ok.latest
    c.in_ok-first.ensures.noted c.in-Ok.ensures.noted sound

pub returns-in-Ok-clause-below : goal.returns-in-Ok-clause-below
returns-in-Ok-clause-below c n low below =
    below_latest c.note_first.new.self c.note_latest.new.self (log_reply_of c.args.reply.now) c.in-Ok.latest c.in-Ok.ensures.noted n
    (below_first c.args.self.now c.note_first.new.self (log_reply_of c.args.reply.now) c.in_ok-first.first c.in_ok-first.ensures.noted n low
    below)
