use Rattle.std.proofs.Common.{sym, ap, ◌∙◌}
use Rattle.schedule_replay.specs.Names.{number_of}
use Rattle.schedule_replay.specs.Naming.{names_in}
use Rattle.schedule_replay.specs.Replays.{NamesValue}
use Rattle.schedule_replay.proofs.NameLaws.{number_in}
use Rattle.schedule_replay.proofs.names.Names.number_of.Goals as goal

pub returns-in-Some : goal.returns-in-Some
returns-in-Some c =
    c.in-Some.ensures.index ∙ sym (number_in c.as_slice.result.now c.self.inside.begun.entries)
    ∙ ap (λ n. number_of n (names_in c.self.inside.begun.entries)) c.as_slice.ensures
    ∙ ap (λ (ns : NamesValue). number_of c.args.name.now ns) c.self.view_is

pub returns-in-None : goal.returns-in-None
returns-in-None c =
    c.in-None.ensures.index ∙ sym (number_in c.as_slice.result.now c.self.inside.begun.entries)
    ∙ ap (λ n. number_of n (names_in c.self.inside.begun.entries)) c.as_slice.ensures
    ∙ ap (λ (ns : NamesValue). number_of c.args.name.now ns) c.self.view_is
