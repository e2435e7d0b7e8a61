use Rattle.std.proofs.Common.{Some, sym, ap, ◌∙◌}
use Rattle.std.specs.Prelude.{option_map}
use Rattle.schedule_replay.specs.Naming.{names_in}
use Rattle.schedule_replay.specs.declared.names.Begun.{Begun}
use Rattle.schedule_replay.proofs.NameLaws.{client_in, client_named}
use Rattle.schedule_replay.proofs.names.Names.client_of.Goals as goal

pub returns-in-Some : goal.returns-in-Some
returns-in-Some c =
    ap (λ b. Some b.now.client) (sym c.in-Some.begun-is)
    ∙ ap (option_map (λ (b : Begun). b.client)) c.in-Some.ensures.value
    ∙ sym (client_in c.as_slice.result.now c.self.inside.begun.entries)
    ∙ ap (λ n. client_named n (names_in c.self.inside.begun.entries)) c.as_slice.ensures
    ∙ ap (client_named c.args.name.now) c.self.view_is

pub returns-in-None : goal.returns-in-None
returns-in-None c =
    ap (option_map (λ (b : Begun). b.client)) c.in-None.ensures.value
    ∙ sym (client_in c.as_slice.result.now c.self.inside.begun.entries)
    ∙ ap (λ n. client_named n (names_in c.self.inside.begun.entries)) c.as_slice.ensures
    ∙ ap (client_named c.args.name.now) c.self.view_is
