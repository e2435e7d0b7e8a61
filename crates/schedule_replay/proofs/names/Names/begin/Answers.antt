use Rattle.std.proofs.Common.{◌≡◌, false, refl, ap, ◌∙◌, is_some}
use Rattle.schedule_replay.specs.Names.{number_of, with_name}
use Rattle.schedule_replay.specs.Naming.{names_in}
use Rattle.schedule_replay.specs.Replays.{NamesValue}
use Rattle.schedule_replay.specs.declared.names.Begun.{Begun}
use Rattle.schedule_replay.proofs.NameLaws.{begun_in}
use Rattle.schedule_replay.proofs.names.Names.begin.Goals as goal

pub returns : goal.returns
returns c =
    let es = c.self.inside.begun.entries in
    let name : c.in_ok-name.name.items ≡ c.args.name.now = c.in_ok-name.ensures.items ∙ c.as_slice.ensures in
    let new : is_some (number_of c.in_ok-name.name.items (names_in es)) ≡ false =
    ap (λ n. is_some (number_of n (names_in es))) name
    ∙ ap (λ (ns : NamesValue). is_some (number_of c.args.name.now ns)) c.self.view_is ∙ c.requires in
    let begun : Begun = record { client = c.args.client; keys = c.new-keys.result } in
    ap names_in c.in_ok-insert.ensures.entries
    ∙ begun_in _ (λ a b. refl) c.in_ok-name.name begun es new c.new-keys.ensures.empty
    ∙ ap (λ n. with_name n c.args.client (names_in es)) name
    ∙ ap (λ (ns : NamesValue). with_name c.args.name.now c.args.client ns) c.self.view_is
