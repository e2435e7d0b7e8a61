use Rattle.std.proofs.Common.{◌≡◌, refl, sym, ap, ◌∙◌}
use Rattle.std.specs.BTreeSet.{insert_key}
use Rattle.std.specs.Cmp.Lexicographic.{slice_cmp}
use Rattle.std.specs.Option.{option_copied_mut}
use Rattle.std.specs.Ordering.{nat_cmp}
use Rattle.schedule_replay.specs.contracts.names.Names.{the_view}
use Rattle.schedule_replay.specs.Names.{with_key}
use Rattle.schedule_replay.specs.Naming.{names_in}
use Rattle.schedule_replay.specs.Replays.{NamesValue}
use Rattle.schedule_replay.specs.declared.names.Begun.{Begun}
use Rattle.schedule_replay.proofs.NameLaws.{key_in, no_key_in}
use Rattle.schedule_replay.proofs.names.Names.read.Goals.{in-Some+in_ok-insert, in_default}
use Rattle.schedule_replay.proofs.names.Names.read.Goals as goal

pub returns : goal.returns
returns c =
    let es = c.self.inside.begun.entries in
    let key : c.in_ok-key.key ≡ c.args.key.now = c.in_ok-key.ensures ∙ c.as_slice.ensures in
    let named : with_key c.as_slice-2.result.now c.args.key.now (names_in es) ≡ with_key c.args.name.now c.args.key.now c.args.self.now =
    ap (λ n. with_key n c.args.key.now (names_in es)) c.as_slice-2.ensures
    ∙ ap (λ (ns : NamesValue). with_key c.args.name.now c.args.key.now ns) c.self.view_is in
    elim c.match-get_mut.branch [
      | in-Some+in_ok-insert w ↦
          let old = w.in-Some.begun.now in
          let new : Begun = record { client = old.client; keys = w.insert.new.self } in
          ap the_view w.self-inside-is ∙ ap names_in (c.get_mut.follows.holds new).0
          ∙ key_in c.as_slice-2.result.now c.args.key.now es old new (sym w.in-Some.ensures.value) refl
          (w.in_ok-insert.ensures.keys ∙ ap (λ k. insert_key (slice_cmp nat_cmp) old.keys.keys k) key)
          ∙ named
      | in_default w ↦
          ap the_view w.self-inside-is ∙ ap (λ m. names_in m.entries) c.get_mut.follows.holds-at-none
          ∙ no_key_in c.as_slice-2.result.now c.args.key.now es
          (sym c.get_mut.ensures.value ∙ ap option_copied_mut w.in_default.is)
          ∙ named
    ]
