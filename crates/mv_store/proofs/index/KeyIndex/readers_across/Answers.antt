use Rattle.std.proofs.Common.{◌∙◌, Option}
use Rattle.basil_types.specs.declared.version.Version.{Version}
use Rattle.mv_store.specs.declared.index.Reader.{Reader}
use Rattle.mv_store.specs.Index.{reader_hit, slots_above}
use Rattle.mv_store.proofs.HitLaws.{walk_finds}
use Rattle.mv_store.proofs.index.KeyIndex.readers_across.Goals as goal

pub returns-clause-value : goal.returns-clause-value
returns-clause-value c =
    c.walked_above.ensures
    ∙ walk_finds (λ (e : Version
    × Option Reader). reader_hit c.args.at.now e.1) (slots_above c.args.at.now c.args.self.now.readers.map.entries)
