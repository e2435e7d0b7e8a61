use Rattle.std.specs.Prelude.{option_map}
use Rattle.serial_audit.specs.Parts.{stray_found}
use Rattle.serial_audit.specs.Strays.{first_stray}
use Rattle.serial_audit.proofs.Walking.{one_reader}
use Rattle.serial_audit.proofs.strays.first_of.Goals as goal

pub loop-place-preserved : goal.loop-place-preserved
loop-place-preserved c st =
    one_reader c.args.list.now (first_stray c.args.list.now) (option_map stray_found c.loop-place.first)
    (option_map stray_found c.first_in-first.result) c.loop-place.place c.index-list-place.result c.loop-place-test.true
    c.index-list-place.is (c.loop-place.invariant st) (c.first_in-first.ensures c.args.list.now st)
