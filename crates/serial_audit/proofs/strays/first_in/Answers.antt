use Rattle.std.specs.Prelude.{option_map}
use Rattle.basil_types.specs.Shown.{read_of, reads_left}
use Rattle.serial_audit.specs.Parts.{first_with, stray_found}
use Rattle.serial_audit.specs.Strays.{strays_among}
use Rattle.serial_audit.proofs.Walking.{one_read}
use Rattle.serial_audit.proofs.strays.first_in.Goals as goal

pub loop-item-preserved : goal.loop-item-preserved
loop-item-preserved c ts st =
    one_read ts c.version_of-reader.result c.args.place
    (first_with (option_map stray_found c.args.so_far) (strays_among ts c.version_of-reader.result c.args.place c.args.t.now.reads))
    (option_map stray_found c.loop-item.first) (option_map stray_found c.earlier-first.result) (option_map stray_found c.stray_in.result)
    (reads_left c.loop-item.item-iterator) (read_of c.in-Some.item) (reads_left c.next.new.self)
    (c.loop-item.invariant ts st) c.in-Some.ensures.steps (c.stray_in.ensures ts st) c.earlier-first.ensures
