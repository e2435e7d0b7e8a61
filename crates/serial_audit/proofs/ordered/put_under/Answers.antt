use Rattle.std.proofs.Common.{true, sym, ap, ◌∙◌}
use Rattle.std.specs.Prelude.{option_copied}
use Rattle.std.specs.BTreeMap.{insert_entry}
use Rattle.basil_types.specs.Version.{version_cmp}
use Rattle.serial_audit.specs.Parts.{is_under, lent_by_version}
use Rattle.serial_audit.proofs.Ordering.{lent_put, put_one}
use Rattle.serial_audit.proofs.ordered.put_under.Goals as goal

pub returns-in_ok-insert : goal.returns-in_ok-insert
returns-in_ok-insert c =
    let old = c.args.versions.now.entries in
    let bound = option_copied c.args.bound in
    ap lent_by_version c.in_ok-insert.ensures.entries
    ∙ lent_put c.version_of-version.result c.args.t old
    ∙ ap (λ v. insert_entry version_cmp (lent_by_version old) v c.args.t.now) c.version_of-version.ensures
    ∙ sym (put_one bound (lent_by_version old) c.args.t.now true
    (sym c.if-is_under.true ∙ c.is_under.ensures ∙ ap (is_under bound) c.version_of-version.ensures))
