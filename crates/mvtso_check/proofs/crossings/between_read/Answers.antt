use Rattle.std.proofs.Common.{◌≡◌, Bool, true, false, sym, ap, ◌∙◌}
use Rattle.std.specs.Prelude.{◌&&◌}
use Rattle.basil_types.specs.declared.version.Version.{Version}
use Rattle.basil_types.specs.Transaction.{version_of}
use Rattle.basil_types.specs.Shown.{transaction_of, read_of}
use Rattle.basil_types.specs.Transaction.{writes_key}
use Rattle.basil_types.specs.Version.{is_between}
use Rattle.mv_store.specs.Held.{hits, version, writer_between}
use Rattle.mvtso_check.specs.Verdict.{is_own}
use Rattle.mvtso_check.proofs.SearchLaws.{hits_nothing}
use Rattle.mvtso_check.proofs.crossings.between_read.Goals as goal

pub returns-then-is_own : goal.returns-then-is_own
returns-then-is_own c held noted s =
    let own : is_own c.args.home.now (read_of c.args.item).key ≡ true = sym c.is_own.ensures ∙ c.if-is_own.true in
    c.writer_between.ensures held noted s
    ∙ ap (λ (v : Version). writer_between (read_of c.args.item).key (read_of c.args.item).version v held) c.requires
    ∙ sym (ap (λ (b : Bool). hits (λ h. b
    && (writes_key h.transaction (read_of c.args.item).key
    && is_between (read_of c.args.item).version (version h) (version_of (transaction_of c.args.t)))) held) own)

pub returns-else-is_own : goal.returns-else-is_own
returns-else-is_own c held noted s =
    let other : is_own c.args.home.now (read_of c.args.item).key ≡ false = sym c.is_own.ensures ∙ c.if-is_own.false in
    c.none.ensures
    ∙ sym (ap (λ (b : Bool). hits (λ h. b
    && (writes_key h.transaction (read_of c.args.item).key
    && is_between (read_of c.args.item).version (version h) (version_of (transaction_of c.args.t)))) held) other ∙ hits_nothing held)
