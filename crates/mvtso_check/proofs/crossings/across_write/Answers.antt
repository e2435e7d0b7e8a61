use Rattle.std.proofs.Common.{◌≡◌, Bool, true, false, sym, ap, ◌∙◌}
use Rattle.std.specs.Prelude.{◌&&◌}
use Rattle.basil_types.specs.declared.version.Version.{Version}
use Rattle.basil_types.specs.Transaction.{version_of}
use Rattle.basil_types.specs.Version.{below}
use Rattle.basil_types.specs.Shown.{transaction_of, write_of}
use Rattle.mv_store.specs.Held.{hits, version, reader_across, reads_key_below}
use Rattle.mvtso_check.specs.Verdict.{is_own}
use Rattle.mvtso_check.proofs.SearchLaws.{hits_nothing}
use Rattle.mvtso_check.proofs.crossings.across_write.Goals as goal

pub returns-then-is_own : goal.returns-then-is_own
returns-then-is_own c held noted s =
    let own : is_own c.args.home.now (write_of c.args.item).key ≡ true = sym c.is_own.ensures ∙ c.if-is_own.true in
    c.reader_across.ensures held noted s
    ∙ ap (λ (v : Version). reader_across (write_of c.args.item).key v held) c.requires
    ∙ sym (ap (λ (b : Bool). hits (λ h. b
    && (below (version_of (transaction_of c.args.t)) (version h)
    && reads_key_below (write_of c.args.item).key (version_of (transaction_of c.args.t)) h.transaction)) held) own)

pub returns-else-is_own : goal.returns-else-is_own
returns-else-is_own c held noted s =
    let other : is_own c.args.home.now (write_of c.args.item).key ≡ false = sym c.is_own.ensures ∙ c.if-is_own.false in
    c.none.ensures
    ∙ sym (ap (λ (b : Bool). hits (λ h. b
    && (below (version_of (transaction_of c.args.t)) (version h)
    && reads_key_below (write_of c.args.item).key (version_of (transaction_of c.args.t)) h.transaction)) held) other
    ∙ hits_nothing held)
