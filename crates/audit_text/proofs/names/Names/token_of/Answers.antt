use Rattle.std.proofs.Common.{◌≡◌, false, sym, ap, ◌∙◌}
use Rattle.basil_types.specs.Version.{genesis, same_version}
use Rattle.audit_text.specs.Findings.{version_token}
use Rattle.audit_text.specs.Listing.{Names}
use Rattle.audit_text.proofs.NameLaws.{token_is}
use Rattle.audit_text.proofs.names.Names.token_of.Goals as goal

pub returns-in-Some : goal.returns-in-Some
returns-in-Some c =
    let v = c.args.version.now in
    let other : same_version v genesis ≡ false =
    ap (same_version v) (sym c.genesis.ensures) ∙ sym c.is_same.ensures ∙ c.if-is_same.false in
    c.as_slice.ensures.value ∙ token_is v c.self.inside.versions.entries _ other c.in-Some.ensures
    ∙ ap (λ (ns : Names). version_token ns v) c.self.view_is

pub returns-in-None : goal.returns-in-None
returns-in-None c =
    let v = c.args.version.now in
    let other : same_version v genesis ≡ false =
    ap (same_version v) (sym c.genesis.ensures) ∙ sym c.is_same.ensures ∙ c.if-is_same.false in
    token_is v c.self.inside.versions.entries _ other c.in-None.ensures
    ∙ ap (λ (ns : Names). version_token ns v) c.self.view_is
