use Rattle.std.proofs.Common.{sym, ap, ◌∙◌}
use Rattle.audit_text.specs.Listing.{Names, version_named}
use Rattle.audit_text.proofs.NameLaws.{named}
use Rattle.audit_text.proofs.names.Names.version_named.Goals as goal

pub returns-in-Some : goal.returns-in-Some
returns-in-Some c =
    c.in-Some.ensures.value ∙ sym (named c.args.name.now c.self.inside.versions.entries)
    ∙ ap (λ (ns : Names). version_named ns c.args.name.now) c.self.view_is

pub returns-in-None : goal.returns-in-None
returns-in-None c =
    c.in-None.ensures.value ∙ sym (named c.args.name.now c.self.inside.versions.entries)
    ∙ ap (λ (ns : Names). version_named ns c.args.name.now) c.self.view_is
