use Rattle.std.proofs.Common.{sym, ap, ◌∙◌}
use Rattle.std.specs.Prelude.{option_map, slice_get}
use Rattle.audit_text.specs.Findings.{name_token}
use Rattle.audit_text.specs.Listing.{Names}
use Rattle.audit_text.proofs.NameLaws.{as_name, named_at}
use Rattle.audit_text.proofs.names.Names.at.Goals as goal

pub returns-in-Some : goal.returns-in-Some
returns-in-Some c =
    c.as_slice.ensures.value ∙ ap (λ o. name_token (option_map as_name o)) c.in-Some.ensures.entry
    ∙ ap name_token (sym (named_at c.self.inside.versions.entries c.args.place))
    ∙ ap (λ (ns : Names). name_token (slice_get ns c.args.place)) c.self.view_is

pub returns-in-None : goal.returns-in-None
returns-in-None c =
    ap (λ o. name_token (option_map as_name o)) c.in-None.ensures.entry
    ∙ ap name_token (sym (named_at c.self.inside.versions.entries c.args.place))
    ∙ ap (λ (ns : Names). name_token (slice_get ns c.args.place)) c.self.view_is
