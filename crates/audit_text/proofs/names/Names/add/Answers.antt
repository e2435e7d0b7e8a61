use Rattle.std.proofs.Common.{refl, ap, ◌∙◌}
use Rattle.std.specs.Str.{bytes_eq}
use Rattle.indexmap.specs.IndexMap.{insert_entry}
use Rattle.audit_text.specs.Listing.{Names}
use Rattle.audit_text.specs.Parts.{names_in}
use Rattle.audit_text.proofs.NameLaws.{named_put}
use Rattle.audit_text.proofs.names.Names.add.Goals as goal

pub returns : goal.returns
returns c =
    ap names_in c.in_ok-insert.ensures.entries
    ∙ named_put _ (λ a b. refl) c.in_ok-key.key c.args.version c.self.inside.versions.entries
    ∙ ap (λ k. insert_entry bytes_eq (names_in c.self.inside.versions.entries) k c.args.version) c.in_ok-key.ensures.items
    ∙ ap (λ (ns : Names). insert_entry bytes_eq ns c.args.name.now c.args.version) c.self.view_is
