use Rattle.std.proofs.Common.{List, ℕ, [], ◌∷◌, ◌++◌, Option, sym, ap, ◌∙◌}
use Rattle.std.specs.Str.{bytes_eq}
use Rattle.indexmap.specs.IndexMap.{insert_entry}
use Rattle.basil_types.specs.Transaction.{TransactionValue, version_of}
use Rattle.audit_text.specs.Listing.{ListingValue}
use Rattle.audit_text.proofs.Closing.{closed_is}
use Rattle.audit_text.proofs.listing.Listing.close.Goals as goal

pub returns-clause-ran : goal.returns-clause-ran
returns-clause-ran c =
    closed_is c.args.self.now c.in-Some.draft
    c.in-Some-ended.t c.as_slice.result.now c.version_of.result c.add.new.self c.push.new.self.items
    c.take.new.self
    (ap (λ (s : ListingValue). s.draft) (sym c.self.view_is) ∙ sym c.take.ensures.value ∙ c.in-Some.is)
    (c.as_slice.ensures ∙ ap (λ (p : List ℕ × Option TransactionValue). p.0) c.in_ok-name.ensures)
    (sym (ap (λ (p : List ℕ × Option TransactionValue). p.1) c.in_ok-name.ensures) ∙ c.in-Some-ended.is)
    (c.version_of.ensures ∙ ap version_of c.view.ensures.value)
    (c.in_ok-add.ensures ∙ ap (λ (s : ListingValue). insert_entry bytes_eq s.names c.as_slice.result.now c.version_of.result)
    c.self.view_is)
    (c.in_ok-push.ensures.items ∙ ap (λ (s : ListingValue). s.list ++ c.in-Some-ended.t ∷ []) c.self.view_is) c.take.ensures.after
