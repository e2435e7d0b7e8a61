use Rattle.std.proofs.Common.{rules}
use Rattle.audit_text.proofs.listing.Listing.begin.Goals as goal

pub returns : goal.returns
returns c = search rules
