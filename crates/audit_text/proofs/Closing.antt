-- A transaction whose lines have ended is listed.
use Rattle.std.proofs.Common.{◌≡◌, List, ℕ, [], ◌∷◌, ◌++◌, Option, Some, None, Ok, ap, sym, ◌∙◌}
use Rattle.std.specs.Str.{bytes_eq}
use Rattle.indexmap.specs.IndexMap.{insert_entry}
use Rattle.basil_types.specs.Transaction.{TransactionValue, version_of}
use Rattle.basil_types.specs.declared.version.Version.{Version}
use Rattle.audit_text.specs.Drafts.{DraftValue, ended}
use Rattle.audit_text.specs.Listing.{Names, ListingValue, closed, closed_with, listed_as}

pub closed_is : (st : ListingValue) (d : DraftValue) (t : TransactionValue) (name : List ℕ) (v : Version) (names : Names)
    (list : List TransactionValue) (draft : Option DraftValue) → st.draft ≡ Some d → name ≡ d.name → ended d ≡ Some t → v ≡ version_of t
    → names ≡ insert_entry bytes_eq st.names name v → list ≡ st.list ++ t ∷ [] → draft ≡ None
    → closed st ≡ Ok (record { names = names; list = list; draft = draft })
closed_is st d t name v names list draft there named last at put more gone =
    ap (closed_with st) there ∙ ap (listed_as st d) last
    ∙ (λ i. Ok (record {
      names = (sym (put ∙ ap (λ n. insert_entry bytes_eq st.names n v) named ∙ ap (insert_entry bytes_eq st.names d.name) at)) i;
      list = sym more i;
      draft = sym gone i;
    }))
