-- The tests of what a read sees, and what they say.
use Rattle.std.proofs.Common.{◌≡◌, true, Option, None, Some, refl, ap}
use Rattle.std.specs.Prelude.{is_none, IfSome, option_map, ◌&&◌}
use Rattle.std.proofs.lemmas.Bool.{and_parts, and_from}
use Rattle.basil_types.specs.Transaction.{TransactionValue, version_of, writes_key}
use Rattle.basil_types.specs.Version.{below}
use Rattle.frame_views.specs.Values.{CommittedValue, ReadValue}
use Rattle.txn_meta.specs.Form.{form_fault}
use Rattle.certificates.specs.Deciding.{HasGoodForm}
use Rattle.client_reads.specs.Replies.{IsSeen, is_seen, is_missing_or_seen}
use Rattle.client_reads.specs.Versions.{limit_of}

none_is : {X : Type 0} (o : Option X) → is_none o ≡ true → o ≡ None
none_is None e = refl
none_is (Some x) e = absurd cc

pub seen_fact : (read : ReadValue) (t : TransactionValue) → is_seen read t ≡ true → IsSeen read t
seen_fact read t h =
    let p = and_parts (is_none (form_fault t) && writes_key t read.key) (below (version_of t) (limit_of read)) h in
    let q = and_parts (is_none (form_fault t)) (writes_key t read.key) p.0 in
    record { form = none_is (form_fault t) q.0; writes = q.1; below = p.1 }

pub seen_test : (read : ReadValue) (t : TransactionValue) → IsSeen read t → is_seen read t ≡ true
seen_test read t k = and_from _ _ (and_from _ _ (ap is_none k.form) k.writes) k.below

pub prepared_fact : (read : ReadValue) (o : Option TransactionValue) → is_missing_or_seen read o ≡ true → IfSome o (IsSeen read)
prepared_fact read None h = tt
prepared_fact read (Some t) h = seen_fact read t h

pub prepared_test : (read : ReadValue) (o : Option TransactionValue) → IfSome o (IsSeen read) → is_missing_or_seen read o ≡ true
prepared_test read None k = refl
prepared_test read (Some t) k = seen_test read t k

-- the committed transaction has a good form
pub committed_form : (read : ReadValue) (o : Option CommittedValue)
    → is_missing_or_seen read (option_map (λ (part : CommittedValue). part.transaction) o) ≡ true
    → IfSome o (λ part. HasGoodForm part.transaction)
committed_form read None h = tt
committed_form read (Some part) h = (seen_fact read part.transaction h).form
