-- The first breach that a message makes, with what was signed and seen before.
use Rattle.std.specs.Prelude.{ℕ, List, [], ◌∷◌, ◌++◌, Bool, not, ◌&&◌, ◌||◌, Option, None, option_map, find}
use Rattle.std.specs.List.{list_any}
use Rattle.std.specs.Str.{bytes_eq}
use Rattle.basil_types.specs.Built.{or_else}
use Rattle.basil_types.specs.Id.{id_of}
use Rattle.basil_types.specs.declared.party.Party.{Party}
use Rattle.basil_types.specs.Transaction.{TransactionValue, canonical}
use Rattle.basil_types.specs.Words.{SignedWords, words_of}
use Rattle.certificates.specs.Accepted.{Accepted, accepts}
use Rattle.frame_views.specs.Signed.{SignedBy}
use Rattle.node_steps.specs.Refusing.{when}
use Rattle.txn_table.specs.Entries.{same_party}
use Rattle.premise_watch.specs.declared.broken.Broken.{Broken}
use Rattle.premise_watch.specs.declared.broken.Broken.TheVariants.{Forged, Collision}
use Rattle.premise_watch.specs.Marks.{MarkValue, Signature, Text}

-- words that a party signed
pub record NotedWords : Type 0 where
  pub party : Party
  pub words : SignedWords

-- the parties that may do anything, what the others signed, and the transactions that were seen
pub record WatchValue : Type 0 where
  pub faulty : List Party
  pub signed : List NotedWords
  pub texts : List TransactionValue

abbrev pub is_faulty : WatchValue → Party → Bool
is_faulty w p = list_any (same_party p) w.faulty

abbrev pub is_noted : Party → List ℕ → NotedWords → Bool
is_noted p words n = same_party p n.party && bytes_eq (words_of n.words) words

-- words that may be shown as a party's: it is faulty, or it signed them; whatever the signature
abbrev pub said : WatchValue → Accepted
said w p words signature = is_faulty w p || list_any (is_noted p words) w.signed

abbrev pub forged : Accepted → WatchValue → SignedBy → Option Broken
forged A w g = when (accepts A g && not (accepts (said w) g)) (Forged g.party g.words g.signature)

abbrev pub collides : TransactionValue → TransactionValue → Bool
collides t u = bytes_eq (id_of (canonical u)) (id_of (canonical t)) && not (bytes_eq (canonical u) (canonical t))

abbrev pub collision : WatchValue → TransactionValue → Option Broken
collision w t = option_map (λ u. Collision (canonical u) (canonical t)) (find (collides t) w.texts)

abbrev pub seen_text : WatchValue → TransactionValue → WatchValue
seen_text w t = record w { texts = w.texts ++ t ∷ [] }

-- the first breach, in the order of the bytes
abbrev pub first_breach : Accepted → WatchValue → List MarkValue → Option Broken
first_breach A w [] = None
first_breach A w (Signature g ∷ ms) = or_else (forged A w g) (first_breach A w ms)
first_breach A w (Text t ∷ ms) = or_else (collision w t) (first_breach A (seen_text w t) ms)

-- the watch after the marks of a message
abbrev pub after_marks : WatchValue → List MarkValue → WatchValue
after_marks w [] = w
after_marks w (Signature g ∷ ms) = after_marks w ms
after_marks w (Text t ∷ ms) = after_marks (seen_text w t) ms
