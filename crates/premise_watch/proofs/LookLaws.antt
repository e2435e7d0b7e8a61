-- What looking at one part of a frame after the other tells.
use Rattle.std.proofs.Common.{◌≡◌, ℕ, Bool, true, false, cond, not, List, [], ◌∷◌, ◌++◌, Option, Some}
use Rattle.std.proofs.Common.{None, length, take, refl, sym, ap, subst, ◌∙◌, append-nil, append_assoc}
use Rattle.std.specs.Prelude.{◌&&◌, ◌||◌, Result, Ok, Err, IfErr, OnOk}
use Rattle.std.specs.Result.{IsErrAnd}
use Rattle.std.specs.List.{list_any}
use Rattle.basil_types.specs.Built.{or_else}
use Rattle.basil_types.specs.declared.party.Party.{Party}
use Rattle.basil_types.specs.Transaction.{TransactionValue}
use Rattle.certificates.specs.Accepted.{Accepted, accepts}
use Rattle.frame_views.specs.Signed.{SignedBy}
use Rattle.txn_table.specs.Entries.{same_party}
use Rattle.premise_watch.specs.declared.broken.Broken.{Broken}
use Rattle.premise_watch.specs.declared.broken.Broken.TheVariants.{Forged}
use Rattle.premise_watch.specs.declared.broken.WatchFault.{WatchFault}
use Rattle.premise_watch.specs.declared.broken.WatchFault.TheVariants as fault
use Rattle.premise_watch.specs.declared.watch.Watch.{Watch}
use Rattle.premise_watch.specs.Breaches.{WatchValue, is_noted, said, forged, collision, seen_text, first_breach, after_marks}
use Rattle.premise_watch.specs.Looks.{Holds, Grown, Passes, Breaks}
use Rattle.premise_watch.specs.Marks.{MarkValue, Signature, Text, as_marks}
use Rattle.premise_watch.specs.Parties.{is_among}
use Rattle.premise_watch.specs.Signers.{AreSigners, signers_of}
use Rattle.premise_watch.specs.Telling.{Tells}
use Rattle.premise_watch.specs.Texts.{AreTexts, entries_of}
use Rattle.premise_watch.specs.Watches.{IsSound, IsFirstBreach, KeepsWatching, Sees}
use Rattle.premise_watch.proofs.PartLaws.{as_marks-append}

-- ---- the first breach of two lists

first_of_three : (a b c : Option Broken) → or_else a (or_else b c) ≡ or_else (or_else a b) c
first_of_three (Some x) b c = refl
first_of_three None b c = refl

breach_append : (A : Accepted) (w : WatchValue) (ms ns : List MarkValue) →
    first_breach A w (ms ++ ns) ≡ or_else (first_breach A w ms) (first_breach A (after_marks w ms) ns)
breach_append A w [] ns = refl
breach_append A w (Signature g ∷ ms) ns =
    ap (or_else (forged A w g)) (breach_append A w ms ns)
    ∙ first_of_three (forged A w g) (first_breach A w ms) (first_breach A (after_marks w ms) ns)
breach_append A w (Text t ∷ ms) ns =
    ap (or_else (collision w t)) (breach_append A (seen_text w t) ms ns)
    ∙ first_of_three (collision w t) (first_breach A (seen_text w t) ms) (first_breach A (after_marks (seen_text w t) ms) ns)

after_append : (w : WatchValue) (ms ns : List MarkValue) → after_marks w (ms ++ ns) ≡ after_marks (after_marks w ms) ns
after_append w [] ns = refl
after_append w (Signature g ∷ ms) ns = after_append w ms ns
after_append w (Text t ∷ ms) ns = after_append (seen_text w t) ms ns

after_faulty : (w : WatchValue) (ms : List MarkValue) → (after_marks w ms).faulty ≡ w.faulty
after_faulty w [] = refl
after_faulty w (Signature g ∷ ms) = after_faulty w ms
after_faulty w (Text t ∷ ms) = after_faulty (seen_text w t) ms

-- ---- one after the other

told_first : (fault : WatchFault) (a b : Option Broken) → Tells a fault → Tells (or_else a b) fault
told_first (fault.Broken x) a b h = ap (λ o. or_else o b) h
told_first fault.NoMemory a b h = tt

pub told_same : (fault : WatchFault) (a b : Option Broken) → b ≡ a → Tells a fault → Tells b fault
told_same (fault.Broken x) a b e h = e ∙ h
told_same fault.NoMemory a b e h = tt

module _ (A : Accepted) (faulty : List Party) (ms ns : List MarkValue) where
  pub passes_both : (first middle last : Watch) → Passes A faulty first ms middle → Passes A faulty middle ns last →
      Passes A faulty first (ms ++ ns) last
  passes_both first middle last p q w f h =
      let a = p w f h in
      let b = q (after_marks w ms) (after_faulty w ms ∙ f) a.1 in (
        breach_append A w ms ns ∙ ap (λ o. or_else o (first_breach A (after_marks w ms) ns)) a.0 ∙ b.0,
        subst (Holds last) (sym (after_append w ms ns)) b.1,
      )

  pub breaks_first : (watch : Watch) (fault : WatchFault) → Breaks A faulty watch ms fault → Breaks A faulty watch (ms ++ ns) fault
  breaks_first watch fault p w f h =
      told_same fault _ _ (breach_append A w ms ns) (told_first fault (first_breach A w ms) _ (p w f h))

  pub breaks_second : (first middle : Watch) (fault : WatchFault) → Passes A faulty first ms middle → Breaks A faulty middle ns fault →
      Breaks A faulty first (ms ++ ns) fault
  breaks_second first middle fault p q w f h =
      let a = p w f h in
      told_same fault _ _ (breach_append A w ms ns ∙ ap (λ o. or_else o (first_breach A (after_marks w ms) ns)) a.0)
      (q (after_marks w ms) (after_faulty w ms ∙ f) a.1)

pub passes_nothing : (A : Accepted) (faulty : List Party) (watch : Watch) → Passes A faulty watch [] watch
passes_nothing A faulty watch w f h = (refl, h)

pub passes_same : (A : Accepted) (faulty : List Party) (watch new : Watch) (ms ns : List MarkValue) →
    ms ≡ ns → Passes A faulty watch ms new →
    Passes A faulty watch ns new
passes_same A faulty watch new ms ns e p = subst (λ ms. Passes A faulty watch ms new) e p

-- ---- growth

take_take : {X : Type 0} (n : ℕ) (xs ys zs : List X) → take (length ys) zs ≡ ys → take (length xs) ys ≡ xs → take (length xs) zs ≡ xs
take_take n [] ys zs e f = refl
take_take n (x ∷ xs) [] zs e f = absurd cc
take_take n (x ∷ xs) (y ∷ ys) [] e f = absurd cc
take_take n (x ∷ xs) (y ∷ ys) (z ∷ zs) e f =
    let heads : z ≡ x = (let a : z ≡ y = cc in let b : y ≡ x = cc in a ∙ b) in
    let e' : take (length ys) zs ≡ ys = cc in
    let f' : take (length xs) ys ≡ xs = cc in
    ap (λ z. z ∷ take (length xs) zs) heads ∙ ap (λ l. x ∷ l) (take_take n xs ys zs e' f')

pub grown_both : (first middle last : Watch) → Grown first middle → Grown middle last → Grown first last
grown_both first middle last g h = record {
  noted = h.noted ∙ g.noted;
  before = h.before ∙ g.before;
  texts = take_take 0 (entries_of first.texts) (entries_of middle.texts) (entries_of last.texts) h.texts g.texts;
}

take_all : {X : Type 0} (xs : List X) → take (length xs) xs ≡ xs
take_all [] = refl
take_all (x ∷ xs) = ap (λ l. x ∷ l) (take_all xs)

pub grown_none : (watch : Watch) → Grown watch watch
grown_none watch = record { noted = refl; before = refl; texts = take_all (entries_of watch.texts) }

-- ---- one signature

or_here : (a b : Bool) → a ≡ true → (a || b) ≡ true
or_here true b e = refl
or_here false b e = absurd cc

or_there : (a b : Bool) → b ≡ true → (a || b) ≡ true
or_there true b e = refl
or_there false b e = e

unless_said : (b : Bool) → (b && not true) ≡ false
unless_said true = refl
unless_said false = refl

module _ (A : Accepted) (w : WatchValue) (g : SignedBy) where
  forged_when : Bool → Option Broken
  forged_when b = or_else (cond b (Some (Forged g.party g.words g.signature)) None) None

  pub fine_said : accepts (said w) g ≡ true → first_breach A w (Signature g ∷ []) ≡ None
  unfolding forged_when
  fine_said e = ap (λ b. forged_when (accepts A g && not b)) e ∙ ap forged_when (unless_said (accepts A g))

  pub fine_refused : accepts A g ≡ false → first_breach A w (Signature g ∷ []) ≡ None
  unfolding forged_when
  fine_refused e = ap (λ b. forged_when (b && not (accepts (said w) g))) e

  pub broken : accepts A g ≡ true → accepts (said w) g ≡ false →
      first_breach A w (Signature g ∷ []) ≡ Some (Forged g.party g.words g.signature)
  unfolding forged_when
  broken e f = ap (λ b. forged_when (b && not (accepts (said w) g))) e ∙ ap (λ b. forged_when (true && not b)) f

-- whether a signature's words may be shown, as a watch looks them up
module _ (A : Accepted) (faulty : List Party) (watch : Watch) (g : SignedBy) (noted : Bool)
    (has : noted ≡ is_among (signers_of watch.noted g.words) g.party) where
  said_is : (w : WatchValue) → w.faulty ≡ faulty → Holds watch w → accepts (said w) g ≡ (is_among faulty g.party || noted)
  said_is w f h =
      ap (λ ps. list_any (same_party g.party) ps || list_any (is_noted g.party g.words) w.signed) f
      ∙ ap (λ b. is_among faulty g.party || b) (sym (has ∙ h.signed g.party g.words))

  pub passes_noted : noted ≡ true → Passes A faulty watch (Signature g ∷ []) watch
  passes_noted e w f h = (fine_said A w g (said_is w f h ∙ or_there (is_among faulty g.party) noted e), h)

  pub passes_faulty : is_among faulty g.party ≡ true → Passes A faulty watch (Signature g ∷ []) watch
  passes_faulty e w f h = (fine_said A w g (said_is w f h ∙ or_here (is_among faulty g.party) noted e), h)

  pub passes_refused : accepts A g ≡ false → Passes A faulty watch (Signature g ∷ []) watch
  passes_refused e w f h = (fine_refused A w g e, h)

  pub breaks_forged : noted ≡ false → is_among faulty g.party ≡ false → accepts A g ≡ true →
      Breaks A faulty watch (Signature g ∷ []) (fault.Broken (Forged g.party g.words g.signature))
  breaks_forged e i a w f h =
      broken A w g a (said_is w f h ∙ ap (λ b. b || noted) i ∙ e)

-- ---- one signature after the other

module _ (A : Accepted) (faulty : List Party) (watch : Watch) (all done left rest : List SignedBy) (g : SignedBy)
    (split : all ≡ done ++ left) (next : left ≡ g ∷ rest) (passed : Passes A faulty watch (as_marks done) watch) where
  more_split : all ≡ (done ++ g ∷ []) ++ rest
  more_split = split ∙ ap (λ l. done ++ l) next ∙ sym (append_assoc done (g ∷ []) rest)

  more_marks : as_marks all ≡ as_marks (done ++ g ∷ []) ++ as_marks rest
  more_marks = ap as_marks more_split ∙ as_marks-append (done ++ g ∷ []) rest

  passed_more : Passes A faulty watch (Signature g ∷ []) watch → Passes A faulty watch (as_marks (done ++ g ∷ [])) watch
  passed_more p =
      passes_same A faulty watch watch _ _ (sym (as_marks-append done (g ∷ [])))
      (passes_both A faulty (as_marks done) (Signature g ∷ []) watch watch watch passed p)

  pub one_signature : Passes A faulty watch (Signature g ∷ []) watch →
      (x : List SignedBy) × (all ≡ x ++ rest) × Passes A faulty watch (as_marks x) watch
  one_signature p = (done ++ g ∷ [], more_split, passed_more p)

  pub one_forgery : (fault : WatchFault) → Breaks A faulty watch (Signature g ∷ []) fault → Breaks A faulty watch (as_marks all) fault
  one_forgery fault b =
      subst (λ ms. Breaks A faulty watch ms fault) (sym (more_marks ∙ ap (λ l. l ++ as_marks rest) (as_marks-append done (g ∷ []))))
      (breaks_first A faulty (as_marks done ++ Signature g ∷ []) (as_marks rest) watch fault
      (breaks_second A faulty (as_marks done) (Signature g ∷ []) watch watch fault passed b))

pub all_passed : (A : Accepted) (faulty : List Party) (watch : Watch) (all done left : List SignedBy) → all ≡ done ++ left → left ≡ [] →
    Passes A faulty watch (as_marks done) watch → Passes A faulty watch (as_marks all) watch
all_passed A faulty watch all done left split none p =
    passes_same A faulty watch watch _ _ (ap as_marks (sym (split ∙ ap (λ l. done ++ l) none ∙ append-nil done))) p

-- ---- the parts of a frame

module _ (A : Accepted) (faulty : List Party) (a b c d : List MarkValue) (first second third : Watch) where
  pub broke_first : (fault : WatchFault) → Breaks A faulty first a fault → Breaks A faulty first (a ++ (b ++ (c ++ d))) fault
  broke_first fault h = breaks_first A faulty a (b ++ (c ++ d)) first fault h

  pub broke_second : (fault : WatchFault) → Passes A faulty first a second → Breaks A faulty second b fault →
      Breaks A faulty first (a ++ (b ++ (c ++ d))) fault
  broke_second fault p h =
      breaks_second A faulty a (b ++ (c ++ d)) first second fault p (breaks_first A faulty b (c ++ d) second fault h)

  pub broke_third : (fault : WatchFault) → Passes A faulty first a second → Passes A faulty second b third → Breaks A faulty third c fault →
      Breaks A faulty first (a ++ (b ++ (c ++ d))) fault
  broke_third fault p q h =
      breaks_second A faulty a (b ++ (c ++ d)) first second fault p
      (breaks_second A faulty b (c ++ d) second third fault q (breaks_first A faulty c d third fault h))

  pub broke_last : (fault : WatchFault) → Passes A faulty first a second → Passes A faulty second b third → Passes A faulty third c third →
      Breaks A faulty third d fault → Breaks A faulty first (a ++ (b ++ (c ++ d))) fault
  broke_last fault p q r h =
      breaks_second A faulty a (b ++ (c ++ d)) first second fault p
      (breaks_second A faulty b (c ++ d) second third fault q (breaks_second A faulty c d third third fault r h))

  pub passed_all : (last : Watch) → Passes A faulty first a second → Passes A faulty second b third → Passes A faulty third c third →
      Passes A faulty third d last → Passes A faulty first (a ++ (b ++ (c ++ d))) last
  passed_all last p q r s =
      passes_both A faulty a (b ++ (c ++ d)) first second last p
      (passes_both A faulty b (c ++ d) second third last q (passes_both A faulty c d third third last r s))

-- ---- a frame

pub is_sound : (A : Accepted) (faulty : List Party) (old new : Watch) (ms : List MarkValue) →
    Passes A faulty old ms new → IsSound A faulty old ms
is_sound A faulty old new ms p w earlier f h = (p w f h.now).0

pub is_seen : (A : Accepted) (faulty : List Party) (old middle new : Watch) (ms : List MarkValue) → Passes A faulty old ms middle →
    Grown old middle → new.noted ≡ middle.noted →
    new.texts ≡ middle.texts → new.before ≡ length (entries_of old.texts) → Sees old new faulty ms
is_seen A faulty old middle new ms p grown noted texts before w earlier f h =
    let kept : Holds middle (after_marks w ms) = (p w f h.now).1 in
    let whole : take new.before (entries_of new.texts) ≡ entries_of old.texts =
    ap (λ n. take n (entries_of new.texts)) before ∙ ap (λ t. take (length (entries_of old.texts)) (entries_of t)) texts ∙ grown.texts in
    record {
      now = record {
        signed = subst (λ n. AreSigners n (after_marks w ms).signed) (sym noted) kept.signed;
        texts = subst (λ t. AreTexts (entries_of t) (after_marks w ms).texts) (sym texts) kept.texts;
      };
      before = subst (λ es. AreTexts es w.texts) (sym whole) h.now.texts;
    }

pub is_refused : (A : Accepted) (faulty : List Party) (old : Watch) (ms : List MarkValue) (fault : WatchFault) →
    Breaks A faulty old ms fault → IsFirstBreach A faulty old ms fault
is_refused A faulty old ms fault b w earlier f h = b w f h.now

pub is_as_before : (old middle new : Watch) → Grown old middle → new.noted ≡ middle.noted → new.before ≡ middle.before →
    entries_of new.texts ≡ take (length (entries_of old.texts)) (entries_of middle.texts) → KeepsWatching old new
is_as_before old middle new grown noted before texts w earlier h =
    let whole : entries_of new.texts ≡ entries_of old.texts = texts ∙ grown.texts in
    record {
      now = record {
        signed = subst (λ n. AreSigners n w.signed) (sym (noted ∙ grown.noted)) h.now.signed;
        texts = subst (λ es. AreTexts es w.texts) (sym whole) h.now.texts;
      };
      before =
          subst (λ es. AreTexts es earlier)
          (sym (ap (λ n. take n (entries_of new.texts)) (before ∙ grown.before) ∙ ap (take old.before) whole)) h.before;
    }

-- ---- a text

module _ (watch new : Watch) (t : TransactionValue) (noted : new.noted ≡ watch.noted) where
  pub text_passed : ((texts : List TransactionValue) →
      AreTexts (entries_of watch.texts) texts → AreTexts (entries_of new.texts) (texts ++ t ∷ [])) →
      ((w : WatchValue) → AreTexts (entries_of watch.texts) w.texts → collision w t ≡ None) →
      (A : Accepted) (faulty : List Party) → Passes A faulty watch (Text t ∷ []) new
  text_passed kept apart A faulty w f h = (
    ap (λ o. or_else o None) (apart w h.texts),
    record { signed = subst (λ n. AreSigners n w.signed) (sym noted) h.signed; texts = kept w.texts h.texts },
  )

pub text_broke : (watch : Watch) (t : TransactionValue) (fault : WatchFault) →
    ((w : WatchValue) → AreTexts (entries_of watch.texts) w.texts → Tells (collision w t) fault) →
    (A : Accepted) (faulty : List Party) → Breaks A faulty watch (Text t ∷ []) fault
text_broke watch t fault told A faulty w f h = told_first fault (collision w t) None (told w h.texts)

-- ---- what results tell

pub err_told : (P : WatchFault → Type 0) (r : Result (Unit {0}) WatchFault) (e : WatchFault) → IsErrAnd r (λ x. x ≡ e) → P e → IfErr r P
err_told P (Ok u) e h p = tt
err_told P (Err x) e h p = subst P (sym h) p

pub if_err : (P Q : WatchFault → Type 0) (r : Result (Unit {0}) WatchFault) → ((e : WatchFault) → P e → Q e) → IfErr r P → IfErr r Q
if_err P Q (Ok u) f h = tt
if_err P Q (Err x) f h = f x h

pub on_ok : (P Q : Type 0) (r : Result (Unit {0}) WatchFault) → (P → Q) → OnOk r P → OnOk r Q
on_ok P Q (Ok u) f h = f h
on_ok P Q (Err x) f h = tt

pub on_both : (P Q R : Type 0) (r : Result (Unit {0}) WatchFault) → (P → Q → R) → OnOk r P → OnOk r Q → OnOk r R
on_both P Q R (Ok u) f h k = f h k
on_both P Q R (Err x) f h k = tt
