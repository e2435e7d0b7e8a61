-- A sight that notes words one after the other.
use Rattle.std.proofs.Common.{◌≡◌, ℕ, ◌+◌, ◌<◌, Bool, true, false, List, [], ◌∷◌, ◌++◌, length, map, take, get_or, refl, sym, ap, subst}
use Rattle.std.proofs.Common.{◌∙◌, add-one}
use Rattle.std.proofs.Math.Seq.{take-suc}
use Rattle.std.proofs.lemmas.List.{append-nil, append_assoc, map-append}
use Rattle.basil_types.specs.declared.party.Party.{Party}
use Rattle.basil_types.specs.Words.{SignedWords, words_of}
use Rattle.keyring.specs.declared.verifier.Verifier as verifiers
use Rattle.premise_watch.specs.declared.watch.Watch.{Watch}
use Rattle.premise_watch.specs.Breaches.{NotedWords, WatchValue}
use Rattle.premise_watch.specs.Watches as watching
use Rattle.premise_watch.specs.Watches.{KeepsWatching, Watches}
use Rattle.cluster_run.specs.Parts.{noted}
use Rattle.cluster_run.specs.States.{Setup}
use Rattle.run_sight.specs.declared.sight.Sight.{Sight}
use Rattle.run_sight.proofs.SightLaws.{keeps}
use Rattle.run_sight.specs.Sights.{GoesTo, KeepsSight, Notes, NotesSome, Sees, SightValue, with_noted}

-- ---- the last of some words

pub record Last (said : List SignedWords) (ws : List (List ℕ)) (w : List ℕ) : Type 0 where
  pub front : List SignedWords
  pub last : SignedWords
  pub is : said ≡ front ++ last ∷ []
  pub words : map words_of front ≡ ws
  pub word : words_of last ≡ w

both : (a b : List ℕ) (cs ds : List (List ℕ)) → a ≡ b → cs ≡ ds → (a ∷ cs) ≡ (b ∷ ds)
both a b cs ds e f = ap (λ c. c ∷ cs) e ∙ ap (λ es. b ∷ es) f

longer : (y : SignedWords) (said : List SignedWords) (x : List ℕ) (ws : List (List ℕ)) (w : List ℕ) → words_of y ≡ x → Last said ws w →
    Last (y ∷ said) (x ∷ ws) w
longer y said x ws w e l = record {
  front = y ∷ l.front;
  last = l.last;
  is = ap (λ ys. y ∷ ys) l.is;
  words = both (words_of y) x (map words_of l.front) ws e l.words;
  word = l.word;
}

last_of : (said : List SignedWords) (ws : List (List ℕ)) (w : List ℕ) → map words_of said ≡ ws ++ w ∷ [] → Last said ws w
last_of [] [] w e = absurd cc
last_of [] (x ∷ ws) w e = absurd cc
last_of (y ∷ []) [] w e = record { front = []; last = y; is = refl; words = refl; word = cc }
last_of (y ∷ z ∷ said) [] w e = absurd cc
last_of (y ∷ said) (x ∷ ws) w e =
    let rest : map words_of said ≡ ws ++ w ∷ [] = cc in
    let first : words_of y ≡ x = cc in
    longer y said x ws w first (last_of said ws w rest)

-- the words up to a place, with those at the place
taken : (signed : List (List ℕ)) (i : ℕ) (w : List ℕ) → i < length signed → w ≡ get_or signed i w →
    take (i + 1) signed ≡ take i signed ++ w ∷ []
taken signed i w lt is = ap (λ j. take j signed) (add-one i) ∙ take-suc signed i w lt ∙ ap (λ x. take i signed ++ x ∷ []) (sym is)

none_of : (said : List SignedWords) → map words_of said ≡ [] → said ≡ []
none_of [] e = refl
none_of (x ∷ said) e = absurd cc

-- ---- one more

abbrev by_party : Party → SignedWords → NotedWords
by_party p x = record { party = p; words = x }

noted_more : (p : Party) (front : List SignedWords) (x : SignedWords) (w : WatchValue) →
    noted p (front ++ x ∷ []) w ≡ watching.with_noted p x (noted p front w)
noted_more p front x w =
    ap (λ (ns : List NotedWords). record w { signed = ns })
    (ap (λ ns. w.signed ++ ns) (map-append (by_party p) front (x ∷ []))
    ∙ sym (append_assoc w.signed (map (by_party p) front) (by_party p x ∷ [])))

module _ {V : Type 0} (v : verifiers.Ghosts V) (p : Party) where
  pub notes_none : (old : Sight V) → Notes v old old p []
  notes_none old s now earlier said e h =
      subst (λ (ws : List SignedWords). Sees v old s (with_noted p ws now) earlier) (sym (none_of said e))
      (subst (λ (ns : List NotedWords). Sees v old s (record now { watch = record now.watch { signed = ns } }) earlier)
      (sym (append-nil now.watch.signed)) h)

  -- the watch notes one more
  one_more : (old : Sight V) (watch : Watch) (w : List ℕ) → watching.Notes old.watch watch p w → (s : Setup) (now earlier : SightValue)
      (x : SignedWords) → words_of x ≡ w → Sees v old s now earlier →
      Sees v (record old { watch = watch }) s (record now { watch = watching.with_noted p x now.watch }) earlier
  one_more old watch w note s now earlier x e h = record {
    own = h.own;
    faulty = h.faulty;
    same = h.same;
    back = h.back;
    watch = note now.watch h.back x e h.watch;
    texts = goes old.shown h.texts;
    kept = h.kept;
    before = h.before;
  }
    where
      goes : (shown : Bool) → GoesTo shown old.watch now.watch h.back earlier.watch.texts →
          GoesTo shown watch (watching.with_noted p x now.watch) h.back earlier.watch.texts
      goes true k = k
      goes false k = note (record now.watch { texts = earlier.watch.texts }) h.back x e k

  pub notes_more : (old mid : Sight V) (watch : Watch) (ws : List (List ℕ)) (w : List ℕ) → Notes v old mid p ws →
      watching.Notes mid.watch watch p w → Notes v old (record mid { watch = watch }) p (ws ++ w ∷ [])
  notes_more old mid watch ws w notes note s now earlier said e h =
      let l = last_of said ws w e in
      let front = notes s now earlier l.front l.words h in
      subst (λ (ys : List SignedWords). Sees v (record mid { watch = watch }) s (with_noted p ys now) earlier) (sym l.is)
      (subst (λ (x : WatchValue). Sees v (record mid { watch = watch }) s (record now { watch = x }) earlier)
      (sym (noted_more p l.front l.last now.watch))
      (one_more mid watch w note s (with_noted p l.front now) earlier l.last l.word front))

  pub notes_as : (old mid new : Sight V) (ws : List (List ℕ)) → Notes v old mid p ws → KeepsSight v mid new → Notes v old new p ws
  notes_as old mid new ws notes same s now earlier said e h = same s (with_noted p said now) earlier (notes s now earlier said e h)

  -- the words at a place are noted
  pub note_next : (old mid : Sight V) (watch : Watch) (signed : List (List ℕ)) (i : ℕ) (w : List ℕ) → i < length signed →
      w ≡ get_or signed i w → Notes v old mid p (take i signed) → watching.Notes mid.watch watch p w →
      Notes v old (record mid { watch = watch }) p (take (i + 1) signed)
  note_next old mid watch signed i w lt is notes note =
      subst (λ (ws : List (List ℕ)). Notes v old (record mid { watch = watch }) p ws) (sym (taken signed i w lt is))
      (notes_more old mid watch (take i signed) w notes note)

  -- memory is wanting for those at a place
  pub notes_some : (old mid : Sight V) (watch : Watch) (signed : List (List ℕ)) (i : ℕ) → i < length signed →
      Notes v old mid p (take i signed) → KeepsWatching mid.watch watch → NotesSome v old (record mid { watch = watch }) p signed
  notes_some old mid watch signed i lt notes same = (
    i,
    lt,
    notes_as old mid (record mid { watch = watch }) (take i signed) notes
        (keeps v mid watch mid.certified same (record { decisions = refl; commits = refl })),
  )
