-- What is heard in the pool of a run is what its rules take from it.
use Rattle.std.proofs.Common.{◌≡◌, ◌∙◌, ℕ, Bool, true, false, cond, List, [], ◌∷◌, ◌++◌, Option}
use Rattle.std.proofs.Common.{Some, None, length, map, take, refl, sym, ap, append_assoc}
use Rattle.std.specs.Prelude.{◌||◌, ◌&&◌, filter, filter_map, find, nat_le, not, option_and_then, slice_get}
use Rattle.std.specs.List.{cons_option, list_any}
use Rattle.std.specs.Option.{option_map_or}
use Rattle.std.proofs.lemmas.List.{append-nil, length-map, map-append, take-map}
use Rattle.basil_types.specs.Built.{or_else}
use Rattle.basil_types.specs.declared.party.Decision.{Decision}
use Rattle.basil_types.specs.declared.party.Decision.TheVariants.{Commit, Abort}
use Rattle.basil_types.specs.Transaction.{TransactionValue, id}
use Rattle.client_recover.specs.Counting.{all_replicas}
use Rattle.frame_views.specs.Fitting.{bounds_of}
use Rattle.frame_views.specs.Frames.{frame_in}
use Rattle.frame_views.specs.Values.{ElectValue, MessageValue, TallyValue, VotedValue, VoteValue, WordValue}
use Rattle.node_steps.specs.Lists.{by_number, firsts, firsts_after}
use Rattle.quorum_laws.specs.Numbers.{abort_tally, commit_tally, log_quorum}
use Rattle.txn_meta.specs.Places.{involved}
use Rattle.cluster_run.specs.Faulty as faulty
use Rattle.cluster_run.specs.Faulty.{as_listed, is_vote, is_word, message_of, names, pool_votes, read_or_none}
use Rattle.cluster_run.specs.Faulty.{same_elector, same_voter, tallies_from, tally_from, vote_in, word_in, words_from}
use Rattle.cluster_run.specs.States.{Posted, Setup, State}
use Rattle.faulty_parties.specs.declared.question.Question.TheVariants.{Votes, Words}
use Rattle.faulty_parties.specs.Hearing.{as_said, heard, heard_of, joined, joined_all, same_bool, same_replica, vote_heard, word_heard}
use Rattle.faulty_parties.specs.Tallies.{all_heard, is_enough, listed, shard_in, tallies_in, tally_in, vote_said, words_in}
use Rattle.faulty_parties.proofs.ListLaws.{by_number_mapped}

-- ---- maps

map_map : {A B C : Type 0} (f : A → B) (g : B → C) (xs : List A) → map g (map f xs) ≡ map (λ x. g (f x)) xs
map_map f g [] = refl
map_map f g (x ∷ xs) = ap (λ l. g (f x) ∷ l) (map_map f g xs)

map_same : {A B : Type 0} (f g : A → B) → ((x : A) → f x ≡ g x) → (xs : List A) → map f xs ≡ map g xs
map_same f g same [] = refl
map_same f g same (x ∷ xs) = ap (λ y. y ∷ map f xs) (same x) ∙ ap (λ l. g x ∷ l) (map_same f g same xs)

find_same : {A : Type 0} (p q : A → Bool) → ((x : A) → p x ≡ q x) → (xs : List A) → find p xs ≡ find q xs
find_same p q same [] = refl
find_same p q same (x ∷ xs) =
    ap (λ b. cond b (Some x) (find p xs)) (same x) ∙ ap (λ o. cond (q x) (Some x) o) (find_same p q same xs)

any_more : {A : Type 0} (p : A → Bool) (xs : List A) (x : A) → list_any p (xs ++ x ∷ []) ≡ (p x || list_any p xs)
any_more p [] x = refl
any_more p (y ∷ ys) x = ap (λ b. p y || b) (any_more p ys x) ∙ swap (p y) (p x) (list_any p ys)
  where
    swap : (a b c : Bool) → (a || (b || c)) ≡ (b || (a || c))
    swap true true c = refl
    swap true false c = refl
    swap false true c = refl
    swap false false c = refl

-- ---- the first of each

module _ {A : Type 0} (f : A → WordValue) (like : A → A → Bool) (same : (x y : A) → same_replica (f x) (f y) ≡ like x y) where
  any_mapped : (x : A) (vs : List A) → list_any (same_replica (f x)) (map f vs) ≡ list_any (like x) vs
  any_mapped x [] = refl
  any_mapped x (v ∷ vs) =
      ap (λ b. b || list_any (same_replica (f x)) (map f vs)) (same x v) ∙ ap (λ b. like x v || b) (any_mapped x vs)

  joined_firsts : (xs vs before : List A) → ((x : A) → list_any (like x) before ≡ list_any (like x) vs) →
      joined_all (map f xs) (map f vs) ≡ map f (vs ++ firsts_after like before xs)
  joined_firsts [] vs before e = ap (map f) (sym (append-nil vs))
  joined_firsts (x ∷ xs) vs before e =
      by (list_any (like x) before) refl (joined_firsts xs vs before e)
      (joined_firsts xs (vs ++ x ∷ []) (x ∷ before) (λ y. ap (λ b. like y x || b) (e y) ∙ sym (any_more (like y) vs x)))
    where
      by : (b : Bool) → list_any (like x) before ≡ b →
          joined_all (map f xs) (map f vs) ≡ map f (vs ++ firsts_after like before xs) →
          joined_all (map f xs) (map f (vs ++ x ∷ [])) ≡ map f ((vs ++ x ∷ []) ++ firsts_after like (x ∷ before) xs) →
          joined_all (map f xs) (joined (f x) (map f vs))
          ≡ map f (vs ++ cond b (firsts_after like before xs) (x ∷ firsts_after like (x ∷ before) xs))
      by true is old new =
          ap (λ b. joined_all (map f xs) (cond b (map f vs) (map f vs ++ f x ∷ []))) (any_mapped x vs ∙ sym (e x) ∙ is) ∙ old
      by false is old new =
          ap (λ b. joined_all (map f xs) (cond b (map f vs) (map f vs ++ f x ∷ []))) (any_mapped x vs ∙ sym (e x) ∙ is)
          ∙ ap (joined_all (map f xs)) (sym (map-append f vs (x ∷ []))) ∙ new
          ∙ ap (map f) (append_assoc vs (x ∷ []) (firsts_after like (x ∷ before) xs))

  pub joined_are_firsts : (xs : List A) → joined_all (map f xs) [] ≡ map f (firsts like xs)
  joined_are_firsts xs = joined_firsts xs [] [] (λ x. refl)

joined_both : (xs ys ws : List WordValue) → joined_all (xs ++ ys) ws ≡ joined_all ys (joined_all xs ws)
joined_both [] ys ws = refl
joined_both (x ∷ xs) ys ws = joined_both xs ys (joined x ws)

-- ---- votes

module _ (s : Setup) (t : TransactionValue) where
  votes_heard : (d : Decision) (shard : ℕ) (posts : List Posted) → heard_of s.kit.accepts s.cluster (id t) (Votes shard d) posts
      ≡ map as_said (filter (is_vote s t d shard) (filter_map vote_in (filter_map (message_of s) posts)))
  votes_heard d shard [] = refl
  votes_heard d shard (p ∷ ps) = by (read_or_none (frame_in (bounds_of s.cluster) p.frame)) (votes_heard d shard ps)
    where
      later : List WordValue
      later = heard_of s.kit.accepts s.cluster (id t) (Votes shard d) ps

      rest : List MessageValue
      rest = filter_map (message_of s) ps

      so : (v : VotedValue) (b : Bool) → later ≡ map as_said (filter (is_vote s t d shard) (filter_map vote_in rest)) →
          cons_option (cond b (Some (as_said v)) None) later
          ≡ map as_said (cond b (v ∷ filter (is_vote s t d shard) (filter_map vote_in rest))
          (filter (is_vote s t d shard) (filter_map vote_in rest)))
      so v true e = ap (λ l. as_said v ∷ l) e
      so v false e = e

      of : (o : Option VotedValue) → later ≡ map as_said (filter (is_vote s t d shard) (filter_map vote_in rest)) →
          cons_option (option_and_then (vote_heard s.kit.accepts (id t) shard d) o) later
          ≡ map as_said (filter (is_vote s t d shard) (cons_option o (filter_map vote_in rest)))
      of None e = e
      of (Some v) e = so v (is_vote s t d shard v) e

      by : (o : Option MessageValue) → later ≡ map as_said (filter (is_vote s t d shard) (filter_map vote_in rest)) →
          cons_option (option_and_then (heard s.kit.accepts (id t) (Votes shard d)) o) later
          ≡ map as_said (filter (is_vote s t d shard) (filter_map vote_in (cons_option o rest)))
      by None e = e
      by (Some m) e = of (vote_in m) e

  -- those with the decision, or the others
  abbrev agreeing : Decision → Bool → ElectValue → Bool
  agreeing d agrees m = same_bool agrees (names d m)

  words_heard : (d : Decision) (shard view : ℕ) (agrees : Bool) (posts : List Posted) →
      heard_of s.kit.accepts s.cluster (id t) (Words shard view d agrees) posts
      ≡ map as_listed (filter (agreeing d agrees) (filter (is_word s t shard view) (filter_map word_in (filter_map (message_of s) posts))))
  words_heard d shard view agrees [] = refl
  words_heard d shard view agrees (p ∷ ps) =
      by (read_or_none (frame_in (bounds_of s.cluster) p.frame)) (words_heard d shard view agrees ps)
    where
      later : List WordValue
      later = heard_of s.kit.accepts s.cluster (id t) (Words shard view d agrees) ps

      rest : List MessageValue
      rest = filter_map (message_of s) ps

      right : List ElectValue
      right = filter (is_word s t shard view) (filter_map word_in rest)

      so : (m : ElectValue) (b k : Bool) → later ≡ map as_listed (filter (agreeing d agrees) right) → agreeing d agrees m ≡ k →
          cons_option (cond (b && k) (Some (as_listed m)) None) later
          ≡ map as_listed (filter (agreeing d agrees) (cond b (m ∷ right) right))
      so m true true e is =
          ap (λ l. as_listed m ∷ l) e
          ∙ ap (λ k. map as_listed (cond k (m ∷ filter (agreeing d agrees) right) (filter (agreeing d agrees) right))) (sym is)
      so m true false e is =
          e ∙ ap (λ k. map as_listed (cond k (m ∷ filter (agreeing d agrees) right) (filter (agreeing d agrees) right))) (sym is)
      so m false k e is = e

      of : (o : Option ElectValue) → later ≡ map as_listed (filter (agreeing d agrees) right) →
          cons_option (option_and_then (word_heard s.kit.accepts (id t) shard view d agrees) o) later
          ≡ map as_listed (filter (agreeing d agrees) (filter (is_word s t shard view) (cons_option o (filter_map word_in rest))))
      of None e = e
      of (Some m) e = so m (is_word s t shard view m) (agreeing d agrees m) e refl

      by : (o : Option MessageValue) → later ≡ map as_listed (filter (agreeing d agrees) right) →
          cons_option (option_and_then (heard s.kit.accepts (id t) (Words shard view d agrees)) o) later
          ≡ map as_listed (filter (agreeing d agrees) (filter (is_word s t shard view) (filter_map word_in (cons_option o rest))))
      by None e = e
      by (Some m) e = of (word_in m) e

module _ (s : Setup) (st : State) (t : TransactionValue) where
  votes_are : (d : Decision) (shard : ℕ) →
      all_heard s.kit.accepts s.cluster (id t) (Votes shard d) st.pool ≡ map as_said (pool_votes s st t d shard)
  votes_are d shard =
      ap (λ l. joined_all l []) (votes_heard s t d shard st.pool)
      ∙ joined_are_firsts as_said same_voter (λ x y. refl)
      (filter (is_vote s t d shard) (filter_map vote_in (filter_map (message_of s) st.pool)))

  -- ---- tallies

  tally_is : (d : Decision) (needed shard : ℕ) →
      tally_in s.kit.accepts s.cluster st.pool (id t) d needed shard ≡ tally_from s st t d needed shard
  tally_is d needed shard =
      let votes = take needed (pool_votes s st t d shard) in
      let made : List VoteValue → TallyValue = λ l. record { shard = shard; votes = l } in
      ap (λ ws. made (map vote_said (listed s.cluster (take needed ws)))) (votes_are d shard)
      ∙ ap (λ ws. made (map vote_said (listed s.cluster ws))) (take-map as_said needed (pool_votes s st t d shard))
      ∙ ap (λ ws. made (map vote_said ws)) (by_number_mapped as_said (λ (w : WordValue). w.replica) (all_replicas s.cluster) votes)
      ∙ ap made (map_map as_said vote_said (by_number (λ (v : VotedValue). v.replica) (all_replicas s.cluster) votes))

  enough_is : (shard : ℕ) → is_enough s.kit.accepts s.cluster st.pool (id t) shard
      ≡ nat_le (abort_tally s.cluster.f) (length (pool_votes s st t Abort shard))
  enough_is shard =
      ap (λ ws. nat_le (abort_tally s.cluster.f) (length ws)) (votes_are Abort shard)
      ∙ ap (nat_le (abort_tally s.cluster.f)) (length-map (pool_votes s st t Abort shard) as_said)

  shard_is : shard_in s.kit.accepts s.cluster st.pool t ≡ faulty.abort_shard s st t
  shard_is =
      ap (λ o. or_else o (slice_get (involved s.cluster t) 0))
      (find_same (is_enough s.kit.accepts s.cluster st.pool (id t)) _ enough_is (involved s.cluster t))

  pub tallies_are : (d : Decision) → tallies_in s.kit.accepts s.cluster st.pool t d ≡ tallies_from s st t d
  tallies_are Commit = map_same _ _ (tally_is Commit (commit_tally s.cluster.f)) (involved s.cluster t)
  tallies_are Abort =
      ap (λ o. option_map_or (λ shard. tally_in s.kit.accepts s.cluster st.pool (id t) Abort (abort_tally s.cluster.f) shard ∷ []) o [])
      shard_is
      ∙ by (faulty.abort_shard s st t)
    where
      by : (o : Option ℕ) →
          option_map_or (λ shard. tally_in s.kit.accepts s.cluster st.pool (id t) Abort (abort_tally s.cluster.f) shard ∷ []) o []
          ≡ option_map_or (λ shard. tally_from s st t Abort (abort_tally s.cluster.f) shard ∷ []) o []
      by None = refl
      by (Some shard) = ap (λ l. l ∷ []) (tally_is Abort (abort_tally s.cluster.f) shard)

  -- ---- election words

  abbrev ordered_words : Decision → (shard view : ℕ) → List ElectValue
  ordered_words d shard view =
      let words = filter (is_word s t shard view) (filter_map word_in (filter_map (message_of s) st.pool)) in
      filter (names d) words ++ filter (λ m. not (names d m)) words

  words_both : (d : Decision) (shard view : ℕ) →
      joined_all (heard_of s.kit.accepts s.cluster (id t) (Words shard view d false) st.pool)
      (joined_all (heard_of s.kit.accepts s.cluster (id t) (Words shard view d true) st.pool) [])
      ≡ map as_listed (firsts same_elector (ordered_words d shard view))
  words_both d shard view =
      let words = filter (is_word s t shard view) (filter_map word_in (filter_map (message_of s) st.pool)) in
      ap (λ l. joined_all l (joined_all (heard_of s.kit.accepts s.cluster (id t) (Words shard view d true) st.pool) []))
      (words_heard s t d shard view false st.pool)
      ∙ ap (λ l. joined_all (map as_listed (filter (λ m. not (names d m)) words)) (joined_all l []))
      (words_heard s t d shard view true st.pool)
      ∙ sym (joined_both (map as_listed (filter (names d) words)) (map as_listed (filter (λ m. not (names d m)) words)) [])
      ∙ ap (λ l. joined_all l []) (sym (map-append as_listed (filter (names d) words) (filter (λ m. not (names d m)) words)))
      ∙ joined_are_firsts as_listed same_elector (λ x y. refl) (ordered_words d shard view)

  pub words_are : (d : Decision) (shard view : ℕ) →
      words_in s.kit.accepts s.cluster st.pool (id t) d shard view ≡ words_from s st t d shard view
  words_are d shard view =
      let n = log_quorum s.cluster.f in
      let first = firsts same_elector (ordered_words d shard view) in
      ap (λ ws. listed s.cluster (take n ws)) (words_both d shard view)
      ∙ ap (listed s.cluster) (take-map as_listed n first)
      ∙ by_number_mapped as_listed (λ (w : WordValue). w.replica) (all_replicas s.cluster) (take n first)
