-- The divided run's certificate.
use Rattle.std.proofs.Common.{◌≡◌, ℕ, zero, suc, ◌<◌, true, cond, ◌==◌, refl, arith, inr, lit<, lit≤}
use Rattle.std.specs.Prelude.{nat_lt, nat_le}
use Rattle.std.specs.List.{Contains}
use Rattle.std.proofs.lemmas.Bool.{ltb-true, eqb-true}
use Rattle.agreement_laws.specs.Words.{Decision, Commit, Abort, Word, Vote, LogReply, Election}
use Rattle.agreement_laws.specs.Settings.{Sane}
use Rattle.agreement_laws.specs.Certificates.{Signed, Says, Voted, Tallied, Logged, Elected, CanCommit}
use Rattle.agreement_laws.specs.Runs.{signed_of, run, start, AreLawful}
use Rattle.agreement_laws.specs.DividedLog.{six, divided_id, divided, IsSettled}

six_sane : Sane six
six_sane = record {
  few = λ s. lit≤ tt;
  not_itself = λ x s. refl;
  both_ways = λ x y s h. cc;
  on_a_key = λ x y s h. cc;
  of_a_key = λ x y s h. cc;
}

-- what holds of the first four, and of the first five
of_four : (P : ℕ → Type 0) → P 0 → P 1 → P 2 → P 3 → (r : ℕ) → nat_lt r 4 ≡ true → P r
of_four P a b c d zero h = a
of_four P a b c d (suc zero) h = b
of_four P a b c d (suc (suc zero)) h = c
of_four P a b c d (suc (suc (suc zero))) h = d
of_four P a b c d (suc (suc (suc (suc r)))) h = absurd (omega (arith, ltb-true (suc (suc (suc (suc r)))) 4 h))

of_five : (P : ℕ → Type 0) → P 0 → P 1 → P 2 → P 3 → P 4 → (r : ℕ) → nat_lt r 5 ≡ true → P r
of_five P a b c d e zero h = a
of_five P a b c d e (suc zero) h = b
of_five P a b c d e (suc (suc zero)) h = c
of_five P a b c d e (suc (suc (suc zero))) h = d
of_five P a b c d e (suc (suc (suc (suc zero)))) h = e
of_five P a b c d e (suc (suc (suc (suc (suc r))))) h = absurd (omega (arith, ltb-true (suc (suc (suc (suc (suc r))))) 5 h))

-- and of the last two of six
of_two : (P : ℕ → Type 0) → P 4 → P 5 → (r : ℕ) → r < 6 → nat_le 4 r ≡ true → P r
of_two P a b zero l h = cc
of_two P a b (suc zero) l h = cc
of_two P a b (suc (suc zero)) l h = cc
of_two P a b (suc (suc (suc zero))) l h = cc
of_two P a b (suc (suc (suc (suc zero)))) l h = a
of_two P a b (suc (suc (suc (suc (suc zero))))) l h = b
of_two P a b (suc (suc (suc (suc (suc (suc r)))))) l h = absurd (omega (arith, l))

only_shard : (P : ℕ → Type 0) → P 0 → (s : ℕ) → (s == 0) ≡ true → P s
only_shard P h zero e = h
only_shard P h (suc s) e = absurd (omega (arith, eqb-true (suc s) 0 e))

-- what each of the first five names in view 1
abbrev named : ℕ → Decision
named r = cond (nat_lt r 3) Commit Abort

module _ (g : Signed) where
  abbrev Has : (r : ℕ) → Word → Type 0
  Has r w = Contains (g 0 r) w

  commit_tallied : Has 0 (Vote 0 0 divided_id Commit) → Has 1 (Vote 0 1 divided_id Commit) → Has 2 (Vote 0 2 divided_id Commit) →
      Has 3 (Vote 0 3 divided_id Commit) → Tallied six g divided_id Commit
  commit_tallied a b c d = only_shard (λ s. Voted six g divided_id s Commit 4) (record {
    who = λ r. nat_lt r 4;
    many = lit≤ tt;
    each = λ r l h. of_four (λ r. Says six g 0 r (Vote 0 r divided_id Commit)) (inr a) (inr b) (inr c) (inr d) r h;
  })

  abort_tallied : Has 4 (Vote 0 4 divided_id Abort) → Has 5 (Vote 0 5 divided_id Abort) → Tallied six g divided_id Abort
  abort_tallied a b = (
    0,
    refl,
    record {
      who = λ r. nat_le 4 r;
      many = lit≤ tt;
      each = λ r l h. of_two (λ r. Says six g 0 r (Vote 0 r divided_id Abort)) (inr a) (inr b) r l h;
    },
  )

  elected : Has 0 (Election 0 0 divided_id Commit 1) → Has 1 (Election 0 1 divided_id Commit 1) → Has 2 (Election 0 2 divided_id Commit 1) →
      Has 3 (Election 0 3 divided_id Abort 1) → Has 4 (Election 0 4 divided_id Abort 1) → Elected six g divided_id Commit 1
  elected a b c d e = record {
    who = λ r. nat_lt r 5;
    names = named;
    exact = refl;
    most = lit≤ tt;
    each = λ r l h. of_five (λ r. Says six g 0 r (Election 0 r divided_id (named r) 1)) (inr a) (inr b) (inr c) (inr d) (inr e) r h;
  }

  adopted : Has 0 (LogReply 0 0 divided_id Commit 1 1) → Has 1 (LogReply 0 1 divided_id Commit 1 1) →
      Has 2 (LogReply 0 2 divided_id Commit 1 1) → Has 3 (LogReply 0 3 divided_id Commit 1 1) → Has 4 (LogReply 0 4 divided_id Commit 1 1) →
      Logged six g divided_id Commit 1
  adopted a b c d e = record {
    who = λ r. nat_lt r 5;
    many = lit≤ tt;
    each =
        λ r l h. of_five (λ r. (u : ℕ) × Says six g 0 r (LogReply 0 r divided_id Commit 1 u))
        (1, inr a) (1, inr b) (1, inr c) (1, inr d) (1, inr e) r h;
  }

  committed : Has 0 (LogReply 0 0 divided_id Commit 1 1) → Has 1 (LogReply 0 1 divided_id Commit 1 1) →
      Has 2 (LogReply 0 2 divided_id Commit 1 1) → Has 3 (LogReply 0 3 divided_id Commit 1 1) → Has 4 (LogReply 0 4 divided_id Commit 1 1) →
      CanCommit six g divided_id
  committed a b c d e = inr (1, adopted a b c d e)

lawful : AreLawful six divided start
lawful = (
  (refl, (refl, (λ y h. cc), inr (refl, λ y h. cc))),
  (
    (refl, (refl, (λ y h. cc), inr (refl, λ y h. cc))),
    (
      (refl, (refl, (λ y h. cc), inr (refl, λ y h. cc))),
      (
        (refl, (refl, (λ y h. cc), inr (refl, λ y h. cc))),
        (
          (refl, (refl, inr refl)),
          (
            refl,
            (
              (refl, (refl, refl, commit_tallied _ (0, lit< tt, refl) (0, lit< tt, refl) (0, lit< tt, refl) (0, lit< tt, refl))),
              (
                (refl, (refl, refl, commit_tallied _ (0, lit< tt, refl) (0, lit< tt, refl) (0, lit< tt, refl) (0, lit< tt, refl))),
                (
                  (refl, (refl, refl, commit_tallied _ (0, lit< tt, refl) (0, lit< tt, refl) (0, lit< tt, refl) (0, lit< tt, refl))),
                  (
                    (refl, (refl, refl, abort_tallied _ (0, lit< tt, refl) (0, lit< tt, refl))),
                    (
                      (refl, (refl, refl, abort_tallied _ (0, lit< tt, refl) (0, lit< tt, refl))),
                      (
                        (refl, (refl, lit< tt)),
                        (
                          (refl, (refl, lit< tt)),
                          (
                            (refl, (refl, lit< tt)),
                            (
                              (refl, (refl, lit< tt)),
                              (
                                (refl, (refl, lit< tt)),
                                (
                                  (
                                    refl,
                                    elected _
                                        (2, lit< tt, refl) (2, lit< tt, refl) (2, lit< tt, refl) (2, lit< tt, refl) (2, lit< tt, refl),
                                  ),
                                  (
                                    (
                                      refl,
                                      (
                                        (lit< tt, lit≤ tt),
                                        elected _
                                            (2, lit< tt, refl) (2, lit< tt, refl) (2, lit< tt, refl) (2, lit< tt, refl) (2, lit< tt, refl),
                                        inr (3, lit< tt, refl),
                                      ),
                                    ),
                                    (
                                      (
                                        refl,
                                        (
                                          (lit< tt, lit≤ tt),
                                          elected _ (2, lit< tt, refl)
                                              (2, lit< tt, refl) (2, lit< tt, refl) (2, lit< tt, refl) (2, lit< tt, refl),
                                          inr (3, lit< tt, refl),
                                        ),
                                      ),
                                      (
                                        (
                                          refl,
                                          (
                                            (lit< tt, lit≤ tt),
                                            elected _ (2, lit< tt, refl)
                                                (2, lit< tt, refl) (2, lit< tt, refl) (2, lit< tt, refl) (2, lit< tt, refl),
                                            inr (3, lit< tt, refl),
                                          ),
                                        ),
                                        (
                                          (
                                            refl,
                                            (
                                              (lit< tt, lit≤ tt),
                                              elected _ (2, lit< tt, refl)
                                                  (2, lit< tt, refl) (2, lit< tt, refl) (2, lit< tt, refl) (2, lit< tt, refl),
                                              inr (3, lit< tt, refl),
                                            ),
                                          ),
                                          (
                                            (
                                              refl,
                                              (
                                                (lit< tt, lit≤ tt),
                                                elected _ (2, lit< tt, refl)
                                                    (2, lit< tt, refl) (2, lit< tt, refl) (2, lit< tt, refl) (2, lit< tt, refl),
                                                inr (3, lit< tt, refl),
                                              ),
                                            ),
                                            (
                                              (
                                                refl,
                                                (
                                                  refl,
                                                  committed _ (3, lit< tt, refl)
                                                      (4, lit< tt, refl) (3, lit< tt, refl) (3, lit< tt, refl) (3, lit< tt, refl),
                                                ),
                                              ),
                                              tt,
                                            ),
                                          ),
                                        ),
                                      ),
                                    ),
                                  ),
                                ),
                              ),
                            ),
                          ),
                        ),
                      ),
                    ),
                  ),
                ),
              ),
            ),
          ),
        ),
      ),
    ),
  ),
)

pub settled : IsSettled
settled = let g = signed_of (run divided start) in record {
  sane = six_sane;
  lawful = lawful;
  one_faulty = refl;
  logged_commit = (1, lit< tt, refl);
  logged_abort = (1, lit< tt, refl);
  elected = elected g (2, lit< tt, refl) (2, lit< tt, refl) (2, lit< tt, refl) (2, lit< tt, refl) (2, lit< tt, refl);
  certificate = (1, adopted g (3, lit< tt, refl) (4, lit< tt, refl) (3, lit< tt, refl) (3, lit< tt, refl) (3, lit< tt, refl));
}
