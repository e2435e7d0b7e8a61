-- Reports, part by part.
use Rattle.std.proofs.Common.{◌≡◌, ℕ, ◌+◌, ◌<◌, ◌≤◌, Bool, true, false, cond, List, [], ◌∷◌, ◌++◌, length}
use Rattle.std.proofs.Common.{drop, get_or, Option, Some, None, refl, sym, ap, subst, ◌∙◌, append_assoc}
use Rattle.std.specs.Prelude.{codes, is_some, option_and_then, option_map, slice_get, unwrap_or}
use Rattle.std.specs.List.{flat_map}
use Rattle.std.specs.Map.{lookup}
use Rattle.std.specs.Option.{option_map_or, option_or}
use Rattle.std.specs.Str.{bytes_eq}
use Rattle.std.proofs.lemmas.List.{append-nil}
use Rattle.std.proofs.lemmas.Option.{slice_get-get_or}
use Rattle.basil_types.proofs.KeyLaws.{bytes_tell, lookup-push}
use Rattle.basil_types.proofs.Walks.{drop_here, drop_short}
use Rattle.basil_types.specs.Transaction.{TransactionValue, id}
use Rattle.basil_types.specs.declared.party.Decision.{Decision}
use Rattle.basil_types.specs.declared.version.Version.{Version}
use Rattle.client_core.specs.Slots.{ReadStateValue}
use Rattle.cluster_run.specs.States.{State}
use Rattle.cluster_run.specs.Telling.{decision_at, transaction_at, value_at}
use Rattle.hex.specs.Hex.{encode_lower}
use Rattle.schedule_replay.specs.declared.course.Course.{Course}
use Rattle.schedule_replay.specs.Names.{keys_of}
use Rattle.schedule_replay.specs.Naming.{name_at}
use Rattle.schedule_replay.specs.Replays.{NamedValue, NamesValue, ReplayValue}
use Rattle.report_lines.specs.Lines.{end_line, fate_line}
use Rattle.schedule_replay.specs.Reports.{chosen_tokens, decided, first_name, has_id}
use Rattle.schedule_replay.specs.Reports.{key_lines, read_line, read_lines, report, tx_lines, writer_token}
use Rattle.schedule_replay.specs.Shown.{Stands}
use Rattle.schedule_replay.specs.Telling.{AddsPlace, AreFirst, FirstBelow, Placed, Tells, name_placed, place_of, transaction_lines}
use Rattle.schedule_text.specs.Spelling.{key_token}

or_none : {X : Type 0} (o : Option X) → o ≡ option_or o None
or_none None = refl
or_none (Some x) = refl

or_known : {X : Type 0} (o p : Option X) → is_some o ≡ true → o ≡ option_or o p
or_known None p h = absurd cc
or_known (Some x) p h = refl

-- ---- places of ids

-- whether a transaction is formed with an id, by the id that it is formed with
place_is : (st : State) (named : List ℕ) (tx : ℕ) (x : Option (List ℕ)) → x ≡ option_map id (transaction_at st tx) →
    place_of st named tx ≡ cond (option_map_or (λ (i : List ℕ). bytes_eq i named) x false) (Some tx) None
place_is st named tx x e =
    ap (λ b. cond b (Some tx) None) (by (transaction_at st tx)
    ∙ ap (λ (y : Option (List ℕ)). option_map_or (λ (i : List ℕ). bytes_eq i named) y false) (sym e))
  where
    by : (o : Option TransactionValue) → option_map_or (λ (t : TransactionValue). bytes_eq (id t) named) o false
        ≡ option_map_or (λ (i : List ℕ). bytes_eq i named) (option_map id o) false
    by None = refl
    by (Some t) = refl

module _ (st : State) (tx : ℕ) (old : Placed) where
  pub unformed : None ≡ option_map id (transaction_at st tx) → AddsPlace st tx old old
  unformed e named =
      or_none (lookup (bytes_eq named) old) ∙ ap (option_or (lookup (bytes_eq named) old)) (sym (place_is st named tx None e))

  module _ (i : List ℕ) (e : Some i ≡ option_map id (transaction_at st tx)) where
    joined : (named : List ℕ) (new : Option ℕ) →
        new ≡ option_or (lookup (bytes_eq named) old) (cond (bytes_eq i named) (Some tx) None) →
        new ≡ option_or (lookup (bytes_eq named) old) (place_of st named tx)
    joined named new h = h ∙ ap (option_or (lookup (bytes_eq named) old)) (sym (place_is st named tx (Some i) e))

    -- its id has a place
    pub has_place : is_some (lookup (bytes_eq i) old) ≡ true → AddsPlace st tx old old
    has_place there named = joined named (lookup (bytes_eq named) old) (by (bytes_eq i named) refl)
      where
        by : (b : Bool) → bytes_eq i named ≡ b →
            lookup (bytes_eq named) old ≡ option_or (lookup (bytes_eq named) old) (cond b (Some tx) None)
        by true k =
            or_known (lookup (bytes_eq named) old) (Some tx)
            (ap (λ j. is_some (lookup (bytes_eq j) old)) (sym (bytes_tell i named k)) ∙ there)
        by false k = or_none (lookup (bytes_eq named) old)

    -- its id has none
    pub takes_place : (new : Placed) → lookup (bytes_eq i) old ≡ None → new ≡ old ++ (i, tx) ∷ [] → AddsPlace st tx old new
    takes_place new none put named =
        joined named (lookup (bytes_eq named) new)
        (ap (lookup (bytes_eq named)) put ∙ lookup-push (λ (j : List ℕ). j) i named old i tx refl none
        ∙ by (bytes_eq i named) refl)
      where
        by : (b : Bool) → bytes_eq i named ≡ b →
            cond b (Some tx) (lookup (bytes_eq named) old) ≡ option_or (lookup (bytes_eq named) old) (cond b (Some tx) None)
        by true k =
            sym (ap (λ (o : Option ℕ). option_or o (Some tx))
            (ap (λ j. lookup (bytes_eq j) old) (sym (bytes_tell i named k)) ∙ none))
        by false k = or_none (lookup (bytes_eq named) old)

-- ---- the names of a replay, one after the other

module _ (r : ReplayValue) where
  name_is : (tx : ℕ) (n : NamedValue) → slice_get r.names.begun tx ≡ Some n → name_at r.names tx ≡ n.name
  name_is tx n e = ap (λ (o : Option NamedValue). option_map_or (λ (n : NamedValue). n.name) o []) e

  nobody : NamedValue
  nobody = record { name = []; client = 0 }

  begun_at : (tx : ℕ) → tx < length r.names.begun → (n : NamedValue) × (slice_get r.names.begun tx ≡ Some n)
  begun_at tx h = by (slice_get r.names.begun tx) refl
    where
      by : (o : Option NamedValue) → slice_get r.names.begun tx ≡ o → (n : NamedValue) × (slice_get r.names.begun tx ≡ Some n)
      by (Some n) e = (n, e)
      by None e =
          absurd
          (let none : Some (get_or r.names.begun tx nobody) ≡ None = sym (slice_get-get_or r.names.begun tx nobody h) ∙ e in cc)

  pub none_placed : (places : Placed) → places ≡ [] → FirstBelow places r 0
  none_placed places e named =
      ap (λ ps. option_or (name_placed r ps named) (first_name r.state named 0 r.names.begun)) (sym e)

  pub one_placed : (tx : ℕ) (old new : Placed) → tx < length r.names.begun → FirstBelow old r tx → AddsPlace r.state tx old new →
      FirstBelow new r (tx + 1)
  one_placed tx old new h first adds named =
      first named ∙ ap (option_or (name_placed r old named)) (ap (first_name r.state named tx) (drop_here r.names.begun tx n here.1))
      ∙ join (lookup (bytes_eq named) old) (has_id r.state named tx)
      ∙ ap (λ (o : Option ℕ). option_or (option_map (name_at r.names) o) rest) (sym (adds named))
    where
      here : (n : NamedValue) × (slice_get r.names.begun tx ≡ Some n)
      here = begun_at tx h

      n : NamedValue
      n = here.0

      rest : Option (List ℕ)
      rest = first_name r.state named (tx + 1) (drop (tx + 1) r.names.begun)

      join : (o : Option ℕ) (b : Bool) → option_or (option_map (name_at r.names) o) (cond b (Some n.name) rest)
          ≡ option_or (option_map (name_at r.names) (option_or o (cond b (Some tx) None))) rest
      join (Some x) b = refl
      join None true = ap Some (sym (name_is tx n here.1))
      join None false = refl

  pub all_placed : (places : Placed) (tx : ℕ) → length r.names.begun ≤ tx → FirstBelow places r tx → AreFirst places r
  all_placed places tx h first named =
      first named ∙ ap (λ ns. option_or (name_placed r places named) (first_name r.state named tx ns)) (drop_short r.names.begun tx h)
      ∙ sym (or_none (name_placed r places named))

  -- ---- their lines

  next_lines : (tx : ℕ) → tx < length r.names.begun →
      tx_lines r tx (drop tx r.names.begun) ≡ transaction_lines r tx ++ tx_lines r (tx + 1) (drop (tx + 1) r.names.begun)
  next_lines tx h =
      ap (tx_lines r tx) (drop_here r.names.begun tx n here.1)
      ∙ ap (λ (name : List ℕ). (fate_line name (decided r.state tx) ++ read_lines r tx name (keys_of r.names tx)) ++ rest)
      (sym (name_is tx n here.1))
    where
      here : (n : NamedValue) × (slice_get r.names.begun tx ≡ Some n)
      here = begun_at tx h

      n : NamedValue
      n = here.0

      rest : List ℕ
      rest = tx_lines r (tx + 1) (drop (tx + 1) r.names.begun)

  pub one_reported : (tx : ℕ) (whole out new : List ℕ) → tx < length r.names.begun →
      whole ≡ out ++ tx_lines r tx (drop tx r.names.begun) → new ≡ out ++ transaction_lines r tx →
      whole ≡ new ++ tx_lines r (tx + 1) (drop (tx + 1) r.names.begun)
  one_reported tx whole out new h so put =
      so ∙ ap (λ ls. out ++ ls) (next_lines tx h)
      ∙ sym (append_assoc out (transaction_lines r tx) (tx_lines r (tx + 1) (drop (tx + 1) r.names.begun)))
      ∙ ap (λ ls. ls ++ tx_lines r (tx + 1) (drop (tx + 1) r.names.begun)) (sym put)

  pub all_reported : (tx : ℕ) (whole out : List ℕ) → length r.names.begun ≤ tx →
      whole ≡ out ++ tx_lines r tx (drop tx r.names.begun) → out ≡ whole
  all_reported tx whole out h so =
      sym (so ∙ ap (λ ns. out ++ tx_lines r tx ns) (drop_short r.names.begun tx h) ∙ append-nil out)

-- ---- what a course shows

-- a place that a course has is that of a begun transaction
pub is_begun_at : (course : Course) (r : ReplayValue) (place : ℕ) → Stands course r → place < length course.names.begun →
    place < length r.names.begun
is_begun_at course r place s h = let P : NamesValue → Type 0 = λ ns. place < length ns.begun in subst P (sym s.names) h

-- and one past its last is past theirs
pub is_past : (course : Course) (r : ReplayValue) (place : ℕ) → Stands course r → length course.names.begun ≤ place →
    length r.names.begun ≤ place
is_past course r place s h = let P : NamesValue → Type 0 = λ ns. length ns.begun ≤ place in subst P (sym s.names) h

module _ (course : Course) (r : ReplayValue) (s : Stands course r) where
  pub name_shown : (place : ℕ) (name : List ℕ) → name ≡ name_at course.names place → name ≡ name_at r.names place
  name_shown place name e = e ∙ ap (λ ns. name_at ns place) (sym s.names)

  pub keys_shown : (place : ℕ) (keys : Option (List (List ℕ))) → keys ≡ slice_get course.names.keys place →
      option_map_or (λ (ks : List (List ℕ)). ks) keys [] ≡ keys_of r.names place
  keys_shown place keys e =
      ap (λ (o : Option (List (List ℕ))). option_map_or (λ (ks : List (List ℕ)). ks) o [])
      (e ∙ ap (λ ns. slice_get ns.keys place) (sym s.names))

-- ---- texts

-- a text is appended, which is told otherwise
pub appended : (out new text same : List ℕ) → new ≡ out ++ text → text ≡ same → new ≡ out ++ same
appended out new text same put e = put ∙ ap (λ t. out ++ t) e

-- two texts are appended
pub both : (out first new a b : List ℕ) → first ≡ out ++ a → new ≡ first ++ b → new ≡ out ++ (a ++ b)
both out first new a b h k = k ∙ ap (λ o. o ++ b) h ∙ append_assoc out a b

-- one more of a list's pieces is appended
pub one_piece : {A : Type 0} (f : A → List ℕ) (whole out new : List ℕ) (x : A) (xs : List A) → whole ≡ out ++ flat_map f (x ∷ xs) →
    new ≡ out ++ f x → whole ≡ new ++ flat_map f xs
one_piece f whole out new x xs so put =
    so ∙ sym (append_assoc out (f x) (flat_map f xs)) ∙ ap (λ o. o ++ flat_map f xs) (sym put)

-- ---- the writer of a version

module _ (course : Course) (places : Placed) (r : ReplayValue) (t : Tells course places r) (v : Version) where
  token_by : (o : Option ℕ) → o ≡ lookup (bytes_eq v.id) places →
      option_map_or (λ (name : List ℕ). name) (option_map (name_at r.names) o) (encode_lower v.id) ≡ writer_token r v
  token_by o e =
      sym (ap (λ (w : Option (List ℕ)). option_map_or (λ (name : List ℕ). name) w (encode_lower v.id))
      (t.first v.id ∙ ap (option_map (name_at r.names)) (sym e)))

  pub writer_named : (place : ℕ) (token : List ℕ) → Some place ≡ lookup (bytes_eq v.id) places → token ≡ name_at course.names place →
      token ≡ writer_token r v
  writer_named place token e h = name_shown course r t.stands place token h ∙ token_by (Some place) e

  pub writer_spelled : (token : List ℕ) → None ≡ lookup (bytes_eq v.id) places → token ≡ encode_lower v.id → token ≡ writer_token r v
  writer_spelled token e h = h ∙ token_by None e

-- ---- the line of a read

no_line : (out name key : List ℕ) (tokens : Option (List ℕ)) → is_some tokens ≡ false → out ≡ out ++ read_line name key tokens
no_line out name key None h = sym (append-nil out)
no_line out name key (Some w) h = absurd cc

whole_line : (out asked chosen new name key : List ℕ) (tokens : Option (List ℕ)) → is_some tokens ≡ true →
    asked ≡ out ++ (codes "read " ++ name ++ 32 ∷ key_token key ++ 32 ∷ []) → chosen ≡ asked ++ unwrap_or tokens [] →
    new ≡ chosen ++ 10 ∷ [] → new ≡ out ++ read_line name key tokens
whole_line out asked chosen new name key None some a b c = absurd cc
whole_line out asked chosen new name key (Some w) some a b c =
    c ∙ ap (λ o. o ++ 10 ∷ []) (b ∙ ap (λ o. o ++ w) a) ∙ simp append_assoc

module _ (course : Course) (places : Placed) (r : ReplayValue) (t : Tells course places r) (tx : ℕ) (key read : List ℕ)
    (told : ReadStateValue) (is : told ≡ value_at r.setup r.state tx read) (lent : read ≡ key) (chosen : Bool)
    (tests : chosen ≡ is_some (chosen_tokens r told)) where
  tokens_are : chosen_tokens r told ≡ chosen_tokens r (value_at r.setup r.state tx key)
  tokens_are = ap (chosen_tokens r) (is ∙ ap (value_at r.setup r.state tx) lent)

  -- without a choice
  pub unchosen : (out : List ℕ) → chosen ≡ false →
      out ≡ out ++ read_line (name_at r.names tx) key (chosen_tokens r (value_at r.setup r.state tx key))
  unchosen out without =
      no_line out (name_at r.names tx) key (chosen_tokens r told) (sym tests ∙ without)
      ∙ ap (λ w. out ++ read_line (name_at r.names tx) key w) tokens_are

  -- with one
  pub is_read : (out asked behind new name spelled : List ℕ) → chosen ≡ true → name ≡ name_at course.names tx → spelled ≡ key →
      asked ≡ out ++ (codes "read " ++ name ++ 32 ∷ key_token spelled ++ 32 ∷ []) → behind ≡ asked ++ unwrap_or (chosen_tokens r told) [] →
      new ≡ behind ++ 10 ∷ [] → new ≡ out ++ read_line (name_at r.names tx) key (chosen_tokens r (value_at r.setup r.state tx key))
  is_read out asked behind new name spelled with named same a b c =
      whole_line out asked behind new (name_at r.names tx) key (chosen_tokens r told) (sym tests ∙ with)
      (a ∙ ap (λ n. out ++ (codes "read " ++ n ++ 32 ∷ key_token spelled ++ 32 ∷ [])) (name_shown course r t.stands tx name named)
      ∙ ap (λ k. out ++ (codes "read " ++ name_at r.names tx ++ 32 ∷ key_token k ++ 32 ∷ [])) same) b c
      ∙ ap (λ w. out ++ read_line (name_at r.names tx) key w) tokens_are

-- ---- what became of a transaction

pub decided_by_id : (st : State) (tx : ℕ) (i : List ℕ) (fate : Option Decision) → Some i ≡ option_map id (transaction_at st tx) →
    fate ≡ decision_at st i → fate ≡ decided st tx
decided_by_id st tx i fate e h = h ∙ by (transaction_at st tx) e
  where
    by : (o : Option TransactionValue) → Some i ≡ option_map id o →
        decision_at st i ≡ option_and_then (λ (t : TransactionValue). decision_at st (id t)) o
    by None e = absurd cc
    by (Some t) e = let same : i ≡ id t = cc in ap (decision_at st) same

-- ---- the whole

pub whole_report : (r : ReplayValue) (empty lines keyed text : List ℕ) (messages : ℕ) → empty ≡ [] →
    lines ≡ empty ++ tx_lines r 0 r.names.begun → keyed ≡ lines ++ key_lines r.state → messages ≡ length r.state.pool →
    text ≡ keyed ++ end_line messages → text ≡ report r
whole_report r empty lines keyed text messages none a b n c =
    c ∙ ap (λ k. keyed ++ end_line k) n
    ∙ ap (λ o. o ++ end_line (length r.state.pool))
    (b ∙ ap (λ o. o ++ key_lines r.state) (a ∙ ap (λ o. o ++ tx_lines r 0 r.names.begun) none))

-- four parts, one after the other
pub four_parts : (x0 x1 x2 x3 x4 a b c d : List ℕ) → x0 ≡ [] → x1 ≡ x0 ++ a → x2 ≡ x1 ++ b → x3 ≡ x2 ++ c → x4 ≡ x3 ++ d →
    (p q r s : List ℕ) → a ≡ p → b ≡ q → c ≡ r → d ≡ s → x4 ≡ ((p ++ q) ++ r) ++ s
four_parts x0 x1 x2 x3 x4 a b c d none one two three four p q r s e f g h =
    four
    ∙ ap (λ x. x ++ d) (three ∙ ap (λ x. x ++ c) (two ∙ ap (λ x. x ++ b) (one ∙ ap (λ x. x ++ a) none)))
    ∙ ap (λ x. ((x ++ b) ++ c) ++ d) e
    ∙ ap (λ x. ((p ++ x) ++ c) ++ d) f
    ∙ ap (λ x. ((p ++ q) ++ x) ++ d) g
    ∙ ap (λ x. ((p ++ q) ++ r) ++ x) h
