-- Frames: what is read was spelled so and fits, and each frame is read.
use Rattle.std.proofs.Common.{◌≡◌, ℕ, ◌-◌, Bool, true, false, cond, ltb, eqb, List, [], ◌∷◌, ◌++◌, length, Result, Ok, Err, refl}
use Rattle.std.proofs.Common.{sym, ap, subst, ◌∙◌, arith}
use Rattle.std.specs.Prelude.{IfOk}
use Rattle.std.proofs.lemmas.Bool.{eqb-true, ltb-false, le-ltb}
use Rattle.std.proofs.lemmas.List.{append-nil, nil_from_length}
use Rattle.basil_types.specs.declared.reading.Fault.{Fault}
use Rattle.basil_types.specs.Steps.{◌>>=◌}
use Rattle.basil_types.specs.Setting.{Setting}
use Rattle.basil_types.specs.Texts.{IsBytes}
use Rattle.basil_types.specs.Reading.{byte_at}
use Rattle.basil_types.proofs.Fields.{bind_ok, byte_takes}
use Rattle.frame_views.specs.declared.fault.BadFrame.{BadFrame}
use Rattle.frame_views.specs.declared.fault.BadFrame.TheVariants as bad
use Rattle.frame_views.specs.declared.kind.Kind.{Kind}
use Rattle.frame_views.specs.declared.kind.Kind.TheVariants as kind
use Rattle.frame_views.specs.declared.bounds.Bounds.{Bounds}
use Rattle.frame_views.specs.Values.{MessageValue, Read, ReadReply, St1, Vote, St2, LogReply, Writeback, Recover, Invoke, Elect, Decide}
use Rattle.frame_views.specs.Spelling.{message_bytes, kind_of, kind_byte, spelling}
use Rattle.frame_views.specs.Fitting.{Within, bounds_of, FitsMessage, IsSpoken}
use Rattle.frame_views.specs.Grammar.{message_at}
use Rattle.frame_views.specs.Frames.{frame_limit, IsFrame, kind_in, in_frame, body_in, message_in, frame_in, Answers}
use Rattle.frame_views.proofs.GrammarLaws.{message_takes, message_again}

-- ---- kinds

try_kind : (b i : ℕ) (ki k : Kind) (t : Bool) (other : Result Kind BadFrame) → eqb b i ≡ t → kind_byte ki ≡ i
    → (other ≡ Ok k → kind_byte k ≡ b) → cond t (Ok ki) other ≡ Ok k → kind_byte k ≡ b
try_kind b i ki k true other is same rest e = subst (λ (z : Kind). kind_byte z ≡ b) (by ki k e) (same ∙ sym (eqb-true b i is))
  where
    by : (x y : Kind) → cond true (Ok x) other ≡ Ok y → x ≡ y
    by x y e = cc
try_kind b i ki k false other is same rest e = rest e

abbrev no-kind : Result Kind BadFrame
no-kind = Err bad.Kind

pub kind_known : (b : ℕ) (k : Kind) → kind_in b ≡ Ok k → kind_byte k ≡ b
kind_known b k e =
    try_kind b 1 kind.Read k _ _ refl refl
    (try_kind b 2 kind.ReadReply k _ _ refl refl
    (try_kind b 3 kind.St1 k _ _ refl refl
    (try_kind b 4 kind.Vote k _ _ refl refl
    (try_kind b 5 kind.St2 k _ _ refl refl
    (try_kind b 6 kind.LogReply k _ _ refl refl
    (try_kind b 7 kind.Writeback k _ _ refl refl
    (try_kind b 8 kind.Recover k _ _ refl refl
    (try_kind b 9 kind.Invoke k _ _ refl refl
    (try_kind b 10 kind.Elect k _ _ refl refl
    (try_kind b 11 kind.Decide k _ _ refl refl none)))))))))) e
  where
    none : no-kind ≡ Ok k → kind_byte k ≡ b
    none h = absurd cc

kind_again : (k : Kind) → kind_in (kind_byte k) ≡ Ok k
kind_again kind.Read = refl
kind_again kind.ReadReply = refl
kind_again kind.St1 = refl
kind_again kind.Vote = refl
kind_again kind.St2 = refl
kind_again kind.LogReply = refl
kind_again kind.Writeback = refl
kind_again kind.Recover = refl
kind_again kind.Invoke = refl
kind_again kind.Elect = refl
kind_again kind.Decide = refl

-- ---- frames

in_frame_ok : {A : Type 0} (len : ℕ) (r : Result A Fault) (x : A) → in_frame len r ≡ Ok x → r ≡ Ok x
in_frame_ok len (Ok y) x e = cc
in_frame_ok len (Err f) x e = absurd cc

ended_ok : {A : Type 0} (t : Bool) (d : BadFrame) (x y : A) → cond t (Ok x) (Err d) ≡ Ok y → (t ≡ true) × (x ≡ y)
ended_ok true d x y e = (refl, cc)
ended_ok false d x y e = absurd cc

length_ok : {A : Type 0} (t : Bool) (d : BadFrame) (r : Result A BadFrame) (y : A) → cond t (Err d) r ≡ Ok y → (t ≡ false) × (r ≡ Ok y)
length_ok true d r y e = absurd cc
length_ok false d r y e = (refl, e)

within-same : (b : Bounds) → Within b b
within-same b = record { shards = omega arith; replicas = omega arith }

body_takes : (b : Bounds) (len : ℕ) (k : Kind) (bytes : List ℕ) (m : MessageValue) → IsBytes bytes → body_in b len k bytes ≡ Ok m
    → (bytes ≡ message_bytes m) × FitsMessage b m × (kind_of m ≡ k)
unfolding body_in
body_takes b len k bytes m fits e =
    let a = bind_ok (in_frame len (message_at b k bytes)) (λ body. cond (eqb (length body.1) 0) (Ok body.0)
    (Err (bad.Trailing (len - length body.1)))) m e in
    let g = ended_ok (eqb (length a.0.1) 0) (bad.Trailing (len - length a.0.1)) a.0.0 m a.2 in
    let t = message_takes b b (within-same b) k bytes a.0 fits (in_frame_ok len (message_at b k bytes) a.0 a.1) in
    let nothing : a.0.1 ≡ [] = nil_from_length a.0.1 (eqb-true _ _ g.0) in
    let all : bytes ≡ message_bytes a.0.0 = t.0.parts ∙ ap (λ (r : List ℕ). message_bytes a.0.0 ++ r) nothing
    ∙ append-nil (message_bytes a.0.0) in
    subst (λ (x : MessageValue). (bytes ≡ message_bytes x) × FitsMessage b x × (kind_of x ≡ k)) g.1 (all, t.1, t.2)

body_again : (b : Bounds) (len : ℕ) (m : MessageValue) → FitsMessage b m → body_in b len (kind_of m) (message_bytes m) ≡ Ok m
unfolding body_in
body_again b len m fits =
    let read : message_at b (kind_of m) (message_bytes m) ≡ Ok (m, []) =
    ap (message_at b (kind_of m)) (sym (append-nil (message_bytes m))) ∙ message_again b b (within-same b) m [] fits in
    rw read refl

message_in_takes : (b : Bounds) (frame : List ℕ) (m : MessageValue) → IsBytes frame → message_in b frame ≡ Ok m → FitsMessage b m
    × (frame ≡ spelling m)
unfolding message_in
message_in_takes b frame m fits e =
    let a = bind_ok (in_frame (length frame) (byte_at frame))
    (λ first. kind_in first.0 >>= λ kind. body_in b (length frame) kind first.1) m e in
    let k = bind_ok (kind_in a.0.0) (λ kind. body_in b (length frame) kind a.0.1) m a.2 in
    let t0 = byte_takes frame a.0 fits (in_frame_ok (length frame) (byte_at frame) a.0 a.1) in
    let t1 = body_takes b (length frame) k.0 a.0.1 m t0.0.rest_fits k.2 in
    let first : a.0.0 ≡ kind_byte (kind_of m) = sym (kind_known a.0.0 k.0 k.1) ∙ ap kind_byte (sym t1.2) in
    (t1.1, t0.0.parts ∙ ap (λ (z : List ℕ). a.0.0 ∷ z) t1.0 ∙ ap (λ (z : ℕ). z ∷ message_bytes m) first)

message_in_again : (b : Bounds) (m : MessageValue) → FitsMessage b m → message_in b (spelling m) ≡ Ok m
unfolding message_in
message_in_again b m fits = rw (kind_again (kind_of m)) (body_again b (length (spelling m)) m fits)

pub is_found : {X : Type 0} (view : X → MessageValue) (cluster : Setting) (frame : List ℕ) (r : Result X BadFrame) → IsBytes frame
    → Answers view r (frame_in (bounds_of cluster) frame) → IfOk r (λ x. IsFrame cluster frame (view x))
unfolding frame_in
is_found view cluster frame (Ok x) fits given =
    let a = length_ok (ltb frame_limit (length frame)) bad.Length (message_in (bounds_of cluster) frame) (view x) given in
    let t = message_in_takes (bounds_of cluster) frame (view x) fits a.1 in
    record { short = ltb-false _ _ a.0; fits = t.0; spelled = t.1 }
is_found view cluster frame (Err f) fits given = tt

pub frame_again : (cluster : Setting) (frame : List ℕ) (m : MessageValue) → IsFrame cluster frame m
    → frame_in (bounds_of cluster) frame ≡ Ok m
unfolding frame_in
frame_again cluster frame m is =
    let short : ltb frame_limit (length frame) ≡ false = le-ltb _ _ is.short in
    let read : message_in (bounds_of cluster) frame ≡ Ok m =
    ap (message_in (bounds_of cluster)) is.spelled ∙ message_in_again (bounds_of cluster) m is.fits in
    rw (short, read) refl

-- ---- what a frame that fits gives its signed words

pub spoken : (b : Bounds) (m : MessageValue) → FitsMessage b m → IsSpoken m
spoken b (Read m) fits = tt
spoken b (ReadReply m) fits = record { some = fits.key.some; short = fits.key.short }
spoken b (St1 m) fits = tt
spoken b (Vote m) fits = tt
spoken b (St2 m) fits = tt
spoken b (LogReply m) fits = tt
spoken b (Writeback m) fits = tt
spoken b (Recover m) fits = tt
spoken b (Invoke m) fits = tt
spoken b (Elect m) fits = tt
spoken b (Decide m) fits = tt

pub is_spoken : {X : Type 0} (view : X → MessageValue) (cluster : Setting) (frame : List ℕ) (r : Result X BadFrame)
    → IfOk r (λ x. IsFrame cluster frame (view x)) → IfOk r (λ x. IsSpoken (view x))
is_spoken view cluster frame (Ok x) given = spoken (bounds_of cluster) (view x) given.fits
is_spoken view cluster frame (Err f) given = tt

-- ---- laws of spellings

-- a spelling, whatever follows it, is the spelling of one message
again-behind : (b : Bounds) (m : MessageValue) (rest : List ℕ) → FitsMessage b m
    → (kind_in (kind_byte (kind_of m)) >>= λ k. in_frame 0 (message_at b k (message_bytes m ++ rest))) ≡ Ok (m, rest)
again-behind b m rest fits = rw (kind_again (kind_of m), message_again b b (within-same b) m rest fits) refl

abbrev read-front : Bounds → List ℕ → Result (MessageValue × List ℕ) BadFrame
read-front b [] = Err bad.Kind
read-front b (kind ∷ bytes) = kind_in kind >>= λ k. in_frame 0 (message_at b k bytes)

abbrev answer : MessageValue × List ℕ → Result (MessageValue × List ℕ) BadFrame
answer p = Ok p

pub prefix-is : (b : Bounds) (m n : MessageValue) (rest : List ℕ) → FitsMessage b m → FitsMessage b n → spelling m ++ rest ≡ spelling n
    → (m ≡ n) × (rest ≡ [])
prefix-is b m n rest a c e =
    let whole : spelling n ++ [] ≡ spelling n = append-nil (spelling n) in
    let same : answer (m, rest) ≡ answer (n, []) = sym (again-behind b m rest a) ∙ ap (read-front b) (e ∙ sym whole)
    ∙ again-behind b n [] c in
    let is = by (m, rest) (n, []) same in
    (ap (λ (p : MessageValue × List ℕ). p.0) is, ap (λ (p : MessageValue × List ℕ). p.1) is)
  where
    by : (x y : MessageValue × List ℕ) → answer x ≡ answer y → x ≡ y
    by x y e = cc
