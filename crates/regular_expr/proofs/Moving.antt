-- The marks behind the next byte say at the next place what these said at this one.
use Rattle.std.proofs.Common.{◌≡◌, ℕ, zero, suc, ◌*◌, Bool, true, false, ◌&&◌, ◌||◌, List, [], ◌∷◌, ◌++◌, length, drop, Option, Some, None}
use Rattle.std.proofs.Common.{slice_get, refl, sym, subst, ⊎_elim, append_assoc, arith}
use Rattle.std.proofs.lemmas.Bool.{false≢true}
use Rattle.std.proofs.Math.Seq.{drop-nil}
use Rattle.regular_expr.specs.Marks.{takes, through, ends, all_moved, moved}
use Rattle.regular_expr.specs.Sets.{Bytes, is_in}
use Rattle.regular_expr.specs.Shape.{Shape, leaves}
use Rattle.regular_expr.specs.Shape.Shape.{Nothing, One, At, Then, Either, Again, Times}
use Rattle.regular_expr.specs.Spans.{Spans, here_in}
use Rattle.regular_expr.proofs.Chains.{length_moved, length_all}
use Rattle.regular_expr.proofs.Reached.{Through, After, Loop, SpansAll-from_after, After-from_all, or_cases, or_left, or_right, and_left, and_right, and_both}
use Rattle.regular_expr.proofs.Tracks.{Sounds, Completes, AllHold, Tracks, through_tracks, ends_sound, ends_complete}

-- behind the first of three lists the two others stand
drop_first : (a b rest : List Bool) (n : ℕ) → length a ≡ n → drop n ((a ++ b) ++ rest) ≡ b ++ rest
drop_first [] b rest zero e = refl
drop_first [] b rest (suc n) e = absurd (omega arith)
drop_first (x ∷ a) b rest zero e = absurd (omega arith)
drop_first (x ∷ a) b rest (suc n) e = drop_first a b rest n (omega arith)

all_moved_tracks : (W : Bool → Type 0 → Type 0) (i each : ℕ) (E : Bool → List Bool → Bool) (M : Bool → List Bool → List Bool)
    (R : ℕ → ℕ → Type 0) (H K : (ℕ → Type 0) → List Bool → Type 0)
    → ((r : Bool) (m : List Bool) → length (M r m) ≡ each)
    → ((S : ℕ → Type 0) (r : Bool) (m : List Bool) → H S m → W r (S i) → W (E r m) (Through S R i))
    → ((S : ℕ → Type 0) (r : Bool) (m rest : List Bool) → H S m → W r (S i) → K S (M r m ++ rest))
    → (n : ℕ) (S : ℕ → Type 0) (r : Bool) (m rest : List Bool) → AllHold H R each n S m → W r (S i)
    → AllHold K R each n S (all_moved E M each n r m ++ rest)
all_moved_tracks W i each E M R H K size end step zero S r m rest all start = tt
all_moved_tracks W i each E M R H K size end step (suc n) S r m rest all start =
    let x = M r m in let y = all_moved E M each n (E r m) (drop each m) in (
      subst (K S) (sym (append_assoc x y rest)) (step S r m (y ++ rest) all.0 start),
      subst (AllHold K R each n (Through S R)) (sym (drop_first x y rest each (size r m)))
          (all_moved_tracks W i each E M R H K size end step n (Through S R) (E r m) (drop each m) rest all.1 (end S r m all.0 start)),
    )

pub moved_tracks : (W : Bool → Type 0 → Type 0) (fold : Bool) (text : List ℕ) (i : ℕ)
    → ((set : Bytes) (S : ℕ → Type 0) (r : Bool) → W r (S i)
    → W (r && takes fold set (slice_get text i)) (Through S (Spans fold text (One set)) (suc i)))
    → ((p : Shape) (S : ℕ → Type 0) (r : Bool) (m : List Bool) → Tracks W fold text i p S m → W r (S i)
    → W (ends (here_in fold text i) p r m) (Through S (Spans fold text p) i))
    → ((p : Shape) (S : ℕ → Type 0) (r e : Bool) → W r (S i) → W e (Through S (Spans fold text (Again p)) i)
    → W (r || e) (Loop (Spans fold text p) S i))
    → (p : Shape) (S : ℕ → Type 0) (r : Bool) (m rest : List Bool) → Tracks W fold text i p S m → W r (S i)
    → Tracks W fold text (suc i) p S (moved (here_in fold text i) p r m ++ rest)
unfolding moved ends
moved_tracks W fold text i one end loop Nothing S r m rest t start = tt
moved_tracks W fold text i one end loop (One set) S r m rest t start = one set S r start
moved_tracks W fold text i one end loop (At place) S r m rest t start = tt
moved_tracks W fold text i one end loop (Then p q) S r m rest t start =
    let e = ends (here_in fold text i) p r m in
    let a = moved (here_in fold text i) p r m in let b = moved (here_in fold text i) q e (drop (leaves p) m) in (
      subst (Tracks W fold text (suc i) p S) (sym (append_assoc a b rest))
          (moved_tracks W fold text i one end loop p S r m (b ++ rest) t.0 start),
      subst (Tracks W fold text (suc i) q (Through S (Spans fold text p)))
          (sym (drop_first a b rest (leaves p) (length_moved (here_in fold text i) p r m)))
          (moved_tracks W fold text i one end loop q (Through S (Spans fold text p)) e (drop (leaves p) m) rest t.1 (end p S r m t.0 start)),
    )
moved_tracks W fold text i one end loop (Either p q) S r m rest t start =
    let a = moved (here_in fold text i) p r m in let b = moved (here_in fold text i) q r (drop (leaves p) m) in (
      subst (Tracks W fold text (suc i) p S) (sym (append_assoc a b rest))
          (moved_tracks W fold text i one end loop p S r m (b ++ rest) t.0 start),
      subst (Tracks W fold text (suc i) q S) (sym (drop_first a b rest (leaves p) (length_moved (here_in fold text i) p r m)))
          (moved_tracks W fold text i one end loop q S r (drop (leaves p) m) rest t.1 start),
    )
moved_tracks W fold text i one end loop (Again p) S r m rest t start =
    moved_tracks W fold text i one end loop p (Loop (Spans fold text p) S) (r || ends (here_in fold text i) p r m) m rest t
    (loop p S r (ends (here_in fold text i) p r m) start (end (Again p) S r m t start))
moved_tracks W fold text i one end loop (Times least more p) S r m rest t start =
    let E = ends (here_in fold text i) p in let M = moved (here_in fold text i) p in let R = Spans fold text p in
    let middle = through E (leaves p) least r m in let left = drop (least * leaves p) m in
    let a = all_moved E M (leaves p) least r m in let b = all_moved E M (leaves p) more middle left in (
      subst (AllHold (Tracks W fold text (suc i) p) R (leaves p) least S) (sym (append_assoc a b rest))
          (all_moved_tracks W i (leaves p) E M R (Tracks W fold text i p) (Tracks W fold text (suc i) p)
          (λ r' m'. length_moved (here_in fold text i) p r' m') (λ S' r' m' t' s'. end p S' r' m' t' s')
          (λ S' r' m' rest' t' s'. moved_tracks W fold text i one end loop p S' r' m' rest' t' s') least S r m (b ++ rest) t.0 start),
      subst (AllHold (Tracks W fold text (suc i) p) R (leaves p) more (After R least S))
          (sym (drop_first a b rest (least * leaves p) (length_all E M (leaves p) (λ r' m'. length_moved (here_in fold text i) p r' m') least r m)))
          (all_moved_tracks W i (leaves p) E M R (Tracks W fold text i p) (Tracks W fold text (suc i) p)
          (λ r' m'. length_moved (here_in fold text i) p r' m') (λ S' r' m' t' s'. end p S' r' m' t' s')
          (λ S' r' m' rest' t' s'. moved_tracks W fold text i one end loop p S' r' m' rest' t' s') more (After R least S) middle left rest t.1
          (through_tracks W i (leaves p) E R (Tracks W fold text i p) (λ S' r' m' t' s'. end p S' r' m' t' s') least S r m t.0 start)),
    )

-- a leaf that takes the next byte
took : (fold : Bool) (set : Bytes) (o : Option ℕ) → takes fold set o ≡ true → (byte : ℕ) × (o ≡ Some byte) × (is_in fold set byte ≡ true)
took fold set None h = absurd (false≢true h)
took fold set (Some b) h = (b, refl, h)

one_sound : (fold : Bool) (text : List ℕ) (i : ℕ) (set : Bytes) (S : ℕ → Type 0) (r : Bool) → Sounds r (S i)
    → Sounds (r && takes fold set (slice_get text i)) (Through S (Spans fold text (One set)) (suc i))
unfolding Spans
one_sound fold text i set S r start =
    λ h.
    let w = took fold set (slice_get text i) (and_right r (takes fold set (slice_get text i)) h) in
    (i, start (and_left r (takes fold set (slice_get text i)) h), (w.0, w.1, w.2, refl))

one_complete : (fold : Bool) (text : List ℕ) (i : ℕ) (set : Bytes) (S : ℕ → Type 0) (r : Bool) → Completes r (S i)
    → Completes (r && takes fold set (slice_get text i)) (Through S (Spans fold text (One set)) (suc i))
unfolding Spans
one_complete fold text i set S r start =
    λ w.
    let next : suc i ≡ suc w.0 = w.2.3 in
    let same : w.0 ≡ i = omega arith in
    let here : slice_get text i ≡ Some w.2.0 = subst (λ (k : ℕ). slice_get text k ≡ Some w.2.0) same w.2.1 in
    and_both r (takes fold set (slice_get text i)) (start (subst S same w.1))
    (subst (λ (o : Option ℕ). takes fold set o ≡ true) (sym here) w.2.2)

-- another turn of what is repeated
loop_sound : (fold : Bool) (text : List ℕ) (i : ℕ) (p : Shape) (S : ℕ → Type 0) (r e : Bool) → Sounds r (S i)
    → Sounds e (Through S (Spans fold text (Again p)) i) → Sounds (r || e) (Loop (Spans fold text p) S i)
unfolding Spans
loop_sound fold text i p S r e start more =
    λ h.
    ⊎_elim
    (λ (first : r ≡ true). (zero, start first))
    (λ (again : e ≡ true).
    let w = more again in
    (suc w.2.0, After-from_all (Spans fold text p) (suc w.2.0) S i (w.0, w.1, w.2.1)))
    (or_cases r e h)

looped_back : (fold : Bool) (text : List ℕ) (i : ℕ) (p : Shape) (S : ℕ → Type 0) (r e : Bool) → Completes r (S i)
    → Completes e (Through S (Spans fold text (Again p)) i) → (n : ℕ) → After (Spans fold text p) n S i → (r || e) ≡ true
unfolding Spans
looped_back fold text i p S r e start more zero h = or_left r e (start h)
looped_back fold text i p S r e start more (suc n) h =
    let v = SpansAll-from_after (Spans fold text p) (suc n) S i h in
    or_right r e (more (v.0, v.1, (n, v.2)))

loop_complete : (fold : Bool) (text : List ℕ) (i : ℕ) (p : Shape) (S : ℕ → Type 0) (r e : Bool) → Completes r (S i)
    → Completes e (Through S (Spans fold text (Again p)) i) → Completes (r || e) (Loop (Spans fold text p) S i)
loop_complete fold text i p S r e start more = λ w. looped_back fold text i p S r e start more w.0 w.1

pub moved_sound : (fold : Bool) (text : List ℕ) (i : ℕ) (p : Shape) (S : ℕ → Type 0) (r : Bool) (m rest : List Bool)
    → Tracks Sounds fold text i p S m → Sounds r (S i) → Tracks Sounds fold text (suc i) p S (moved (here_in fold text i) p r m ++ rest)
moved_sound fold text i =
    moved_tracks Sounds fold text i (one_sound fold text i) (ends_sound fold text i) (loop_sound fold text i)

pub moved_complete : (fold : Bool) (text : List ℕ) (i : ℕ) (p : Shape) (S : ℕ → Type 0) (r : Bool) (m rest : List Bool)
    → Tracks Completes fold text i p S m → Completes r (S i) → Tracks Completes fold text (suc i) p S (moved (here_in fold text i) p r m ++ rest)
moved_complete fold text i =
    moved_tracks Completes fold text i (one_complete fold text i) (ends_complete fold text i) (loop_complete fold text i)

-- no marks are set where the text begins
all_begin : (R : ℕ → ℕ → Type 0) (each : ℕ) (H : (ℕ → Type 0) → List Bool → Type 0) → ((S : ℕ → Type 0) → H S [])
    → (n : ℕ) (S : ℕ → Type 0) → AllHold H R each n S []
all_begin R each H step zero S = tt
all_begin R each H step (suc n) S =
    (step S, subst (AllHold H R each n (Through S R)) (sym (drop-nil each)) (all_begin R each H step n (Through S R)))

pub none_tracks : (W : Bool → Type 0 → Type 0) (fold : Bool) (text : List ℕ)
    → ((set : Bytes) (S : ℕ → Type 0) → W false (Through S (Spans fold text (One set)) zero))
    → (p : Shape) (S : ℕ → Type 0) → Tracks W fold text zero p S []
none_tracks W fold text one Nothing S = tt
none_tracks W fold text one (One set) S = one set S
none_tracks W fold text one (At place) S = tt
none_tracks W fold text one (Then p q) S = (
  none_tracks W fold text one p S,
  subst (Tracks W fold text zero q (Through S (Spans fold text p))) (sym (drop-nil (leaves p)))
      (none_tracks W fold text one q (Through S (Spans fold text p))),
)
none_tracks W fold text one (Either p q) S = (
  none_tracks W fold text one p S,
  subst (Tracks W fold text zero q S) (sym (drop-nil (leaves p))) (none_tracks W fold text one q S),
)
none_tracks W fold text one (Again p) S = none_tracks W fold text one p (Loop (Spans fold text p) S)
none_tracks W fold text one (Times least more p) S = (
  all_begin (Spans fold text p) (leaves p) (Tracks W fold text zero p) (λ S'. none_tracks W fold text one p S') least S,
  subst (AllHold (Tracks W fold text zero p) (Spans fold text p) (leaves p) more (After (Spans fold text p) least S))
      (sym (drop-nil (least * leaves p)))
      (all_begin (Spans fold text p) (leaves p) (Tracks W fold text zero p) (λ S'. none_tracks W fold text one p S') more
      (After (Spans fold text p) least S)),
)

pub none_sound : (fold : Bool) (text : List ℕ) (p : Shape) (S : ℕ → Type 0) → Tracks Sounds fold text zero p S []
none_sound fold text = none_tracks Sounds fold text (λ set S h. absurd (false≢true h))

no_byte_before : (fold : Bool) (text : List ℕ) (set : Bytes) (S : ℕ → Type 0) → Completes false (Through S (Spans fold text (One set)) zero)
unfolding Spans
no_byte_before fold text set S =
    λ w.
    let next : zero ≡ suc w.0 = w.2.3 in
    absurd (omega arith)

pub none_complete : (fold : Bool) (text : List ℕ) (p : Shape) (S : ℕ → Type 0) → Tracks Completes fold text zero p S []
none_complete fold text = none_tracks Completes fold text (no_byte_before fold text)
