-- What the marks of a pattern say, by the places of a text from which it may begin.
use Rattle.std.proofs.Common.{◌≡◌, ℕ, zero, suc, ◌+◌, ◌*◌, ◌≤◌, Bool, true, List, drop}
use Rattle.std.proofs.Common.{refl, subst, inl, inr, ⊎_elim, arith}
use Rattle.regular_expr.specs.Marks.{first_mark, through, through_some, ends}
use Rattle.regular_expr.specs.Places.{is_place}
use Rattle.regular_expr.specs.Shape.{Shape, leaves}
use Rattle.regular_expr.specs.Shape.Shape.{Nothing, One, At, Then, Either, Again, Times}
use Rattle.regular_expr.specs.Spans.{Spans, here_in}
use Rattle.regular_expr.proofs.Reached.{Through, After, Loop, Through-mono, After-mono, After-more, After-add, After-split, SpansAll-from_after, After-from_all, looped}
use Rattle.regular_expr.proofs.Reached.{or_cases, or_left, or_right, and_left, and_right, and_both}

-- a test says no more than this, and no less
abbrev pub Sounds : Bool → Type 0 → Type 0
Sounds b P = b ≡ true → P

abbrev pub Completes : Bool → Type 0 → Type 0
Completes b P = P → b ≡ true

-- the marks of so many, each of which begins where the one before ends
abbrev pub AllHold : ((ℕ → Type 0) → List Bool → Type 0) → (ℕ → ℕ → Type 0) → ℕ → ℕ → (ℕ → Type 0) → List Bool → Type 0
AllHold holds spans each zero starts marks = Unit {0}
AllHold holds spans each (suc count) starts marks =
    holds starts marks × AllHold holds spans each count (Through starts spans) (drop each marks)

-- Each leaf's mark says whether its byte was taken last, on a way that began at one of these places.
abbrev pub Tracks : (Bool → Type 0 → Type 0) → Bool → List ℕ → ℕ → Shape → (ℕ → Type 0) → List Bool → Type 0
Tracks W fold text i Nothing starts marks = Unit {0}
Tracks W fold text i (One set) starts marks = W (first_mark marks) (Through starts (Spans fold text (One set)) i)
Tracks W fold text i (At place) starts marks = Unit {0}
Tracks W fold text i (Then p q) starts marks =
    Tracks W fold text i p starts marks × Tracks W fold text i q (Through starts (Spans fold text p)) (drop (leaves p) marks)
Tracks W fold text i (Either p q) starts marks =
    Tracks W fold text i p starts marks × Tracks W fold text i q starts (drop (leaves p) marks)
Tracks W fold text i (Again p) starts marks = Tracks W fold text i p (Loop (Spans fold text p) starts) marks
Tracks W fold text i (Times least more p) starts marks =
    AllHold (Tracks W fold text i p) (Spans fold text p) (leaves p) least starts marks
    × AllHold (Tracks W fold text i p) (Spans fold text p) (leaves p) more (After (Spans fold text p) least starts)
    (drop (least * leaves p) marks)

-- the end of so many
pub through_tracks : (W : Bool → Type 0 → Type 0) (i each : ℕ) (e : Bool → List Bool → Bool) (R : ℕ → ℕ → Type 0)
    (H : (ℕ → Type 0) → List Bool → Type 0)
    → ((S : ℕ → Type 0) (r : Bool) (m : List Bool) → H S m → W r (S i) → W (e r m) (Through S R i))
    → (n : ℕ) (S : ℕ → Type 0) (r : Bool) (m : List Bool) → AllHold H R each n S m → W r (S i)
    → W (through e each n r m) (After R n S i)
through_tracks W i each e R H step zero S r m all start = start
through_tracks W i each e R H step (suc n) S r m all start =
    through_tracks W i each e R H step n (Through S R) (e r m) (drop each m) all.1 (step S r m all.0 start)

-- the end of some of so many
pub some_sound : (i each : ℕ) (e : Bool → List Bool → Bool) (R : ℕ → ℕ → Type 0) (H : (ℕ → Type 0) → List Bool → Type 0)
    → ((S : ℕ → Type 0) (r : Bool) (m : List Bool) → H S m → Sounds r (S i) → Sounds (e r m) (Through S R i))
    → (n : ℕ) (S : ℕ → Type 0) (r : Bool) (m : List Bool) → AllHold H R each n S m → Sounds r (S i)
    → through_some e each n r m ≡ true → (c : ℕ) × (c ≤ n) × After R c S i
some_sound i each e R H step zero S r m all start h = (zero, omega arith, start h)
some_sound i each e R H step (suc n) S r m all start h =
    ⊎_elim
    (λ (now : r ≡ true). (zero, omega arith, start now))
    (λ (later : through_some e each n (e r m) (drop each m) ≡ true).
    let w = some_sound i each e R H step n (Through S R) (e r m) (drop each m) all.1 (step S r m all.0 start) later in
    (suc w.0, omega (arith, w.1), w.2))
    (or_cases r (through_some e each n (e r m) (drop each m)) h)

pub some_complete : (i each : ℕ) (e : Bool → List Bool → Bool) (R : ℕ → ℕ → Type 0) (H : (ℕ → Type 0) → List Bool → Type 0)
    → ((S : ℕ → Type 0) (r : Bool) (m : List Bool) → H S m → Completes r (S i) → Completes (e r m) (Through S R i))
    → (n c : ℕ) (S : ℕ → Type 0) (r : Bool) (m : List Bool) → AllHold H R each n S m → Completes r (S i)
    → c ≤ n → After R c S i → through_some e each n r m ≡ true
some_complete i each e R H step zero zero S r m all start le h = start h
some_complete i each e R H step zero (suc c) S r m all start le h = absurd (omega arith)
some_complete i each e R H step (suc n) zero S r m all start le h =
    or_left r (through_some e each n (e r m) (drop each m)) (start h)
some_complete i each e R H step (suc n) (suc c) S r m all start le h =
    or_right r (through_some e each n (e r m) (drop each m))
    (some_complete i each e R H step n c (Through S R) (e r m) (drop each m) all.1 (step S r m all.0 start) (omega arith) h)

-- where the end is reached, a way leads to it
pub ends_sound : (fold : Bool) (text : List ℕ) (i : ℕ) (p : Shape) (S : ℕ → Type 0) (r : Bool) (m : List Bool)
    → Tracks Sounds fold text i p S m → Sounds r (S i) → Sounds (ends (here_in fold text i) p r m) (Through S (Spans fold text p) i)
unfolding ends Spans
ends_sound fold text i Nothing S r m t start = λ h. (i, start h, refl)
ends_sound fold text i (One set) S r m t start = t
ends_sound fold text i (At place) S r m t start =
    λ h. (i, start (and_left r (is_place place (here_in fold text i)) h), (refl, and_right r (is_place place (here_in fold text i)) h))
ends_sound fold text i (Then p q) S r m t start =
    λ h.
    let w = ends_sound fold text i q (Through S (Spans fold text p)) (ends (here_in fold text i) p r m) (drop (leaves p) m) t.1
    (ends_sound fold text i p S r m t.0 start) h in
    (w.1.0, w.1.1, (w.0, w.1.2, w.2))
ends_sound fold text i (Either p q) S r m t start =
    λ h.
    ⊎_elim
    (λ (one : ends (here_in fold text i) p r m ≡ true).
    let w = ends_sound fold text i p S r m t.0 start one in (w.0, w.1, inl w.2))
    (λ (other : ends (here_in fold text i) q r (drop (leaves p) m) ≡ true).
    let w = ends_sound fold text i q S r (drop (leaves p) m) t.1 start other in (w.0, w.1, inr w.2))
    (or_cases (ends (here_in fold text i) p r m) (ends (here_in fold text i) q r (drop (leaves p) m)) h)
ends_sound fold text i (Again p) S r m t start =
    λ h.
    let w = ends_sound fold text i p (Loop (Spans fold text p) S) r m t (λ a. (zero, start a)) h in
    let v = SpansAll-from_after (Spans fold text p) (suc w.1.0) S i (After-more (Spans fold text p) w.1.0 S i (w.0, w.1.1, w.2)) in
    (v.0, v.1, (w.1.0, v.2))
ends_sound fold text i (Times least more p) S r m t start =
    λ h.
    let R = Spans fold text p in let e = ends (here_in fold text i) p in
    let w = some_sound i (leaves p) e R (Tracks Sounds fold text i p)
    (λ S' r' m' t' s'. ends_sound fold text i p S' r' m' t' s') more (After R least S)
    (through e (leaves p) least r m) (drop (least * leaves p) m) t.1
    (through_tracks Sounds i (leaves p) e R (Tracks Sounds fold text i p)
    (λ S' r' m' t' s'. ends_sound fold text i p S' r' m' t' s') least S r m t.0 start) h in
    let v = SpansAll-from_after R (least + w.0) S i (After-add R w.0 least S i (least + w.0) refl w.2) in
    (v.0, v.1, (w.0, w.1, v.2))

-- marks that miss no way from some places miss none from fewer
all_fewer : (R : ℕ → ℕ → Type 0) (each : ℕ) (H : (ℕ → Type 0) → List Bool → Type 0)
    → ((S T : ℕ → Type 0) (m : List Bool) → ((j : ℕ) → T j → S j) → H S m → H T m)
    → (n : ℕ) (S T : ℕ → Type 0) (m : List Bool) → ((j : ℕ) → T j → S j) → AllHold H R each n S m → AllHold H R each n T m
all_fewer R each H step zero S T m f all = tt
all_fewer R each H step (suc n) S T m f all =
    (step S T m f all.0, all_fewer R each H step n (Through S R) (Through T R) (drop each m) (Through-mono T S R f) all.1)

pub fewer : (fold : Bool) (text : List ℕ) (i : ℕ) (p : Shape) (S T : ℕ → Type 0) (m : List Bool)
    → ((j : ℕ) → T j → S j) → Tracks Completes fold text i p S m → Tracks Completes fold text i p T m
fewer fold text i Nothing S T m f t = tt
fewer fold text i (One set) S T m f t = λ w. t (Through-mono T S (Spans fold text (One set)) f i w)
fewer fold text i (At place) S T m f t = tt
fewer fold text i (Then p q) S T m f t = (
  fewer fold text i p S T m f t.0,
  fewer fold text i q (Through S (Spans fold text p)) (Through T (Spans fold text p)) (drop (leaves p) m)
      (Through-mono T S (Spans fold text p) f) t.1,
)
fewer fold text i (Either p q) S T m f t =
    (fewer fold text i p S T m f t.0, fewer fold text i q S T (drop (leaves p) m) f t.1)
fewer fold text i (Again p) S T m f t =
    fewer fold text i p (Loop (Spans fold text p) S) (Loop (Spans fold text p) T) m
    (λ j x. (x.0, After-mono (Spans fold text p) x.0 T S f j x.1)) t
fewer fold text i (Times least more p) S T m f t = (
  all_fewer (Spans fold text p) (leaves p) (Tracks Completes fold text i p)
      (λ S' T' m' f' t'. fewer fold text i p S' T' m' f' t') least S T m f t.0,
  all_fewer (Spans fold text p) (leaves p) (Tracks Completes fold text i p)
      (λ S' T' m' f' t'. fewer fold text i p S' T' m' f' t') more (After (Spans fold text p) least S) (After (Spans fold text p) least T)
      (drop (least * leaves p) m) (After-mono (Spans fold text p) least T S f) t.1,
)

-- where a way leads to the end, it is reached
pub ends_complete : (fold : Bool) (text : List ℕ) (i : ℕ) (p : Shape) (S : ℕ → Type 0) (r : Bool) (m : List Bool)
    → Tracks Completes fold text i p S m → Completes r (S i) → Completes (ends (here_in fold text i) p r m) (Through S (Spans fold text p) i)
unfolding ends Spans
ends_complete fold text i Nothing S r m t start = λ w. start (subst S w.2 w.1)
ends_complete fold text i (One set) S r m t start = t
ends_complete fold text i (At place) S r m t start =
    λ w.
    and_both r (is_place place (here_in fold text i)) (start (subst S w.2.0 w.1))
    (subst (λ (k : ℕ). is_place place (here_in fold text k) ≡ true) w.2.0 w.2.1)
ends_complete fold text i (Then p q) S r m t start =
    λ w.
    ends_complete fold text i q (Through S (Spans fold text p)) (ends (here_in fold text i) p r m) (drop (leaves p) m) t.1
    (ends_complete fold text i p S r m t.0 start) (w.2.0, (w.0, w.1, w.2.1), w.2.2)
ends_complete fold text i (Either p q) S r m t start =
    λ w.
    ⊎_elim
    (λ (one : Spans fold text p w.0 i).
    or_left (ends (here_in fold text i) p r m) (ends (here_in fold text i) q r (drop (leaves p) m))
    (ends_complete fold text i p S r m t.0 start (w.0, w.1, one)))
    (λ (other : Spans fold text q w.0 i).
    or_right (ends (here_in fold text i) p r m) (ends (here_in fold text i) q r (drop (leaves p) m))
    (ends_complete fold text i q S r (drop (leaves p) m) t.1 start (w.0, w.1, other)))
    w.2
ends_complete fold text i (Again p) S r m t start =
    λ w.
    let R = Spans fold text p in
    looped R S i r (ends (here_in fold text i) p r m) start
    (λ n middle after first last.
    ends_complete fold text i p (λ (j : ℕ). Loop R S j × (j ≡ i → r ≡ true)) r m
    (fewer fold text i p (Loop R S) (λ (j : ℕ). Loop R S j × (j ≡ i → r ≡ true)) m (λ j x. x.0) t)
    (λ x. x.1 refl) (middle, ((n, after), first), last))
    w.2.0 (After-from_all R (suc w.2.0) S i (w.0, w.1, w.2.1))
ends_complete fold text i (Times least more p) S r m t start =
    λ w.
    let R = Spans fold text p in let e = ends (here_in fold text i) p in
    some_complete i (leaves p) e R (Tracks Completes fold text i p)
    (λ S' r' m' t' s'. ends_complete fold text i p S' r' m' t' s') more w.2.0 (After R least S)
    (through e (leaves p) least r m) (drop (least * leaves p) m) t.1
    (through_tracks Completes i (leaves p) e R (Tracks Completes fold text i p)
    (λ S' r' m' t' s'. ends_complete fold text i p S' r' m' t' s') least S r m t.0 start)
    w.2.1 (After-split R w.2.0 least S i (least + w.2.0) refl (After-from_all R (least + w.2.0) S i (w.0, w.1, w.2.2)))
