-- A body, one part after the other.
use Rattle.std.proofs.Common.{◌≡◌, ◌≢◌, ℕ, zero, suc, ◌-◌, ◌<◌, ◌≤◌, Bool, true, false, List, [], ◌∷◌, length, Option, Some, None, refl, ap, sym, ◌∙◌, arith}
use Rattle.std.specs.Prelude.{◌==◌, if◌then◌else◌}
use Rattle.regular_expr.specs.declared.fault.Fault.{Fault}
use Rattle.regular_expr.specs.declared.fault.Fault.TheVariants as faults
use Rattle.regular_expr.specs.Counts.{◌>>=◌, byte_at}
use Rattle.regular_expr.specs.Gives.{Stops}
use Rattle.regular_expr.specs.Reading.{Reader, joined, part_behind, alternative, is_body_end, body_from, body_at}
use Rattle.regular_expr.specs.Shape.{Shape}
use Rattle.regular_expr.specs.Shape.Shape.{Nothing}

pub body_closed : (room : ℕ) (text : List ℕ) → room ≡ 0 → body_at room text ≡ None
unfolding body_at
body_closed zero text e = refl
body_closed (suc room) text e = absurd (omega arith)

pub body_begins : (room : ℕ) (text : List ℕ) → room ≢ 0 → body_from (body_at (room - 1)) (length text) None Nothing text ≡ body_at room text
unfolding body_at
body_begins zero text e = absurd (e refl)
body_begins (suc room) text e =
    let less : suc room - 1 ≡ room = omega arith in
    ap (λ (k : ℕ). body_from (body_at k) (length text) None Nothing text) less

chosen : {A : Type 0} (b : Bool) (x y : A) → b ≡ true → (if b then x else y) ≡ x
chosen true x y e = refl
chosen false x y e = absurd (cc)

otherwise : {A : Type 0} (b : Bool) (x y : A) → b ≡ false → (if b then x else y) ≡ y
otherwise true x y e = absurd (cc)
otherwise false x y e = refl

-- at a closing parenthesis, and at the end
pub body_ends : (read : Reader) (most : ℕ) (others : Option Shape) (now : Shape) (rest : List ℕ) (all : Option (Shape × List ℕ))
    → length rest ≤ most → is_body_end rest ≡ true → body_from read most others now rest ≡ all → all ≡ Some (joined others now, rest)
unfolding body_from
body_ends read zero others now [] all le end h = sym h
body_ends read (suc most) others now [] all le end h = sym h
body_ends read zero others now (b ∷ text) all le end h = absurd (omega arith)
body_ends read (suc most) others now (b ∷ text) all le end h =
    let bar : Option (Shape × List ℕ) = alternative others now >>= λ all. body_from read most (Some all) Nothing text in
    let part : Option (Shape × List ℕ) = part_behind read now (b ∷ text) >>= λ x. body_from read most others x.0 x.1 in
    sym h ∙ chosen (b == 41) (Some (joined others now, b ∷ text)) (if b == 124 then bar else part) end

behind_bar : {A : Type 0} (x : Bool) (text behind : List ℕ) (f : List ℕ → A) (y : A) → Some behind ≡ (if x then Some text else None)
    → (if x then f text else y) ≡ f behind
behind_bar true text behind f y e =
    let same : text ≡ behind = cc in
    ap f same
behind_bar false text behind f y e = absurd (cc)

no_bar : {A : Type 0} (x : Bool) (text : List ℕ) (y z : A) → None ≡ (if x then Some text else None) → (if x then y else z) ≡ z
no_bar true text y z e = absurd (cc)
no_bar false text y z e = refl

at_bar : (read : Reader) (most : ℕ) (others : Option Shape) (now : Shape) (b : ℕ) (text behind : List ℕ)
    → is_body_end (b ∷ text) ≡ false → Some behind ≡ byte_at 124 (b ∷ text)
    → body_from read (suc most) others now (b ∷ text) ≡ (alternative others now >>= λ all. body_from read most (Some all) Nothing behind)
unfolding body_from
at_bar read most others now b text behind going bar =
    let f : List ℕ → Option (Shape × List ℕ) = λ t. alternative others now >>= λ all. body_from read most (Some all) Nothing t in
    let part : Option (Shape × List ℕ) = part_behind read now (b ∷ text) >>= λ x. body_from read most others x.0 x.1 in
    otherwise (b == 41) (Some (joined others now, b ∷ text)) (if b == 124 then f text else part) going
    ∙ behind_bar (b == 124) text behind f part bar

at_part : (read : Reader) (most : ℕ) (others : Option Shape) (now : Shape) (b : ℕ) (text : List ℕ)
    → is_body_end (b ∷ text) ≡ false → None ≡ byte_at 124 (b ∷ text)
    → body_from read (suc most) others now (b ∷ text) ≡ (part_behind read now (b ∷ text) >>= λ x. body_from read most others x.0 x.1)
unfolding body_from
at_part read most others now b text going bar =
    let y : Option (Shape × List ℕ) = alternative others now >>= λ all. body_from read most (Some all) Nothing text in
    let part : Option (Shape × List ℕ) = part_behind read now (b ∷ text) >>= λ x. body_from read most others x.0 x.1 in
    otherwise (b == 41) (Some (joined others now, b ∷ text)) (if b == 124 then y else part) going ∙ no_bar (b == 124) text y part bar

-- behind a bar
pub no_alternative : (read : Reader) (most : ℕ) (others : Option Shape) (now : Shape) (rest behind : List ℕ) (all : Option (Shape × List ℕ))
    → length rest ≤ most → is_body_end rest ≡ false → Some behind ≡ byte_at 124 rest → body_from read most others now rest ≡ all
    → alternative others now ≡ None → all ≡ None
no_alternative read most others now [] behind all le going bar h none = absurd (cc)
no_alternative read zero others now (b ∷ text) behind all le going bar h none = absurd (omega arith)
no_alternative read (suc most) others now (b ∷ text) behind all le going bar h none =
    sym h ∙ at_bar read most others now b text behind going bar
    ∙ ap (λ (o : Option Shape). o >>= λ all. body_from read most (Some all) Nothing behind) none

pub next_alternative : (read : Reader) (most : ℕ) (others : Option Shape) (now next : Shape) (rest behind : List ℕ)
    (all : Option (Shape × List ℕ))
    → length rest ≤ most → is_body_end rest ≡ false → Some behind ≡ byte_at 124 rest → length behind < length rest
    → body_from read most others now rest ≡ all → alternative others now ≡ Some next
    → (left : ℕ) × (length behind ≤ left) × (body_from read left (Some next) Nothing behind ≡ all)
next_alternative read most others now next [] behind all le going bar lt h some = absurd (cc)
next_alternative read zero others now next (b ∷ text) behind all le going bar lt h some = absurd (omega arith)
next_alternative read (suc most) others now next (b ∷ text) behind all le going bar lt h some = (
  most,
  omega arith,
  sym (ap (λ (o : Option Shape). o >>= λ all. body_from read most (Some all) Nothing behind) some)
      ∙ sym (at_bar read most others now b text behind going bar) ∙ h,
)

-- behind a part
pub no_part : (read : Reader) (most : ℕ) (others : Option Shape) (now : Shape) (rest : List ℕ) (all : Option (Shape × List ℕ))
    → length rest ≤ most → is_body_end rest ≡ false → None ≡ byte_at 124 rest → body_from read most others now rest ≡ all
    → part_behind read now rest ≡ None → all ≡ None
no_part read most others now [] all le going bar h none = absurd (cc)
no_part read zero others now (b ∷ text) all le going bar h none = absurd (omega arith)
no_part read (suc most) others now (b ∷ text) all le going bar h none =
    sym h ∙ at_part read most others now b text going bar
    ∙ ap (λ (o : Option (Shape × List ℕ)). o >>= λ x. body_from read most others x.0 x.1) none

pub next_part : (read : Reader) (most : ℕ) (others : Option Shape) (now parts : Shape) (rest left : List ℕ)
    (all : Option (Shape × List ℕ))
    → length rest ≤ most → is_body_end rest ≡ false → None ≡ byte_at 124 rest → length left < length rest
    → body_from read most others now rest ≡ all → part_behind read now rest ≡ Some (parts, left)
    → (more : ℕ) × (length left ≤ more) × (body_from read more others parts left ≡ all)
next_part read most others now parts [] left all le going bar lt h some = absurd (cc)
next_part read zero others now parts (b ∷ text) left all le going bar lt h some = absurd (omega arith)
next_part read (suc most) others now parts (b ∷ text) left all le going bar lt h some = (
  most,
  omega arith,
  sym (ap (λ (o : Option (Shape × List ℕ)). o >>= λ x. body_from read most others x.0 x.1) some)
      ∙ sym (at_part read most others now b text going bar) ∙ h,
)

-- a fault goes on up
pub stops_too : {A B : Type 0} (fault : Fault) (read : Option A) (all : Option B) → Stops fault read → (read ≡ None → all ≡ None)
    → Stops fault all
stops_too faults.NoPattern read all h f = f h
stops_too faults.NoMemory read all h f = tt
