-- The first line of a stream, and what of it doesn't change any more whatever follows.
use Rattle.std.proofs.Common.{◌≡◌, ℕ, ◌+◌, ◌<◌, ◌≤◌, nat_eq, Bool, true, false, ◌||◌, cond, codes}
use Rattle.std.proofs.Common.{List, [], ◌∷◌, ◌++◌, length, take, drop, get_or, refl, sym, ◌∙◌, ap, arith}
use Rattle.std.specs.List.{starts_with}
use Rattle.std.specs.Cmp.Lexicographic.{pointwise}
use Rattle.std.proofs.lemmas.Bool.{ne_eqb, lt-leb, and_parts}
use Rattle.std.proofs.lemmas.List.{take-append-drop, drop_more, take-append-le, append_assoc, length-append}
use Rattle.client_session.specs.Lines.{newline, line_limit, HasNoNewline}
use Rattle.http_guard.specs.FirstLine.{first_line, has_line, begins_with_control, begins_with_method, is_http_line, is_http, is_shut_out}

-- ---- the first line

-- of bytes that have a newline behind this line
ends_line : (line more : List ℕ) → HasNoNewline line
    → (first_line (line ++ newline ∷ more) ≡ line) × (has_line (line ++ newline ∷ more) ≡ true)
ends_line [] more none = (refl, refl)
ends_line (b ∷ line) more none =
    let rest = ends_line line more none.1 in
    let other : nat_eq b newline ≡ false = ne_eqb b newline none.0 in
    (rw other (ap (λ (l : List ℕ). b ∷ l) rest.0), rw other rest.1)

-- of bytes without one, and what follows
goes_on : (start more : List ℕ) → HasNoNewline start
    → (first_line (start ++ more) ≡ start ++ first_line more) × (has_line (start ++ more) ≡ has_line more)
goes_on [] more none = (refl, refl)
goes_on (b ∷ start) more none =
    let rest = goes_on start more none.1 in
    let other : nat_eq b newline ≡ false = ne_eqb b newline none.0 in
    (rw other (ap (λ (l : List ℕ). b ∷ l) rest.0), rw other rest.1)

-- the bytes before the first newline, it, and the others
parted : (xs more : List ℕ) (k : ℕ) → k < length xs → get_or xs k 0 ≡ newline
    → xs ++ more ≡ take k xs ++ newline ∷ (drop (k + 1) xs ++ more)
parted xs more k lt is =
    ap (λ (v : List ℕ). v ++ more)
    (sym (take-append-drop k xs) ∙ ap (λ (v : List ℕ). take k xs ++ v) (drop_more xs k 0 lt ∙ ap (λ (b : ℕ). b ∷ drop (k + 1) xs) is))
    ∙ append_assoc (take k xs) (newline ∷ drop (k + 1) xs) more

-- whatever follows a whole line, the line decides
pub line_decides : (seen rest : List ℕ) (k : ℕ) → k < length seen → HasNoNewline (take k seen) → get_or seen k 0 ≡ newline
    → is_http (seen ++ rest) ≡ is_http_line (take k seen)
line_decides seen rest k lt none is =
    let whole = ends_line (take k seen) (drop (k + 1) seen ++ rest) none in
    ap is_http (parted seen rest k lt is) ∙ rw (whole.0, whole.1)

-- ---- methods

grows : (word xs more : List ℕ) → starts_with nat_eq xs word ≡ true → starts_with nat_eq (xs ++ more) word ≡ true
grows [] xs more h = refl
grows (c ∷ word) [] more h = absurd (cc)
grows (c ∷ word) (b ∷ xs) more h =
    let parts = and_parts (nat_eq c b) (starts_with nat_eq xs word) h in
    rw (parts.0, grows word xs more parts.1)

or_grows : (a b c d : Bool) → (a ≡ true → c ≡ true) → (b ≡ true → d ≡ true) → a || b ≡ true → c || d ≡ true
or_grows true b c d p q h = rw (p refl)
or_grows false b true d p q h = refl
or_grows false b false d p q h = q h

pub method_grows : (xs more : List ℕ) → begins_with_method xs ≡ true → begins_with_method (xs ++ more) ≡ true
method_grows xs more =
    or_grows _ _ _ _
    (or_grows _ _ _ _
    (or_grows _ _ _ _
    (or_grows _ _ _ _
    (or_grows _ _ _ _
    (or_grows _ _ _ _
    (or_grows _ _ _ _
    (or_grows _ _ _ _ (grows (codes "GET ") xs more) (grows (codes "POST ") xs more))
    (grows (codes "PUT ") xs more)) (grows (codes "HEAD ") xs more)) (grows (codes "OPTIONS ") xs more))
    (grows (codes "DELETE ") xs more)) (grows (codes "PATCH ") xs more)) (grows (codes "CONNECT ") xs more))
    (grows (codes "TRACE ") xs more)

stays : (word xs more : List ℕ) → length word ≤ length xs → starts_with nat_eq (xs ++ more) word ≡ starts_with nat_eq xs word
stays word xs more le = ap (λ (v : List ℕ). pointwise nat_eq word v) (take-append-le (length word) xs more le)

pub method_stays : (xs more : List ℕ) → 8 ≤ length xs → begins_with_method (xs ++ more) ≡ begins_with_method xs
method_stays xs more le =
    rw (
      stays (codes "GET ") xs more (omega arith),
      stays (codes "POST ") xs more (omega arith),
      stays (codes "PUT ") xs more (omega arith),
      stays (codes "HEAD ") xs more (omega arith),
      stays (codes "OPTIONS ") xs more (omega arith),
      stays (codes "DELETE ") xs more (omega arith),
      stays (codes "PATCH ") xs more (omega arith),
      stays (codes "CONNECT ") xs more (omega arith),
      stays (codes "TRACE ") xs more (omega arith),
    )

-- ---- a line that has not ended

either : (b x y v : Bool) → x ≡ v → y ≡ v → cond b x y ≡ v
either true x y v p q = p
either false x y v p q = q

or_true : (a b : Bool) → a ≡ true → a || b ≡ true
or_true a b h = rw h

-- it begins with a method
pub start_decides : (start rest : List ℕ) → HasNoNewline start → begins_with_method start ≡ true → is_http (start ++ rest) ≡ true
start_decides start rest none is =
    let on = goes_on start rest none in
    let line : is_http_line (first_line (start ++ rest)) ≡ true =
    ap is_http_line on.0 ∙ or_true _ _ (method_grows start (first_line rest) is) in
    either (has_line (start ++ rest)) _ _ true line (method_grows start rest is)

too_long : (line : List ℕ) → begins_with_method line ≡ false → line_limit < length line → is_http_line line ≡ false
too_long line is long = rw (is, lt-leb (length line) line_limit long)

-- it begins with none, and is too long already
pub long_start_decides : (start rest : List ℕ) → HasNoNewline start → begins_with_method start ≡ false → line_limit < length start
    → is_http (start ++ rest) ≡ false
long_start_decides start rest none is long =
    let on = goes_on start rest none in
    let more = first_line rest in
    let few : 8 ≤ length start = omega arith in
    let longer : line_limit < length (start ++ more) = omega (arith, length-append start more) in
    let line : is_http_line (first_line (start ++ rest)) ≡ false =
    ap is_http_line on.0 ∙ too_long (start ++ more) (method_stays start more few ∙ is) longer in
    either (has_line (start ++ rest)) _ _ false line (method_stays start rest few ∙ is)

pub no_line : (xs : List ℕ) → HasNoNewline xs → has_line xs ≡ false
no_line [] none = refl
no_line (b ∷ xs) none = let other : nat_eq b newline ≡ false = ne_eqb b newline none.0 in rw (other, no_line xs none.1)

-- it is none so far
pub start_so_far : (start : List ℕ) → HasNoNewline start → begins_with_method start ≡ false → is_http start ≡ false
start_so_far start none is = rw (no_line start none, is)

-- ---- a stream

or_second : (a b : Bool) → b ≡ true → a || b ≡ true
or_second true b h = refl
or_second false b h = h

-- it begins with a control character
pub control_decides : (seen rest : List ℕ) → begins_with_control seen ≡ true → is_shut_out (seen ++ rest) ≡ true
control_decides [] rest is = absurd (cc)
control_decides (b ∷ seen) rest is = or_true _ _ is

pub http_is_shut_out : (stream : List ℕ) → is_http stream ≡ true → is_shut_out stream ≡ true
http_is_shut_out stream is = or_second (begins_with_control stream) (is_http stream) is

-- it begins with another byte
pub text_decides : (seen rest : List ℕ) → 0 < length seen → begins_with_control seen ≡ false
    → is_shut_out (seen ++ rest) ≡ is_http (seen ++ rest)
text_decides [] rest some is = absurd (omega arith)
text_decides (b ∷ seen) rest some is = ap (λ (v : Bool). v || is_http (b ∷ seen ++ rest)) is

pub text_so_far : (start : List ℕ) → begins_with_control start ≡ false → is_http start ≡ false → is_shut_out start ≡ false
text_so_far start text is = rw (text, is)
