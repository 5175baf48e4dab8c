-- A stream is its lines and the rest, and a cut in it changes neither.
use Rattle.std.proofs.Common.{◌≡◌, ◌≢◌, ℕ, zero, suc, ◌+◌, ◌≤◌, List, [], ◌∷◌, ◌++◌, length, take, drop, Bool, true, false, cond, ◌==◌}
use Rattle.std.proofs.Common.{nat_le, refl, sym, ◌∙◌, ap, subst, arith, append_assoc, length-append}
use Rattle.std.specs.List.{AllByRecursion, take_while, flat_map}
use Rattle.std.proofs.lemmas.Bool.{ne_eqb, eqb-true, eqb-false, le-leb, lt-leb, leb-true}
use Rattle.std.proofs.lemmas.List.Sums.{take_while-cons}
use Rattle.std.proofs.lemmas.List.Concat.{flat_map-append}
use Rattle.std.proofs.Math.Seq.{drop-append_seam, drop-append-add}
use Rattle.client_session.specs.Lines.{newline, line_limit, ended, onto_first, lines_of, is_short, taken_lines, HasNoNewline, IsLine}
use Rattle.client_session.specs.Lines.{IsUnended}
use Rattle.client_session.specs.Requests.{rest_of}

lines_of-other : (b : ℕ) (bytes : List ℕ) → b ≢ newline → lines_of (b ∷ bytes) ≡ onto_first b (lines_of bytes)
lines_of-other b bytes ne = ap (λ (t : Bool). cond t ([] ∷ lines_of bytes) (onto_first b (lines_of bytes))) (ne_eqb b newline ne)

-- a line at the front
lines_of-line : (line more : List ℕ) → HasNoNewline line → lines_of (line ++ newline ∷ more) ≡ line ∷ lines_of more
lines_of-line [] more h = refl
lines_of-line (b ∷ line) more h = lines_of-other b (line ++ newline ∷ more) h.0 ∙ ap (onto_first b) (lines_of-line line more h.1)

pub taken_lines-line : (line more : List ℕ) → IsLine line → taken_lines (line ++ newline ∷ more) ≡ line ∷ taken_lines more
taken_lines-line line more is =
    ap (take_while is_short) (lines_of-line line more is.one) ∙ take_while-cons is_short line (lines_of more)
    ∙ ap (λ (t : Bool). cond t (line ∷ taken_lines more) []) (le-leb (length line) line_limit is.short)

-- the lines, of which the first has at least n bytes if there is one
FirstIsLong : ℕ → List (List ℕ) → Type 0
FirstIsLong n [] = Unit {0}
FirstIsLong n (line ∷ lines) = n ≤ length line

any_first : (lines : List (List ℕ)) → FirstIsLong 0 lines
unfolding FirstIsLong
any_first [] = tt
any_first (line ∷ lines) = omega arith

longer_first : (n b : ℕ) (lines : List (List ℕ)) → FirstIsLong n lines → FirstIsLong (suc n) (onto_first b lines)
unfolding FirstIsLong
longer_first n b [] h = tt
longer_first n b (line ∷ lines) h = omega (arith, h)

first_is_long : (n : ℕ) (xs : List ℕ) → HasNoNewline (take n xs) → FirstIsLong n (lines_of xs)
unfolding FirstIsLong
first_is_long zero xs h = any_first (lines_of xs)
first_is_long (suc n) [] h = tt
first_is_long (suc n) (b ∷ xs) h = subst (FirstIsLong (suc n)) (sym (lines_of-other b xs h.0))
    (longer_first n b (lines_of xs) (first_is_long n xs h.1))

none_short : (lines : List (List ℕ)) → FirstIsLong (line_limit + 1) lines → take_while is_short lines ≡ []
unfolding FirstIsLong
none_short [] h = refl
none_short (line ∷ lines) h = take_while-cons is_short line lines
    ∙ ap (λ (t : Bool). cond t (line ∷ take_while is_short lines) []) (lt-leb (length line) line_limit (omega (arith, h)))

pub taken_lines-unended : (xs : List ℕ) → IsUnended xs → taken_lines xs ≡ []
taken_lines-unended xs h = none_short (lines_of xs) (first_is_long (line_limit + 1) xs h)

-- the same of a list of lines that isn't yet known to be those of the bytes
record Covers (s : List ℕ) (lines : List (List ℕ)) : Type 0 where
  rest : List ℕ
  whole : s ≡ flat_map ended lines ++ rest
  each : AllByRecursion HasNoNewline lines

covers_ended : (s : List ℕ) (lines : List (List ℕ)) → Covers s lines → Covers (newline ∷ s) ([] ∷ lines)
covers_ended s lines c = record { rest = c.rest; whole = ap (λ (t : List ℕ). newline ∷ t) c.whole; each = (tt, c.each) }

covers_onto : (b : ℕ) (s : List ℕ) (lines : List (List ℕ)) → b ≢ newline → Covers s lines → Covers (b ∷ s) (onto_first b lines)
covers_onto b s [] ne c = record { rest = b ∷ s; whole = refl; each = tt }
covers_onto b s (line ∷ lines) ne c =
    record { rest = c.rest; whole = ap (λ (t : List ℕ). b ∷ t) c.whole; each = ((ne, c.each.0), c.each.1) }

covers_byte : (b : ℕ) (s : List ℕ) (t : Bool) → (b == newline) ≡ t → Covers s (lines_of s)
    → Covers (b ∷ s) (cond t ([] ∷ lines_of s) (onto_first b (lines_of s)))
covers_byte b s true e c = subst (λ (x : ℕ). Covers (x ∷ s) ([] ∷ lines_of s)) (sym (eqb-true b newline e)) (covers_ended s (lines_of s) c)
covers_byte b s false e c = covers_onto b s (lines_of s) (eqb-false b newline e) c

covers : (s : List ℕ) → Covers s (lines_of s)
covers [] = record { rest = []; whole = refl; each = tt }
covers (b ∷ s) = covers_byte b s (b == newline) refl (covers s)

-- the lines up to the first that is too long
record Fronts (s : List ℕ) (lines : List (List ℕ)) : Type 0 where
  rest : List ℕ
  whole : s ≡ flat_map ended lines ++ rest
  each : AllByRecursion IsLine lines

fronts_cons : (line : List ℕ) (lines : List (List ℕ)) (rest : List ℕ) (t : Bool) → nat_le (length line) line_limit ≡ t → HasNoNewline line
    → Fronts (flat_map ended lines ++ rest) (take_while is_short lines)
    → Fronts (flat_map ended (line ∷ lines) ++ rest) (cond t (line ∷ take_while is_short lines) [])
fronts_cons line lines rest false e one f = record { rest = flat_map ended (line ∷ lines) ++ rest; whole = refl; each = tt }
fronts_cons line lines rest true e one f = record {
  rest = f.rest;
  whole = append_assoc (ended line) (flat_map ended lines) rest ∙ ap (λ (t : List ℕ). ended line ++ t) f.whole
      ∙ sym (append_assoc (ended line) (flat_map ended (take_while is_short lines)) f.rest);
  each = (record { one = one; short = leb-true (length line) line_limit e }, f.each);
}

fronts : (lines : List (List ℕ)) (rest : List ℕ) → AllByRecursion HasNoNewline lines
    → Fronts (flat_map ended lines ++ rest) (take_while is_short lines)
fronts [] rest each = record { rest = rest; whole = refl; each = tt }
fronts (line ∷ lines) rest each =
    subst (Fronts (flat_map ended (line ∷ lines) ++ rest)) (sym (take_while-cons is_short line lines))
    (fronts_cons line lines rest (nat_le (length line) line_limit) refl each.0 (fronts lines rest each.1))

taken : (s : List ℕ) → Fronts s (taken_lines s)
taken s =
    let c = covers s in
    subst (λ (t : List ℕ). Fronts t (taken_lines s)) (sym c.whole) (fronts (lines_of s) c.rest c.each)

pub each_taken : (s : List ℕ) → AllByRecursion IsLine (taken_lines s)
each_taken s = (taken s).each

rest_of-is : (s : List ℕ) → rest_of s ≡ (taken s).rest
unfolding rest_of
rest_of-is s =
    let f = taken s in
    ap (drop (length (flat_map ended (taken_lines s)))) f.whole ∙ drop-append_seam (flat_map ended (taken_lines s)) f.rest

-- a stream is its lines and the rest
pub stream_is : (s : List ℕ) → s ≡ flat_map ended (taken_lines s) ++ rest_of s
stream_is s = (taken s).whole ∙ ap (λ (t : List ℕ). flat_map ended (taken_lines s) ++ t) (sym (rest_of-is s))

-- lines before a stream
line_before : (line more : List ℕ) → ended line ++ more ≡ line ++ newline ∷ more
line_before line more = append_assoc line (newline ∷ []) more

pub taken_behind : (lines : List (List ℕ)) (more : List ℕ) → AllByRecursion IsLine lines
    → taken_lines (flat_map ended lines ++ more) ≡ lines ++ taken_lines more
taken_behind [] more each = refl
taken_behind (line ∷ lines) more each =
    ap taken_lines (append_assoc (ended line) (flat_map ended lines) more ∙ line_before line (flat_map ended lines ++ more))
    ∙ taken_lines-line line (flat_map ended lines ++ more) each.0
    ∙ ap (λ (t : List (List ℕ)). line ∷ t) (taken_behind lines more each.1)

pub rest_behind : (lines : List (List ℕ)) (more : List ℕ) → AllByRecursion IsLine lines
    → rest_of (flat_map ended lines ++ more) ≡ rest_of more
unfolding rest_of
rest_behind lines more each =
    let front = flat_map ended lines in
    let next = taken_lines more in
    let e : length (flat_map ended (taken_lines (front ++ more))) ≡ length front + length (flat_map ended next) =
    ap (λ (t : List (List ℕ)). length (flat_map ended t)) (taken_behind lines more each) ∙ ap length (flat_map-append ended lines next)
    ∙ length-append front (flat_map ended next) in
    ap (λ (n : ℕ). drop n (front ++ more)) e ∙ drop-append-add front more (length (flat_map ended next))

pub taken_lines-append : (s more : List ℕ) → taken_lines (s ++ more) ≡ taken_lines s ++ taken_lines (rest_of s ++ more)
taken_lines-append s more =
    ap taken_lines (ap (λ (t : List ℕ). t ++ more) (stream_is s) ∙ append_assoc (flat_map ended (taken_lines s)) (rest_of s) more)
    ∙ taken_behind (taken_lines s) (rest_of s ++ more) (each_taken s)

pub rest_of-append : (s more : List ℕ) → rest_of (s ++ more) ≡ rest_of (rest_of s ++ more)
rest_of-append s more =
    ap rest_of (ap (λ (t : List ℕ). t ++ more) (stream_is s) ∙ append_assoc (flat_map ended (taken_lines s)) (rest_of s) more)
    ∙ rest_behind (taken_lines s) (rest_of s ++ more) (each_taken s)
