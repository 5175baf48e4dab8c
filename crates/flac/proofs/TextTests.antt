-- Tests of texts.
use Rattle.std.proofs.Common.{◌≡◌, ℕ, ◌+◌, ◌<◌, ◌≤◌, List, [], ◌∷◌, length, take, drop, Bool, true, false, arith, ap, ◌∙◌, sym, refl}
use Rattle.std.proofs.Common.{Some, None, cond, zero, suc, lit<, slice_range}
use Rattle.std.specs.Prelude.{Option, nat_le, nat_lt, ◌==◌, ◌&&◌, if◌then◌else◌, map, position, slice_index}
use Rattle.std.specs.Char.{to_ascii_uppercase}
use Rattle.std.specs.List.{list_all, position_or_len}
use Rattle.std.specs.Str.{IsUtf8, IsAscii}
use Rattle.std.proofs.lemmas.Bool.{false≢true}
use Rattle.std.proofs.lemmas.Bool.Decides.{nat_tests}
use Rattle.std.proofs.lemmas.List.{drop_all, length-take, length-take-le}
use Rattle.std.proofs.lemmas.Str.{IsUtf8-from_ascii}
use Rattle.song_files.specs.Text.{is_tag_text}
use Rattle.flac.proofs.Ranges.{length_range}
use Rattle.flac.specs.Comments.{CommentText, name_in, value_in, is_printable, is_comment, comment_of}

-- the four tests of a field, as the code makes them
pub tests_are : (field name value : List ℕ) → length field ≤ 1024 → 0 < length name → name ≡ name_in field → value ≡ value_in field
    → is_comment field ≡ (is_printable name && is_tag_text value)
tests_are field name value few some named valued =
    let a : nat_le (length field) 1024 ≡ true = grind (arith, nat_tests) in
    let b : nat_lt 0 (length name) ≡ true = grind (arith, nat_tests) in
    ap (λ (t : Bool). t && nat_lt 0 (length (name_in field)) && is_printable (name_in field) && is_tag_text (value_in field)) a
    ∙ ap (λ (n : List ℕ). true && nat_lt 0 (length n) && is_printable n && is_tag_text (value_in field)) (sym named)
    ∙ ap (λ (t : Bool). true && t && is_printable name && is_tag_text (value_in field)) b
    ∙ ap (λ (v : List ℕ). is_printable name && is_tag_text v) (sym valued)

first_false : (a b c d : Bool) → a ≡ false → (a && b && c && d) ≡ false
first_false a b c d no' = rw no' refl

second_false : (a b c d : Bool) → b ≡ false → (a && b && c && d) ≡ false
second_false true b c d no' = rw no' refl
second_false false b c d no' = refl

last_false : (a b c d : Bool) → d ≡ false → (a && b && c && d) ≡ false
last_false true true true d no' = no'
last_false true true false d no' = refl
last_false true false c d no' = refl
last_false false b c d no' = refl

pub too_long : (field : List ℕ) → 1024 < length field → is_comment field ≡ false
too_long field long =
    let e : nat_le (length field) 1024 ≡ false = grind (arith, nat_tests) in
    first_false (nat_le (length field) 1024) (nat_lt 0 (length (name_in field))) (is_printable (name_in field)) (is_tag_text (value_in field)) e

abbrev place_in : List ℕ → ℕ
place_in field = position_or_len (λ b. b == 61) field

not_before : (b : Bool) (n : ℕ) → None ≡ cond b (Some n) None → b ≡ false
not_before true n h = cc
not_before false n h = refl

stands_at : (b : Bool) (n i : ℕ) → Some i ≡ cond b (Some n) None → n ≡ i
stands_at true n i h = cc
stands_at false n i h = cc

past_end : (m n : ℕ) → nat_lt m n ≡ false → n ≤ m
past_end m n h = grind (arith, nat_tests)

-- the name is what stands before the `=` that was found
pub name_is : (field : List ℕ) (i : ℕ) → Some i ≡ position (λ b. b == 61) field → take i field ≡ name_in field
name_is field i found = sym (ap (λ n. take n field) (stands_at (nat_lt (place_in field) (length field)) (place_in field) i found))

pub value_is : (field : List ℕ) (i : ℕ) → i < length field → Some i ≡ position (λ b. b == 61) field → drop (i + 1) field ≡ value_in field
value_is field i within found =
    let n : length (name_in field) ≡ i = ap length (sym (name_is field i found)) ∙ length-take-le i field (omega arith) in
    sym (ap (λ k. drop (k + 1) field) n)

pub no_name : (field : List ℕ) → Some 0 ≡ position (λ b. b == 61) field → is_comment field ≡ false
no_name field found =
    let e : nat_lt 0 (length (name_in field)) ≡ false = ap (λ n. nat_lt 0 (length n)) (sym (name_is field 0 found)) in
    second_false (nat_le (length field) 1024) (nat_lt 0 (length (name_in field))) (is_printable (name_in field)) (is_tag_text (value_in field)) e

pub no_value : (field : List ℕ) → None ≡ position (λ b. b == 61) field → is_comment field ≡ false
no_value field none =
    let past : length field ≤ place_in field = past_end (place_in field) (length field) (not_before (nat_lt (place_in field) (length field)) (place_in field) none) in
    let n : length (name_in field) ≡ length field = omega (arith, length-take (place_in field) field) in
    let v : value_in field ≡ [] = drop_all (length (name_in field) + 1) field (omega arith) in
    let e : is_tag_text (value_in field) ≡ false = ap is_tag_text v in
    last_false (nat_le (length field) 1024) (nat_lt 0 (length (name_in field))) (is_printable (name_in field)) (is_tag_text (value_in field)) e

fails_by : (b : Bool) (xs : List ℕ) → None ≡ (if b then Some xs else None) → b ≡ false
fails_by true xs h = cc
fails_by false xs h = refl

passes_by : (b : Bool) (xs ys : List ℕ) → Some ys ≡ (if b then Some xs else None) → (b ≡ true) × (ys ≡ xs)
passes_by true xs ys h = (refl, cc)
passes_by false xs ys h = absurd cc

-- the parts of a field around its first `=`
pub record IsSplit (field name value : List ℕ) (i : ℕ) : Type 0 where
  pub few : length field ≤ 1024
  pub some : 0 < i
  pub within : i < length field
  pub found : Some i ≡ position (λ b. b == 61) field
  pub before : name ≡ take i field
  pub behind : value ≡ drop (i + 1) field

split_tests : (field name value : List ℕ) (i : ℕ) → IsSplit field name value i
    → is_comment field ≡ (is_printable name && is_tag_text value)
split_tests field name value i split =
    let n : length (take i field) ≡ i = length-take-le i field (omega (arith, split.within)) in
    let some : 0 < length name = rw split.before (omega (arith, split.some)) in
    tests_are field name value split.few some (split.before ∙ name_is field i split.found) (split.behind ∙ value_is field i split.within
    split.found)

pub unprintable : (field name value : List ℕ) (i : ℕ) → IsSplit field name value i
    → None ≡ (if is_printable name then Some name else None) → is_comment field ≡ false
unprintable field name value i split none =
    split_tests field name value i split ∙ ap (λ (b : Bool). b && is_tag_text value) (fails_by (is_printable name) name none)

both_false : (a b : Bool) → b ≡ false → (a && b) ≡ false
both_false true b no' = no'
both_false false b no' = refl

pub untagged : (field name value : List ℕ) (i : ℕ) → IsSplit field name value i
    → None ≡ (if is_tag_text value then Some value else None) → is_comment field ≡ false
untagged field name value i split none =
    split_tests field name value i split ∙ both_false (is_printable name) (is_tag_text value) (fails_by (is_tag_text value) value none)

pub split_passes : (field name value n v : List ℕ) (i : ℕ) → IsSplit field name value i
    → Some n ≡ (if is_printable name then Some name else None) → Some v ≡ (if is_tag_text value then Some value else None)
    → (is_comment field ≡ true) × (n ≡ name_in field) × (v ≡ value_in field)
split_passes field name value n v i split named valued =
    let p = passes_by (is_printable name) name n named in
    let q = passes_by (is_tag_text value) value v valued in (
      split_tests field name value i split ∙ ap (λ (b : Bool). b && is_tag_text value) p.0 ∙ q.0,
      p.1 ∙ split.before ∙ name_is field i split.found,
      q.1 ∙ split.behind ∙ value_is field i split.within split.found,
    )

abbrev the_comment : List ℕ → List ℕ → CommentText
the_comment name value = record { name = name; value = value }

abbrev comment_by : Bool → List ℕ → Option CommentText
comment_by b field = if b then Some (record {
  name = map to_ascii_uppercase (name_in field);
  value = value_in field;
}) else None

pub comment_by_test : (field : List ℕ) (b : Bool) → is_comment field ≡ b → comment_of field ≡ comment_by b field
unfolding comment_of
comment_by_test field b same = ap (λ t. comment_by t field) same

pub comment_made : (field name value n v : List ℕ) → is_comment field ≡ true → name ≡ name_in field → value ≡ value_in field
    → n ≡ map to_ascii_uppercase name → v ≡ value → Some (record { name = n; value = v }) ≡ comment_of field
comment_made field name value n v test named valued upper same =
    ap (λ (x : List ℕ). Some (the_comment x v)) (upper ∙ ap (map to_ascii_uppercase) named)
    ∙ ap (λ (x : List ℕ). Some (the_comment (map to_ascii_uppercase (name_in field)) x)) (same ∙ valued)
    ∙ sym (comment_by_test field true test)

pub long_field : (file : List ℕ) (at len : ℕ) → at + len ≤ length file → 1024 < len → None ≡ comment_of (slice_range file at (at + len))
long_field file at len within long =
    let n : length (slice_range file at (at + len)) ≡ len = length_range file at (at + len) within ∙ omega arith in
    sym (comment_by_test (slice_range file at (at + len)) false (too_long (slice_range file at (at + len)) (omega arith)))

-- printable texts are ASCII
and_left : (a b : Bool) → (a && b) ≡ true → a ≡ true
and_left true b h = refl
and_left false b h = h

and_right : (a b : Bool) → (a && b) ≡ true → b ≡ true
and_right true b h = h
and_right false b h = cc

small : (b : ℕ) → nat_le b 126 ≡ true → b < 128
small b h = grind (arith, nat_tests)

abbrev printable : ℕ → Bool
printable b = nat_le 32 b && nat_le b 126

ascii_at : (bytes : List ℕ) → is_printable bytes ≡ true → (i : ℕ) → slice_index bytes i < 128
ascii_at [] h zero = lit< tt
ascii_at [] h (suc i) = lit< tt
ascii_at (b ∷ bytes) h zero = small b (and_right (nat_le 32 b) (nat_le b 126) (and_left (printable b) (is_printable bytes) h))
ascii_at (b ∷ bytes) h (suc i) = ascii_at bytes (and_right (printable b) (is_printable bytes) h) i

pub printable_utf8 : (bytes : List ℕ) → is_printable bytes ≡ true → IsUtf8 bytes
printable_utf8 bytes h = IsUtf8-from_ascii bytes (ascii_at bytes h)
