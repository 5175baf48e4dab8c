-- A field that is read is the field that was written, and what was written is read again.
use Rattle.std.proofs.Common.{◌≡◌, ℕ, zero, suc, ◌+◌, ◌^◌, ◌<◌, ◌≤◌, Bool, true, false, ◌&&◌, cond, ltb, leb, List, [], ◌∷◌, ◌++◌, length}
use Rattle.std.proofs.Common.{take, drop, Result, Ok, Err, refl, sym, ap, subst, ◌∙◌, append_assoc, arith, inl, inr}
use Rattle.std.specs.Prelude.{IsTrue}
use Rattle.std.specs.Int.{Width, w16, w32, w64, byte_len, from_le_bytes, to_le_bytes, is_in_range}
use Rattle.std.specs.Str.{is_utf8}
use Rattle.std.proofs.lemmas.Bool.{cases_lt, ltb-false, le-ltb, leb-true, le-leb}
use Rattle.std.proofs.lemmas.List.{take_at, drop_at, take-append-drop, length-append, length-take, get_or-drop, get_or-take, get_or_past}
use Rattle.std.proofs.lemmas.Nat.{le_bytes_2, le_bytes_4, le_bytes_8, from_le_bytes-to_le_bytes_2, from_le_bytes-to_le_bytes_4}
use Rattle.std.proofs.lemmas.Nat.{from_le_bytes-to_le_bytes_8}
use Rattle.player_core.specs.declared.options.Single.{Single}
use Rattle.player_core.specs.declared.options.Single.TheVariants.{Off, On, Oneshot}
use Rattle.profile.specs.declared.profile.Profile.{Profile}
use Rattle.profile.specs.declared.profile.Profile.TheVariants.{Named, Wide}
use Rattle.state_codec.specs.declared.layout.Layout.{Layout}
use Rattle.state_codec.specs.Layout.{layout_of, written_layout, is_consume}
use Rattle.state_codec.specs.SavedState.{IsBytes, key_len}
use Rattle.state_codec.specs.Text.{is_text}
use Rattle.state_codec.specs.Steps.{◌>>=◌}
use Rattle.state_codec.specs.SpellingFields.{byte_bytes, u32_bytes, u64_bytes, flag_bytes, single_bytes, text_bytes}
use Rattle.state_codec.specs.Fields.{Field, such, both, byte_at, number_at, u32_at, u64_at, number_within, volume_at, flag_at}
use Rattle.state_codec.specs.Fields.{consume_at, single_at, key_at, text_at}

pub IsBytes-drop : (n : ℕ) (bytes : List ℕ) → IsBytes bytes → IsBytes (drop n bytes)
IsBytes-drop n bytes h i = rw get_or-drop (h (n + i))

pub IsBytes-take : (n : ℕ) (bytes : List ℕ) → IsBytes bytes → IsBytes (take n bytes)
IsBytes-take n bytes h i =
    elim (cases_lt i n) [
      | inl lt ↦ rw (get_or-take n bytes i 0 lt) (h i)
      | inr le ↦ rw (get_or_past (take n bytes) i 0 (omega (arith, length-take n bytes))) (omega arith)
    ]

pub IsBytes-rest : (b : ℕ) (bytes : List ℕ) → IsBytes (b ∷ bytes) → IsBytes bytes
IsBytes-rest b bytes h i = h (suc i)

-- the value of a step that did not fail
pub bind_ok : {A B : Type 0} (r : Result A ℕ) (f : A → Result B ℕ) (y : B) → (r >>= f) ≡ Ok y → (x : A) × (r ≡ Ok x) × (f x ≡ Ok y)
bind_ok (Ok x) f y e = (x, refl, e)
bind_ok (Err d) f y e = absurd cc

-- tests that did not fail
pub guard_ok : {A : Type 0} (b : Bool) (d : ℕ) (x y : A) → cond b (Err d) (Ok x) ≡ Ok y → (b ≡ false) × (x ≡ y)
guard_ok true d x y e = absurd cc
guard_ok false d x y e = (refl, cc)

pub passed_ok : {A : Type 0} (b : Bool) (d : ℕ) (x y : A) → cond b (Ok x) (Err d) ≡ Ok y → (b ≡ true) × (x ≡ y)
passed_ok true d x y e = (refl, cc)
passed_ok false d x y e = absurd cc

abbrev done : {A : Type 0} → A → Result A ℕ
done x = Ok x

pub ok_is : {A : Type 0} (x y : A) → done x ≡ done y → x ≡ y
ok_is x y e = cc

-- both sides of a test
pub both_true : (a b : Bool) → (a && b) ≡ true → (a ≡ true) × (b ≡ true)
both_true true true e = (refl, refl)
both_true true false e = absurd cc
both_true false true e = absurd cc
both_true false false e = absurd cc

-- what a reader took from the front
pub record Takes (bytes text rest : List ℕ) : Type 0 where
  pub parts : bytes ≡ text ++ rest
  pub rest_fits : IsBytes rest

pub Takes-then : (a x b y c : List ℕ) → Takes a x b → Takes b y c → Takes a (x ++ y) c
Takes-then a x b y c p q = record {
  parts = p.parts ∙ ap (λ (t : List ℕ). x ++ t) q.parts ∙ sym (append_assoc x y c);
  rest_fits =
      q.rest_fits;
}

-- a reader takes exactly what is spelled so, of the values that fit
pub record IsField {A : Type 0} (at : List ℕ → Field A) (text : A → List ℕ) (Fits : A → Type 0) : Type 0 where
  pub takes : (bytes : List ℕ) (x : A × List ℕ) → IsBytes bytes → at bytes ≡ Ok x → Takes bytes (text x.0) x.1 × Fits x.0
  pub again : (a : A) (rest : List ℕ) → Fits a → at (text a ++ rest) ≡ Ok (a, rest)

abbrev pub Any : {A : Type 0} → A → Type 0
Any x = Unit {0}

-- ---- one field and another, a test, another value

both_take : {A B : Type 0} (at : List ℕ → Field A) (text : A → List ℕ) (Fits : A → Type 0) (at2 : List ℕ → Field B) (text2 : B → List ℕ)
    (Fits2 : B → Type 0)
    → IsField at text Fits → IsField at2 text2 Fits2 → (bytes : List ℕ) (x : (A × B) × List ℕ) → IsBytes bytes → both at at2 bytes ≡ Ok x
    → Takes bytes (text x.0.0 ++ text2 x.0.1) x.1 × (Fits x.0.0 × Fits2 x.0.1)
unfolding both
both_take at text Fits at2 text2 Fits2 f f2 bytes x fits e =
    let a = bind_ok (at bytes) _ x e in
    let b = bind_ok (at2 a.0.1) _ x a.2 in
    let ta = f.takes bytes a.0 fits a.1 in
    let tb = f2.takes a.0.1 b.0 ta.0.rest_fits b.1 in
    subst (λ y. Takes bytes (text y.0.0 ++ text2 y.0.1) y.1 × (Fits y.0.0 × Fits2 y.0.1)) (ok_is ((a.0.0, b.0.0), b.0.1) x b.2)
    (Takes-then bytes (text a.0.0) a.0.1 (text2 b.0.0) b.0.1 ta.0 tb.0, (ta.1, tb.1))

both_again : {A B : Type 0} (at : List ℕ → Field A) (text : A → List ℕ) (Fits : A → Type 0) (at2 : List ℕ → Field B) (text2 : B → List ℕ)
    (Fits2 : B → Type 0)
    → IsField at text Fits → IsField at2 text2 Fits2 → (a : A × B) (rest : List ℕ) → Fits a.0 × Fits2 a.1
    → both at at2 ((text a.0 ++ text2 a.1) ++ rest) ≡ Ok (a, rest)
unfolding both
both_again at text Fits at2 text2 Fits2 f f2 a rest fits =
    rw (append_assoc (text a.0) (text2 a.1) rest, f.again a.0 (text2 a.1 ++ rest) fits.0, f2.again a.1 rest fits.1) refl

pub both_is : {A B : Type 0} (at : List ℕ → Field A) (text : A → List ℕ) (Fits : A → Type 0) (at2 : List ℕ → Field B) (text2 : B → List ℕ)
    (Fits2 : B → Type 0)
    → IsField at text Fits → IsField at2 text2 Fits2
    → IsField (λ bytes. both at at2 bytes) (λ x. text x.0 ++ text2 x.1) (λ x. Fits x.0 × Fits2 x.1)
both_is at text Fits at2 text2 Fits2 f f2 = record {
  takes = both_take at text Fits at2 text2 Fits2 f f2;
  again = both_again at text Fits at2 text2 Fits2 f f2;
}

such_take : {A : Type 0} (test : A → Bool) (at : List ℕ → Field A) (text : A → List ℕ) (Fits : A → Type 0) → IsField at text Fits
    → (bytes : List ℕ) (x : A × List ℕ) → IsBytes bytes → such test at bytes ≡ Ok x
    → Takes bytes (text x.0) x.1 × (Fits x.0 × (test x.0 ≡ true))
unfolding such
such_take test at text Fits f bytes x fits e =
    let a = bind_ok (at bytes) _ x e in
    let g = passed_ok (test a.0.0) (length bytes) a.0 x a.2 in
    let t = f.takes bytes a.0 fits a.1 in
    subst (λ y. Takes bytes (text y.0) y.1 × (Fits y.0 × (test y.0 ≡ true))) g.1 (t.0, (t.1, g.0))

such_again : {A : Type 0} (test : A → Bool) (at : List ℕ → Field A) (text : A → List ℕ) (Fits : A → Type 0) → IsField at text Fits
    → (a : A) (rest : List ℕ) → Fits a × (test a ≡ true) → such test at (text a ++ rest) ≡ Ok (a, rest)
unfolding such
such_again test at text Fits f a rest fits = rw (f.again a rest fits.0, fits.1) refl

pub such_is : {A : Type 0} (test : A → Bool) (at : List ℕ → Field A) (text : A → List ℕ) (Fits : A → Type 0) → IsField at text Fits
    → IsField (λ bytes. such test at bytes) text (λ a. Fits a × (test a ≡ true))
such_is test at text Fits f = record { takes = such_take test at text Fits f; again = such_again test at text Fits f }

-- a field with a weaker, or an equal, bound on its values
pub fits_is : {A : Type 0} (at : List ℕ → Field A) (text : A → List ℕ) (Fits Fits2 : A → Type 0) → IsField at text Fits
    → ((a : A) → Fits a → Fits2 a) → ((a : A) → Fits2 a → Fits a) → IsField at text Fits2
fits_is at text Fits Fits2 field there again = record {
  takes = λ bytes x fits e. let t = field.takes bytes x fits e in (t.0, there x.0 t.1);
  again = λ a rest fits. field.again a rest (again a fits);
}

-- ---- numbers

pub record IsWide (w : Width) (limit : ℕ) : Type 0 where
  pub len : (n : ℕ) → length (to_le_bytes w n) ≡ byte_len w
  pub back : (bytes : List ℕ) → length bytes ≡ byte_len w → IsBytes bytes → to_le_bytes w (from_le_bytes w bytes) ≡ bytes
  pub again : (n : ℕ) → n < limit → from_le_bytes w (to_le_bytes w n) ≡ n
  pub below : (bytes : List ℕ) → IsBytes bytes → from_le_bytes w bytes < limit

wide16 : IsWide w16 (2 ^ 16)
wide16 = record {
  len = λ n. refl;
  back = λ bytes len fits. le_bytes_2 bytes _ len fits refl;
  again = λ n lt. from_le_bytes-to_le_bytes_2 n lt;
  below = λ bytes fits. omega (arith, fits 0, fits 1);
}

wide32 : IsWide w32 (2 ^ 32)
wide32 = record {
  len = λ n. refl;
  back = λ bytes len fits. le_bytes_4 bytes _ len fits refl;
  again = λ n lt. from_le_bytes-to_le_bytes_4 n lt;
  below = λ bytes fits. omega (arith, fits 0, fits 1, fits 2, fits 3);
}

wide64 : IsWide w64 (2 ^ 64)
wide64 = record {
  len = λ n. refl;
  back = λ bytes len fits. le_bytes_8 bytes _ len fits refl;
  again = λ n lt. from_le_bytes-to_le_bytes_8 n lt;
  below = λ bytes fits. omega (arith, fits 0, fits 1, fits 2, fits 3, fits 4, fits 5, fits 6, fits 7);
}

number_takes : (w : Width) (limit : ℕ) (wide : IsWide w limit) (bytes : List ℕ) (x : ℕ × List ℕ) → IsBytes bytes → number_at w bytes ≡ Ok x
    → Takes bytes (to_le_bytes w x.0) x.1 × (x.0 < limit)
number_takes w limit wide bytes x fits e =
    let g = guard_ok (ltb (length bytes) (byte_len w)) (length bytes) (from_le_bytes w (take (byte_len w) bytes), drop (byte_len w) bytes) x
    e in
    let long : byte_len w ≤ length bytes = ltb-false _ _ g.0 in
    let front_fits = IsBytes-take (byte_len w) bytes fits in
    let front : to_le_bytes w (from_le_bytes w (take (byte_len w) bytes)) ≡ take (byte_len w) bytes =
    wide.back (take (byte_len w) bytes) (omega (arith, length-take (byte_len w) bytes)) front_fits in
    subst (λ (y : ℕ × List ℕ). Takes bytes (to_le_bytes w y.0) y.1 × (y.0 < limit)) g.1 (
      record { parts = rw front (sym (take-append-drop (byte_len w) bytes)); rest_fits = IsBytes-drop (byte_len w) bytes fits },
      wide.below (take (byte_len w) bytes) front_fits,
    )

number_again : (w : Width) (limit : ℕ) (wide : IsWide w limit) (n : ℕ) (rest : List ℕ) → n < limit
    → number_at w (to_le_bytes w n ++ rest) ≡ Ok (n, rest)
number_again w limit wide n rest lt =
    let len = wide.len n in
    let long : ltb (length (to_le_bytes w n ++ rest)) (byte_len w) ≡ false =
    le-ltb _ _ (omega (arith, length-append (to_le_bytes w n) rest)) in
    rw (long, take_at (to_le_bytes w n) rest (byte_len w) len, drop_at (to_le_bytes w n) rest (byte_len w) len, wide.again n lt) refl

number_is : (w : Width) (limit : ℕ) (wide : IsWide w limit) → IsField (λ bytes. number_at w bytes) (λ n. to_le_bytes w n) (λ n. n < limit)
number_is w limit wide = record { takes = number_takes w limit wide; again = number_again w limit wide }

pub u32_is : IsField (λ bytes. u32_at bytes) (λ n. u32_bytes n) (λ n. n < 2 ^ 32)
u32_is = number_is w32 (2 ^ 32) wide32

pub u64_is : IsField (λ bytes. u64_at bytes) (λ n. u64_bytes n) (λ n. n < 2 ^ 64)
u64_is = number_is w64 (2 ^ 64) wide64

pub within_is : (low high : ℕ) → high < 2 ^ 32
    → IsField (λ bytes. number_within low high bytes) (λ n. u32_bytes n) (λ n. (low ≤ n) × (n ≤ high))
within_is low high lt =
    fits_is (λ bytes. number_within low high bytes) (λ n. u32_bytes n) (λ n. (n < 2 ^ 32) × (is_in_range low high n ≡ true))
    (λ n. (low ≤ n) × (n ≤ high))
    (such_is (is_in_range low high) (λ bytes. u32_at bytes) (λ n. u32_bytes n) (λ n. n < 2 ^ 32) u32_is)
    (λ n h. let r = both_true (leb low n) (leb n high) h.1 in (leb-true _ _ r.0, leb-true _ _ r.1))
    (λ n h. (omega (arith, h, lt), rw (le-leb low n h.0, le-leb n high h.1) refl))

pub byte_is : IsField (λ bytes. byte_at bytes) (λ n. byte_bytes n) (λ n. n < 256)
byte_is = record { takes = byte_takes; again = λ n rest fits. refl } where
  byte_takes : (bytes : List ℕ) (x : ℕ × List ℕ) → IsBytes bytes → byte_at bytes ≡ Ok x → Takes bytes (byte_bytes x.0) x.1 × (x.0 < 256)
  byte_takes [] x fits e = absurd cc
  byte_takes (b ∷ bytes) x fits e =
      let same : (b, bytes) ≡ x = cc in
      subst (λ (y : ℕ × List ℕ). Takes (b ∷ bytes) (y.0 ∷ []) y.1 × (y.0 < 256)) same
      (record { parts = refl; rest_fits = IsBytes-rest b bytes fits }, fits 0)

-- ---- a value whose spelling is one byte

pub taken : {A : Type 0} (spelled : A → List ℕ) (bytes : List ℕ) (x y : A × List ℕ) → Takes bytes (spelled x.0) x.1 → done x ≡ done y
    → Takes bytes (spelled y.0) y.1 × Any y.0
taken {A} spelled bytes x y t e =
    subst (λ (z : A × List ℕ). Takes bytes (spelled z.0) z.1 × Any z.0) (ok_is x y e) (t, tt)

flag_takes : (bytes : List ℕ) (x : Bool × List ℕ) → IsBytes bytes → flag_at bytes ≡ Ok x → Takes bytes (flag_bytes x.0) x.1 × Any x.0
unfolding flag_at
flag_takes [] x fits e = absurd cc
flag_takes (zero ∷ rest) x fits e =
    taken flag_bytes (0 ∷ rest) (false, rest) x (record { parts = refl; rest_fits = IsBytes-rest 0 rest fits }) e
flag_takes (suc zero ∷ rest) x fits e =
    taken flag_bytes (1 ∷ rest) (true, rest) x (record { parts = refl; rest_fits = IsBytes-rest 1 rest fits }) e
flag_takes (suc (suc b) ∷ rest) x fits e = absurd cc

flag_again : (on : Bool) (rest : List ℕ) → Any on → flag_at (flag_bytes on ++ rest) ≡ Ok (on, rest)
unfolding flag_at
flag_again false rest any = refl
flag_again true rest any = refl

pub flag_is : IsField (λ bytes. flag_at bytes) flag_bytes (λ on. Any on)
flag_is = record { takes = flag_takes; again = flag_again }

single_takes : (bytes : List ℕ) (x : Single × List ℕ) → IsBytes bytes → single_at bytes ≡ Ok x
    → Takes bytes (single_bytes x.0) x.1 × Any x.0
unfolding single_at
single_takes [] x fits e = absurd cc
single_takes (zero ∷ rest) x fits e =
    taken single_bytes (0 ∷ rest) (Off, rest) x (record { parts = refl; rest_fits = IsBytes-rest 0 rest fits }) e
single_takes (suc zero ∷ rest) x fits e =
    taken single_bytes (1 ∷ rest) (On, rest) x (record { parts = refl; rest_fits = IsBytes-rest 1 rest fits }) e
single_takes (suc (suc zero) ∷ rest) x fits e =
    taken single_bytes (2 ∷ rest) (Oneshot, rest) x (record { parts = refl; rest_fits = IsBytes-rest 2 rest fits }) e
single_takes (suc (suc (suc b)) ∷ rest) x fits e = absurd cc

single_again : (value : Single) (rest : List ℕ) → Any value → single_at (single_bytes value ++ rest) ≡ Ok (value, rest)
unfolding single_at
single_again Off rest any = refl
single_again On rest any = refl
single_again Oneshot rest any = refl

pub single_is : IsField (λ bytes. single_at bytes) single_bytes (λ value. Any value)
single_is = record { takes = single_takes; again = single_again }

abbrev pub IsConsume : Layout → Single → Type 0
IsConsume layout value = Any value × (is_consume layout value ≡ true)

pub consume_is : (layout : Layout) → IsField (λ bytes. consume_at layout bytes) single_bytes (IsConsume layout)
consume_is layout = such_is (is_consume layout) (λ bytes. single_at bytes) single_bytes (λ value. Any value) single_is

-- a layout that is written has all three values
pub consume_written : (profile : Profile) (value : Single) → is_consume (layout_of (written_layout profile)) value ≡ true
consume_written Named Off = refl
consume_written Named On = refl
consume_written Named Oneshot = refl
consume_written Wide Off = refl
consume_written Wide On = refl
consume_written Wide Oneshot = refl

pub volume_is : IsField (λ bytes. volume_at bytes) (λ n. byte_bytes n) (λ n. n ≤ 100)
volume_is =
    fits_is (λ bytes. volume_at bytes) (λ n. byte_bytes n) (λ n. (n < 256) × (leb n 100 ≡ true)) (λ n. n ≤ 100)
    (such_is (λ n. leb n 100) (λ bytes. byte_at bytes) (λ n. byte_bytes n) (λ n. n < 256) byte_is)
    (λ n h. leb-true _ _ h.1) (λ n h. (omega (arith, h), le-leb n 100 h))

-- ---- the key

key_takes : (bytes : List ℕ) (x : List ℕ × List ℕ) → IsBytes bytes → key_at bytes ≡ Ok x
    → Takes bytes x.0 x.1 × ((length x.0 ≡ key_len) × IsBytes x.0)
unfolding key_at
key_takes bytes x fits e =
    let g = guard_ok (ltb (length bytes) key_len) (length bytes) (take key_len bytes, drop key_len bytes) x e in
    let long : key_len ≤ length bytes = ltb-false _ _ g.0 in
    subst (λ (y : List ℕ × List ℕ). Takes bytes y.0 y.1 × ((length y.0 ≡ key_len) × IsBytes y.0)) g.1 (
      record { parts = sym (take-append-drop key_len bytes); rest_fits = IsBytes-drop key_len bytes fits },
      (omega (arith, length-take key_len bytes), IsBytes-take key_len bytes fits),
    )

key_again : (key rest : List ℕ) → (length key ≡ key_len) × IsBytes key → key_at (key ++ rest) ≡ Ok (key, rest)
unfolding key_at
key_again key rest fits =
    let long : ltb (length (key ++ rest)) key_len ≡ false = le-ltb _ _ (omega (arith, length-append key rest, fits.0)) in
    rw (long, take_at key rest key_len fits.0, drop_at key rest key_len fits.0) refl

pub key_is : IsField (λ bytes. key_at bytes) (λ key. key) (λ key. (length key ≡ key_len) × IsBytes key)
key_is = record { takes = key_takes; again = key_again }

-- ---- texts

text_takes : (bytes : List ℕ) (x : List ℕ × List ℕ) → IsBytes bytes → text_at bytes ≡ Ok x
    → Takes bytes (text_bytes x.0) x.1 × IsTrue (is_text x.0)
unfolding text_at
text_takes bytes x fits e =
    let n = bind_ok (number_at w16 bytes) _ x e in
    let len = n.0.0 in
    let after = n.0.1 in
    let text = take len after in
    let rest = drop len after in
    let g = passed_ok (leb len (length after) && is_utf8 text) (length bytes) (text, rest) x n.2 in
    let b = both_true (leb len (length after)) (is_utf8 text) g.0 in
    let t = number_takes w16 (2 ^ 16) wide16 bytes n.0 fits n.1 in
    let long : length text ≡ len = omega (arith, length-take len after, leb-true _ _ b.0) in
    let front : Takes bytes (to_le_bytes w16 (length text)) after =
    subst (λ (k : ℕ). Takes bytes (to_le_bytes w16 k) after) (sym long) t.0 in
    let back : Takes after text rest =
    record { parts = sym (take-append-drop len after); rest_fits = IsBytes-drop len after t.0.rest_fits } in
    subst (λ (y : List ℕ × List ℕ). Takes bytes (text_bytes y.0) y.1 × IsTrue (is_text y.0)) g.1 (
      Takes-then bytes (to_le_bytes w16 (length text)) after text rest front back,
      rw (b.1, le-leb (length text) 65535 (omega (arith, t.1, long))) refl,
    )

text_again : (text : List ℕ) (rest : List ℕ) → IsTrue (is_text text) → text_at (text_bytes text ++ rest) ≡ Ok (text, rest)
unfolding text_at
text_again text rest short =
    let b = both_true (is_utf8 text) (leb (length text) 65535) short in
    let lt : length text < 2 ^ 16 = omega (arith, leb-true _ _ b.1) in
    let long : leb (length text) (length (text ++ rest)) ≡ true = le-leb _ _ (omega (arith, length-append text rest)) in
    rw (
      number_again w16 (2 ^ 16) wide16 (length text) (text ++ rest) lt,
      long,
      take_at text rest (length text) refl,
      drop_at text rest (length text) refl,
      b.0,
    ) refl

pub text_is : IsField (λ bytes. text_at bytes) (λ text. text_bytes text) (λ text. IsTrue (is_text text))
text_is = record { takes = text_takes; again = text_again }
