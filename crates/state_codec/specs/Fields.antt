-- Fields, read from left to right. A field is a value and the bytes after it. A fault is told by how many bytes are left
-- from the field at fault on, and at the end by that field's offset.
use Rattle.std.specs.Prelude.{ℕ, zero, suc, List, [], ◌∷◌, length, take, drop}
use Rattle.std.specs.Prelude.{Bool, true, false, Result, Ok, Err, nat_lt, nat_le, ◌&&◌, if◌then◌else◌}
use Rattle.std.specs.Int.{Width, w16, w32, w64, byte_len, from_le_bytes, is_in_range}
use Rattle.std.specs.Str.{is_utf8}
use Rattle.player_core.specs.declared.options.Single.{Single}
use Rattle.player_core.specs.declared.options.Single.TheVariants.{Off, On, Oneshot}
use Rattle.state_codec.specs.declared.layout.Layout.{Layout}
use Rattle.state_codec.specs.Layout.{is_consume}
use Rattle.state_codec.specs.SavedState.{key_len}
use Rattle.state_codec.specs.Steps.{◌>>=◌}

-- where a field of type A begins: the field and the bytes after it, or how many bytes are left from the fault on
abbrev pub Field : Type 0 → Type 0
Field A = Result (A × List ℕ) ℕ

-- the field made into another value
abbrev pub made : {A B : Type 0} → (A → B) → Field A → Field B
made f field = field >>= λ x. Ok (f x.0, x.1)

-- a field whose value passes a test, and is at fault otherwise
unfoldable pub such : {A : Type 0} → (A → Bool) → (List ℕ → Field A) → List ℕ → Field A
such test at bytes = do
  field ← at bytes
  if test field.0 then Ok field else Err (length bytes)

-- one field, and then another
unfoldable pub both : {A B : Type 0} → (List ℕ → Field A) → (List ℕ → Field B) → List ℕ → Field (A × B)
both first second bytes = do
  one ← first bytes
  other ← second one.1
  Ok ((one.0, other.0), other.1)

abbrev pub byte_at : List ℕ → Field ℕ
byte_at [] = Err 0
byte_at (b ∷ rest) = Ok (b, rest)

abbrev pub number_at : Width → List ℕ → Field ℕ
number_at w bytes =
    if nat_lt (length bytes) (byte_len w) then Err (length bytes)
    else Ok (from_le_bytes w (take (byte_len w) bytes), drop (byte_len w) bytes)

-- a number of 32 bits
abbrev pub u32_at : List ℕ → Field ℕ
u32_at bytes = number_at w32 bytes

-- a number of 64 bits
abbrev pub u64_at : List ℕ → Field ℕ
u64_at bytes = number_at w64 bytes

-- a number of 32 bits from low to high
abbrev pub number_within : ℕ → ℕ → List ℕ → Field ℕ
number_within low high bytes = such (is_in_range low high) u32_at bytes

-- two numbers of 32 bits
abbrev pub pair_at : List ℕ → Field (ℕ × ℕ)
pair_at bytes = both u32_at u32_at bytes

-- a volume
abbrev pub volume_at : List ℕ → Field ℕ
volume_at bytes = such (λ volume. nat_le volume 100) byte_at bytes

-- off or on
unfoldable pub flag_at : List ℕ → Field Bool
flag_at (zero ∷ rest) = Ok (false, rest)
flag_at (suc zero ∷ rest) = Ok (true, rest)
flag_at bytes = Err (length bytes)

-- off, on or oneshot
unfoldable pub single_at : List ℕ → Field Single
single_at (zero ∷ rest) = Ok (Off, rest)
single_at (suc zero ∷ rest) = Ok (On, rest)
single_at (suc (suc zero) ∷ rest) = Ok (Oneshot, rest)
single_at bytes = Err (length bytes)

-- the consume option, of the values that a layout has
abbrev pub consume_at : Layout → List ℕ → Field Single
consume_at layout bytes = such (is_consume layout) single_at bytes

-- a key
unfoldable pub key_at : List ℕ → Field (List ℕ)
key_at bytes = if nat_lt (length bytes) key_len then Err (length bytes) else Ok (take key_len bytes, drop key_len bytes)

-- a text: its length in 16 bits, and so many bytes of UTF-8
unfoldable pub text_at : List ℕ → Field (List ℕ)
text_at bytes = do
  len ← number_at w16 bytes
  if nat_le len.0 (length len.1) && is_utf8 (take len.0 len.1) then Ok (take len.0 len.1, drop len.0 len.1)
      else Err (length bytes)
