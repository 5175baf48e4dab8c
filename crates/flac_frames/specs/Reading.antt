-- What is read from the front of a list of bits.
use Rattle.std.specs.Prelude.{◌≡◌, ℕ, suc, zero, Bool, true, false, List, [], ◌∷◌, length, take, drop, nat_le, Result, Ok, Err}
use Rattle.std.specs.Prelude.{if◌then◌else◌}
use Rattle.std.specs.Prelude.{ℤ}
use Rattle.flac_frames.specs.Bits.{number_of, signed_of}
use Rattle.flac_frames.specs.declared.refusal.FrameError.{FrameError}
use Rattle.flac_frames.specs.declared.refusal.FrameError.TheVariants.{Ended}

-- a value, and the bits that are left behind it
pub record Read (A : Type 0) : Type 0 where
  pub value : A
  pub rest : List Bool

-- a reading of the front of the bits, or why they are refused
abbrev pub Reader : Type 0 → Type 0
Reader A = List Bool → Result (Read A) FrameError

abbrev pub giving : {A : Type 0} → A → Reader A
giving value bits = Ok (record { value = value; rest = bits })

abbrev pub refusing : {A : Type 0} → FrameError → Reader A
refusing error bits = Err error

-- what a reading goes on with
abbrev pub after : {A B : Type 0} → Result (Read A) FrameError → (A → Reader B) → Result (Read B) FrameError
after (Ok read) next = next read.value read.rest
after (Err error) next = Err error

infixl 10 ◌>>=◌
abbrev pub ◌>>=◌ : {A B : Type 0} → Reader A → (A → Reader B) → Reader B
reader >>= next = λ bits. after (reader bits) next

-- a reading where a value was found already, or a refusal
abbrev pub found : {A : Type 0} → Result A FrameError → Reader A
found (Ok value) = giving value
found (Err error) = refusing error

-- the value, where it may be so
abbrev pub only_if : {A : Type 0} → Bool → FrameError → A → Reader A
only_if may error value = if may then giving value else refusing error

-- so many bits
unfoldable pub front : ℕ → Reader (List Bool)
front n bits = if nat_le n (length bits) then Ok (record { value = take n bits; rest = drop n bits }) else Err Ended

-- an unsigned number of so many bits
unfoldable pub unsigned : ℕ → Reader ℕ
unsigned n = do
  bits ← front n
  giving (number_of bits)

-- a number of so many bits in two's complement
unfoldable pub signed : ℕ → Reader ℤ
signed n = do
  bits ← front n
  giving (signed_of bits)

abbrev pub one_more : Result (Read ℕ) FrameError → Result (Read ℕ) FrameError
one_more (Ok read) = Ok (record { value = suc read.value; rest = read.rest })
one_more (Err error) = Err error

-- zeros before a one, in number
unfoldable pub unary : Reader ℕ
unary [] = Err Ended
unary (true ∷ bits) = Ok (record { value = 0; rest = bits })
unary (false ∷ bits) = one_more (unary bits)

-- so many readings, one behind the other
unfoldable pub times : {A : Type 0} → ℕ → Reader A → Reader (List A)
times zero reader = giving []
times (suc n) reader = do
  value ← reader
  values ← times n reader
  giving (value ∷ values)

-- reading gave this result, and left these bits
abbrev pub Reads : {A : Type 0} → Reader A → List Bool → Result A FrameError → List Bool → Type 0
Reads reader bits (Ok value) rest = reader bits ≡ Ok (record { value = value; rest = rest })
Reads reader bits (Err error) rest = reader bits ≡ Err error

-- the same, where what was read stands in a slice
abbrev pub ReadsInto : {A B : Type 0} → Reader (List A) → List Bool → Result B FrameError → List A → List Bool → Type 0
ReadsInto reader bits (Ok done) values rest = reader bits ≡ Ok (record { value = values; rest = rest })
ReadsInto reader bits (Err error) values rest = reader bits ≡ Err error
