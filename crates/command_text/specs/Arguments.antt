-- What the words of arguments stand for, form by form.
use Rattle.std.specs.Prelude.{ℕ, ◌+◌, ◌-◌, ◌*◌, ◌^◌, List, [], ◌∷◌, length, Bool, true, false, not, ◌&&◌, ◌==◌, Option, Some, None, nat_lt}
use Rattle.std.specs.Prelude.{nat_le, codes, if◌then◌else◌}
use Rattle.std.specs.Option.{option_map}
use Rattle.std.specs.Str.{bytes_eq, is_utf8}
use Rattle.std.specs.Char.{is_ascii_digit}
use Rattle.std.specs.List.{list_all}
use Rattle.std.specs.Str.Parse.{digits_value}
use Rattle.player_core.specs.declared.options.Single.{Single}
use Rattle.player_core.specs.declared.options.Single.TheVariants.{Off, On, Oneshot}
use Rattle.player_core.specs.declared.seek.SeekTime.{SeekTime}
use Rattle.player_core.specs.declared.seek.SeekTime.TheVariants.{To, Forward, Back}
use Rattle.play_queue.specs.declared.target.Target.{Target}
use Rattle.play_queue.specs.declared.target.Target.TheVariants.{At, After, Before}
use Rattle.command_text.specs.declared.range.PositionRange.{PositionRange}
use Rattle.command_text.specs.declared.range.PositionRange.TheVariants.{One, From, Between}
use Rattle.command_text.specs.declared.range.Window.{Window}

infixl 10 ◌>>=◌
abbrev pub ◌>>=◌ : {A B : Type 0} → Option A → (A → Option B) → Option B
(Some x) >>= f = f x
None >>= f = None

-- `0` or `1`
unfoldable pub switch_of : List ℕ → Option Bool
switch_of word =
    if bytes_eq word (codes "0") then Some false else (if bytes_eq word (codes "1") then Some true else None)

-- `0`, `1` or `oneshot`
unfoldable pub single_of : List ℕ → Option Single
single_of word =
    if bytes_eq word (codes "0") then Some Off
    else (if bytes_eq word (codes "1") then Some On
    else (if bytes_eq word (codes "oneshot") then Some Oneshot else None))

-- one decimal digit at least, and nothing else
abbrev pub are_digits : List ℕ → Bool
are_digits word = not (length word == 0) && list_all is_ascii_digit word

-- the number that decimal digits stand for, at most 4294967295
unfoldable pub digits_of : List ℕ → Option ℕ
digits_of word =
    if are_digits word && nat_lt (digits_value 10 word) (2 ^ 32) then Some (digits_value 10 word) else None

-- a number: 1 to 10 decimal digits, at most 4294967295
unfoldable pub number_of : List ℕ → Option ℕ
number_of word = if nat_le (length word) 10 then digits_of word else None

-- a number of at most so much
unfoldable pub number_to : ℕ → List ℕ → Option ℕ
number_to most word = do
  number ← number_of word
  if nat_le number most then Some number else None

-- what stands in front of the first such byte, and behind it
unfoldable pub around : ℕ → List ℕ → Option (List ℕ × List ℕ)
around byte [] = None
around byte (c ∷ rest) =
    if c == byte then Some ([], rest) else option_map (λ parts. (c ∷ parts.0, parts.1)) (around byte rest)

-- `S:`, or `S:E` where S is not above E
unfoldable pub span_of : List ℕ → List ℕ → Option PositionRange
span_of start [] = option_map From (number_of start)
span_of start (c ∷ end) = do
  first ← number_of start
  last ← number_of (c ∷ end)
  if nat_le first last then Some (Between first last) else None

abbrev pub span_or : Option PositionRange → Option (List ℕ × List ℕ) → Option PositionRange
span_or position None = position
span_or position (Some parts) = span_of parts.0 parts.1

-- RANGE: a position, `S:` or `S:E`
unfoldable pub range_of : List ℕ → Option PositionRange
range_of word = span_or (option_map One (number_of word)) (around 58 word)

-- `S:` or `S:E` of a result
abbrev pub window_in : PositionRange → Option Window
window_in (One position) = None
window_in (From start) = Some (record { start = start; end = None })
window_in (Between start end) = Some (record { start = start; end = Some end })

unfoldable pub window_of : List ℕ → Option Window
window_of word = range_of word >>= window_in

-- TO: a position, `+N` or `-N`
unfoldable pub target_of : List ℕ → Option Target
target_of [] = None
target_of (c ∷ rest) =
    if c == 43 then option_map After (number_of rest)
    else (if c == 45 then option_map Before (number_of rest) else option_map At (number_of (c ∷ rest)))

abbrev pub digit : ℕ → ℕ
digit c = c - 48

-- the thousandths that digits behind a point stand for; three of them count
abbrev pub thousandths : List ℕ → ℕ
thousandths [] = 0
thousandths (a ∷ []) = digit a * 100
thousandths (a ∷ b ∷ []) = digit a * 100 + digit b * 10
thousandths (a ∷ b ∷ c ∷ rest) = digit a * 100 + digit b * 10 + digit c

-- at most 4294967 seconds
abbrev pub milliseconds : ℕ → ℕ → Option ℕ
milliseconds seconds more =
    if nat_le (seconds * 1000 + more) 4294967000 then Some (seconds * 1000 + more) else None

unfoldable pub time_in : List ℕ → Option (List ℕ × List ℕ) → Option ℕ
time_in word None = digits_of word >>= λ seconds. milliseconds seconds 0
time_in word (Some parts) = do
  seconds ← digits_of parts.0
  if are_digits parts.1 then milliseconds seconds (thousandths parts.1) else None

-- TIME, in milliseconds: digits, or digits on both sides of a point
unfoldable pub time_of : List ℕ → Option ℕ
time_of word = time_in word (around 46 word)

-- TIME, `+TIME` or `-TIME`
unfoldable pub seek_time_of : List ℕ → Option SeekTime
seek_time_of [] = None
seek_time_of (c ∷ rest) =
    if c == 43 then option_map Forward (time_of rest)
    else (if c == 45 then option_map Back (time_of rest) else option_map To (time_of (c ∷ rest)))

-- a text; the words of a line that is text are texts
unfoldable pub text_of : List ℕ → Option (List ℕ)
text_of word = if is_utf8 word then Some word else None
