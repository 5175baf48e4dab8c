-- The time that a text gives, in seconds since the beginning of 1970, and that of a song's file.
use Rattle.std.specs.Prelude.{ℕ, ◌+◌, ◌-◌, ◌*◌, ◌==◌, ◌&&◌, not, min, nat_le, Bool, false, List, [], ◌∷◌, length, take, drop, option_map}
use Rattle.std.specs.Prelude.{Option, Some, None, if◌then◌else◌}
use Rattle.std.specs.Option.{option_or}
use Rattle.song_files.specs.declared.folder.FileStamp.{FileStamp}
use Rattle.song_head.specs.Numbers.{are_digits, digits_in_front, digits_of}
use Rattle.filter_expr.specs.Calendar.{day_of, epoch}

infixl 10 ◌>>=◌
abbrev pub ◌>>=◌ : {A B : Type 0} → Option A → (A → Option B) → Option B
(Some x) >>= f = f x
None >>= f = None

-- a number from one to another
abbrev pub within : ℕ → ℕ → Option ℕ → List ℕ → Option (ℕ × List ℕ)
within least most None behind = None
within least most (Some number) behind =
    if nat_le least number && nat_le number most then Some (number, behind) else None

-- a number of so many digits in front, from one to another, and what stands behind it
unfoldable pub number_at : ℕ → ℕ → ℕ → List ℕ → Option (ℕ × List ℕ)
number_at count least most text =
    if nat_le count (length text) then within least most (digits_of (take count text)) (drop count text) else None

-- how many digits stand in front, and at most so many
abbrev pub front_of : ℕ → List ℕ → ℕ
front_of most text = min most (length (digits_in_front text))

-- a number of one digit to so many, as many as there are
abbrev pub short_at : ℕ → ℕ → ℕ → List ℕ → Option (ℕ × List ℕ)
short_at count least most text = number_at (front_of count text) least most text

-- such a number of two digits at most behind a byte
unfoldable pub part_at : ℕ → ℕ → ℕ → List ℕ → Option (ℕ × List ℕ)
part_at byte least most [] = None
part_at byte least most (b ∷ text) = if b == byte then short_at 2 least most text else None

-- the day of `YYYY-MM-DD`, and what stands behind it; numbers may be shorter
unfoldable pub parted_date : List ℕ → Option (ℕ × List ℕ)
parted_date text = do
  year ← short_at 4 0 9999 text
  month ← part_at 45 1 12 year.1
  day ← part_at 45 1 31 month.1
  Some (day_of year.0 month.0 day.0, day.1)

-- the day of `YYYYMMDD`, and what stands behind it
unfoldable pub joined_date : List ℕ → Option (ℕ × List ℕ)
joined_date text = do
  year ← number_at 4 0 9999 text
  month ← number_at 2 1 12 year.1
  day ← number_at 2 1 31 month.1
  Some (day_of year.0 month.0 day.0, day.1)

unfoldable pub date_at : List ℕ → Option (ℕ × List ℕ)
date_at text = option_or (parted_date text) (joined_date text)

-- the first day of `YYYY-MM`, with nothing behind it
unfoldable pub month_in : List ℕ → Option ℕ
month_in text = do
  year ← short_at 4 0 9999 text
  month ← part_at 45 1 12 year.1
  if length month.1 == 0 then Some (day_of year.0 month.0 1) else None

-- the second of the day of `h:m:s`, and what stands behind it
unfoldable pub parted_second : List ℕ → Option (ℕ × List ℕ)
parted_second text = do
  hour ← short_at 2 0 23 text
  minute ← part_at 58 0 59 hour.1
  second ← part_at 58 0 60 minute.1
  Some (hour.0 * 3600 + minute.0 * 60 + second.0, second.1)

-- of `hhmmss`
unfoldable pub joined_second : List ℕ → Option (ℕ × List ℕ)
joined_second text = do
  hour ← number_at 2 0 23 text
  minute ← number_at 2 0 59 hour.1
  second ← number_at 2 0 60 minute.1
  Some (hour.0 * 3600 + minute.0 * 60 + second.0, second.1)

-- of `h:m`
unfoldable pub parted_minute : List ℕ → Option (ℕ × List ℕ)
parted_minute text = do
  hour ← short_at 2 0 23 text
  minute ← part_at 58 0 59 hour.1
  Some (hour.0 * 3600 + minute.0 * 60, minute.1)

-- of `hhmm`
unfoldable pub joined_minute : List ℕ → Option (ℕ × List ℕ)
joined_minute text = do
  hour ← number_at 2 0 23 text
  minute ← number_at 2 0 59 hour.1
  Some (hour.0 * 3600 + minute.0 * 60, minute.1)

-- of `h`
unfoldable pub hour_at : List ℕ → Option (ℕ × List ℕ)
hour_at text = do
  hour ← short_at 2 0 23 text
  Some (hour.0 * 3600, hour.1)

-- the first of these forms that stands there
unfoldable pub clock_at : List ℕ → Option (ℕ × List ℕ)
clock_at text =
    option_or (parted_second text) (option_or (joined_second text) (option_or (parted_minute text) (option_or (joined_minute text)
    (hour_at text))))

-- the minutes of an offset, behind a colon or not, and nothing behind them
unfoldable pub offset_minutes : List ℕ → Option ℕ
offset_minutes [] = Some 0
offset_minutes (b ∷ text) = do
  minute ← number_at 2 0 59 (if b == 58 then text else b ∷ text)
  if length minute.1 == 0 then Some minute.0 else None

-- the seconds of `hh`, `hhmm` or `hh:mm`, with nothing behind it
unfoldable pub offset_in : List ℕ → Option ℕ
offset_in text = do
  hour ← number_at 2 0 13 text
  minute ← offset_minutes hour.1
  Some (hour.0 * 3600 + minute * 60)

-- The time of a second of a day; what is before 1970 is its beginning. East of Greenwich the day begins so many seconds earlier, west of
-- it so many later.
abbrev pub time_of : ℕ → ℕ → ℕ → ℕ → ℕ
time_of day second east west = day * 86400 + second + west - (epoch * 86400 + east)

-- a time with what stands behind it: nothing, `Z`, or an offset
unfoldable pub time_in_zone : ℕ → ℕ → List ℕ → Option ℕ
time_in_zone day second [] = Some (time_of day second 0 0)
time_in_zone day second (b ∷ text) =
    if b == 90 then (if length text == 0 then Some (time_of day second 0 0) else None)
    else (if b == 43 then option_map (λ offset. time_of day second offset 0) (offset_in text)
    else (if b == 45 then option_map (λ offset. time_of day second 0 offset) (offset_in text) else None))

-- the time of a day, or of a time of that day behind `T`
unfoldable pub time_on : ℕ → List ℕ → Option ℕ
time_on day [] = time_in_zone day 0 []
time_on day (b ∷ text) =
    if b == 84 then clock_at text >>= (λ clock. time_in_zone day clock.0 clock.1) else time_in_zone day 0 (b ∷ text)

unfoldable pub dated_time : List ℕ → Option ℕ
dated_time text = date_at text >>= (λ date. time_on date.0 date.1)

-- a time of ISO 8601: a day, a time of it, or a month
unfoldable pub iso_time : List ℕ → Option ℕ
iso_time text = option_or (dated_time text) (option_map (λ day. time_of day 0 0 0) (month_in text))

-- digits alone are seconds since the beginning of 1970, but eight that are a date
unfoldable pub time_in : List ℕ → Option ℕ
time_in text = if are_digits text && not (length text == 8) then digits_of text else option_or (iso_time text) (digits_of text)

-- when a song's file was changed last, where that is known
abbrev pub known_time : Option FileStamp → Option ℕ
known_time None = None
known_time (Some stamp) = if stamp.modified == 0 then None else Some stamp.modified

-- it was changed then or later
abbrev pub is_since : ℕ → Option ℕ → Bool
is_since time None = false
is_since time (Some modified) = nat_le time modified
