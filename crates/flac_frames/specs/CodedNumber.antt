-- The coded number of a frame: as UTF-8 codes, but up to 36 bits in 7 bytes (RFC 9639, section 9.1.5).
use Rattle.std.specs.Prelude.{ℕ, zero, suc, ◌+◌, ◌-◌, ◌*◌, ◌&&◌, nat_lt, nat_le, if◌then◌else◌}
use Rattle.flac_frames.specs.Reading.{Reader, ◌>>=◌, giving, refusing, only_if, unsigned}
use Rattle.flac_frames.specs.declared.refusal.FrameError.TheVariants.{Forbidden}

-- a byte 10xxxxxx brings six bits
unfoldable pub six_bits : Reader ℕ
six_bits = do
  byte ← unsigned 8
  only_if (nat_le 128 byte && nat_lt byte 192) Forbidden (byte - 128)

-- so many of them behind what the first byte brings
unfoldable pub continued : ℕ → ℕ → Reader ℕ
continued zero number = giving number
continued (suc n) number = do
  low ← six_bits
  continued n (number * 64 + low)

-- the leading ones of the first byte tell how many bytes there are
unfoldable pub number_from : ℕ → Reader ℕ
number_from first =
    if nat_lt first 128 then giving first
    else if nat_lt first 192 then refusing Forbidden
    else if nat_lt first 224 then continued 1 (first - 192)
    else if nat_lt first 240 then continued 2 (first - 224)
    else if nat_lt first 248 then continued 3 (first - 240)
    else if nat_lt first 252 then continued 4 (first - 248)
    else if nat_lt first 254 then continued 5 (first - 252)
    else if nat_lt first 255 then continued 6 0
    else refusing Forbidden

unfoldable pub coded_number : Reader ℕ
coded_number = do
  first ← unsigned 8
  number_from first
