-- The head of a WAVE file of 16-bit PCM, by the RIFF WAVE specification 1.0. Each number has its low byte first.
use Rattle.std.specs.Prelude.{ℕ, ◌+◌, ◌*◌, List, ◌++◌, codes}
use Rattle.std.specs.Int.{w16, w32, to_le_bytes}

-- a number of two bytes, and one of four; of a greater number these are the lowest bytes
abbrev pub two_bytes : ℕ → List ℕ
two_bytes n = to_le_bytes w16 n

abbrev pub four_bytes : ℕ → List ℕ
four_bytes n = to_le_bytes w32 n

-- the chunk `fmt `: its size, the tag of PCM, the channels, the rate, the bytes a second, the bytes a frame, the bits a sample
unfoldable pub format_chunk : ℕ → ℕ → List ℕ
format_chunk rate channels =
    codes "fmt " ++ four_bytes 16 ++ two_bytes 1 ++ two_bytes channels ++ four_bytes rate ++ four_bytes (rate * channels * 2)
    ++ two_bytes (channels * 2) ++ two_bytes 16

-- the head in front of so many bytes of samples; the first size counts all that follows it
unfoldable pub wave_head : ℕ → ℕ → ℕ → List ℕ
wave_head rate channels len =
    codes "RIFF" ++ four_bytes (36 + len) ++ codes "WAVE" ++ format_chunk rate channels ++ codes "data" ++ four_bytes len
