-- Division byte by byte.
use Rattle.std.proofs.Common.{◌≡◌, ℕ, ◌+◌, ◌<◌, ◌≤◌, Bool, List, [], ◌∷◌, ◌++◌, length, drop, get_or, refl, sym}
use Rattle.std.proofs.lemmas.List.{drop_more, drop_all}
use Rattle.flac_frames.specs.Bits.{bits_of, bits_of_number}
use Rattle.flac_frames.specs.Crc.{divided, remainder_after}
use Rattle.flac_frames.specs.CrcBytes.{after_byte}

pub remainder_after-append : (w p : ℕ) (xs ys : List Bool) (r : ℕ) → remainder_after w p r (xs ++ ys) ≡ remainder_after w p (remainder_after w p r xs) ys
unfolding remainder_after
remainder_after-append w p [] ys r = refl
remainder_after-append w p (x ∷ xs) ys r = remainder_after-append w p xs ys (divided w p r x)

bytes_cons : (w p r b : ℕ) (bytes : List ℕ) → remainder_after w p r (bits_of (b ∷ bytes)) ≡ remainder_after w p (after_byte w p r b) (bits_of bytes)
unfolding bits_of
bytes_cons w p r b bytes = remainder_after-append w p (bits_of_number 8 b) (bits_of bytes) r

pub byte_divided : (w p r now : ℕ) (bytes : List ℕ) (i : ℕ) → i < length bytes → now ≡ after_byte w p r (get_or bytes i 0)
    → remainder_after w p now (bits_of (drop (i + 1) bytes)) ≡ remainder_after w p r (bits_of (drop i bytes))
byte_divided w p r now bytes i h e =
    let d : drop i bytes ≡ get_or bytes i 0 ∷ drop (i + 1) bytes = drop_more bytes i 0 h in
    rw (d, e) (sym (bytes_cons w p r (get_or bytes i 0) (drop (i + 1) bytes)))

pub all_divided : (w p r : ℕ) (bytes : List ℕ) (i : ℕ) → length bytes ≤ i → r ≡ remainder_after w p r (bits_of (drop i bytes))
unfolding remainder_after bits_of
all_divided w p r bytes i h =
    let d : drop i bytes ≡ [] = drop_all i bytes h in
    rw d refl
