-- Partitions one behind the other, into a slice.
use Rattle.std.proofs.Common.{◌≡◌, ℕ, suc, ◌+◌, ◌-◌, ◌*◌, ◌<◌, ◌≤◌, Bool, List, [], ◌++◌, length, length-take, length-drop, take, drop, refl, sym, ◌∙◌, arith, append_assoc, Result, Ok, Err, ℤ, true}
use Rattle.std.proofs.lemmas.List.{take_all, drop_all, append-nil, take-append-drop}
use Rattle.std.proofs.lemmas.List.Elements.{All-append}
use Rattle.std.proofs.lemmas.Nat.{row_fits, mul-le}
use Rattle.std.proofs.lemmas.Slice.{take-put_mid, drop-put_mid}
use borrow.Rule.Slice.PartMut.{put_mid}
use Rattle.flac_frames.specs.Bits.{fits}
use Rattle.flac_frames.specs.AllFit.{AllFit}
use Rattle.flac_frames.specs.Reading.{Read, giving, after}
use Rattle.flac_frames.specs.Residual.{partition, partitions}
use Rattle.flac_frames.specs.declared.refusal.FrameError.{FrameError}
use Rattle.flac_frames.proofs.Ranges.{all_wider}
use Rattle.flac_frames.proofs.Times.{behind}

pub behind-append : {A : Type 0} (front x : List A) (r : Result (Read (List A)) FrameError)
    → behind front (after r (λ values. giving (x ++ values))) ≡ behind (front ++ x) r
behind-append front x (Ok read) = rw (append_assoc front x read.value) refl
behind-append front x (Err error) = refl

pub partitions_more : (parameter_bits n size : ℕ) (front values : List ℤ) (bits rest : List Bool)
    → partition parameter_bits size bits ≡ Ok (record { value = values; rest = rest })
    → behind front (partitions parameter_bits (suc n) size bits) ≡ behind (front ++ values) (partitions parameter_bits n size rest)
unfolding partitions
partitions_more parameter_bits n size front values bits rest h = rw h (behind-append front values (partitions parameter_bits n size rest))

pub partitions_err : (parameter_bits n size : ℕ) (front : List ℤ) (bits : List Bool) (error : FrameError)
    → partition parameter_bits size bits ≡ Err error
    → behind front (partitions parameter_bits (suc n) size bits) ≡ Err error
unfolding partitions
partitions_err parameter_bits n size front bits error h = rw h refl

-- one step of the loop
pub partitions_step : (parameter_bits n i size : ℕ) (front values now : List ℤ) (bits rest : List Bool) (all : Result (Read (List ℤ)) FrameError)
    → i < n → partition parameter_bits size bits ≡ Ok (record { value = values; rest = rest })
    → now ≡ front ++ values
    → behind front (partitions parameter_bits (n - i) size bits) ≡ all
    → behind now (partitions parameter_bits (n - (i + 1)) size rest) ≡ all
partitions_step parameter_bits n i size front values now bits rest all h p e before =
    let m : n - i ≡ suc (n - (i + 1)) = omega arith in
    rw e (sym (partitions_more parameter_bits (n - (i + 1)) size front values bits rest p) ∙ (rw m at before))

pub partitions_fault : (parameter_bits n i size : ℕ) (front : List ℤ) (bits : List Bool) (error : FrameError) (all : Result (Read (List ℤ)) FrameError)
    → i < n → partition parameter_bits size bits ≡ Err error
    → behind front (partitions parameter_bits (n - i) size bits) ≡ all → all ≡ Err error
partitions_fault parameter_bits n i size front bits error all h p before =
    let m : n - i ≡ suc (n - (i + 1)) = omega arith in
    sym before ∙ rw m (partitions_err parameter_bits (n - (i + 1)) size front bits error p)

pub partitions_end : (parameter_bits n i size : ℕ) (out : List ℤ) (bits : List Bool) (all : Result (Read (List ℤ)) FrameError)
    → n ≤ i → length out ≤ i * size → behind (take (i * size) out) (partitions parameter_bits (n - i) size bits) ≡ all
    → all ≡ Ok (record { value = out; rest = bits })
unfolding partitions
partitions_end parameter_bits n i size out bits all h len before =
    let m : n - i ≡ 0 = omega arith in
    let t : take (i * size) out ≡ out = take_all (i * size) out len in
    sym before ∙ rw (m, t) (rw (append-nil out) refl)

pub row_end : (n i size len : ℕ) → len ≡ n * size → n ≤ i → len ≤ i * size
row_end n i size len e h = omega (arith, mul-le n size i size h (omega arith))

-- the part that holds one partition
pub row_inside : (n i size len : ℕ) → len ≡ n * size → i < n → i * size + size ≤ len
row_inside n i size len e h = omega (arith, row_fits i size n size h (omega arith))

pub part_length : (i size : ℕ) (out : List ℤ) → i * size + size ≤ length out → length (take (i * size + size - i * size) (drop (i * size) out)) ≡ size
part_length i size out h = omega (arith, length-take {A = ℤ}, length-drop {A = ℤ})

pub part_taken : (i size : ℕ) (out values : List ℤ) → i * size + size ≤ length out → length values ≡ size
    → take ((i + 1) * size) (put_mid (i * size) (i * size + size - i * size) out values) ≡ take (i * size) out ++ values
part_taken i size out values h len =
    let e : (i + 1) * size ≡ i * size + length values = omega arith in
    take-put_mid (i * size) (i * size + size - i * size) out values ((i + 1) * size) e (omega arith)

pub part_fits : (i size : ℕ) (out values : List ℤ) → i * size + size ≤ length out → length values ≡ size
    → AllFit 33 (take (i * size) out) → AllFit 33 values
    → AllFit 33 (take ((i + 1) * size) (put_mid (i * size) (i * size + size - i * size) out values))
part_fits i size out values h len front back =
    rw (part_taken i size out values h len) (All-append (λ sample. fits 33 sample ≡ true) (take (i * size) out) values front back)

-- what stands behind the first samples
pub part_behind : (n : ℕ) (out r : List ℤ) → n ≤ length out → length r ≡ length out - n → put_mid n (length out - n) out r ≡ take n out ++ r
part_behind n out r h len =
    let front : take (length out) (put_mid n (length out - n) out r) ≡ take n out ++ r = take-put_mid n (length out - n) out r (length out) (omega arith) h in
    let back : drop (length out) (put_mid n (length out - n) out r) ≡ drop (length out) out = drop-put_mid n (length out - n) out r (length out) (omega arith) h len in
    let none : drop (length out) out ≡ [] = drop_all (length out) out (omega arith) in
    let whole : take (length out) (put_mid n (length out - n) out r) ++ drop (length out) (put_mid n (length out - n) out r) ≡ put_mid n (length out - n) out r
    = take-append-drop (length out) (put_mid n (length out - n) out r) in
    sym whole ∙ rw (front, back, none) (append-nil (take n out ++ r))

pub behind_fits : (n width : ℕ) (out r : List ℤ) → n ≤ length out → length r ≡ length out - n → width ≤ 33
    → AllFit width (take n out) → AllFit 33 r → AllFit 33 (put_mid n (length out - n) out r)
behind_fits n width out r h len most front back =
    rw (part_behind n out r h len) (All-append (λ sample. fits 33 sample ≡ true) (take n out) r (all_wider width 33 (take n out) most front) back)
