-- A piece with its head, as the buffer has it.
use Rattle.std.proofs.Common.{◌≡◌, ◌+◌, ◌-◌, ◌*◌, ◌<◌, ◌≤◌, ◌^◌, ◌⊎◌, ℕ, List, [], ◌++◌, length, take, drop, map, min, replicate}
use Rattle.std.proofs.Common.{slice_range, Option, Some, None, IfSome, inl, inr, arith, ap, sym, subst, ◌∙◌}
use Rattle.std.proofs.lemmas.Bool.{cases_lt}
use Rattle.std.proofs.Math.Nat.{mul-le-mul_left}
use Rattle.std.proofs.lemmas.List.{take_at, drop_all, append-nil, length-append, length-replicate, length-drop, length-take}
use borrow.Rule.Slice.PartMut.{put_mid}
use Rattle.wave_pcm.specs.Pcm.{at_volume, frame_len, range_from, samples_in, frames_from}
use Rattle.wave_pcm.specs.declared.info.WaveInfo.{WaveInfo}
use Rattle.wave_pcm.proofs.FrameList.{frames_are}
use Rattle.song_output.specs.declared.output.Form.{Form}
use Rattle.song_output.specs.Sound.{bytes_of, head_in, sound_from, in_form}

-- after a write of all samples behind the head
pub piece_is : (n start len : ℕ) (items now new head : List ℕ) → now ≡ items → items ≡ head ++ replicate len 0
    → start ≡ length items - len → n ≡ length items → length new ≡ len
    → take n (put_mid start (length now - start) now new ++ drop (length (put_mid start (length now - start) now new)) items) ≡ head ++ new
piece_is n start len items now new head same blank from all filled =
    let size : length items ≡ length head + len = ap length blank ∙ length-append head (replicate len 0)
    ∙ ap (λ k. length head + k) (length-replicate len 0) in
    let at : length head ≡ start = omega (arith, size, from) in
    let front : take start now ≡ head = ap (take start) (same ∙ blank) ∙ take_at head (replicate len 0) start at in
    let rest : drop (length now - start) (drop start now) ≡ [] = drop_all (length now - start) (drop start now)
    (omega (arith, length-drop start now)) in
    let whole : put_mid start (length now - start) now new ≡ head ++ new =
    ap (λ xs. xs ++ (new ++ drop (length now - start) (drop start now))) front ∙ ap (λ xs. head ++ (new ++ xs)) rest
    ∙ ap (λ xs. head ++ xs) (append-nil new) in
    let long : length (head ++ new) ≡ n = length-append head new ∙ (omega (arith, size, all, filled)) in
    ap (λ xs. take n (xs ++ drop (length xs) items)) whole ∙ take_at (head ++ new) (drop (length (head ++ new)) items) n long

-- samples that fill their range, behind their head, are what was ordered
pub ordered_is : (form : Form) (file : List ℕ) (info : WaveInfo) (first volume : ℕ) (place : ℕ × ℕ) (new : List ℕ)
    → place ≡ range_from info first 4096 → length new ≡ place.1
    → new ≡ bytes_of (map (at_volume volume) (samples_in (slice_range file place.0 (place.0 + place.1))))
    → head_in form info place.1 ++ new ≡ sound_from form file info first volume
ordered_is form file info first volume place new found long filled =
    let sound = bytes_of (map (at_volume volume) (frames_from file info first 4096)) in
    let same : new ≡ sound = filled
    ∙ ap (λ (p : ℕ × ℕ). bytes_of (map (at_volume volume) (samples_in (slice_range file p.0 (p.0 + p.1))))) found
    ∙ ap (λ samples. bytes_of (map (at_volume volume) samples)) (sym (frames_are file info first 4096)) in
    ap (λ n. head_in form info n ++ new) (sym long) ∙ ap (in_form form info) same

-- what stands behind the head
pub piece_len : (n len : ℕ) (items now head : List ℕ) → now ≡ items → items ≡ head ++ replicate len 0 → n ≡ length items
    → length (take (length now - (n - len)) (drop (n - len) now)) ≡ len
piece_len n len items now head same blank all =
    let size : length items ≡ length head + len = ap length blank ∙ length-append head (replicate len 0)
    ∙ ap (λ k. length head + k) (length-replicate len 0) in
    let given : length now ≡ length items = ap length same in
    length-take (length now - (n - len)) (drop (n - len) now) ∙ (omega (arith, length-drop (n - len) now, size, given, all))

-- a piece has few bytes
piece_short : (info : WaveInfo) (from : ℕ) → info.channels < 65536 → (range_from info from 4096).1 < 2 ^ 30
piece_short info from few =
    let count = min (info.frames - min from info.frames) 4096 in
    let bound : frame_len info * count ≤ frame_len info * 4096 = mul-le-mul_left (frame_len info) (omega arith) in
    omega (arith, bound, few)

-- the place of a piece is none, or the one that the head tells of
pub range_short : (info : WaveInfo) (from end : ℕ) (range : Option (ℕ × ℕ)) → info.channels < 65536
    → (info.first_byte + frame_len info * info.frames ≤ end → range ≡ Some (range_from info from 4096))
    → (end < info.first_byte + frame_len info * info.frames → range ≡ None) → IfSome range (λ r. r.1 < 2 ^ 30)
range_short info from end range few place short = by_end (cases_lt end (info.first_byte + frame_len info * info.frames))
  where
    by_end : (end < info.first_byte + frame_len info * info.frames) ⊎ (info.first_byte + frame_len info * info.frames ≤ end)
        → IfSome range (λ r. r.1 < 2 ^ 30)
    by_end (inl less) = subst (λ o. IfSome o (λ r. r.1 < 2 ^ 30)) (sym (short less)) tt
    by_end (inr all) = subst (λ o. IfSome o (λ r. r.1 < 2 ^ 30)) (sym (place all)) (piece_short info from few)
