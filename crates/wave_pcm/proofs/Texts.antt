-- Which bytes of a chunk decide the text of its tag.
use Rattle.std.proofs.Common.{◌≡◌, ℕ, List, length, Bool, true, false, ◌+◌, ap, ◌∙◌, arith}
use Rattle.std.proofs.Common.{take, cond, sym, zero, suc, [], ◌∷◌, min, inl, inr, drop, slice_range}
use Rattle.std.specs.Prelude.{◌==◌, not}
use Rattle.std.specs.List.{position_or_len, prefix_len}
use Rattle.std.proofs.lemmas.List.{take-take, take_all, length-take-le}
use Rattle.std.proofs.lemmas.Bool.{cases_lt}
use Rattle.wave_pcm.proofs.ChunkList.{take_front}
use Rattle.song_files.proofs.Ranges.{range_is}
use Rattle.song_files.specs.Text.{text_or_none}
use Rattle.song_files.proofs.Texts.{text_dropped, too_long}
use Rattle.wave_pcm.specs.Text.{before_zero, tag_text}

prefix_len-take : (q : ℕ → Bool) (n : ℕ) (xs : List ℕ) → prefix_len q (take n xs) ≡ min n (prefix_len q xs)
prefix_len-take q zero xs = omega arith
prefix_len-take q (suc n) [] = omega arith
prefix_len-take q (suc n) (x ∷ xs) = elim (q x) as (λ b. cond b (1 + prefix_len q (take n xs)) 0 ≡ min (suc n) (cond b (1 +
    prefix_len q xs) 0)) [
      | true ↦ (let e : prefix_len q (take n xs) ≡ min n (prefix_len q xs) = prefix_len-take q n xs in omega arith)
      | false ↦ omega arith
    ]

-- what stands before the first zero byte of a front
before_zero-take : (n : ℕ) (body : List ℕ) → before_zero (take n body) ≡ take n (before_zero body)
before_zero-take n body =
    ap (λ k. take k (take n body)) (prefix_len-take (λ b. not (b == 0)) n body)
    ∙ take-take (min n (position_or_len (λ b. b == 0) body)) n body (omega arith)
    ∙ sym (take_front n (position_or_len (λ b. b == 0) body) body)

-- 513 bytes decide the text of a tag
pub tag_text-take : (body : List ℕ) → tag_text (take 513 body) ≡ tag_text body
tag_text-take body = elim (cases_lt (length (before_zero body)) 513) as (λ _. tag_text (take 513 body) ≡ tag_text body) [
  | inl few ↦ (let e : before_zero (take 513 body) ≡ before_zero body = before_zero-take 513 body
      ∙ take_all 513 (before_zero body) (omega arith) in
      ap text_or_none e)
  | inr many ↦ (let cut : length (before_zero (take 513 body)) ≡ 513 = ap length (before_zero-take 513 body)
      ∙ length-take-le 513 (before_zero body) many in
      sym (text_dropped (before_zero (take 513 body)) (too_long (before_zero (take 513 body)) (omega arith)))
      ∙ text_dropped (before_zero body) (too_long (before_zero body) (omega arith)))
]

-- so does what is read of the data
pub text_decided : (file : List ℕ) (first len count : ℕ) → count ≡ min len 513
    → tag_text (slice_range file first (first + count)) ≡ tag_text (slice_range file first (first + len))
text_decided file first len count few =
    let e : min 513 len ≡ count = omega arith in
    ap tag_text (range_is file first count ∙ ap (λ n. take n (drop first file)) (sym e)
    ∙ sym (take_front 513 len (drop first file)) ∙ ap (take 513) (sym (range_is file first len)))
    ∙ tag_text-take (slice_range file first (first + len))
