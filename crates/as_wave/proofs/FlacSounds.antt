-- Pieces of a FLAC file's samples at 16 bits.
use Rattle.std.proofs.Common.{◌≡◌, ◌+◌, ◌-◌, ◌*◌, ◌/◌, ◌%◌, ◌≤◌, ◌<◌, ℕ, zero, suc, min, List, [], ◌∷◌, ◌++◌, length, take, drop, map, replicate, set, get_or}
use Rattle.std.proofs.Common.{ap, ◌∙◌, sym, refl, arith, slice_range, ℤ, pos, Bool, true, false}
use Rattle.std.specs.Prelude.{◌==◌, if◌then◌else◌}
use Rattle.std.proofs.lemmas.List.{length-append, length-replicate, length-take, length-take-le, length-drop, length-map, take-append-drop}
use Rattle.std.proofs.lemmas.List.{drop-take, take-take, drop-append-le, take-append-le, take-map, drop-map, take_more}
use Rattle.std.proofs.lemmas.Bool.Decides.{nat_tests}
use Rattle.std.proofs.lemmas.List.Concat.{flat_map-append}
use Rattle.flac.specs.Frames.{limited}
use Rattle.flac.specs.declared.stream_info.StreamInfo.{StreamInfo}
use Rattle.as_wave.specs.FlacSamples.{padded_to}
use Rattle.as_wave.specs.Samples.{bytes_of}
use Rattle.as_wave.proofs.PieceReads.{slice_mid}
use Rattle.as_wave.proofs.SampleList.{two_bytes, length-bytes_of, put_pair, bytes_of-push}

range_is : {A : Type 0} (xs : List A) (at n : ℕ) → slice_range xs at (at + n) ≡ take n (drop at xs)
range_is xs at n = let e : at + n - at ≡ n = omega arith in rw e refl

bytes_of-append : (xs ys : List ℤ) → bytes_of (xs ++ ys) ≡ bytes_of xs ++ bytes_of ys
bytes_of-append xs ys = flat_map-append two_bytes xs ys

-- the bytes of a piece
pub bytes_part : (xs : List ℤ) (a p s n : ℕ) → a + p ≤ length xs → s + n ≤ 2 * p
    → slice_range (bytes_of (take p (drop a xs))) s (s + n) ≡ slice_range (bytes_of xs) (2 * a + s) (2 * a + s + n)
bytes_part xs a p s n within room =
    let front = take a xs in
    let mid = take p (drop a xs) in
    let rest = drop p (drop a xs) in
    let cut : front ++ (mid ++ rest) ≡ xs = ap (λ ys. front ++ ys) (take-append-drop p (drop a xs)) ∙ take-append-drop a xs in
    let bytes : bytes_of front ++ (bytes_of mid ++ bytes_of rest) ≡ bytes_of xs
    = ap (λ ys. bytes_of front ++ ys) (sym (bytes_of-append mid rest)) ∙ sym (bytes_of-append front (mid ++ rest)) ∙ ap bytes_of cut in
    let lf : length (bytes_of front) ≡ 2 * a = length-bytes_of front ∙ ap (λ k. 2 * k) (length-take-le a xs (omega arith)) in
    let lm : length (bytes_of mid) ≡ 2 * p = length-bytes_of mid ∙ ap (λ k. 2 * k) (length-take-le p (drop a xs) (omega (
      arith,
      length-drop a xs,
    ))) in
    sym (slice_mid (bytes_of front) (bytes_of mid) (bytes_of rest) s n (omega (arith, lm)))
    ∙ ap (λ l. slice_range (bytes_of front ++ (bytes_of mid ++ bytes_of rest)) (l + s) (l + s + n)) lf
    ∙ ap (λ ys. slice_range ys (2 * a + s) (2 * a + s + n)) bytes

pub length-padded : (n : ℕ) (xs : List ℤ) → length (padded_to n xs) ≡ n
length-padded n xs = length-take-le n (xs ++ replicate n (pos 0)) (omega (arith, length-append xs (replicate n (pos 0)), length-replicate n (pos 0)))

some_piece : (f : ℤ → ℤ) (xs : List ℤ) (n a p : ℕ) → a + p ≤ length xs → a + p ≤ n
    → take p (drop a (padded_to n (map f xs))) ≡ map f (take p (drop a xs))
some_piece f xs n a p within few =
    let z = replicate n (pos 0) in
    let e : n ≡ a + (n - a) = omega arith in
    ap (λ k. take p (drop a (take k (map f xs ++ z)))) e
    ∙ ap (take p) (drop-take a (n - a) (map f xs ++ z))
    ∙ take-take p (n - a) (drop a (map f xs ++ z)) (omega arith)
    ∙ ap (take p) (drop-append-le a (map f xs) z (omega (arith, length-map xs f)))
    ∙ take-append-le p (drop a (map f xs)) z (omega (arith, length-drop a (map f xs), length-map xs f))
    ∙ ap (take p) (drop-map f a xs)
    ∙ take-map f p (drop a xs)

-- a piece that is there
piece_is : (f : ℤ → ℤ) (xs : List ℤ) (n a p : ℕ) → p ≤ length xs - a → a + p ≤ n
    → take p (drop a (padded_to n (map f xs))) ≡ map f (take p (drop a xs))
piece_is f xs n a zero within few = refl
piece_is f xs n a (suc p) within few = some_piece f xs n a (suc p) (omega arith) few

nothing_read : (out bytes : List ℕ) (at k : ℕ) → k ≡ 0 → take k out ≡ slice_range bytes at (at + k)
nothing_read out bytes at k none =
    ap (λ n. take n out) none ∙ sym (range_is bytes at 0) ∙ ap (λ n. slice_range bytes at (at + n)) (sym none)

-- samples that STREAMINFO limits
pub length-limited : (info : StreamInfo) (xs : List ℤ) → 0 < info.samples → length (limited info xs) ≤ info.channels * info.samples
length-limited info xs some =
    let e : (info.samples == 0) ≡ false = grind (arith, nat_tests) in
    rw e (omega (arith, length-take (info.channels * info.samples) xs))

-- where a byte stands among the moments
pub place_is : (c at : ℕ) → 0 < c → c ≤ 2 → (2 * (c * (at / (2 * c))) + at % (2 * c) ≡ at) × (at % (2 * c) < 2 * c)
place_is zero at some few = absurd (omega arith)
place_is (suc zero) at some few = (omega arith, omega arith)
place_is (suc (suc zero)) at some few = (omega arith, omega arith)
place_is (suc (suc (suc c))) at some few = absurd (omega arith)

read_some : (f : ℤ → ℤ) (xs samples : List ℤ) (out : List ℕ) (c total m n at s k most : ℕ) → 0 < n
    → 2 * (c * m) + s ≡ at → s < 2 * c → c * n ≤ length samples
    → take (c * n) samples ≡ slice_range xs (c * m) (c * (m + n)) → length xs ≤ c * total
    → k ≡ min (2 * length (take (n * c) samples) - s) most
    → take k out ≡ slice_range (bytes_of (map f (take (n * c) samples))) s (s + k)
    → (at + k ≤ 2 * (c * total)) × (take k out ≡ slice_range (bytes_of (padded_to (c * total) (map f xs))) at (at + k))
read_some f xs samples out c total m n at s k most some place inside few read limited counted copied =
    let size : n * c ≡ c * n = omega arith in
    let sum : c * (m + n) ≡ c * m + c * n = omega arith in
    let more : c ≤ c * n = mul_some c n some in
    let whole : take (c * n) samples ≡ take (c * n) (drop (c * m) xs) = read ∙ ap (slice_range xs (c * m)) sum ∙ range_is xs (c * m) (c * n) in
    let long : length (take (c * n) samples) ≡ c * n = length-take-le (c * n) samples few in
    let there : c * n ≤ length xs - c * m = omega (arith, long, ap length whole, length-take (c * n) (drop (c * m) xs), length-drop (c * m) xs) in
    let long' : length (take (n * c) samples) ≡ c * n = ap (λ q. length (take q samples)) size ∙ long in
    let end : c * m + c * n ≤ c * total = omega (arith, there, more, inside) in
    let last : s + k ≤ 2 * (c * n) = omega (arith, counted, long', more, inside) in
    let all = padded_to (c * total) (map f xs) in
    let same : map f (take (n * c) samples) ≡ take (c * n) (drop (c * m) all)
    = ap (λ q. map f (take q samples)) size ∙ ap (map f) whole ∙ sym (piece_is f xs (c * total) (c * m) (c * n) there end) in (
      omega (arith, last, end, place),
      copied ∙ ap (λ ys. slice_range (bytes_of ys) s (s + k)) same
          ∙ bytes_part all (c * m) (c * n) s k (omega (arith, end, length-padded (c * total) (map f xs))) last
          ∙ ap (λ q. slice_range (bytes_of all) q (q + k)) place,
    )
  where
    mul_some : (c n : ℕ) → 0 < n → c ≤ c * n
    mul_some c zero some = absurd (omega arith)
    mul_some c (suc n) some = omega arith

-- what is read of the samples
pub samples_read : (f : ℤ → ℤ) (xs samples : List ℤ) (out : List ℕ) (c total m n at s k most : ℕ)
    → 2 * (c * m) + s ≡ at → s < 2 * c → at < 2 * (c * total) → c * n ≤ length samples
    → take (c * n) samples ≡ slice_range xs (c * m) (c * (m + n)) → length xs ≤ c * total
    → k ≡ min (2 * length (take (n * c) samples) - s) most
    → take k out ≡ slice_range (bytes_of (map f (take (n * c) samples))) s (s + k)
    → (at + k ≤ 2 * (c * total)) × (take k out ≡ slice_range (bytes_of (padded_to (c * total) (map f xs))) at (at + k))
samples_read f xs samples out c total m zero at s k most place inside within few read limited counted copied =
    let none : k ≡ 0 = omega (arith, counted, length-take (0 * c) samples) in (
      omega (arith, none, within),
      nothing_read out (bytes_of (padded_to (c * total) (map f xs))) at k none,
    )
samples_read f xs samples out c total m (suc n) at s k most place inside within few read limited counted copied =
    read_some f xs samples out c total m (suc n) at s k most (omega arith) place inside few read limited counted copied

-- the same by the numbers of the code: the reader's channels, and those of the caller in wider types
pub samples_read_by : (f : ℤ → ℤ) (xs samples : List ℤ) (out : List ℕ) (c a b d total n at k most : ℕ) → 0 < c → c ≤ 2
    → a ≡ c → b ≡ c → d ≡ c → at < 2 * (c * total) → a * n ≤ length samples
    → take (a * n) samples ≡ slice_range xs (a * (at / (2 * b))) (a * (at / (2 * b) + n)) → length xs ≤ a * total
    → k ≡ min (2 * length (take (n * d) samples) - at % (2 * b)) most
    → take k out ≡ slice_range (bytes_of (map f (take (n * d) samples))) (at % (2 * b)) (at % (2 * b) + k)
    → (at + k ≤ 2 * (c * total)) × (take k out ≡ slice_range (bytes_of (padded_to (c * total) (map f xs))) at (at + k))
samples_read_by f xs samples out c a b d total n at k most some two pa pb pd within few read limited counted copied =
    let here = place_is c at some two in
    samples_read f xs samples out c total (at / (2 * c)) n at (at % (2 * c)) k most here.0 here.1 within (rw pa at few) (rw pb at (rw pa at
    read)) (rw pa at limited) (rw pb at (rw pd at counted)) (rw pb at (rw pd at copied))

-- the sample at a byte before the end stands before the end
before_end : (c at total : ℕ) → 0 < c → c ≤ 2 → at < 2 * (c * total) → at / (2 * c) < total
before_end zero at total some few within = absurd (omega arith)
before_end (suc zero) at total some few within = omega arith
before_end (suc (suc zero)) at total some few within = omega arith
before_end (suc (suc (suc c))) at total some few within = absurd (omega arith)

at_least : (c n : ℕ) → 0 < n → c ≤ n * c
at_least c zero some = absurd (omega arith)
at_least c (suc n) some = omega arith

some_by : (c total n at len k most : ℕ) → 0 < c → c ≤ 2 → at < 2 * (c * total) → (n ≡ 0 → 0 < total → total ≤ at / (2 * c))
    → len ≡ n * c → k ≡ min (2 * len - at % (2 * c)) most → 0 < most → 0 < k
some_by c total zero at len k most some two within none long counted room =
    let last : at / (2 * c) < total = before_end c at total some two within in
    absurd (omega (arith, last, none refl (omega (arith, last))))
some_by c total (suc n) at len k most some two within none long counted room =
    let here = place_is c at some two in omega (arith, here.1, at_least c (suc n) (omega arith))

-- something is read before the end
pub some_read : (c a b d total n at len k most : ℕ) → 0 < c → c ≤ 2 → a ≡ c → b ≡ c → d ≡ c → at < 2 * (c * total)
    → (n ≡ 0 → 0 < total → total ≤ at / (2 * b)) → len ≡ n * d → k ≡ min (2 * len - at % (2 * b)) most → 0 < most → 0 < k
some_read c a b d total n at len k most some two pa pb pd within none long counted room =
    some_by c total n at len k most some two within (λ zero' full. rw pb at (none zero' full)) (rw pd at long) (rw pb at counted) room

-- how many samples there may be
pub few_samples : (n c d : ℕ) → d ≡ c → c ≤ 2 → n ≤ 512 → n * d ≤ 1024
few_samples n c d same two few = let t = twice c n two in omega (arith, ap (λ k. n * k) same, t)
  where
    twice : (c n : ℕ) → c ≤ 2 → n * c ≤ 2 * n
    twice zero n two = omega arith
    twice (suc zero) n two = omega arith
    twice (suc (suc zero)) n two = omega arith
    twice (suc (suc (suc c))) n two = absurd (omega arith)

-- more than a piece is never read
pub too_many : (n c a : ℕ) → a ≡ c → 0 < c → 512 < n → a * n ≤ 512 → ⊥
too_many n c a same some many few = omega (arith, ap (λ k. k * n) same, at_least n c some)

-- one more sample
pub pushed_more : (f : ℤ → ℤ) (zs : List ℤ) (was now : List ℕ) (k a b : ℕ) (z d : ℤ) → 2 * k + 1 < length was → k < length zs
    → now ≡ bytes_of (map f (take k zs)) ++ drop (2 * k) was → z ≡ f (get_or zs k d) → two_bytes z ≡ a ∷ b ∷ []
    → set (set now (2 * k) a) (2 * k + 1) b ≡ bytes_of (map f (take (k + 1) zs)) ++ drop (2 * (k + 1)) was
pushed_more f zs was now k a b z d room within so_far same pair =
    let long : length (bytes_of (map f (take k zs))) ≡ 2 * k = length-bytes_of (map f (take k zs))
    ∙ ap (λ n. 2 * n) (length-map (take k zs) f ∙ length-take-le k zs (omega arith)) in
    ap (λ xs. set (set xs (2 * k) a) (2 * k + 1) b) so_far
    ∙ put_pair (bytes_of (map f (take k zs))) was k a b long room
    ∙ ap (λ xs. (bytes_of (map f (take k zs)) ++ xs) ++ drop (2 * (k + 1)) was) (sym pair ∙ ap two_bytes same)
    ∙ ap (λ xs. xs ++ drop (2 * (k + 1)) was) (sym (bytes_of-push f (take k zs) (get_or zs k d))
    ∙ ap (λ ys. bytes_of (map f ys)) (sym (take_more zs k d within)))
