-- The list of blocks, one block at a time.
use Rattle.std.proofs.Common.{◌≡◌, ℕ, zero, suc, ◌+◌, ◌-◌, ◌<◌, ◌≤◌, List, [], ◌∷◌, ◌++◌, length, take, drop, arith, ap, ◌∙◌, sym, refl}
use Rattle.std.proofs.Common.{Bool, true, false, Ok, Err, slice_range, subst, append_assoc}
use Rattle.std.specs.Prelude.{Result, IfErr, nat_le, if◌then◌else◌}
use Rattle.std.proofs.Common.{All}
use Rattle.std.proofs.lemmas.Bool.Decides.{nat_tests}
use Rattle.std.proofs.lemmas.List.Elements.{All-same, All-cons, All-nil, All-head, All-tail}
use Rattle.song_files.proofs.Ranges.{range_is}
use Rattle.flac.specs.Blocks.{head_in, is_sound, sound, block_at, blocks_from}
use Rattle.flac.specs.FlacError.{Refuses}
use Rattle.flac.specs.Steps.{◌>>=◌, joined}
use Rattle.flac.specs.declared.blocks.BlockHead.{BlockHead}
use Rattle.flac.specs.declared.refusal.FlacError.{FlacError}
use Rattle.flac.specs.declared.refusal.FlacError.TheVariants.{DamagedBlock, TooManyBlocks}

-- the first four bytes alone count
head_in-take : (at : ℕ) (xs : List ℕ) → head_in at (take 4 xs) ≡ head_in at xs
head_in-take at [] = refl
head_in-take at (a ∷ []) = refl
head_in-take at (a ∷ b ∷ []) = refl
head_in-take at (a ∷ b ∷ c ∷ []) = refl
head_in-take at (a ∷ b ∷ c ∷ d ∷ xs) = refl

pub no_block : (file : List ℕ) (at : ℕ) → length file < at + 4 → block_at file at ≡ Err DamagedBlock
unfolding block_at
no_block file at short = let e : nat_le (at + 4) (length file) ≡ false = grind (arith, nat_tests) in rw e refl

-- the block by the four bytes that were read
pub block_is : (file bytes : List ℕ) (at end : ℕ) (head : BlockHead) → at + 4 ≤ end → end ≡ length file
    → bytes ≡ slice_range file at (at + 4) → head ≡ head_in at bytes → block_at file at ≡ sound end head
unfolding block_at
block_is file bytes at end head room all read same =
    let e : nat_le (at + 4) (length file) ≡ true = grind (arith, nat_tests) in
    let h : head_in at (drop at file) ≡ head = sym (head_in-take at (drop at file)) ∙ ap (head_in at) (sym (range_is file at 4) ∙ sym read) ∙ sym same in
    ap (λ (b : Bool). if b then sound (length file) (head_in at (drop at file)) else Err DamagedBlock) e
    ∙ ap (sound (length file)) h ∙ ap (λ n. sound n head) (sym all)

by_test : (b : Bool) (block : BlockHead) (s r : Result BlockHead FlacError) (fault : Type 0)
    → r ≡ (if b then Ok block else Err DamagedBlock) → s ≡ r → IfErr r (Refuses s fault)
by_test true block s r fault e h = rw e tt
by_test false block s r fault e h = rw e (h ∙ e)

-- the only refusal of a block
pub sound_refused : (end : ℕ) (block : BlockHead) (s r : Result BlockHead FlacError) (fault : Type 0) → r ≡ sound end block → s ≡ sound end block
    → IfErr r (Refuses s fault)
sound_refused end block s r fault e h = by_test (is_sound end block) block s r fault e (h ∙ sym e)

joined-nil : {A : Type 0} (r : Result (List A) FlacError) → joined [] r ≡ r
joined-nil (Ok xs) = refl
joined-nil (Err e) = refl

pub joined-joined : {A : Type 0} (xs ys : List A) (r : Result (List A) FlacError) → joined xs (joined ys r) ≡ joined (xs ++ ys) r
joined-joined xs ys (Ok zs) = ap Ok (sym (append_assoc xs ys zs))
joined-joined xs ys (Err e) = refl

pub blocks_begin : (n k : ℕ) (file : List ℕ) (at : ℕ) (xs : List BlockHead) → xs ≡ [] → k ≡ 0
    → joined xs (blocks_from (n - k) file at) ≡ blocks_from n file at
blocks_begin n k file at xs none start =
    let e : n - k ≡ n = omega arith in
    ap (λ (ys : List BlockHead). joined ys (blocks_from (n - k) file at)) none ∙ joined-nil (blocks_from (n - k) file at)
    ∙ ap (λ m. blocks_from m file at) e

-- what follows a block
abbrev pub follows : ℕ → List ℕ → BlockHead → Result (List BlockHead) FlacError
follows more file block = if block.is_last then Ok (block ∷ []) else joined (block ∷ []) (blocks_from more file (block.first + block.len))

blocks_one : (m : ℕ) (file : List ℕ) (at : ℕ) → blocks_from (suc m) file at ≡ (block_at file at >>= follows m file)
unfolding blocks_from
blocks_one m file at = refl

first_of : (n k : ℕ) (file : List ℕ) (at : ℕ) → k < n → blocks_from (n - k) file at ≡ (block_at file at >>= follows (n - (k + 1)) file)
first_of n k file at room =
    let e : n - k ≡ suc (n - (k + 1)) = omega arith in ap (λ m. blocks_from m file at) e ∙ blocks_one (n - (k + 1)) file at

with_block : (m : ℕ) (file : List ℕ) (xs : List BlockHead) (block : BlockHead) (b : Bool) → block.is_last ≡ b
    → joined xs (follows m file block) ≡ (if b then Ok (xs ++ block ∷ []) else joined (xs ++ block ∷ []) (blocks_from m file (block.first + block.len)))
with_block m file xs block true last = ap (λ (b : Bool). joined xs (if b then Ok (block ∷ []) else joined (block ∷ []) (blocks_from m file (block.first + block.len)))) last
with_block m file xs block false more = ap (λ (b : Bool). joined xs (if b then Ok (block ∷ []) else joined (block ∷ []) (blocks_from m file (block.first + block.len)))) more
    ∙ joined-joined xs (block ∷ []) (blocks_from m file (block.first + block.len))

-- after one more block
pub blocks_more : (n k : ℕ) (file : List ℕ) (at : ℕ) (xs ys : List BlockHead) (block : BlockHead) (b : Bool) (all : Result (List BlockHead) FlacError)
    → k < n → block.is_last ≡ b → block_at file at ≡ Ok block → ys ≡ xs ++ block ∷ [] → joined xs (blocks_from (n - k) file at) ≡ all
    → (if b then Ok ys else joined ys (blocks_from (n - (k + 1)) file (block.first + block.len))) ≡ all
blocks_more n k file at xs ys block b all room last found push whole =
    ap (λ (zs : List BlockHead). if b then Ok zs else joined zs (blocks_from (n - (k + 1)) file (block.first + block.len))) push
    ∙ sym (with_block (n - (k + 1)) file xs block b last)
    ∙ sym (ap (joined xs) (first_of n k file at room ∙ ap (λ r. r >>= follows (n - (k + 1)) file) found)) ∙ whole

-- where none stands
pub blocks_refused : (n k : ℕ) (file : List ℕ) (at : ℕ) (xs : List BlockHead) (all : Result (List BlockHead) FlacError) (e : FlacError)
    → k < n → joined xs (blocks_from (n - k) file at) ≡ all → block_at file at ≡ Err e → all ≡ Err e
blocks_refused n k file at xs all e room whole refused =
    sym whole ∙ ap (joined xs) (first_of n k file at room ∙ ap (λ r. r >>= follows (n - (k + 1)) file) refused)

blocks_none : (file : List ℕ) (at : ℕ) → blocks_from zero file at ≡ Err TooManyBlocks
unfolding blocks_from
blocks_none file at = refl

-- where too many do
pub blocks_many : (n k : ℕ) (file : List ℕ) (at : ℕ) (xs : List BlockHead) (all : Result (List BlockHead) FlacError)
    → n ≤ k → joined xs (blocks_from (n - k) file at) ≡ all → all ≡ Err TooManyBlocks
blocks_many n k file at xs all many whole =
    let e : n - k ≡ 0 = omega arith in
    sym whole ∙ ap (λ m. joined xs (blocks_from m file at)) e ∙ ap (joined xs) (blocks_none file at)

pub All_push : {X : Type 0} (P : X → Type 0) (xs ys : List X) (x : X) → ys ≡ xs ++ x ∷ [] → All P xs → P x → All P ys
All_push P [] ys x push each here = All-same P ys (x ∷ []) push (All-cons P x [] here (All-nil P))
All_push P (y ∷ xs) ys x push each here = All-same P ys (y ∷ (xs ++ x ∷ [])) push (All-cons P y (xs ++ x ∷ []) (All-head P y xs
    each) (All_push P xs (xs ++ x ∷ []) x refl (All-tail P y xs each) here))
