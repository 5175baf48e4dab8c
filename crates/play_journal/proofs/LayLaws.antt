-- What a crash leaves in the three steps in which a file is laid down.
use Rattle.std.proofs.Common.{◌≡◌, ◌⊎◌, inl, inr, ℕ, ◌+◌, ◌<◌, ◌≤◌, List, [], ◌∷◌, ◌++◌, length, length-append, take, drop, get_or}
use Rattle.std.proofs.Common.{append_assoc, arith, refl, sym, ap, ◌∙◌}
use Rattle.std.proofs.lemmas.Bool.{cases_eq}
use Rattle.std.proofs.lemmas.List.{take_at, length-take-le, get_or-take, drop_at}
use Rattle.disk_model.specs.Behind.{IsBehind}
use Rattle.disk_model.specs.Calls.{overwritten}
use Rattle.disk_model.specs.History.{Change, Wrote, CutTo, Synced}
use Rattle.disk_model.specs.Images.{window, settled}
use Rattle.disk_model.specs.Moments.{AllSince}
use Rattle.disk_model.specs.Torn.{Torn}
use Rattle.disk_model.proofs.BehindLaws.{KeepsBefore, IsBehindSince, behind_since}
use Rattle.disk_model.proofs.MomentLaws.{all_weaker}
use Rattle.play_journal.specs.File.{open_gate, IsClosed, IsShut}
use Rattle.play_journal.specs.Laying.{EndsWith, IsDoneBehind, IsSameOrShut, IsLaidDown}
use Rattle.play_journal.proofs.AppendLaws.{torn_byte}

-- ---- the file is written behind the closed gate

pub still_shut : (bytes image : List ℕ) → IsClosed bytes → KeepsBefore 1 bytes image → IsShut image
still_shut bytes image closed front =
    let first : get_or image 0 0 ≡ get_or bytes 0 0 =
    sym (get_or-take 1 image 0 0 (omega arith)) ∙ ap (λ (l : List ℕ). get_or l 0 0) front.same ∙ get_or-take 1 bytes 0 0 (omega arith) in
    inr (λ opened. closed.closed (sym first ∙ opened))

-- what lies behind the gate leaves the file shut
pub shut_since : (bytes : List ℕ) (old new : List Change) → window old ≡ settled bytes → IsClosed bytes → IsBehindSince 1 old new
    → AllSince IsShut new (length old)
shut_since bytes old new is_settled closed run =
    all_weaker _ IsShut _ _ (λ image front. still_shut bytes image closed front)
    (behind_since 1 bytes old new is_settled (omega (arith, closed.stands)) run)

behind_weaker : (k m : ℕ) → k ≤ m → (made : List Change) → IsBehind m made → IsBehind k made
behind_weaker k m less [] is = tt
behind_weaker k m less (Wrote at count ∷ made) is = (omega (arith, less, is.0), behind_weaker k m less made is.1)
behind_weaker k m less (CutTo len ∷ made) is = (omega (arith, less, is.0), behind_weaker k m less made is.1)
behind_weaker k m less (Synced bytes ∷ made) is = is

both_behind : (k : ℕ) (later earlier : List Change) → IsBehind k later → IsBehind k earlier → IsBehind k (later ++ earlier)
both_behind k [] earlier is before = before
both_behind k (Wrote at count ∷ later) earlier is before = (is.0, both_behind k later earlier is.1 before)
both_behind k (CutTo len ∷ later) earlier is before = (is.0, both_behind k later earlier is.1 before)
both_behind k (Synced bytes ∷ later) earlier is before = absurd is

pub since_of : (k : ℕ) (old new : List Change) → IsDoneBehind k old new → IsBehindSince k old new
since_of k old new done = record { made = done.0; parts = done.1; behind = done.2 }

pub done_of : (k : ℕ) (old new : List Change) → IsBehindSince k old new → IsDoneBehind k old new
done_of k old new run = (run.made, run.parts, run.behind)

-- what was done further behind comes after it
pub behind_further : (k m : ℕ) (first old new : List Change) → k ≤ m → IsBehindSince k first old → IsDoneBehind m old new
    → IsBehindSince k first new
behind_further k m first old new less before done = record {
  made = done.0 ++ before.made;
  parts = done.1 ∙ ap (λ (l : List Change). done.0 ++ l) before.parts ∙ sym (append_assoc done.0 before.made first);
  behind = both_behind k done.0 before.made (behind_weaker k m less done.0 done.2) before.behind;
}

-- bytes that are written right behind a front
front_grows : (bytes front added : List ℕ) (at : ℕ) → take at bytes ≡ front → length front ≡ at
    → take (at + length added) (overwritten bytes at added) ≡ front ++ added
front_grows bytes front added at is long =
    ap (λ (l : List ℕ). take (at + length added) (l ++ added ++ drop (at + length added) bytes)) is
    ∙ take_at (front ++ added) (drop (at + length added) bytes) (at + length added) (omega (arith, length-append front added))

-- a piece is written behind what was written before
pub piece_written : (c c' left piece rest whole : List ℕ) (at n : ℕ) → at ≤ length c → take at c ++ left ≡ whole → left ≡ piece ++ rest
    → c' ≡ overwritten c at piece → n ≡ at + length piece → take n c' ++ rest ≡ whole
piece_written c c' left piece rest whole at n within is parted made is_n =
    ap (λ (l : List ℕ). take n l ++ rest) made
    ∙ ap (λ (k : ℕ). take k (overwritten c at piece) ++ rest) {x = n} {y = at + length piece} is_n
    ∙ ap (λ (l : List ℕ). l ++ rest) (front_grows c (take at c) piece at refl (length-take-le at c within))
    ∙ append_assoc (take at c) piece rest
    ∙ ap (λ (l : List ℕ). take at c ++ l) (sym parted)
    ∙ is

pub behind_written : (c0 head snapshot c1 c2 c3 c4 : List ℕ) (end cut : ℕ) → 0 < length c0 → length head ≡ 31
    → end ≡ 32 + length snapshot → cut ≡ end + 1
    → c1 ≡ overwritten c0 1 head → EndsWith 32 snapshot c1 c2 → c3 ≡ overwritten c2 end (0 ∷ []) → c4 ≡ take cut c3
    → c4 ≡ take 1 c0 ++ (head ++ snapshot ++ 0 ∷ [])
behind_written c0 head snapshot c1 c2 c3 c4 end cut some long is_end is_cut w1 w2 w3 w4 =
    let front : List ℕ = take 1 c0 in
    let one : length front ≡ 1 = length-take-le 1 c0 (omega arith) in
    let f1 : take 32 c1 ≡ front ++ head =
    ap (λ (l : List ℕ). take 32 l) w1 ∙ ap (λ (n : ℕ). take n (overwritten c0 1 head)) {x = 32} {y = 1 + length head} (omega arith)
    ∙ front_grows c0 front head 1 refl one in
    let l1 : length (front ++ head) ≡ 32 = omega (arith, length-append front head) in
    let f2 : take end c2 ≡ (front ++ head) ++ snapshot =
    ap (λ (n : ℕ). take n c2) {x = end} {y = 32 + length snapshot} is_end ∙ w2.spelled ∙ ap (λ (l : List ℕ). l ++ snapshot) f1 in
    let l2 : length ((front ++ head) ++ snapshot) ≡ end = omega (arith, length-append (front ++ head) snapshot) in
    let f3 : take cut c3 ≡ ((front ++ head) ++ snapshot) ++ 0 ∷ [] =
    ap (λ (l : List ℕ). take cut l) w3 ∙ ap (λ (n : ℕ). take n (overwritten c2 end (0 ∷ []))) {x = cut} {y = end + 1} is_cut
    ∙ front_grows c2 ((front ++ head) ++ snapshot) (0 ∷ []) end f2 l2 in
    w4 ∙ f3 ∙ ap (λ (l : List ℕ). l ++ 0 ∷ []) (append_assoc front head snapshot) ∙ append_assoc front (head ++ snapshot) (0 ∷ [])

-- the lengths that the writes behind a gate meet
pub first_long : (c0 head : List ℕ) (c1 : List ℕ) → 0 < length c0 → length head ≡ 31 → c1 ≡ overwritten c0 1 head → 32 ≤ length c1
first_long c0 head c1 some long is =
    let front : length (take 1 c0) ≡ 1 = length-take-le 1 c0 (omega arith) in
    omega (
      arith,
      ap (λ (l : List ℕ). length l) is,
      length-append (take 1 c0
          ++ head) (drop (1 + length head) c0),
      length-append (take 1 c0) head,
      front,
    )

pub next_long : (c added c' : List ℕ) (at : ℕ) → at ≤ length c → c' ≡ overwritten c at added → at + length added ≤ length c'
next_long c added c' at within is =
    let front : length (take at c) ≡ at = length-take-le at c within in
    omega (
      arith,
      ap (λ (l : List ℕ). length l) is,
      length-append (take at c
          ++ added) (drop (at + length added) c),
      length-append (take at c) added,
      front,
    )

-- ---- the gate is opened

rest_of : (closed front bytes : List ℕ) → length front ≡ 1 → closed ≡ front ++ bytes → drop 1 closed ≡ bytes
rest_of closed front bytes one is = ap (λ (l : List ℕ). drop 1 l) is ∙ drop_at front bytes 1 one

pub opens : (closed front bytes image : List ℕ) → length front ≡ 1 → closed ≡ front ++ bytes → Torn 0 1 closed image
    → IsShut image ⊎ (image ≡ open_gate ∷ bytes)
opens closed front bytes image one is torn =
    let some : 0 < length closed = omega (arith, ap (λ (l : List ℕ). length l) is, length-append front bytes) in
    elim (cases_eq (get_or image 0 0) open_gate) [
      | inl opened ↦ inr (torn_byte 0 closed image some torn ∙ ap (λ (n : ℕ). n ∷ drop 1 closed) opened
          ∙ ap (λ (l : List ℕ). open_gate ∷ l) (rest_of closed front bytes one is))
      | inr still ↦ inl (inr still)
    ]

pub is_open : (closed front bytes new : List ℕ) → length front ≡ 1 → closed ≡ front ++ bytes
    → new ≡ overwritten closed 0 (open_gate ∷ []) → new ≡ open_gate ∷ bytes
is_open closed front bytes new one is made = made ∙ ap (λ (l : List ℕ). open_gate ∷ l) (rest_of closed front bytes one is)

-- ---- the three steps are one

pub same_laid : (old new image : List ℕ) → IsSameOrShut old image → IsLaidDown old new image
same_laid old new image same = inl same

pub shut_laid : (old new image : List ℕ) → IsShut image → IsLaidDown old new image
shut_laid old new image shut = inl (inr shut)

pub opened_laid : (old new image : List ℕ) → IsShut image ⊎ (image ≡ new) → IsLaidDown old new image
opened_laid old new image (inl shut) = inl (inr shut)
opened_laid old new image (inr is) = inr is
