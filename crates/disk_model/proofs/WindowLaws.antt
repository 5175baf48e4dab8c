-- What a crash may leave after one call or a few since a sync.
use Rattle.std.proofs.Common.{◌≡◌, inl, inr, ℕ, ◌+◌, ◌<◌, ◌≤◌, max, List, [], ◌∷◌, ◌++◌, length, length-drop, take, drop}
use Rattle.std.proofs.Common.{get_or, arith, refl, sym, ap, subst, ◌∙◌}
use Rattle.std.proofs.lemmas.Grind.{common_steps, same_number_lists}
use Rattle.std.proofs.lemmas.List.{length-take-le, get_or-drop}
use Rattle.disk_model.specs.Behind.{IsBehind}
use Rattle.disk_model.specs.Calls.{IsSameOrAdds}
use Rattle.disk_model.specs.History.{Change, Wrote, CutTo, Synced}
use Rattle.disk_model.specs.Images.{Window, settled, window, IsUnwritten, IsImage}
use Rattle.disk_model.specs.Moments.{AllSince, AllNow}
use Rattle.disk_model.specs.Torn.{Torn}
use Rattle.disk_model.proofs.MomentLaws.{all_begin, all_step, all_step_or}

-- a settled file has one image
pub settled_only : (bytes image : List ℕ) → IsImage (settled bytes) image → image ≡ bytes
settled_only bytes image left =
    same_number_lists image bytes (omega (arith, left.no_shorter, left.no_longer)) (λ i below. left.kept i (omega
    (arith, left.no_longer)) tt)

-- so whatever holds of its bytes holds after a crash
pub settled_all : (P : List ℕ → Type 0) (history : List Change) (bytes : List ℕ) → window history ≡ settled bytes → P bytes
    → AllNow P history
settled_all P history bytes is_settled holds image left =
    subst P (sym (settled_only bytes image (subst (λ w. IsImage w image) is_settled left))) holds

-- so a run goes on by a sync whose bytes have P
pub all_synced : (P : List ℕ → Type 0) (old new : List Change) (bytes : List ℕ) (t : ℕ) → new ≡ Synced bytes ∷ old → P bytes
    → AllSince P old t → AllSince P new t
all_synced P old new bytes t made holds since =
    subst (λ history. AllSince P history t) (sym made)
    (all_step P (Synced bytes) old t (settled_all P (Synced bytes ∷ old) bytes refl holds) since)

-- a window that leaves alone the first k of these bytes
record KeepsFront (k : ℕ) (bytes : List ℕ) (w : Window) : Type 0 where
  base : w.base ≡ bytes
  least : k ≤ w.least
  unwritten : (i : ℕ) → i < k → IsUnwritten w.written i

keeps_front : (changes history : List Change) (k : ℕ) (bytes : List ℕ) → window history ≡ settled bytes → k ≤ length bytes
    → IsBehind k changes → KeepsFront k bytes (window (changes ++ history))
keeps_front [] history k bytes is_settled within behind =
    let at_first : KeepsFront k bytes (settled bytes) = record { base = refl; least = within; unwritten = λ i below. tt } in
    subst (λ w. KeepsFront k bytes w) (sym is_settled) at_first
keeps_front (Wrote at count ∷ changes) history k bytes is_settled within behind =
    let before = keeps_front changes history k bytes is_settled within behind.1 in
    record { base = before.base; least = before.least; unwritten = λ i below. (inl (omega (arith, behind.0)), before.unwritten i below) }
keeps_front (CutTo len ∷ changes) history k bytes is_settled within behind =
    let before = keeps_front changes history k bytes is_settled within behind.1 in
    record { base = before.base; least = omega (arith, before.least, behind.0); unwritten = before.unwritten }
keeps_front (Synced synced ∷ changes) history k bytes is_settled within behind = absurd behind

-- What stands before k stays, where all that was done since the sync lies behind it.
pub front_stays : (changes history : List Change) (k : ℕ) (bytes image : List ℕ) → window history ≡ settled bytes → k ≤ length bytes
    → IsBehind k changes → IsImage (window (changes ++ history)) image → (k ≤ length image) × (take k image ≡ take k bytes)
front_stays changes history k bytes image is_settled within behind left =
    let front = keeps_front changes history k bytes is_settled within behind in
    let long : k ≤ length image = omega (arith, front.least, left.no_shorter) in
    let taken : length (take k image) ≡ k = length-take-le k image long in
    let given : length (take k bytes) ≡ k = length-take-le k bytes within in
    let each : (i : ℕ) → i < k → get_or image i 0 ≡ get_or bytes i 0 =
    λ i below. left.kept i (omega (arith, front.least)) (front.unwritten i below) ∙ ap (λ b. get_or b i 0) front.base in (
      long,
      same_number_lists (take k image) (take k bytes) (taken ∙ sym given) (λ i below. grind (
        arith,
        common_steps,
        each i
            (omega arith),
      )),
    )

-- a cut since the sync
pub cut_leaves : (history : List Change) (len : ℕ) (bytes image : List ℕ) → window history ≡ settled bytes → len ≤ length bytes
    → IsImage (window (CutTo len ∷ history)) image → (take len image ≡ take len bytes) × (len ≤ length image)
    × (length image ≤ length bytes)
cut_leaves history len bytes image is_settled within left =
    let front = front_stays (CutTo len ∷ []) history len bytes image is_settled within (omega arith, tt) left in
    (front.1, front.0, subst (λ w. length image ≤ w.greatest) is_settled left.no_longer)

-- a window of one write
abbrev one_write : ℕ → ℕ → Window → Window
one_write at count w = record w { greatest = max w.greatest (at + count); written = record { at = at; count = count } ∷ w.written }

tears : (at count : ℕ) (bytes image : List ℕ) → at ≤ length bytes → IsImage (one_write at count (settled bytes)) image
    → Torn at count bytes image
tears at count bytes image within left =
    let shorter : length bytes ≤ length image = left.no_shorter in
    let longer : length image ≤ max (length bytes) (at + count) = left.no_longer in
    let front : length (take at image) ≡ at = length-take-le at image (omega arith) in
    let front' : length (take at bytes) ≡ at = length-take-le at bytes within in
    let rest : length (drop (at + count) image) ≡ length (drop (at + count) bytes) =
    omega (arith, length-drop (at + count) image, length-drop (at + count) bytes) in
    let below : (i : ℕ) → i < at → get_or image i 0 ≡ get_or bytes i 0 = λ i h. left.kept i (omega arith) (inl h, tt) in
    let above : (i : ℕ) → at + count + i < length bytes → get_or image (at + count + i) 0 ≡ get_or bytes (at + count + i) 0 =
    λ i h. left.kept (at + count + i) h (inr (omega arith), tt) in
    record {
      before = same_number_lists _ _ (front ∙ sym front') (λ i h. grind (arith, common_steps, below i (omega arith)));
      after = same_number_lists _ _ rest (λ i h. rw (get_or-drop (at + count) image i 0, get_or-drop (at + count) bytes i 0) (above i
          (omega (arith, length-drop (at + count) image))));
      no_shorter = shorter;
      no_longer = longer;
    }

-- a write since the sync
pub write_tears : (history : List Change) (at count : ℕ) (bytes image : List ℕ) → window history ≡ settled bytes → at ≤ length bytes
    → IsImage (window (Wrote at count ∷ history)) image → Torn at count bytes image
write_tears history at count bytes image is_settled within left =
    tears at count bytes image within (subst (λ w. IsImage (one_write at count w) image) is_settled left)

torn_itself : (at count : ℕ) (bytes : List ℕ) → Torn at count bytes bytes
torn_itself at count bytes = record { before = refl; after = refl; no_shorter = omega arith; no_longer = omega arith }

-- whatever a crash leaves since a settled file was written to
pub torn_since : (old new : List Change) (at count : ℕ) (bytes : List ℕ) → window old ≡ settled bytes → at ≤ length bytes
    → IsSameOrAdds (Wrote at count) old new → AllSince (Torn at count bytes) new (length old)
torn_since old new at count bytes is_settled within step =
    all_step_or (Torn at count bytes) (Wrote at count) old new (length old) step
    (λ image left. write_tears old at count bytes image is_settled within left)
    (all_begin (Torn at count bytes) old (settled_all (Torn at count bytes) old bytes is_settled (torn_itself at count bytes)))

-- and since it was synced then
pub torn_synced : (old between new : List Change) (at count : ℕ) (bytes after : List ℕ) → window old ≡ settled bytes
    → at ≤ length bytes → between ≡ Wrote at count ∷ old → IsImage (window between) after → new ≡ Synced after ∷ between
    → AllSince (Torn at count bytes) new (length old)
torn_synced old between new at count bytes after is_settled within made image synced =
    all_synced (Torn at count bytes) between new after (length old) synced
    (write_tears old at count bytes after is_settled within (subst (λ (l : List Change). IsImage (window l) after) made image))
    (torn_since old between at count bytes is_settled within (inr made))
