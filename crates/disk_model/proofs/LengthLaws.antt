-- Zero bytes that are put behind the end of a file, piece by piece.
use Rattle.std.proofs.Common.{◌≡◌, inl, inr, ℕ, ◌+◌, ◌≤◌, max, List, [], ◌∷◌, ◌++◌, length, length-append, length-drop, length-take, take, drop}
use Rattle.std.proofs.Common.{append_assoc, Result, Ok, Err, arith, refl, sym, ap, subst, ◌∙◌}
use Rattle.std.specs.Prelude.{◌↔◌, IsErr, IsErrAnd, IsErrOf}
use Rattle.std.proofs.lemmas.List.{take-append-drop, take-append-le, take_all, length-take-le}
use Rattle.disk_model.specs.Calls.{IsMadeOrNothing, overwritten}
use Rattle.disk_model.specs.declared.refusal.DiskError.{DiskError}
use Rattle.disk_model.specs.declared.refusal.DiskError.TheVariants.{DiskFault, OutOfRange}
use Rattle.disk_model.specs.Faults.{IsCounted}
use Rattle.disk_model.specs.History.{Change, CutTo, Synced, Wrote}
use Rattle.disk_model.specs.Images.{Window, settled, window}
use Rattle.disk_model.specs.Later.{IsLater}
use Rattle.disk_model.specs.Lengthened.{EndsBy, IsBegunBehind, IsLengthened}
use Rattle.disk_model.specs.Moments.{AllSince}
use Rattle.disk_model.proofs.MomentLaws.{all_begin, all_step}
use Rattle.disk_model.proofs.WindowLaws.{settled_all}

-- a write behind what stood there
begun_wrote : (len : ℕ) (before : List ℕ) (at count : ℕ) (first old new : List Change) → length before ≤ at → at + count ≤ len
    → IsBegunBehind len before first old → new ≡ Wrote at count ∷ old → IsBegunBehind len before first new
begun_wrote len before at count first old new behind ends begun made = record {
  made = Wrote at count ∷ begun.made;
  done = made ∙ ap (λ (l : List Change). Wrote at count ∷ l) begun.done;
  behind = (behind, begun.behind);
  ends = (ends, begun.ends);
}

-- that counts as made, or was nothing
begun_failed : (len : ℕ) (before : List ℕ) (at count : ℕ) (first old new : List Change) (bytes after : List ℕ) → length before ≤ at
    → at + count ≤ len → IsBegunBehind len before first old → IsMadeOrNothing (Wrote at count) old new bytes after
    → IsBegunBehind len before first new
begun_failed len before at count first old new bytes after behind ends begun (inl made) =
    begun_wrote len before at count first old new behind ends begun made
begun_failed len before at count first old new bytes after behind ends begun (inr nothing) = record {
  made = begun.made;
  done = nothing.0 ∙ begun.done;
  behind = begun.behind;
  ends = begun.ends;
}

-- so far it has this length, and what stood there stands there still
pub record IsPutBehind (len : ℕ) (before after : List ℕ) (old new : List Change) (at : ℕ) : Type 0 where
  pub begun : IsBegunBehind len before old new
  pub long : at ≡ length after
  pub within : length before ≤ at
  pub no_longer : at ≤ max (length before) len
  pub front : take (length before) after ≡ before

pub put_begin : (len : ℕ) (bytes : List ℕ) (history : List Change) (at : ℕ) → at ≡ length bytes
    → IsPutBehind len bytes bytes history history at
put_begin len bytes history at is = record {
  begun = record { made = []; done = refl; behind = tt; ends = tt };
  long = is;
  within = omega (arith, is);
  no_longer = omega (arith, is);
  front = take_all (length bytes) bytes (omega arith);
}

-- a write at the end
at_end : (bytes piece after : List ℕ) (at : ℕ) → at ≡ length bytes → after ≡ overwritten bytes at piece
    → after ≡ bytes ++ piece ++ drop (at + length piece) bytes
at_end bytes piece after at is written =
    written ∙ ap (λ (l : List ℕ). l ++ piece ++ drop (at + length piece) bytes) (take_all at bytes (omega (arith, is)))

end_long : (bytes piece after : List ℕ) (at : ℕ) → at ≡ length bytes → after ≡ overwritten bytes at piece
    → at + length piece ≡ length after
end_long bytes piece after at is written =
    let rest = drop (at + length piece) bytes in
    omega (
      arith,
      is,
      ap (λ (l : List ℕ). length l) (at_end bytes piece after at is written),
      length-append (bytes ++ piece) rest,
      length-append bytes piece,
      none_behind bytes (at + length piece) (omega (arith, is)),
    )
  where
    none_behind : (l : List ℕ) (n : ℕ) → length l ≤ n → length (drop n l) ≡ 0
    none_behind l n over = omega (arith, length-drop n l, over)

-- the end of a piece that is the front of a list
pub piece_long : (at count : ℕ) (bytes : List ℕ) → count ≤ length bytes → at + count ≡ at + length (take count bytes)
piece_long at count bytes within = omega (arith, length-take-le count bytes within)

pub piece_within : (at count len : ℕ) (bytes : List ℕ) → at + count ≤ len → at + length (take count bytes) ≤ len
piece_within at count len bytes within = omega (arith, length-take count bytes, within)

pub put_more : (len : ℕ) (before bytes piece after : List ℕ) (old history new : List Change) (at next : ℕ)
    → IsPutBehind len before bytes old history at → after ≡ overwritten bytes at piece → new ≡ Wrote at (length piece) ∷ history
    → next ≡ at + length piece → next ≤ len → IsPutBehind len before after old new next
put_more len before bytes piece after old history new at next put written made is ends =
    let rest : List ℕ = drop (at + length piece) bytes in
    let kept : after ≡ bytes ++ (piece ++ rest) = at_end bytes piece after at put.long written ∙ append_assoc bytes piece rest in
    record {
      begun = begun_wrote len before at (length piece) old history new put.within (omega (arith, is, ends)) put.begun made;
      long = is ∙ end_long bytes piece after at put.long written;
      within = omega (arith, is, put.within);
      no_longer = omega (arith, ends);
      front = ap (λ (l : List ℕ). take (length before) l) kept
          ∙ take-append-le (length before) bytes (piece ++ rest) (omega (arith, put.within, put.long)) ∙ put.front;
    }

pub put_failed : (len : ℕ) (before bytes after : List ℕ) (old history new : List Change) (at count : ℕ)
    → IsPutBehind len before bytes old history at → IsMadeOrNothing (Wrote at count) history new bytes after → at + count ≤ len
    → IsBegunBehind len before old new
put_failed len before bytes after old history new at count put failed ends =
    begun_failed len before at count old history new bytes after put.within ends put.begun failed

pub put_unsynced : (len : ℕ) (before bytes : List ℕ) (old history new : List Change) (at : ℕ)
    → IsPutBehind len before bytes old history at → new ≡ history → IsBegunBehind len before old new
put_unsynced len before bytes old history new at put same = record {
  made = put.begun.made;
  done = same ∙ put.begun.done;
  behind = put.begun.behind;
  ends = put.begun.ends;
}

pub put_synced : (len : ℕ) (before bytes after : List ℕ) (old history new : List Change) (at : ℕ)
    → IsPutBehind len before bytes old history at → new ≡ Synced bytes ∷ history → after ≡ bytes
    → IsLengthened len before after old new
put_synced len before bytes after old history new at put made same = record {
  made = put.begun.made;
  done = made ∙ ap (λ (l : List ℕ). Synced l ∷ history) (sym same) ∙ ap (λ (l : List Change). Synced after ∷ l) put.begun.done;
  behind = put.begun.behind;
  ends = put.begun.ends;
  rest = drop (length before) bytes;
  front = same ∙ sym (take-append-drop (length before) bytes) ∙ ap (λ (l : List ℕ). l ++ drop (length before) bytes) put.front;
  no_longer = omega (arith, ap (λ (l : List ℕ). length l) same, put.long, put.no_longer);
}

-- the count of a call that failed is that of the whole
pub counted_on : {S T : Type 0} (e : DiskError) (first before now : ℕ) → before ≡ first → IsCounted {T = S} before now (Err e)
    → IsCounted {T = T} first now (Err e)
counted_on DiskFault first before now same counted = record {
  later = omega (arith, same, counted.later);
  fault = λ _ below. omega (arith, same, counted.fault refl below);
  ok = tt;
  out_of_range = λ is. (cc);
}
counted_on OutOfRange first before now same counted = record {
  later = omega (arith, same, counted.later);
  fault = λ is. (cc);
  ok = tt;
  out_of_range = λ _. counted.out_of_range refl ∙ same;
}

-- a call in range that fails has no other error
pub in_range_on : {S T : Type 0} (e : DiskError) → (IsErrOf {T = S} (Err e) OutOfRange → ⊥) → IsErrOf {T = T} (Err e) OutOfRange → ⊥
in_range_on DiskFault in_range is = (cc)
in_range_on OutOfRange in_range is = in_range refl

-- the error that a `?` returns
pub still_err : {T : Type 0} (r : Result T DiskError) (e : DiskError) → IsErr r × IsErrAnd r (λ x. x ≡ e) → r ≡ Err e
still_err (Ok x) e is = absurd is.1
still_err (Err x) e is = ap (λ (y : DiskError). Err y) is.1

-- what a disk keeps over such a call
module _ {D : Type 0} (honest : D → Type 0) (content : D → List ℕ) (history : D → List Change) (faults : D → ℕ) (old new : D) (len : ℕ)
    (honesty : honest old ↔ honest new) (counted : faults old ≤ faults new) where
  pub later_lengthened : (honest old → IsLengthened len (content old) (content new) (history old) (history new))
      → IsLater honest history faults old new
  later_lengthened long = record {
    honesty = honesty;
    done = λ h. (Synced (content new) ∷ (long h).made, (long h).done);
    counted = counted;
  }

  pub later_begun : (honest old → IsBegunBehind len (content old) (history old) (history new)) → IsLater honest history faults old new
  later_begun begun = record { honesty = honesty; done = λ h. ((begun h).made, (begun h).done); counted = counted }

-- ---- no image passes the length

greatest_within : (made history : List Change) (len : ℕ) (bytes : List ℕ) → window history ≡ settled bytes → length bytes ≤ len
    → EndsBy len made → (window (made ++ history)).greatest ≤ len
greatest_within [] history len bytes is_settled within ends =
    omega (arith, ap (λ (w : Window). w.greatest) is_settled, within)
greatest_within (Wrote at count ∷ made) history len bytes is_settled within ends =
    let before = greatest_within made history len bytes is_settled within ends.1 in
    omega (arith, before, ends.0)
greatest_within (CutTo cut ∷ made) history len bytes is_settled within ends =
    greatest_within made history len bytes is_settled within ends
greatest_within (Synced synced ∷ made) history len bytes is_settled within ends = absurd ends

rest_ends : (len : ℕ) (change : Change) (made : List Change) → EndsBy len (change ∷ made) → EndsBy len made
rest_ends len (Wrote at count) made ends = ends.1
rest_ends len (CutTo cut) made ends = ends
rest_ends len (Synced bytes) made ends = absurd ends

abbrev pub IsWithin : ℕ → List ℕ → Type 0
IsWithin len image = length image ≤ len

within_all : (made history : List Change) (len : ℕ) (bytes : List ℕ) → window history ≡ settled bytes → length bytes ≤ len
    → EndsBy len made → AllSince (IsWithin len) (made ++ history) (length history)
within_all [] history len bytes is_settled within ends =
    all_begin (IsWithin len) history (settled_all (IsWithin len) history bytes is_settled within)
within_all (change ∷ made) history len bytes is_settled within ends =
    all_step (IsWithin len) change (made ++ history) (length history)
    (λ image left. omega (arith, left.no_longer, greatest_within (change ∷ made) history len bytes is_settled within ends))
    (within_all made history len bytes is_settled within (rest_ends len change made ends))

pub within_begun : (len : ℕ) (bytes : List ℕ) (old new : List Change) → window old ≡ settled bytes → length bytes ≤ len
    → IsBegunBehind len bytes old new → AllSince (IsWithin len) new (length old)
within_begun len bytes old new is_settled within begun =
    subst (λ (h : List Change). AllSince (IsWithin len) h (length old)) (sym begun.done)
    (within_all begun.made old len bytes is_settled within begun.ends)

pub within_lengthened : (len : ℕ) (bytes after : List ℕ) (old new : List Change) → window old ≡ settled bytes → length bytes ≤ len
    → IsLengthened len bytes after old new → AllSince (IsWithin len) new (length old)
within_lengthened len bytes after old new is_settled within long =
    subst (λ (h : List Change). AllSince (IsWithin len) h (length old)) (sym long.done)
    (all_step (IsWithin len) (Synced after) (long.made ++ old) (length old)
    (settled_all (IsWithin len) (Synced after ∷ long.made ++ old) after refl (omega (arith, long.no_longer, within)))
    (within_all long.made old len bytes is_settled within long.ends))
