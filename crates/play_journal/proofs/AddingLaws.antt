-- Records that are added to the file in use, whichever of the two it is.
use Rattle.std.proofs.Common.{◌≡◌, inl, ℕ, ◌+◌, ◌-◌, ◌^◌, ◌<◌, ◌≤◌, min, Bool, List, [], ◌∷◌, ◌++◌, length, take, drop, Some, arith, ap, subst}
use Rattle.std.proofs.Common.{sym, ◌∙◌}
use Rattle.std.specs.Prelude.{All, flat_map, slice_index}
use Rattle.disk_model.specs.History.{Change}
use Rattle.disk_model.specs.Images.{window, settled}
use Rattle.disk_model.specs.Moments.{AllSince}
use Rattle.play_journal.specs.Content.{Content, with_records, IsEither}
use Rattle.play_journal.specs.File.{open_gate, longest_body, gated, records_len}
use Rattle.play_journal.specs.JournalState.{at_place, content_in, IsInUse, IsKept, IsMeasured}
use Rattle.play_journal.specs.Opening.{IsAppending}
use Rattle.play_journal.specs.Pair.{AllPairsSince}
use Rattle.play_journal.proofs.GroupLaws.{records_len-append}
use Rattle.play_journal.proofs.InUseLaws.{first_since, second_since, longer_in_use, longer_content}
use Rattle.play_journal.proofs.MeasureLaws.{measured_more, records_within}
use Rattle.play_journal.proofs.PlaceLaws.{kept_now, still_since, added_since}

module _ {D : Type 0} (content : D → List ℕ) (history : D → List Change) (swapped : Bool) (here there : D) (end layout generation base
    count : ℕ) (kept : IsKept (content here) (content there) (history here) (history there) end layout generation base count) where
  -- nothing was done
  pub still_either : (after : Content) → AllPairsSince (IsEither (content_in (content here)) after)
      (history (at_place swapped here there)) (length (history (at_place swapped here there)))
      (history (at_place swapped there here)) (length (history (at_place swapped there here)))
  still_either after x y left right = inl (still_since (λ f. f ≡ Some (content_in (content here))) _ _
      (kept_now content history swapped here there end layout generation base count kept) x y left right)

  module _ (new : D) (bodies : List (List ℕ)) (added : List ℕ) (is_added : open_gate ∷ added ≡ flat_map gated bodies ++ 0 ∷ [])
      (short : All (λ body. length body ≤ longest_body) bodies) (number : base + count + length bodies < 2 ^ 64) where
    -- they were added, or may have been
    pub either_since : AllSince (IsAppending (take end (content here)) (slice_index (content here) end) added) (history new)
        (length (history here))
        → AllPairsSince (IsEither (content_in (content here)) (with_records (content_in (content here)) bodies))
        (history (at_place swapped new there)) (length (history (at_place swapped here there)))
        (history (at_place swapped there new)) (length (history (at_place swapped there here)))
    either_since since =
        added_since history (IsEither (content_in (content here)) (with_records (content_in (content here)) bodies)) swapped here new there
        (first_since (content here) (content there) end layout generation base count kept.in_use bodies added is_added short number
        (history here) (history new) (history there) kept.there_settled since)
        (second_since (content here) (content there) end layout generation base count kept.in_use bodies added is_added short number
        (history here) (history new) (history there) kept.there_settled since)

    -- what stood further behind stands there still
    abbrev pub tail : List ℕ
    tail = drop (end + 1 + length added) (content here)

    module _ (written : content new ≡ take end (content here) ++ (open_gate ∷ added ++ tail)) where
      pub added_content : content_in (content new) ≡ with_records (content_in (content here)) bodies
      added_content = longer_content (content here) (content there) end layout generation base count kept.in_use bodies added is_added short
          number (content new) tail written

      -- the journal after the last sync, whose two sums stop at the last number
      pub added_kept : (snapshot_len bytes end' count' bytes' : ℕ) → window (history new) ≡ settled (content new)
          → length (content new) < 2 ^ 63
          → IsMeasured (content_in (content here)) snapshot_len bytes → end' ≡ min (end + records_len bodies) (2 ^ 64 - 1)
          → count' ≡ count + length bodies → bytes' ≡ min (bytes + records_len bodies) (2 ^ 64 - 1)
          → IsKept (content new) (content there) (history new) (history there) end' layout generation base count'
          × IsMeasured (content_in (content new)) snapshot_len bytes'
      added_kept snapshot_len bytes end' count' bytes' is_settled small was is_end is_count is_bytes =
          let used = longer_in_use (content here) (content there) end layout generation base count kept.in_use bodies added is_added short
          number (content new) tail written in
          let within = records_within (content new) (content there) _ _ _ _ _ used in
          let grown = ap (λ (c : Content). records_len c.records) added_content
          ∙ records_len-append (content_in (content here)).records bodies in
          let ends : end + records_len bodies ≡ end' = omega (arith, is_end, small, used.ends) in
          let more : bytes' ≡ bytes + records_len bodies = omega (arith, is_bytes, small, within, grown, was.records) in (
            record {
              here_settled = is_settled;
              there_settled = kept.there_settled;
              in_use = subst (λ (n : ℕ). IsInUse (content new) (content there) end' layout generation base n) (sym is_count)
                  (subst (λ (n : ℕ). IsInUse (content new) (content there) n layout generation base (count + length bodies)) ends used);
            },
            measured_more (content_in (content here)) (content_in (content new)) bodies snapshot_len bytes bytes' added_content was more,
          )
