-- A batch of a scan that was made, with what is kept of the player behind it.
use Rattle.std.proofs.Common.{◌≡◌, ℕ, ◌≤◌, not, ◌==◌, List, ◌++◌, length, Option, None, refl, sym, ap, ◌∙◌}
use Rattle.profile.specs.declared.profile.Profile.{Profile}
use Rattle.song_db.specs.Scan.{drops_of}
use Rattle.song_db.specs.declared.change.RowChange.{RowChange}
use Rattle.state_codec.specs.Applied.{refusal_of}
use Rattle.state_codec.specs.OpsRows.{without_songs}
use Rattle.state_codec.specs.SavedState.{SavedState}
use Rattle.state_codec.specs.Spelling.{body_bytes}
use Rattle.state_codec.specs.declared.op.Op.{Op}
use Rattle.state_codec.specs.declared.op.Op.TheVariants.{Batch}
use Rattle.stickers.specs.Sticker.{Sticker}
use Rattle.machine_core.specs.Before.{before_of, changed_since, is_of_lists}
use Rattle.machine_core.specs.Changed.{changed, same_stickers}
use Rattle.machine_core.specs.Followed.{follows_batch}
use Rattle.machine_core.specs.Happening.{HasHappened}
use Rattle.machine_core.specs.Keeping.{if_kept, keep_ops, keep_ops_since, kept_event, with_ops}
use Rattle.machine_core.specs.Scanning.{changes_rows}
use Rattle.machine_core.specs.Size.{max_request_bytes}
use Rattle.machine_core.specs.State.{MachineState, keeping}
use Rattle.machine_core.specs.declared.changed.Before.{Before}
use Rattle.machine_core.specs.declared.happened.Happened.{Happened}
use Rattle.machine_core.proofs.KeepingLaws.{keep_no_lists, keep_placed}
use Rattle.machine_core.proofs.KeptLaws.{joined_rebuilt}
use Rattle.machine_core.proofs.KeptReports.{keep_ops_are, kept_same, told_no_more}
use Rattle.machine_core.proofs.Scans.Laws.{count_tells, event_told, lists_stay, no_list_op, rebuilt_by, stickers_left}

pub kept_rows_changed : (changes : List RowChange) (m n k : MachineState) (profile : Profile) (before : Before) (happened : Happened)
    → refusal_of (Batch changes) m.saved ≡ None → n ≡ (changes_rows changes m).after → before ≡ before_of m → profile ≡ keeping m
    → k ≡ with_ops (if_kept profile (keep_ops_since before n)) n
    → happened.ops.items ≡ (changes_rows changes m).ops ++ if_kept profile (keep_ops_since before n)
    → happened.changed ≡ record (changed_since before happened.ops.items k)
    { sticker = not (length m.saved.stickers == length k.saved.stickers) }
    → length (body_bytes m.saved.profile ((changes_rows changes m).ops ++ keep_ops m (changes_rows changes m).after)) ≤ max_request_bytes
    → HasHappened (kept_event m (changes_rows changes m)) m k happened
kept_rows_changed changes m n k profile before happened free state is under stands ops told fits = record {
  state = machine;
  ops = all;
  changed = told
      ∙ (λ i. record (changed_since before (all i) (machine i)) {
        sticker = not (length m.saved.stickers == length (machine i).saved.stickers);
      })
      ∙ event_told m (with_ops kops after_it) before (mops ++ kops) _ is
      (told_no_more is_of_lists mops kops (keep_no_lists m after_it) ∙ no_list_op changes order)
      (ap (λ (s : SavedState). s.lists) same ∙ lists_stay changes order m.saved) refl
      (ap (λ (l : List Sticker). not (length m.saved.stickers == length l)) left
      ∙ count_tells m.saved.stickers (drops_of changes)
      ∙ ap (λ (l : List Sticker). not (same_stickers m.saved.stickers l)) (sym left))
      ∙ kept_same m after_it;
  rebuilt = joined_rebuilt m after_it mops (rebuilt_by changes order m.saved free);
  fits = fits;
}
  where
    order : Option ℕ
    order = (follows_batch changes m).order

    after_it : MachineState
    after_it = (changes_rows changes m).after

    mops : List Op
    mops = (changes_rows changes m).ops

    kops : List Op
    kops = keep_ops m after_it

    kept : if_kept profile (keep_ops_since before n) ≡ kops
    kept = keep_ops_are m n profile before under is ∙ ap (keep_ops m) state

    machine : k ≡ with_ops kops after_it
    machine = stands ∙ (λ i. with_ops (kept i) (state i))

    all : happened.ops.items ≡ mops ++ kops
    all = ops ∙ ap (λ (l : List Op). mops ++ l) kept

    same : (with_ops kops after_it).saved ≡ record after_it.saved { place = (keep_placed m after_it).place }
    same = (keep_placed m after_it).same

    left : (with_ops kops after_it).saved.stickers ≡ without_songs m.saved.stickers (drops_of changes)
    left = ap (λ (s : SavedState). s.stickers) same ∙ stickers_left changes order m.saved
