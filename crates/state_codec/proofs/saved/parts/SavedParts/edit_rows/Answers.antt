use Rattle.std.proofs.Common.{◌≡◌, None, refl, ap, ◌∙◌}
use Rattle.std.specs.List.Sorted.{IsPermutation}
use Rattle.std.specs.Prelude.{option_map}
use Rattle.play_queue.specs.Entries.{Uris}
use Rattle.player_core.specs.Place.{place_left}
use Rattle.song_db.specs.Change.{after_batch}
use Rattle.song_db.specs.Scan.{drops_of}
use Rattle.state_codec.specs.OpsRows.{rows_refusal, changed_uris, no_range, with_batch, without_songs}
use Rattle.state_codec.specs.RowSteps.{changed_by}
use Rattle.state_codec.specs.SavedState.{SavedState}
use Rattle.state_codec.specs.Stored.{state_of}
use Rattle.state_codec.proofs.BatchFollowed.{queue_followed, stickers_followed}
use Rattle.state_codec.proofs.Edits.{check_none}
use Rattle.state_codec.proofs.saved.parts.SavedParts.edit_rows.Goals as goal

pub returns-clause-edit : goal.returns-clause-edit
returns-clause-edit c =
    let s : SavedState = state_of c.args.self.now in
    let none : rows_refusal c.args.changes.now s ≡ None = check_none _ _ (rw c.as_slice.ensures.changes at c.in_ok-check_changes.ensures) in
    let drops : IsPermutation (drops_of c.args.changes.now) c.new-dropped.result =
    rw (c.in_ok-dropped.ensures, c.as_slice-2.ensures.changes) at c.new-dropped.ensures in
    let others : IsPermutation (changed_by s.songs c.args.changes.now) c.new-changed.result =
    rw (c.in_ok-changed_by.ensures, c.as_slice-3.ensures.changes) at c.new-changed.ensures in
    let songs : c.apply_batch.new.self ≡ after_batch s.songs c.args.changes.now =
    c.in_ok-apply_batch.ensures.rows ∙ ap (after_batch s.songs) (c.into_vec.ensures.changes ∙ c.in_ok-copies.ensures) in
    let queue : c.follow_batch.new.self ≡ with_batch s.queue (drops_of c.args.changes.now)
    (changed_uris s.songs (after_batch s.songs c.args.changes.now)) = c.follow_batch.ensures
    ∙ queue_followed s c.args.changes.now c.new-dropped.result c.new-changed.result c.requires drops others in
    let stickers : c.drop_songs.new.stickers ≡ without_songs s.stickers (drops_of c.args.changes.now) =
    c.drop_songs.ensures ∙ ap (without_songs s.stickers) c.as_slice-4.ensures
    ∙ stickers_followed (drops_of c.args.changes.now) c.new-dropped.result s.stickers drops in
    let place : c.leave_place.new.place ≡ option_map (place_left no_range (drops_of c.args.changes.now) s.queue.entries) s.place =
    (rw c.entries.ensures.entries at c.leave_place.ensures)
    ∙ ap (λ (uris : Uris). option_map (place_left no_range uris s.queue.entries) s.place)
    (c.deref.ensures.value ∙ c.in_ok-dropped.ensures ∙ ap drops_of c.as_slice-2.ensures.changes) in
    rw none (record { ok = rw (songs, queue, stickers, place) refl; err = tt; answer = tt })
