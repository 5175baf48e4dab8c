use Rattle.std.proofs.Common.{◌≡◌, true, None, Err, length, ap, ◌∙◌}
use Rattle.std.proofs.lemmas.Result.{err_from_is_err_and}
use Rattle.play_queue.specs.Refused.{add_refusal}
use Rattle.state_codec.specs.OpsSongs.{have_rows, uris_at}
use Rattle.state_codec.proofs.Edits.{named_from, queue_none, refused_add, length-uris_at}
use Rattle.state_codec.proofs.saved.parts.SavedParts.add_songs.Goals as goal

pub returns-in_err-add_at-clause-edit : goal.returns-in_err-add_at-clause-edit
returns-in_err-add_at-clause-edit c =
    let songs = c.args.self.now.songs in
    let q = c.args.self.now.queue in
    let p = err_from_is_err_and c.from_residual-in_err-add_at.result c.from_residual-in_err-add_at.ensures.1 in
    let named : have_rows songs c.args.rows.now ≡ true = named_from _ _ (rw c.as_slice.ensures.numbers at c.in_ok-check_rows_of.ensures) in
    let none : add_refusal q c.args.at (length c.args.rows.now) ≡ None =
    queue_none _ _ (rw c.len.ensures at c.in_ok-check_add.ensures.answer) in
    let uris : c.in_ok-uris.uris.items ≡ uris_at songs c.args.rows.now =
    c.in_ok-uris.ensures ∙ ap (uris_at songs) c.as_slice-2.ensures.numbers in
    let long : length c.in_ok-uris.uris.items ≡ length c.args.rows.now = ap length uris ∙ length-uris_at songs c.args.rows.now named in
    refused_add _ _ _ _ _ _ c.in_err-add_at.field-0.0 _ named none (rw long at c.in_err-add_at.ensures.answer) (p.1 ∙ ap Err p.2)
    (ap (λ queue. record {
      profile = c.args.self.now.profile;
      key = c.args.self.now.key;
      order = c.args.self.now.order;
      volume = c.args.self.now.volume;
      options =
          c.args.self.now.options;
      songs = songs;
      queue = queue;
      lists = c.args.self.now.lists;
      stickers = c.args.self.now.stickers;
      place = c.args.self.now.place;
      changed = c.args.self.now.changed;
    })
    c.in_err-add_at.ensures.err)
