use Rattle.std.proofs.Common.{◌≡◌, true, None, Err, length, ap, ◌∙◌}
use Rattle.std.proofs.lemmas.Result.{err_from_is_err_and}
use Rattle.stored_lists.specs.Lists.{add_refusal}
use Rattle.state_codec.specs.OpsSongs.{have_rows, uris_at}
use Rattle.state_codec.proofs.Edits.{named_from, lists_none, refused_extend, length-uris_at}
use Rattle.state_codec.proofs.saved.parts.SavedParts.extend_list.Goals as goal

pub returns-in_err-add-clause-edit : goal.returns-in_err-add-clause-edit
returns-in_err-add-clause-edit c =
    let songs = c.args.self.now.songs in
    let lists = c.args.self.now.lists in
    let p = err_from_is_err_and c.from_residual-in_err-add.result c.from_residual-in_err-add.ensures.1 in
    let named : have_rows songs c.args.rows.now ≡ true = named_from _ _ (rw c.as_slice.ensures.numbers at c.in_ok-check_rows_of.ensures) in
    let none : add_refusal lists c.args.name.now (length c.args.rows.now) ≡ None =
    lists_none _ _ (rw c.len.ensures at c.in_ok-check_add.ensures.answer) in
    let uris : c.in_ok-songs.songs ≡ uris_at songs c.args.rows.now = c.in_ok-songs.ensures.songs
    ∙ ap (uris_at songs) c.as_slice-2.ensures.numbers in
    let long : length c.in_ok-songs.songs ≡ length c.args.rows.now = ap length uris ∙ length-uris_at songs c.args.rows.now named in
    refused_extend _ _ _ _ _ _ c.in_err-add.field-0.0 _ named none (rw long at c.in_err-add.ensures.answer) (p.1 ∙ ap Err p.2)
    (ap (λ all. record {
      profile = c.args.self.now.profile;
      key = c.args.self.now.key;
      order = c.args.self.now.order;
      volume = c.args.self.now.volume;
      options =
          c.args.self.now.options;
      songs = songs;
      queue = c.args.self.now.queue;
      lists = all;
      stickers = c.args.self.now.stickers;
      place = c.args.self.now.place;
      changed = c.args.self.now.changed;
    })
    c.in_err-add.ensures.err)
