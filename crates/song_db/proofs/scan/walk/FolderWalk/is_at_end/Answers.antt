use Rattle.std.proofs.Common.{◌∙◌, sym, ap}
use Rattle.std.specs.String.{string_bytes}
use Rattle.song_db.specs.declared.scan.walk.Level.{Level}
use Rattle.song_db.specs.Pending.{Walked}
use Rattle.song_db.proofs.Taken.{none_left, no_entry}
use Rattle.song_db.proofs.scan.walk.FolderWalk.is_at_end.Goals as goal

pub returns : goal.returns
returns c =
    let levels = c.self.inside.levels.items in
    let is = ap (λ (w : Walked). w.pending) (sym c.self.view_is) in
    let told = rw c.deref.ensures.value at c.have_no_entry.ensures in (
      λ end. is ∙ none_left (λ (level : Level). string_bytes level.prefix) (λ (level : Level). level.entries.items) levels (sym told ∙ end),
      λ none. told ∙ no_entry (λ (level : Level). string_bytes level.prefix) (λ (level : Level). level.entries.items) levels (sym is ∙ none),
    )
