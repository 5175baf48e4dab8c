use Rattle.std.proofs.Common.{◌+◌, ◌∙◌, ap, sym, refl}
use Rattle.std.specs.String.{string_bytes}
use Rattle.song_db.specs.declared.scan.walk.Level.{Level}
use Rattle.song_db.specs.Pending.{entries_pending, times_pending, Walked}
use Rattle.song_db.proofs.ListedTold.{told_entered}
use Rattle.song_db.proofs.Taken.{entered}
use Rattle.song_db.proofs.scan.walk.FolderWalk.enter.Goals as goal

pub returns-clause-pending : goal.returns-clause-pending
returns-clause-pending c = λ uri.
    entered (λ (level : Level). entries_pending (string_bytes level.prefix) level.entries.items) c.self.inside.levels.items
    c.push.new.self.items _ (string_bytes c.args.prefix) c.args.entries.items c.sort_unstable_by.new.self.items uri
    c.in_ok-push.ensures.items refl
    c.sort_unstable_by.ensures.permutation
    ∙ ap (λ (w : Walked). times_pending (entries_pending (string_bytes c.args.prefix) c.args.entries.items) uri
    + times_pending w.pending uri) c.self.view_is

pub returns-clause-listed : goal.returns-clause-listed
returns-clause-listed c = λ files told all.
    told_entered files (λ (level : Level). record { prefix = string_bytes level.prefix; entries = level.entries.items })
    c.self.inside.levels.items c.push.new.self.items _ (string_bytes c.args.prefix) c.args.entries.items
    c.sort_unstable_by.new.self.items c.args.self.now.listed (ap (λ (w : Walked). w.listed) (sym c.self.view_is)) c.in_ok-push.ensures.items
    refl c.sort_unstable_by.ensures.permutation told all
