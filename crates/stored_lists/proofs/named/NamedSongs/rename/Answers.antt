use Rattle.std.proofs.Common.{◌≡◌, ◌∙◌, [], None, IsSome}
use Rattle.stored_lists.specs.Songs.{Uris}
use Rattle.stored_lists.specs.Lists.{songs_of, with_list}
use Rattle.stored_lists.proofs.Renamed.{renamed_is, renamed_found}
use Rattle.stored_lists.proofs.named.NamedSongs.rename.Goals as goal

-- the songs that were taken out stand under the new name
pub returns-in-Some-clause-ok : goal.returns-in-Some-clause-ok
returns-in-Some-clause-ok c =
    let stored : c.insert.new.self ≡ with_list c.args.self.now c.args.to.now [] =
    rw (← c.in_ok-name.ensures.ok, ← c.new.ensures) c.in_ok-insert.ensures.ok in
    rw (c.replace.ensures, c.remove.ensures.removed, stored)
    (renamed_is _ _ _ _ c.in_ok-insert.ensures.rising c.requires.found c.requires.free (rw stored at c.in-Some.ensures.value))

-- there were songs to take out
pub returns-in_default-clause-ok : goal.returns-in_default-clause-ok
returns-in_default-clause-ok c =
    let stored : c.insert.new.self ≡ with_list c.args.self.now c.args.to.now [] =
    rw (← c.in_ok-name.ensures.ok, ← c.new.ensures) c.in_ok-insert.ensures.ok in
    let none : None ≡ songs_of c.args.self.now c.args.from.now = (rw stored at c.in_default.ensures.value)
    ∙ renamed_found c.args.self.now c.args.from.now c.args.to.now c.requires.found c.requires.free in
    let found : IsSome {T = Uris} None = rw (← none) at c.requires.found in
    absurd (cc)
