use Rattle.std.proofs.Common.{◌≡◌, ◌∙◌, ap, sym, None}
use Rattle.stored_lists.specs.Lists.{songs_of, with_songs}
use Rattle.stored_lists.specs.ByName.{by_name}
use Rattle.stored_lists.proofs.Absent.{with_songs_absent}
use Rattle.stored_lists.proofs.ByName.{lookup-by_name, set_value-by_name}
use Rattle.stored_lists.proofs.named.NamedSongs.replace.Goals as goal
use Rattle.stored_lists.proofs.named.NamedSongs.replace.Goals.{in-Some, in_default}

-- the playlist is replaced where it stands
pub returns : goal.returns
returns c = elim c.match-get_mut.branch [
  | in-Some w ↦ rw w.self-inside-is (ap by_name (c.get_mut.follows.holds c.args.songs).0
      ∙ set_value-by_name c.args.name.now c.self.inside.map.entries c.args.songs
      ∙ ap (λ lists. with_songs lists c.args.name.now c.args.songs) c.self.view_is)
  | in_default w ↦
      let none : songs_of c.args.self.now c.args.name.now ≡ None =
      sym (w.in_default.ensures.value ∙ lookup-by_name c.args.name.now c.self.inside.map.entries
      ∙ ap (λ lists. songs_of lists c.args.name.now) c.self.view_is) in
      rw (w.self-inside-is, with_songs_absent _ _ c.args.songs none) (ap (λ m. by_name m.entries) c.get_mut.follows.holds-at-none
      ∙ c.self.view_is)
]
