use Rattle.std.proofs.Common.{◌≡◌, ◌∙◌, ap, sym, Some, None}
use Rattle.stored_lists.specs.Songs.{without_range}
use Rattle.stored_lists.specs.Lists.{songs_of, songs_or_none, with_songs}
use Rattle.stored_lists.specs.ByName.{by_name}
use Rattle.stored_lists.proofs.Absent.{with_songs_absent, songs_or_none_present}
use Rattle.stored_lists.proofs.ByName.{lookup-by_name, set_value-by_name}
use Rattle.stored_lists.proofs.named.NamedSongs.remove_range.Goals as goal
use Rattle.stored_lists.proofs.named.NamedSongs.remove_range.Goals.{in-Some, in_default}

-- the playlist is changed where it stands
pub returns : goal.returns
returns c = elim c.match-get_mut.branch [
  | in-Some w ↦
      let found : songs_of c.args.self.now c.args.name.now ≡ Some w.in-Some.songs.now =
      sym (w.in-Some.ensures.value ∙ lookup-by_name c.args.name.now c.self.inside.map.entries
      ∙ ap (λ lists. songs_of lists c.args.name.now) c.self.view_is) in
      rw (w.self-inside-is, songs_or_none_present _ _ _ found) (ap by_name (c.get_mut.follows.holds w.remove_range.new.self).0
      ∙ set_value-by_name c.args.name.now c.self.inside.map.entries w.remove_range.new.self
      ∙ ap (λ lists. with_songs lists c.args.name.now w.remove_range.new.self) c.self.view_is
      ∙ ap (λ songs. with_songs c.args.self.now c.args.name.now songs) w.remove_range.ensures)
  | in_default w ↦
      let none : songs_of c.args.self.now c.args.name.now ≡ None =
      sym (w.in_default.ensures.value ∙ lookup-by_name c.args.name.now c.self.inside.map.entries
      ∙ ap (λ lists. songs_of lists c.args.name.now) c.self.view_is) in
      rw (
        w.self-inside-is,
        with_songs_absent _ _ (without_range (songs_or_none c.args.self.now c.args.name.now) c.args.start c.args.end)
            none,
      ) (ap (λ m. by_name m.entries) c.get_mut.follows.holds-at-none ∙ c.self.view_is)
]

pub remove_range-requires-clause-in_range : goal.remove_range-requires-clause-in_range
remove_range-requires-clause-in_range c =
    let found : songs_of c.args.self.now c.args.name.now ≡ Some c.in-Some.songs.now =
    sym (c.in-Some.ensures.value ∙ lookup-by_name c.args.name.now c.self.inside.map.entries
    ∙ ap (λ lists. songs_of lists c.args.name.now) c.self.view_is) in
    rw (songs_or_none_present _ _ _ found) at c.requires.in_range
