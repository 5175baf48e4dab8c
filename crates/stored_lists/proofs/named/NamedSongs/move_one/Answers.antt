use Rattle.std.proofs.Common.{◌≡◌, ◌∙◌, ap, sym, Some, None}
use Rattle.stored_lists.specs.Songs.{moved}
use Rattle.stored_lists.specs.Lists.{songs_of, songs_or_none, with_songs}
use Rattle.stored_lists.specs.ByName.{by_name}
use Rattle.stored_lists.proofs.Absent.{with_songs_absent, songs_or_none_present}
use Rattle.stored_lists.proofs.ByName.{lookup-by_name, set_value-by_name}
use Rattle.stored_lists.proofs.named.NamedSongs.move_one.Goals as goal
use Rattle.stored_lists.proofs.named.NamedSongs.move_one.Goals.{in-Some, in_default}

-- the playlist is changed where it stands
pub returns : goal.returns
returns c = elim c.match-get_mut.branch [
  | in-Some w ↦
      let found : songs_of c.args.self.now c.args.name.now ≡ Some w.in-Some.songs.now =
      sym (w.in-Some.ensures.value ∙ lookup-by_name c.args.name.now c.self.inside.map.entries
      ∙ ap (λ lists. songs_of lists c.args.name.now) c.self.view_is) in
      rw (w.self-inside-is, songs_or_none_present _ _ _ found) (ap by_name (c.get_mut.follows.holds w.move_one.new.self).0
      ∙ set_value-by_name c.args.name.now c.self.inside.map.entries w.move_one.new.self
      ∙ ap (λ lists. with_songs lists c.args.name.now w.move_one.new.self) c.self.view_is
      ∙ ap (λ songs. with_songs c.args.self.now c.args.name.now songs) w.move_one.ensures)
  | in_default w ↦
      let none : songs_of c.args.self.now c.args.name.now ≡ None =
      sym (w.in_default.ensures.value ∙ lookup-by_name c.args.name.now c.self.inside.map.entries
      ∙ ap (λ lists. songs_of lists c.args.name.now) c.self.view_is) in
      rw (w.self-inside-is, with_songs_absent _ _ (moved (songs_or_none c.args.self.now c.args.name.now) c.args.from c.args.to) none)
      (ap (λ m. by_name m.entries) c.get_mut.follows.holds-at-none ∙ c.self.view_is)
]

pub move_one-requires : goal.move_one-requires
move_one-requires c =
    let found : songs_of c.args.self.now c.args.name.now ≡ Some c.in-Some.songs.now =
    sym (c.in-Some.ensures.value ∙ lookup-by_name c.args.name.now c.self.inside.map.entries
    ∙ ap (λ lists. songs_of lists c.args.name.now) c.self.view_is) in
    record {
      from_in_range = rw (songs_or_none_present _ _ _ found) at c.requires.from_in_range;
      to_in_range = rw (songs_or_none_present _ _ _ found) at c.requires.to_in_range;
    }
