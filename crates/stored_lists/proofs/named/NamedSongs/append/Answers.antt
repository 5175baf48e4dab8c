use Rattle.std.proofs.Common.{◌≡◌, ◌∙◌, ◌++◌, ap, sym, Some, None}
use Rattle.stored_lists.specs.Lists.{songs_of, songs_or_none, with_songs}
use Rattle.stored_lists.specs.ByName.{by_name}
use Rattle.stored_lists.proofs.Absent.{with_songs_absent, with_songs_same, songs_or_none_present, on_ok, on_err}
use Rattle.stored_lists.proofs.ByName.{lookup-by_name, set_value-by_name}
use Rattle.stored_lists.proofs.named.NamedSongs.append.Goals as goal
use Rattle.stored_lists.proofs.named.NamedSongs.append.Goals.{in-Some+in_ok-append-in-Some, in-None}

-- memory was refused: the songs of the playlist are those that it had
pub returns-in_err-append-in-Some-clause-err : goal.returns-in_err-append-in-Some-clause-err
returns-in_err-append-in-Some-clause-err c =
    let found : songs_of c.args.self.now c.args.name.now ≡ Some c.in-Some.list.now =
    sym (c.in-Some.ensures.value ∙ lookup-by_name c.args.name.now c.self.inside.map.entries
    ∙ ap (λ lists. songs_of lists c.args.name.now) c.self.view_is) in
    on_err _ (ap by_name (c.get_mut.follows.holds c.append.new.self).0
    ∙ set_value-by_name c.args.name.now c.self.inside.map.entries c.append.new.self
    ∙ ap (λ lists. with_songs lists c.args.name.now c.append.new.self) c.self.view_is
    ∙ ap (λ songs. with_songs c.args.self.now c.args.name.now songs) c.in_err-append-in-Some.ensures.err ∙ with_songs_same _ _ _ found)

pub returns-clause-ok : goal.returns-clause-ok
returns-clause-ok c = elim c.match-get_mut.branch [
  | in-Some+in_ok-append-in-Some w ↦
      let found : songs_of c.args.self.now c.args.name.now ≡ Some w.in-Some.list.now =
      sym (w.in-Some.ensures.value ∙ lookup-by_name c.args.name.now c.self.inside.map.entries
      ∙ ap (λ lists. songs_of lists c.args.name.now) c.self.view_is) in
      rw (w.self-inside-is, songs_or_none_present _ _ _ found)
      (on_ok _ (ap by_name (c.get_mut.follows.holds w.append.new.self).0
      ∙ set_value-by_name c.args.name.now c.self.inside.map.entries w.append.new.self
      ∙ ap (λ lists. with_songs lists c.args.name.now w.append.new.self) c.self.view_is
      ∙ ap (λ songs. with_songs c.args.self.now c.args.name.now songs) w.in_ok-append-in-Some.ensures.ok))
  | in-None w ↦
      let none : songs_of c.args.self.now c.args.name.now ≡ None =
      sym (w.in-None.ensures.value ∙ lookup-by_name c.args.name.now c.self.inside.map.entries
      ∙ ap (λ lists. songs_of lists c.args.name.now) c.self.view_is) in
      rw (w.self-inside-is, with_songs_absent _ _ (songs_or_none c.args.self.now c.args.name.now ++ c.args.songs) none)
      (on_ok _ (ap (λ m. by_name m.entries) c.get_mut.follows.holds-at-none ∙ c.self.view_is))
]
