use Rattle.std.proofs.Common.{◌≡◌, ℕ, Bool, true, false, ◌||◌, List, [], None, Err, Bor, codes, length, ap, refl, sym, ◌∙◌, arith}
use Rattle.std.proofs.lemmas.Bool.{false≢true}
use Rattle.std.specs.Prelude.{if◌then◌else◌}
use Rattle.std.specs.Str.{bytes_eq}
use Rattle.song_db.specs.Place.{place_of}
use Rattle.song_db.specs.Query.{is_folder, number_at}
use Rattle.song_db.specs.Refusal.{AnswersExactlyIfThere}
use Rattle.song_db.specs.Row.{Row}
use Rattle.song_db.specs.Told.{told_under}
use Rattle.song_db.specs.declared.refusal.SongDbError.{SongDbError}
use Rattle.machine_core.specs.Lent.{lent}
use Rattle.machine_core.specs.Looks.{count_or_under, count_under}
use Rattle.machine_core.specs.State.{MachineState}
use Rattle.machine_core.proofs.Finding.Told.{under_few}
use Rattle.machine_core.proofs.Lists.Rows.{is_there, no_number}
use Rattle.machine_core.proofs.RowsFound.{no_row}
use Rattle.machine_core.proofs.machine.Machine.count_named.Goals as goal

-- what is refused isn't there
not_there : (T : Type 0) (b : Bool) (e : SongDbError) → AnswersExactlyIfThere {T = T} b (Err e) → b ≡ false
not_there T true e answer = absurd (false≢true answer)
not_there T false e answer = refl

-- where the path lies in memory is nothing to the songs under it
same_under : (path : Bor (List ℕ)) (songs : List Row) → count_under songs (place_of (lent path.now)) ≡ count_under songs (place_of path)
same_under path songs = of (bytes_eq path.now [] || bytes_eq path.now (codes "/")) refl where
  of : (b : Bool) → (bytes_eq path.now [] || bytes_eq path.now (codes "/")) ≡ b
      → count_under songs (place_of (lent path.now)) ≡ count_under songs (place_of path)
  of true is = rw is
  of false is = rw is

pub returns-in-Ok-told_under-clause-count : goal.returns-in-Ok-told_under-clause-count
returns-in-Ok-told_under-clause-count c =
    let m = c.args.self.now in
    let path = c.args.path.now in
    let rows = c.songs-songs.result.now in
    let place = c.read.result in
    let songs : rows ≡ m.saved.songs = c.songs-songs.ensures ∙ ap (λ (n : MachineState). n.saved.songs) c.self.view_is in
    let none : number_at m.saved.songs path ≡ None =
    ap (λ all. number_at all path) (sym songs) ∙ no_number rows path (no_row _ _ _ c.in-Err.ensures.answer) in
    let there : is_folder rows place ≡ true = is_there _ _ _ c.in-Ok-told_under.ensures.answer in
    ap length c.in-Ok-told_under.ensures.rows
    ∙ ap (λ b. if b then length (told_under rows place) else 0) (sym there)
    ∙ ap (λ all. count_under all place) songs
    ∙ ap (count_under m.saved.songs) c.read.ensures
    ∙ sym (same_under c.args.path m.saved.songs)
    ∙ sym (ap (count_or_under m.saved.songs path) none)

pub returns-in-Ok-told_under-clause-few : goal.returns-in-Ok-told_under-clause-few
returns-in-Ok-told_under-clause-few c =
    omega (
      arith,
      ap length c.in-Ok-told_under.ensures.rows,
      under_few c.songs-songs.result.now c.read.result,
      c.len-limit.ensures.within.few,
    )

pub returns-in-Err-told_under-clause-count : goal.returns-in-Err-told_under-clause-count
returns-in-Err-told_under-clause-count c =
    let m = c.args.self.now in
    let path = c.args.path.now in
    let rows = c.songs-songs.result.now in
    let place = c.read.result in
    let songs : rows ≡ m.saved.songs = c.songs-songs.ensures ∙ ap (λ (n : MachineState). n.saved.songs) c.self.view_is in
    let none : number_at m.saved.songs path ≡ None =
    ap (λ all. number_at all path) (sym songs) ∙ no_number rows path (no_row _ _ _ c.in-Err.ensures.answer) in
    let absent : is_folder rows place ≡ false = not_there _ _ _ c.in-Err-told_under.ensures.answer in
    ap (λ b. if b then length (told_under rows place) else 0) (sym absent)
    ∙ ap (λ all. count_under all place) songs
    ∙ ap (count_under m.saved.songs) c.read.ensures
    ∙ sym (same_under c.args.path m.saved.songs)
    ∙ sym (ap (count_or_under m.saved.songs path) none)
