use Rattle.std.proofs.Common.{◌≡◌, ◌∙◌, List, Result, Ok, Err, IfOk, sym, subst}
use Rattle.std.specs.Result.{MatchResult, is_ok}
use Rattle.no_memory.specs.declared.NoMemory.{NoMemory}
use Rattle.song_db.specs.Row.{Row}
use Rattle.song_db.specs.declared.refusal.SongDbError.{SongDbError}
use Rattle.state_codec.specs.SavedState.{IsSavedState}
use Rattle.state_codec.specs.Stored.{state_of}
use Rattle.state_codec.proofs.saved.Saved.try_clone.Goals as goal

abbrev answered : List Row → Result (List Row) NoMemory
answered songs = Ok songs

-- the songs that were copied
copied : (result : Result (List Row) SongDbError) (songs copy : List Row) (refused : SongDbError → Type 0) → IfOk result (λ x. x ≡ songs)
    → MatchResult result (λ x. answered copy ≡ Ok x) refused → is_ok (answered copy) ≡ is_ok result → copy ≡ songs
copied (Ok x) songs copy refused same is ok = cc
copied (Err e) songs copy refused same is ok = absurd (cc)

pub invariant_of-result : goal.invariant_of-result
invariant_of-result c =
    let s = c.self.inside.parts in
    let songs : c.in_ok-map_err.field-0 ≡ s.songs =
    copied c.try_clone.result s.songs c.in_ok-map_err.field-0 _ c.try_clone.ensures.songs c.in_ok-map_err.ensures.cases
    c.in_ok-map_err.ensures.variant in
    let queue : c.in_ok-try_clone.field-0 ≡ s.queue = c.in_ok-try_clone.ensures in
    let lists : c.in_ok-try_clone-2.field-0 ≡ s.lists = c.in_ok-try_clone-2.ensures in
    let stickers : c.in_ok-try_clone-3.field-0 ≡ s.stickers = c.in_ok-try_clone-3.ensures in
    let place : c.in_ok-copy_of.field-0 ≡ s.place = c.in_ok-copy_of.ensures ∙ c.as_ref.ensures.value in
    let changed : c.in_ok-copy_of_times.field-0 ≡ s.changed = c.in_ok-copy_of_times.ensures ∙ c.as_ref-2.ensures.value in
    let same : state_of s ≡ state_of (record s {
      songs = c.in_ok-map_err.field-0;
      queue = c.in_ok-try_clone.field-0;
      lists = c.in_ok-try_clone-2.field-0;
      stickers = c.in_ok-try_clone-3.field-0;
      place = c.in_ok-copy_of.field-0;
      changed = c.in_ok-copy_of_times.field-0;
    }) = λ i. state_of (record s {
      songs = sym songs i;
      queue = sym queue i;
      lists = sym lists i;
      stickers = sym stickers i;
      place = sym place i;
      changed =
          sym changed i;
    }) in
    subst IsSavedState same c.self.invariant
