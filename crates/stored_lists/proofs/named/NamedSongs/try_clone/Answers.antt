use Rattle.std.proofs.Common.{◌≡◌, ◌∙◌, true, [], ◌∷◌, append_assoc, sym, subst}
use Rattle.stored_lists.specs.Lists.{IsRising}
use Rattle.stored_lists.specs.Part.{is_last}
use Rattle.stored_lists.proofs.Last.{last_added, rising_last}
use Rattle.stored_lists.proofs.named.NamedSongs.try_clone.Goals as goal

-- one more playlist stands behind those that are copied
pub loop-name-preserved : goal.loop-name-preserved
loop-name-preserved c =
    let copy = c.loop-name.copy in
    let name = c.in-Some.name.now in
    let songs = c.in-Some.songs.now in
    let rest = c.next.new.self in
    let steps : c.loop-name.name-iterator ≡ (name, songs) ∷ rest = c.in-Some.ensures.steps in
    let whole = rw steps at c.loop-name.invariant.1 in
    let last : is_last copy name ≡ true = rising_last copy rest name songs (subst IsRising (sym whole) c.len-count.ensures.rising) in
    let added = rw (c.in_ok-from_str.ensures.ok, c.in_ok-songs.ensures) at c.in_ok-insert.ensures.ok in
    ((tt, tt), rw (added ∙ last_added copy name songs last) (append_assoc copy ((name, songs) ∷ []) rest ∙ whole))
