use Rattle.std.proofs.Common.{◌≡◌, ℕ, ◌&&◌, ◌-◌, false, true, drop, length, take, ap, refl, sym, ◌∙◌, arith}
use Rattle.std.proofs.Math.Seq.{take-length}
use Rattle.std.proofs.lemmas.List.{length-drop}
use Rattle.state_codec.specs.OpsLists.{same_uris}
use Rattle.stored_lists.specs.Songs.{Uris}
use Rattle.machine_core.proofs.Lists.Same.{turned_same}
use Rattle.machine_core.proofs.commands.lists.moving.stay_turned.Goals as goal

-- all songs from a place on
to_end : (songs : Uris) (k : ℕ) → take (length songs - k) (drop k songs) ≡ drop k songs
to_end songs k = ap (λ n. take n (drop k songs)) (sym (length-drop k songs)) ∙ take-length (drop k songs)

pub returns-then-are_same : goal.returns-then-are_same
returns-then-are_same c =
    let songs = c.args.songs.now in
    let at = c.args.at in
    let rest = length songs - at in
    let first : same_uris (drop at songs) (take rest songs) ≡ true =
    ap (λ l. same_uris l (take rest songs)) (sym (to_end songs at)) ∙ sym c.are_same.ensures ∙ c.if-are_same.true in
    c.are_same-then-are_same.ensures ∙ ap (same_uris (take at songs)) (to_end songs rest)
    ∙ ap (λ b. b && same_uris (take at songs) (drop rest songs)) (sym first) ∙ sym (turned_same songs at rest (omega arith) refl)

pub returns-else-are_same : goal.returns-else-are_same
returns-else-are_same c =
    let songs = c.args.songs.now in
    let at = c.args.at in
    let rest = length songs - at in
    let first : same_uris (drop at songs) (take rest songs) ≡ false =
    ap (λ l. same_uris l (take rest songs)) (sym (to_end songs at)) ∙ sym c.are_same.ensures ∙ c.if-are_same.false in
    c.if-are_same.false ∙ ap (λ b. b && same_uris (take at songs) (drop rest songs)) (sym first)
    ∙ sym (turned_same songs at rest (omega arith) refl)
