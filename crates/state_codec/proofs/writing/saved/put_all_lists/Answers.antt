use Rattle.std.proofs.Common.{◌≡◌, ℕ, List, ◌∷◌, length, refl, ap, ◌∙◌, arith}
use Rattle.std.specs.List.{flat_map}
use Rattle.std.proofs.lemmas.List.{length-append}
use Rattle.stored_lists.specs.Lists.{Stored}
use Rattle.state_codec.specs.Spelling.{playlist_bytes}
use Rattle.state_codec.proofs.SnapshotLaws.{one_more, short_lists}
use Rattle.state_codec.proofs.writing.saved.put_all_lists.Goals as goal

pub loop-name-init : goal.loop-name-init
loop-name-init c =
    let all : c.into_iter-name-iterator.result ≡ c.args.lists.now = cc in
    rw all (refl, (refl, short_lists _ c.len-within.ensures.within))

pub put_playlist-requires-clause-room : goal.put_playlist-requires-clause-room
put_playlist-requires-clause-room c =
    let list : List ℕ × List (List ℕ) = (c.in-Some.name.now, c.in-Some.songs.now) in
    let front : c.loop-name.name-iterator ≡ list ∷ c.next.new.self = c.in-Some.ensures.steps in
    let len = ap (λ (lists : Stored). length (flat_map playlist_bytes lists)) front ∙ one_more playlist_bytes list c.next.new.self in
    omega (
      arith,
      c.requires,
      c.loop-name.out.ok.0,
      c.args.out.now.ok.0,
      c.loop-name.invariant.1.0,
      ap length c.loop-name.invariant.0,
      length-append c.loop-name.out.items (flat_map playlist_bytes c.loop-name.name-iterator),
      length-append c.args.out.now.items (flat_map playlist_bytes c.args.lists.now),
      len,
    )
