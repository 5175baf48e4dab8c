use Rattle.std.proofs.Common.{◌≡◌, drop}
use Rattle.std.specs.String.{string_bytes}
use Rattle.song_files.proofs.PlaceList.{nth_of}
use Rattle.song_files.proofs.tags.Tags.nth.Given as goal

-- among the places that are left the text stands as many texts of the tag further
abbrev pub invariant-loop-place : goal.invariant-loop-place
invariant-loop-place l =
    nth_of (string_bytes l.self-inside.text) l.tag l.left (drop l.place-index l.place-items)
    ≡ nth_of (string_bytes l.self-inside.text) l.tag l.n l.place-items
