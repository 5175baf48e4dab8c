-- What is written.
use Rattle.std.proofs.Common.{◌≡◌, ℕ, ◌+◌, List, [], ◌++◌, length, Some, sym, ap, ◌∙◌, arith}
use Rattle.std.specs.List.{flat_map}
use Rattle.std.proofs.lemmas.List.{append-nil}
use Rattle.id3_tags.specs.Writing.{WrittenText, WrittenPicture, written_text, written_picture, written, size_of, tag_front}

-- the bytes of a tag with a picture
pub both_is : (frames : List WrittenText) (picture : WrittenPicture) (bytes : List ℕ) (size : ℕ)
    → bytes ≡ flat_map written_text frames ++ written_picture picture → size ≡ length bytes + picture.len
    → tag_front size ++ bytes ≡ written frames (Some picture)
both_is frames picture bytes size is count =
    let same : bytes ≡ flat_map written_text frames ++ (written_picture picture ++ [])
    = is ∙ ap (λ l. flat_map written_text frames ++ l) (sym (append-nil (written_picture picture))) in
    let n : size ≡ size_of frames (Some picture) = omega (arith, ap length same) in
    ap (λ k. tag_front k ++ bytes) n ∙ ap (λ l. tag_front (size_of frames (Some picture)) ++ l) same
