-- The head of a file, from its parts.
use Rattle.std.proofs.Common.{◌≡◌, ℕ, ◌+◌, ◌<◌, ◌≤◌, List, length, take, drop, arith, ap, ◌∙◌, sym, refl, Bool, true, false, Ok, Err, slice_range}
use Rattle.std.specs.Prelude.{Result, nat_le, ◌==◌, ◌&&◌, codes, if◌then◌else◌}
use Rattle.std.specs.Str.{bytes_eq}
use Rattle.std.proofs.lemmas.Bool.Decides.{nat_tests}
use Rattle.std.proofs.lemmas.List.{length-take}
use Rattle.song_files.proofs.Ranges.{range_is}
use Rattle.flac.specs.Blocks.{blocks_from, behind_all}
use Rattle.flac.specs.Comments.{CommentText, comments_of}
use Rattle.flac.specs.Id3.{tag_len, stream_start}
use Rattle.flac.specs.Limits.{MAX_BLOCKS}
use Rattle.flac.specs.Pictures.{PicturePlace, pictures_of}
use Rattle.flac.specs.Reading.{has_marker_at, head_of, reading_of, reading_at, flac_reading}
use Rattle.flac.specs.Steps.{◌>>=◌}
use Rattle.flac.specs.StreamInfo.{info_of}
use Rattle.flac.specs.declared.blocks.BlockHead.{BlockHead}
use Rattle.flac.specs.declared.head.FlacHead.{FlacHead}
use Rattle.flac.specs.declared.stream_info.StreamInfo.{StreamInfo}
use Rattle.flac.specs.declared.refusal.FlacError.{FlacError}
use Rattle.flac.specs.declared.refusal.FlacError.TheVariants.{NotFlac}
use Rattle.flac.proofs.Verdicts.{then_ok, then_err}

pub no_tag : (file : List ℕ) → length file < 10 → 0 ≡ stream_start file
unfolding stream_start
no_tag file short =
    let n : length (take 10 file) < 10 = omega (arith, length-take 10 file) in
    let e : (length (take 10 file) == 10) ≡ false = grind (arith, nat_tests) in
    rw e refl

pub start_is : (file front : List ℕ) → front ≡ slice_range file 0 10 → tag_len front ≡ stream_start file
unfolding stream_start
start_is file front read = ap tag_len (read ∙ range_is file 0 10)

pub no_marker : (file : List ℕ) (start : ℕ) → length file < start + 4 → false ≡ has_marker_at file start
no_marker file start short = let e : nat_le (start + 4) (length file) ≡ false = grind (arith, nat_tests) in rw e refl

pub marker_is : (file front : List ℕ) (start : ℕ) → start + 4 ≤ length file → front ≡ slice_range file start (start + 4)
    → bytes_eq front (codes "fLaC") ≡ has_marker_at file start
marker_is file front start room read =
    let e : nat_le (start + 4) (length file) ≡ true = grind (arith, nat_tests) in
    ap (λ (xs : List ℕ). bytes_eq xs (codes "fLaC")) (read ∙ range_is file start 4)
    ∙ sym (ap (λ (b : Bool). b && bytes_eq (take 4 (drop start file)) (codes "fLaC")) e)

reading_is : (file : List ℕ) (blocks : List BlockHead) → reading_of file blocks ≡ (info_of file blocks >>= (λ info. Ok (head_of file blocks info)))
unfolding reading_of
reading_is file blocks = refl

abbrev the_head : StreamInfo → List CommentText → List PicturePlace → ℕ → FlacHead
the_head info comments pictures first = record { info = info; comments = comments; pictures = pictures; first_frame = first }

pub reading_ok : (file : List ℕ) (blocks : List BlockHead) (info : StreamInfo) (comments kept : List CommentText)
    (pictures listed : List PicturePlace) (first : ℕ) → info_of file blocks ≡ Ok info → comments ≡ comments_of file blocks
    → listed ≡ pictures_of file blocks → kept ≡ comments → pictures ≡ listed → first ≡ behind_all blocks
    → reading_of file blocks ≡ Ok (record { info = info; comments = kept; pictures = pictures; first_frame = first })
reading_ok file blocks info comments kept pictures listed first found read shown same own place =
    reading_is file blocks ∙ then_ok (info_of file blocks) (λ i. Ok (head_of file blocks i)) info found
    ∙ sym (ap (λ cs. Ok (the_head info cs pictures first)) (same ∙ read)
    ∙ ap (λ ps. Ok (the_head info (comments_of file blocks) ps first)) (own ∙ shown)
    ∙ ap (λ at. Ok (the_head info (comments_of file blocks) (pictures_of file blocks) at)) place)

pub no_info : (file : List ℕ) (blocks : List BlockHead) (e : FlacError) → info_of file blocks ≡ Err e → reading_of file blocks ≡ Err e
no_info file blocks e refused = reading_is file blocks ∙ then_err (info_of file blocks) (λ i. Ok (head_of file blocks i)) e refused

abbrev by_marker : Bool → List ℕ → ℕ → Result FlacHead FlacError
by_marker b file start = if b then (blocks_from MAX_BLOCKS file (start + 4) >>= reading_of file) else Err NotFlac

by_start : (file : List ℕ) (start : ℕ) (b : Bool) → start ≡ stream_start file → has_marker_at file start ≡ b
    → flac_reading file ≡ by_marker b file start
unfolding flac_reading
by_start file start b same told = sym (ap (reading_at file) same) ∙ ap (λ t. by_marker t file start) told

pub not_flac : (file : List ℕ) (start : ℕ) → start ≡ stream_start file → has_marker_at file start ≡ false → flac_reading file ≡ Err NotFlac
not_flac file start same told = by_start file start false same told

pub no_blocks : (file : List ℕ) (start : ℕ) (e : FlacError) → start ≡ stream_start file → has_marker_at file start ≡ true
    → blocks_from MAX_BLOCKS file (start + 4) ≡ Err e → flac_reading file ≡ Err e
no_blocks file start e same told refused =
    by_start file start true same told ∙ then_err (blocks_from MAX_BLOCKS file (start + 4)) (reading_of file) e refused

pub by_blocks : (file : List ℕ) (start : ℕ) (blocks : List BlockHead) → start ≡ stream_start file → has_marker_at file start ≡ true
    → blocks_from MAX_BLOCKS file (start + 4) ≡ Ok blocks → flac_reading file ≡ reading_of file blocks
by_blocks file start blocks same told found =
    by_start file start true same told ∙ then_ok (blocks_from MAX_BLOCKS file (start + 4)) (reading_of file) blocks found
