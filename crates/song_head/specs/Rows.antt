-- The rows that the program has, as those of the tables.
use Rattle.std.specs.Prelude.{ℕ, List, map}
use denote.Ref.{Bor}
use Rattle.song_head.specs.FrameTags.{Frame, Described, frame, described}
use Rattle.song_head.specs.declared.frame_tags.FrameRow.{FrameRow}
use Rattle.song_head.specs.declared.frame_tags.DescribedRow.{DescribedRow}

abbrev pub frame_of : FrameRow → Frame
frame_of r = frame r.0 r.1

abbrev pub frames_of : List FrameRow → List Frame
frames_of rows = map frame_of rows

abbrev pub described_of : DescribedRow → Described
described_of r = described r.0 r.1.now r.2

abbrev pub all_described : List DescribedRow → List Described
all_described rows = map described_of rows

-- texts that are lent
abbrev pub names_of : List (Bor (List ℕ)) → List (List ℕ)
names_of names = map (λ name. name.now) names
