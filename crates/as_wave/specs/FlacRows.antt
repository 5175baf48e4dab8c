-- The rows that the program has, as those of the list of frames.
use Rattle.std.specs.Prelude.{List, map}
use Rattle.as_wave.specs.FlacNames.{FrameName, frame}
use Rattle.as_wave.specs.declared.flac_names.FrameRow.{FrameRow}

abbrev pub frame_of : FrameRow → FrameName
frame_of row = frame row.0.now row.1 row.2.now

abbrev pub frames_of : List FrameRow → List FrameName
frames_of rows = map frame_of rows
