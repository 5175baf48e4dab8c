use Rattle.song_output.proofs.OrderedFrames.{are_frames}
use Rattle.song_output.proofs.OwnFiles.{read_back, frames_back, end_back}
use Rattle.song_output.proofs.Supported.{reading_supported}
use Rattle.song_output.proofs.laws.own_file_is_read.Goals as goal

pub returns-clause-head : goal.returns-clause-head
returns-clause-head c = λ file info count samples wanted own head are. read_back info count samples (reading_supported file wanted info head) are own

pub returns-clause-frames : goal.returns-clause-frames
returns-clause-frames c = λ file info count samples wanted head are. frames_back info count samples (reading_supported file wanted info head) are

pub returns-clause-end : goal.returns-clause-end
returns-clause-end c = λ file info count samples wanted head are. end_back info count samples (reading_supported file wanted info head) are

pub returns-clause-ordered : goal.returns-clause-ordered
returns-clause-ordered c = λ file info first volume has are within some. are_frames file info first volume has are within some
