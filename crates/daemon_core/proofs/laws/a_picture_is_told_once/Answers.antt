use Rattle.daemon_core.proofs.PictureLaws.{others_stay, read_alone, read_last, used}
use Rattle.daemon_core.proofs.laws.a_picture_is_told_once.Goals as goal

pub returns-clause-silent : goal.returns-clause-silent
returns-clause-silent c = read_alone

pub returns-clause-read : goal.returns-clause-read
returns-clause-read c = read_last

pub returns-clause-other : goal.returns-clause-other
returns-clause-other c = others_stay

pub returns-clause-used : goal.returns-clause-used
returns-clause-used c = used
