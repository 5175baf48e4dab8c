use Rattle.live_stage.proofs.GivenLaws.{given_is_open}
use Rattle.live_stage.proofs.StartLaws.{found_so}
use Rattle.live_stage.proofs.OpeningLaws.{last_is}
use Rattle.live_stage.proofs.HandledLaws.{none_answered}
use Rattle.live_stage.proofs.DecodingLaws.{begins}
use Rattle.live_stage.proofs.RecordLaws.{body_gives}
use Rattle.live_stage.proofs.RunLaws.{replayed_from_start}
use Rattle.live_stage.proofs.StagingLaws.{none_yet}
use Rattle.live_stage.proofs.PhaseLaws.{one_is_a_turn}
use Rattle.live_stage.proofs.laws.given_state_is_found.Goals as goal

pub returns : goal.returns
returns c = given_is_open
