use Rattle.live_stage.proofs.TurnLaws.{found_same}
use Rattle.live_stage.proofs.live.Live.make_ready.Goals as goal

pub returns-then-not-is_checkpoint_due-clause-same_state : goal.returns-then-not-is_checkpoint_due-clause-same_state
returns-then-not-is_checkpoint_due-clause-same_state g c = λ ha hb.
    found_same _ _ c.args.self.now.state.machine.saved (c.is_broken-broken.ensures.kept ha hb c.requires.usable)
