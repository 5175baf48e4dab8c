use Rattle.state_codec.specs.Layout.{layout_of}
use Rattle.state_codec.proofs.BodyLaws.{body_takes, body_within, body_again, body_again_in}
use Rattle.state_codec.proofs.SavedLaws.{form_of, snapshot_takes, snapshot_within, snapshot_again, snapshot_again_in}
use Rattle.state_codec.proofs.laws.read_as_spelled.Goals as goal

pub returns-clause-ops : goal.returns-clause-ops
returns-clause-ops c = body_again

pub returns-clause-saved : goal.returns-clause-saved
returns-clause-saved c = snapshot_again

pub returns-clause-ops_in : goal.returns-clause-ops_in
returns-clause-ops_in c = λ layout ops. body_again_in (layout_of layout) ops

pub returns-clause-saved_in : goal.returns-clause-saved_in
returns-clause-saved_in c = λ layout s. snapshot_again_in (layout_of layout) (form_of layout) s

pub returns-clause-only_ops : goal.returns-clause-only_ops
returns-clause-only_ops c = λ layout bytes ops. body_takes (layout_of layout) bytes ops

pub returns-clause-only_saved : goal.returns-clause-only_saved
returns-clause-only_saved c = λ layout bytes s. snapshot_takes (layout_of layout) (form_of layout) bytes s

pub returns-clause-ops_within : goal.returns-clause-ops_within
returns-clause-ops_within c = λ layout bytes ops. body_within (layout_of layout) bytes ops

pub returns-clause-saved_within : goal.returns-clause-saved_within
returns-clause-saved_within c = λ layout bytes s. snapshot_within (layout_of layout) (form_of layout) bytes s
