use Rattle.command_text.proofs.MaskLaws.{all_told, in_empty, in_all, in_only, not_others, in_both, in_rest}
use Rattle.command_text.proofs.laws.masks_are_sets.Goals as goal

pub returns-clause-empty : goal.returns-clause-empty
returns-clause-empty c = in_empty

pub returns-clause-all : goal.returns-clause-all
returns-clause-all c = in_all

pub returns-clause-only : goal.returns-clause-only
returns-clause-only c = in_only

pub returns-clause-others : goal.returns-clause-others
returns-clause-others c = not_others

pub returns-clause-with : goal.returns-clause-with
returns-clause-with c = in_both

pub returns-clause-without : goal.returns-clause-without
returns-clause-without c = in_rest

pub returns-clause-told : goal.returns-clause-told
returns-clause-told c = all_told
