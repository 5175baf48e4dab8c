use Rattle.machine_core.proofs.Missing.{all_opened, asked_again, missed_next, missed_no_op, missed_over, missed_saved, named_drops}
use Rattle.machine_core.proofs.laws.too_many_missing_drop_nothing.Goals as goal

pub returns : goal.returns
returns c = record {
  saved = missed_saved;
  no_op = missed_no_op;
  over = missed_over;
  next = missed_next;
  again = asked_again;
  opens_all = all_opened;
  named = named_drops;
}
