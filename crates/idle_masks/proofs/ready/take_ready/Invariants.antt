use Rattle.std.proofs.Common.{◌≡◌, ◌≤◌, ◌++◌, length, take, drop, vec_capacity}
use Rattle.idle_masks.specs.Watched.{reports_of, after_reports}
use Rattle.idle_masks.proofs.ready.take_ready.Given as goal

-- the reports so far and those of the clients that are left are all of them
abbrev pub invariant-loop-watched : goal.invariant-loop-watched
invariant-loop-watched l = record {
  told : l.reports.items ++ reports_of (drop l.watched-index l.fn.clients) ≡ reports_of l.fn.clients;
  taken : l.clients ≡ after_reports (take l.watched-index l.fn.clients) ++ drop l.watched-index l.fn.clients;
  few : length l.reports.items ≤ l.watched-index;
  room : length l.fn.clients ≤ vec_capacity l.reports;
}
