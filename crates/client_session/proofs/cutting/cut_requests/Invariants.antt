use Rattle.std.proofs.Common.{◌<◌, ◌^◌, length}
use Rattle.client_session.specs.Lines.{HasNoNewline}
use Rattle.client_session.specs.Lists.{IsWithinLimits}
use Rattle.client_session.specs.Requests.{unread}
use Rattle.client_session.proofs.Steps.{IsCut}
use Rattle.client_session.proofs.cutting.cut_requests.Given as goal

abbrev pub invariant-loop-end : goal.invariant-loop-end
invariant-loop-end l = record {
  cut : IsCut (unread l.fn.listing l.fn.pending.items) l.piece l.requests l.listing l.pending.items l.rest;
  within : IsWithinLimits l.listing;
  small : length l.rest < 2 ^ 63;
  none : HasNoNewline l.piece → HasNoNewline l.rest;
}

abbrev pub decreases-loop-end : goal.decreases-loop-end
decreases-loop-end l = length l.rest
