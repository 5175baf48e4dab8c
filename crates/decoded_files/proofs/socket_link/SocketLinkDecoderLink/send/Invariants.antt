use Rattle.std.proofs.Common.{◌≤◌, length}
use Rattle.decoded_files.proofs.socket_link.SocketLinkDecoderLink.send.Given as goal

abbrev pub invariant-sent : goal.invariant-sent
invariant-sent l = l.sent ≤ length l.request
