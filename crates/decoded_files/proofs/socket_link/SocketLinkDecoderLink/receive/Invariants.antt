use Rattle.std.proofs.Common.{◌≤◌, length}
use Rattle.decoded_files.proofs.socket_link.SocketLinkDecoderLink.receive.Given as goal

abbrev pub invariant-received : goal.invariant-received
invariant-received l = l.received ≤ length l.buffer
