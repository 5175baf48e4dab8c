use Rattle.std.proofs.Common.{length, ap, arith}
use Rattle.client_messages.specs.Messages.{message}
use Rattle.daemon_core.proofs.TalkLaws.{notified_fits}
use Rattle.daemon_core.proofs.talk.Talks.send.Goals as goal

pub note_each-requires : goal.note_each-requires
note_each-requires c =
    omega (
      arith,
      c.in_ok-reserve.ensures.ok,
      ap length c.as_slice.ensures.all,
      ap length c.as_slice-in-Ok.ensures.clients,
      ap length c.in-Ok.ensures.notified,
      notified_fits c.args.self.now.messages (message c.args.channel.now c.args.text.now),
    )
