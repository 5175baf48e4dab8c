use Rattle.std.proofs.Common.{◌≡◌, ◌∙◌, false, List, sym, ap, arith}
use Rattle.play_queue.specs.declared.entry.Entry.{Entry}
use Rattle.play_queue.specs.Builder.{has_id}
use Rattle.play_queue.specs.Queue.{QueueState}
use Rattle.play_queue.proofs.Built.{pushed}
use Rattle.play_queue.proofs.queue.builder.QueueBuilder.push.Goals as goal

pub invariant_of-self-2 : goal.invariant_of-self-2
invariant_of-self-2 c =
    let q : QueueState = record {
      entries = c.self.inside.entries;
      version = c.self.inside.version;
      next_id =
          c.self.inside.next_id;
    } in
    let new : has_id q.entries c.args.entry.id ≡ false =
    sym (c.has_id.ensures ∙ ap (λ (entries : List Entry). has_id entries c.args.entry.id) c.entries.ensures) ∙ c.if-has_id.false in
    rw (c.in_ok-push.ensures.ok)
    (pushed q c.args.entry c.self.invariant (omega arith) (omega arith) (omega arith) new (omega arith) (omega arith))
