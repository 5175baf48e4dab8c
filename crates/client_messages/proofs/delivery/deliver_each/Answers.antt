use Rattle.std.proofs.Common.{◌≡◌, ◌<◌, ◌++◌, ◌≤◌, ◌+◌, ◌∙◌, length, slice_index_or, append-nil, vec_capacity, sym, ap, subst, arith}
use Rattle.std.specs.Option.{option_to_list}
use Rattle.std.proofs.lemmas.Grind.{common_steps}
use Rattle.client_messages.specs.Listeners.{AreRising, takes, delivered, notice_of, sent, notified}
use Rattle.client_messages.proofs.Copies.{count_left, finds_copy}
use Rattle.client_messages.proofs.Rising.{rising_sent, notified_rising}
use Rattle.client_messages.proofs.Steps.{get_or-map_so_far, set_so_far, told_so_far}
use Rattle.client_messages.proofs.delivery.deliver_each.Goals as goal
use Rattle.client_messages.proofs.delivery.deliver_each.Goals.{in-Some, in_default}

-- a client that gets the message finds a copy
pub deliver-requires-clause-enough : goal.deliver-requires-clause-enough
deliver-requires-clause-enough c =
    let at = c.loop-listener.listener-index in
    let d = c.listener-item.result in
    let item = slice_index_or c.loop-listener.listeners at d in
    let in_range : at < length c.args.listeners.now = omega arith in
    let here : item ≡ slice_index_or c.args.listeners.now at d =
    ap (λ ls. slice_index_or ls at d) c.loop-listener.invariant.delivered
    ∙ get_or-map_so_far (delivered c.args.draft.now) c.args.listeners.now at d in_range in
    finds_copy (takes c.args.draft.now) c.args.listeners.now at item d _ in_range here c.loop-listener.invariant.count

pub loop-listener-preserved : goal.loop-listener-preserved
loop-listener-preserved c =
    let at = c.loop-listener.listener-index in
    let d = c.listener-item.result in
    let item = slice_index_or c.loop-listener.listeners at d in
    let in_range : at < length c.args.listeners.now = omega arith in
    let here : item ≡ slice_index_or c.args.listeners.now at d =
    ap (λ ls. slice_index_or ls at d) c.loop-listener.invariant.delivered
    ∙ get_or-map_so_far (delivered c.args.draft.now) c.args.listeners.now at d in_range in
    let pushed : c.match-deliver.clients.items ≡ c.loop-listener.clients.items ++ option_to_list c.deliver.result =
    elim c.match-deliver.branch [
      | in-Some w ↦ grind (arith, common_steps)
      | in_default w ↦ grind (arith, common_steps, append-nil)
    ] in
    let few : length c.match-deliver.clients.items ≤ c.loop-listener.listener-index + 1 = elim c.match-deliver.branch [
      | in-Some w ↦ grind (arith, common_steps)
      | in_default w ↦ grind (arith, common_steps)
    ] in
    let room : length c.args.listeners.now ≤ vec_capacity c.match-deliver.clients = elim c.match-deliver.branch [
      | in-Some w ↦ grind (arith, common_steps)
      | in_default w ↦ grind (arith, common_steps)
    ] in
    record {
      same = c.deliver.ensures.same;
      count = count_left (takes c.args.draft.now) c.args.listeners.now at item d _ _ in_range here c.deliver.ensures.count
          c.loop-listener.invariant.count;
      delivered = set_so_far (delivered c.args.draft.now) c.args.listeners.now _ at item d _ in_range c.loop-listener.invariant.delivered here
          c.deliver.ensures.delivered;
      told = told_so_far (notice_of c.args.draft.now) c.args.listeners.now at item d _ _ _ c.deliver.result in_range here
          c.deliver.ensures.notice pushed c.loop-listener.invariant.told;
      few = few;
      room = room;
    }

pub returns-clause-rising : goal.returns-clause-rising
returns-clause-rising c =
    let whole : c.loop-listener.listeners ≡ sent c.args.listeners.now c.args.draft.now =
    grind (arith, common_steps, c.loop-listener.invariant.delivered) in
    rw whole (rising_sent _ _ c.requires.rising)

pub invariant_of-result : goal.invariant_of-result
invariant_of-result c =
    let whole : c.loop-listener.clients.items ≡ notified c.args.listeners.now c.args.draft.now =
    grind (arith, common_steps, append-nil, c.loop-listener.invariant.told) in
    subst AreRising (sym whole) (notified_rising c.args.listeners.now c.args.draft.now c.requires.rising)
