use Rattle.std.proofs.Common.{ap, ◌∙◌, sym, subst}
use Rattle.std.specs.Cmp.Lexicographic.{slice_cmp}
use Rattle.std.specs.List.Sorted.{IsStrictlySortedBy}
use Rattle.std.specs.Ordering.{nat_cmp}
use Rattle.std.proofs.lemmas.Result.{IfOk-weaker}
use Rattle.client_messages.specs.Channel.{is_among}
use Rattle.client_messages.specs.Names.{channels_in}
use Rattle.client_messages.proofs.NameLaws.{named_if_heard, names_rise}
use Rattle.client_messages.proofs.client_messages.ClientMessages.channels.Goals as goal

pub returns-clause-each : goal.returns-clause-each
returns-clause-each c =
    let same = ap channels_in (c.deref.ensures.value ∙ c.self.view_is) in
    IfOk-weaker c.of.result _ _ (λ names is channel. ap (is_among channel) (is ∙ same) ∙ named_if_heard c.args.self.now channel) c.of.ensures

pub returns-clause-rising : goal.returns-clause-rising
returns-clause-rising c =
    let same = ap channels_in (c.deref.ensures.value ∙ c.self.view_is) in
    IfOk-weaker c.of.result _ _
    (λ names is. subst (IsStrictlySortedBy (slice_cmp nat_cmp)) (sym (is ∙ same)) (names_rise c.args.self.now)) c.of.ensures
