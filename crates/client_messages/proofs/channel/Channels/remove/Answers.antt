use Rattle.std.proofs.Common.{ap, ◌∙◌, not, rules}
use Rattle.std.specs.Str.{bytes_eq}
use Rattle.std.proofs.lemmas.Fn.{filter_same}
use Rattle.client_messages.specs.Channel.{without}
use Rattle.client_messages.proofs.channel.Channels.remove.Goals as goal

-- the others stay, in their order
pub returns-clause-ok : goal.returns-clause-ok
returns-clause-ok c =
    filter_same _ (λ name. not (bytes_eq name c.args.channel.now)) _ (λ x b f k. search rules) _ _ c.retain.ensures.filtered
    ∙ ap (without c.args.channel.now) c.self.view_is
