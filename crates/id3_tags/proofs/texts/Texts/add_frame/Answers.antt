use Rattle.std.proofs.Common.{◌≡◌, ◌<◌, ◌++◌, ◌∙◌, map, length, take, drop, sym, ap, arith}
use Rattle.std.specs.Prelude.{string_bytes}
use Rattle.std.proofs.lemmas.Grind.{common_steps}
use Rattle.std.proofs.lemmas.Result.{on_ok_weaker}
use Rattle.id3_tags.specs.Texts.{described, labelled, texts_of, language_in, strings_of}
use Rattle.id3_tags.proofs.Labels.{described_by, texts_described}
use Rattle.id3_tags.proofs.texts.Texts.add_frame.Goals as goal

pub returns-clause-added : goal.returns-clause-added
returns-clause-added c =
    let some : 0 < length c.in_ok-strings.strings.items = grind (arith, common_steps) in
    let texts = described_by string_bytes c.in_ok-strings.strings.items c.remove-description.new.self.items
    c.remove-description.result c.args.id c.language_of.result (strings_of c.args.id c.args.bytes.now) some
    c.remove-description.ensures.items c.remove-description.ensures.value c.in_ok-strings.ensures in
    let whole = texts_described c.args.id c.args.bytes.now (sym c.if-not-is_described.ensures) in
    let language : c.language_of.result ≡ language_in c.args.id (drop 1 c.args.bytes.now) = c.language_of.ensures in
    let same : labelled c.args.id c.language_of.result (string_bytes c.remove-description.result) (map string_bytes
    c.deref-2.result.now) ≡ texts_of c.args.id c.args.bytes.now
    = ap (λ l. labelled c.args.id c.language_of.result (string_bytes c.remove-description.result) (map string_bytes l))
    c.deref-2.ensures.value ∙ texts ∙ ap (λ w. described c.args.id w (strings_of c.args.id c.args.bytes.now)) language ∙ sym whole in
    on_ok_weaker c.add_values-2.result (λ added. added ∙ ap (λ l. take 256 (c.args.self.now ++ l)) same) c.add_values-2.ensures.added
