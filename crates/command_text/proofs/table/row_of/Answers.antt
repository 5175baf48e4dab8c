use Rattle.command_text.specs.Names.{least_of, name_text, topic_of}
use Rattle.command_text.proofs.Naming.{part_of}
use Rattle.command_text.proofs.table.row_of.Goals as goal

pub returns-clause-word : goal.returns-clause-word
returns-clause-word c = part_of c.rows.result.now (λ row. row.1.now) name_text c.args.name _ c.rows.ensures.words

pub returns-clause-topic : goal.returns-clause-topic
returns-clause-topic c = part_of c.rows.result.now (λ row. row.2) topic_of c.args.name _ c.rows.ensures.topics

pub returns-clause-least : goal.returns-clause-least
returns-clause-least c = part_of c.rows.result.now (λ row. row.3) least_of c.args.name _ c.rows.ensures.least
