-- How long a line of want of memory can be.
use Rattle.std.proofs.Common.{◌≡◌, ℕ, ◌+◌, ◌<◌, ◌≤◌, ◌^◌, List, [], ◌++◌, length, Option, Some, None, arith, codes, length-append, lit<}
use Rattle.std.proofs.lemmas.Fmt.{length-decimal-le}
use Rattle.std.specs.Fmt.{decimal}
use Rattle.command_text.specs.declared.name.CommandName.{CommandName}
use Rattle.command_text.specs.Answer.{ack, ack_start, line}
use Rattle.command_text.specs.Names.{name_text}
use Rattle.command_text.specs.Reading.{want_of_memory}
use Rattle.command_text.proofs.Naming.{name_fits}

ack_len : (code index : ℕ) (name text : List ℕ)
    → length (line (ack_start code index name ++ text)) ≡ length (decimal code) + length (decimal index) + length name + length text + 12
unfolding ack_start
ack_len code index name text = simp length-append (omega arith)

pub memory_fits : (index : ℕ) (name : Option CommandName) → index < 2 ^ 32 → length (ack index (want_of_memory name)) ≤ 64
memory_fits index None h =
    let text = codes "out of memory" in
    let code : length (decimal 52) ≤ 2 = length-decimal-le 2 52 (lit< tt) (lit< tt) (lit< tt) in
    let place : length (decimal index) ≤ 10 = length-decimal-le 10 index (lit< tt) (omega arith) (omega arith) in
    omega (arith, ack_len 52 index [] text)
memory_fits index (Some name) h =
    let text = codes "out of memory" in
    let code : length (decimal 52) ≤ 2 = length-decimal-le 2 52 (lit< tt) (lit< tt) (lit< tt) in
    let place : length (decimal index) ≤ 10 = length-decimal-le 10 index (lit< tt) (omega arith) (omega arith) in
    omega (arith, ack_len 52 index (name_text name) text, name_fits name)
