-- The bytes of the lines that a client gets, and what a writer of lines does.
use Rattle.std.specs.Prelude.{◌≡◌, ℕ, ◌+◌, ◌≤◌, ◌<◌, length, List, [], ◌∷◌, ◌++◌, codes, Result, OnOk, OnErr}
use Rattle.std.specs.Vec.{vec_len, vec_capacity}
use Rattle.std.specs.Global.{Vec}
use Rattle.std.specs.Fmt.{decimal}
use Rattle.command_text.specs.declared.refusal.Refusal.{Refusal}
use Rattle.command_text.specs.Refusals.{code_number, code_of, text_of, name_of_refusal, braces}

-- a text and a newline
abbrev pub line : List ℕ → List ℕ
line text = text ++ 10 ∷ []

-- `key: value`
abbrev pub pair : List ℕ → List ℕ → List ℕ
pair key value = line (key ++ (codes ": " ++ value))

-- the same where the value is a number, in decimal digits
abbrev pub number_pair : List ℕ → ℕ → List ℕ
number_pair key value = pair key (decimal value)

-- the end of an answer, and of a command's part in the answer to a list
abbrev pub ok : List ℕ
ok = line (codes "OK")

abbrev pub list_ok : List ℕ
list_ok = line (codes "list_OK")

-- what a client gets first
abbrev pub greeting : List ℕ
greeting = line (codes "OK MPD 0.23.0")

-- `ACK [CODE@INDEX] {COMMAND} `
unfoldable pub ack_start : ℕ → ℕ → List ℕ → List ℕ
ack_start code index name =
    codes "ACK [" ++ (decimal code ++ (codes "@" ++ (decimal index ++ (codes "] {" ++ (name ++ codes "} ")))))

-- the line of a refusal: that, and its text; the index counts the commands of a list from 0
abbrev pub ack : ℕ → Refusal → List ℕ
ack index refusal = line (ack_start (code_number (code_of refusal)) index (braces (name_of_refusal refusal)) ++ text_of refusal)

-- the spare room of a vector is too small for these bytes
abbrev pub IsFullFor : Vec ℕ → List ℕ → Type 0
IsFullFor out bytes = vec_capacity out < vec_len out + length bytes

-- behind what was there stands a front of some lines
pub record HasFront (lines before after : List ℕ) : Type 0 where
  pub added : List ℕ
  pub missing : List ℕ
  pub parts : lines ≡ added ++ missing
  pub stands : after ≡ before ++ added

-- What a writer of some lines does to the answer: it adds them at the end. Where their room was too small, memory may be
-- refused, and then a front of them was added, which the caller cuts off.
pub record Adds {A E : Type 0} (lines : List ℕ) (result : Result A E) (before after : Vec ℕ) : Type 0 where
  pub all : OnOk result (after.items ≡ before.items ++ lines)
  pub front : OnErr result (HasFront lines before.items after.items)
  pub full : OnErr result (IsFullFor before lines)
  pub room : vec_capacity before ≤ vec_capacity after
