-- The numbers of the refusals, and those that stand for a connection's faults.
use Rattle.std.specs.Prelude.{ℕ}
use Rattle.decoded_files.specs.declared.refusal.DecoderError.{DecoderError}
use Rattle.decoded_files.specs.declared.refusal.DecoderError.TheVariants.{NoMemory, Away, Silent, Ended, BadAnswer}
use Rattle.decoded_files.specs.declared.refusal.DecoderError.TheVariants.{NoSong, Failed, LongPath}
use Rattle.decoded_files.specs.declared.link.LinkFault.{LinkFault}
use Rattle.decoded_files.specs.declared.link.LinkFault.TheVariants as fault

abbrev pub number_of : DecoderError → ℕ
number_of NoMemory = 7
number_of Away = 90
number_of Silent = 91
number_of Ended = 92
number_of BadAnswer = 93
number_of NoSong = 94
number_of Failed = 95
number_of LongPath = 96

abbrev pub fault_error : LinkFault → DecoderError
fault_error fault.Silent = Silent
fault_error fault.Ended = Ended
