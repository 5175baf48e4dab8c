-- A value where a definition of a lower layer takes what is lent.
use denote.Ref.{Bor}

abbrev pub lent : {A : Type 0} → A → Bor A
lent value = record { ref_ptr = (0, 0); now = value }
