use Rattle.test_driver.proofs.life.live_on.Given as goal

abbrev pub ghosts-live_shared-C-Ledger : goal.ghosts-live_shared-C-Ledger
ghosts-live_shared-C-Ledger g a = record { name = a.blanks.clients.name; parts = a.blanks.clients.parts }

abbrev pub ghosts-live_shared-P-Ledger : goal.ghosts-live_shared-P-Ledger
ghosts-live_shared-P-Ledger g a = record { name = a.blanks.player.name; parts = a.blanks.player.parts }

abbrev pub ghosts-live_shared-S-Ledger : goal.ghosts-live_shared-S-Ledger
ghosts-live_shared-S-Ledger g a = record { name = a.blanks.scan.name; parts = a.blanks.scan.parts }
