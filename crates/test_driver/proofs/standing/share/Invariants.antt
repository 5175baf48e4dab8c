use Rattle.test_driver.proofs.standing.share.Given as goal

abbrev pub ghosts-stand-C-Ledger : goal.ghosts-stand-C-Ledger
ghosts-stand-C-Ledger g a = record { name = a.blanks.clients.name; parts = a.blanks.clients.parts }

abbrev pub ghosts-stand-P-Ledger : goal.ghosts-stand-P-Ledger
ghosts-stand-P-Ledger g a = record { name = a.blanks.player.name; parts = a.blanks.player.parts }

abbrev pub ghosts-stand-S-Ledger : goal.ghosts-stand-S-Ledger
ghosts-stand-S-Ledger g a = record { name = a.blanks.scan.name; parts = a.blanks.scan.parts }
