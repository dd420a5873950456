-- The ledger is the blank's, and the opening is the port, the faults of the door and the limit of connections.
use Rattle.campaign_server.proofs.servers.serve_named.Given as goal

abbrev pub ghosts-serve_owned-J-Ledger : goal.ghosts-serve_owned-J-Ledger
ghosts-serve_owned-J-Ledger g a = record { name = a.blank.name; parts = a.blank.parts }

abbrev pub ghosts-serve_owned-J-DoorOpening : goal.ghosts-serve_owned-J-DoorOpening
ghosts-serve_owned-J-DoorOpening g a = record { port = a.numbers.port; faults = (g.R.Door.seen a.door).faults; limit = a.numbers.connections }
