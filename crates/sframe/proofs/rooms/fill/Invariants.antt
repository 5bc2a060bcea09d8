-- `fill` fills no more than the room.
use Rattle.std.proofs.Common.{◌≤◌, length}
use Rattle.sframe.proofs.rooms.fill.Given as goal

abbrev pub invariant-loop : goal.invariant-loop
invariant-loop g l = l.filled ≤ length l.room
