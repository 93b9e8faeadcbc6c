use denote.Param.Send.{sendable}
use Rattle.c_ast.proofs.Threads.{block_send, block_sync}
use Rattle.c_ast.proofs.crossing.block_crosses.Goals as goal

pub crosses-requires-send-T : goal.crosses-requires-send-T
crosses-requires-send-T c κs = search (block_send, sendable) depth 20

pub crosses-requires-sync-T : goal.crosses-requires-sync-T
crosses-requires-sync-T c κs = search (block_sync, sendable) depth 20
