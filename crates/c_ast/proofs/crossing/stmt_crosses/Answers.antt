use denote.Param.Send.{sendable}
use Rattle.c_ast.proofs.Threads.{stmt_send, stmt_sync}
use Rattle.c_ast.proofs.crossing.stmt_crosses.Goals as goal

pub crosses-requires-send-T : goal.crosses-requires-send-T
crosses-requires-send-T c κs = search (stmt_send, sendable) depth 20

pub crosses-requires-sync-T : goal.crosses-requires-sync-T
crosses-requires-sync-T c κs = search (stmt_sync, sendable) depth 20
