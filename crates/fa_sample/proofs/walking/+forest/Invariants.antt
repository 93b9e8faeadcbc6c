use Rattle.std.proofs.Common.{◌≡◌, ◌+◌, ◌*◌, map, drop}
use Rattle.fa_sample.specs.inner.Dressing.{insides_made}
use Rattle.fa_sample.specs.inner.Walk.{seen, ends, weight, roots_ended}
use Rattle.fa_sample.proofs.walking.+forest.Given as goal

abbrev pub decreases-add_forest : goal.decreases-add_forest
decreases-add_forest l = 8 * l.depth + 7

abbrev pub decreases-add_roots : goal.decreases-add_roots
decreases-add_roots l = 8 * l.depth + 6

abbrev pub decreases-add_root : goal.decreases-add_root
decreases-add_root l = 8 * l.depth + 5

abbrev pub decreases-add_cell : goal.decreases-add_cell
decreases-add_cell l = 8 * l.depth + 4

abbrev pub decreases-do_tasks : goal.decreases-do_tasks
decreases-do_tasks l = 8 * l.depth + 3

abbrev pub decreases-do_task : goal.decreases-do_task
decreases-do_task l = 8 * l.depth + 2

abbrev pub decreases-add_inside : goal.decreases-add_inside
decreases-add_inside l = 8 * l.depth + 1

abbrev pub invariant-do_tasks-tasks : goal.invariant-do_tasks-tasks
invariant-do_tasks-tasks l = ends (insides_made l.boxes l.depth) l.values (map seen l.tasks) l.drafts
    ≡ ends (insides_made l.boxes l.depth) l.values (map seen l.fn.tasks) l.fn.drafts

abbrev pub decreases-do_tasks-tasks : goal.decreases-do_tasks-tasks
decreases-do_tasks-tasks l = weight (map seen l.tasks)

abbrev pub invariant-add_roots-loop-place : goal.invariant-add_roots-loop-place
invariant-add_roots-loop-place l =
    roots_ended (insides_made l.boxes l.depth) l.values (drop l.place l.values) l.trees l.drafts
    ≡ roots_ended (insides_made l.boxes l.depth) l.values l.values l.initial.trees l.initial.drafts
