use Rattle.std.proofs.Common.{◌<◌, length, Ok, Option, Result, sym, ap, ◌∙◌, subst, arith}
use Rattle.bounded_log.specs.Room.{room, Logs}
use Rattle.effect.specs.declared.actions.Retirement.{Retirement}
use Rattle.pipes.specs.declared.answers.MoveRefusal.{MoveRefusal}
use Rattle.pipes.specs.Running.{records_of}
use Rattle.bounded_log.proofs.Logged.{logs_one}
use Rattle.pipeline.proofs.running.note.Goals as goal

pub returns-in-Ok-Some-clause-logs : goal.returns-in-Ok-Some-clause-logs
returns-in-Ok-Some-clause-logs c =
    let log = c.args.log.now in
    let given = c.in-Ok-Some.is ∙ ap Ok (rw c.in-Ok-Some.is at c.in-Ok-Some.field-0-is) in
    let free : 0 < room c.args.log.now = omega (arith, c.requires.free, ap (λ (a : Result (Option Retirement) MoveRefusal). length (records_of a)) given) in
    subst (λ (a : Result (Option Retirement) MoveRefusal). Logs log c.add.new.self (records_of a)) (sym given) (logs_one _ free c.add.ensures.logs)
