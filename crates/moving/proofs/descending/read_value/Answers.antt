use Rattle.std.proofs.Common.{◌≡◌, ℕ, ap, ◌∙◌, arith, slice_index_or}
use Rattle.instruction.specs.declared.numbers.Register.{Register}
use Rattle.instruction.specs.Named.{register, register_number}
use Rattle.instruction.proofs.Same.{same_register}
use Rattle.packets.specs.declared.results.PipeResult.TheVariants.{Value}
use Rattle.moving.proofs.descending.read_value.Goals as goal

-- a register's number names it
named : (r : Register) → r ≡ register (register_number r)
named r = same_register r (register r.number) (let b = r.below in omega arith)

pub returns : goal.returns
returns c =
    let registers = c.args.pipes.now.registers in
    let found = c.args.register in
    ap (λ (r : Register). Value r (slice_index_or registers c.index.result 0)) (named found)
    ∙ ap (λ (n : ℕ). Value (register (register_number found)) (slice_index_or registers n 0)) c.index.ensures.value
