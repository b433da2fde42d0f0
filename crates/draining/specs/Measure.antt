-- What a drain has yet to do: a number that falls with every move that it makes.
use Rattle.std.specs.Prelude.{ℕ, zero, suc, ◌+◌, ◌-◌, ◌*◌, Bool, false, cond, not, ◌&&◌, ◌||◌, List, [], ◌∷◌, length, is_some, Some, None, Option, slice_index_or}
use Rattle.instruction.specs.declared.numbers.Register.{Register}
use Rattle.packets.specs.declared.bindings.Source.{Source}
use Rattle.packets.specs.declared.bindings.Source.TheVariants.{Absent, Literal, Bound}
use Rattle.packets.specs.declared.packets.Packet.{Packet}
use Rattle.packets.specs.declared.packets.PacketState.{PacketState}
use Rattle.packets.specs.declared.packets.PacketState.TheVariants.{Waiting, Executed}
use Rattle.packets.specs.declared.results.PipeResult.{PipeResult}
use Rattle.packets.specs.declared.results.PipeResult.TheVariants.{Value, WrongBranch, Trap}
use Rattle.packets.specs.declared.stages.Stage.{Stage}
use Rattle.packets.specs.Packets.{same, is_live}
use Rattle.packets.specs.Stages.{vacant, result_in}
use Rattle.pipes.specs.declared.state.Pipes.{Pipes}
use Rattle.draining.specs.Sound.{is_control}

-- a result has to go down and out, a packet up and out
abbrev pub weight : ℕ → ℕ → Stage → ℕ
weight n s x = cond (is_some (result_in x)) (s + 1) 0 + cond (is_some x.packet) (n - s) 0

abbrev pub weights : ℕ → List Stage → ℕ → ℕ
weights n xs zero = 0
weights n xs (suc s) = weight n s (slice_index_or xs s vacant) + weights n xs s

-- the results above a packet: does one kill it, does one bring it a register's word
abbrev pub kills : List PipeResult → Bool
kills [] = false
kills (r ∷ rs) = is_control r || kills rs

abbrev pub carries : PipeResult → Register → Bool
carries (Value register word) q = same q register
carries (WrongBranch target) q = false
carries (Trap handler) q = false

abbrev pub brings : List PipeResult → Register → Bool
brings [] q = false
brings (r ∷ rs) q = carries r q || brings rs q

abbrev pub lacks : List PipeResult → Source → ℕ
lacks above Absent = 0
lacks above (Literal word) = 0
lacks above (Bound binding) = cond (binding.valid || brings above binding.register) 0 1

-- what the highest packet has to do: read a word for each source that lacks one, execute, insert
abbrev pub most : ℕ → ℕ
most n = 4 * n + 5

abbrev pub work_of : ℕ → ℕ → PacketState → ℕ
work_of n missed Waiting = (n + 1) * missed + (n + 2)
work_of n missed (Executed effect None) = 0
work_of n missed (Executed effect (Some owed)) = n + 1

abbrev pub work : ℕ → List PipeResult → Packet → ℕ
work n above p = cond (is_live p.standing && not (kills above)) (work_of n (lacks above p.first + lacks above p.second) p.state) (most n)

-- the walk from the top down to the highest packet, with the results passed on the way
abbrev pub on_top : List PipeResult → Option PipeResult → List PipeResult
on_top above None = above
on_top above (Some r) = r ∷ above

abbrev pub seen : ℕ → Option Packet → Option PipeResult → (List PipeResult → ℕ) → List PipeResult → ℕ
seen n None r below above = below (on_top above r)
seen n (Some p) r below above = work n above p

abbrev pub task : ℕ → List Stage → ℕ → List PipeResult → ℕ
task n xs zero above = most n
task n xs (suc s) above = seen n (slice_index_or xs s vacant).packet (result_in (slice_index_or xs s vacant)) (task n xs s) above

abbrev pub μ : List ℕ → Pipes → ℕ
μ sets P = weights (length sets) P.stages (length sets) + task (length sets) P.stages (length sets) []
