-- What an accepted move leaves, and what a move answers.
use Rattle.std.specs.Prelude.{ℕ, ◌+◌, ◌-◌, Bool, true, false, cond, ◌||◌, List, replicate, Some, None, Ok, Err, Option, Result, slice_index, slice_set}
use Rattle.std.specs.List.{slice_get}
use Rattle.instruction.specs.declared.instructions.Instruction.{Instruction}
use Rattle.instruction.specs.declared.instructions.Instruction.TheVariants as instruction
use Rattle.instruction.specs.Named.{register}
use Rattle.effect.specs.declared.actions.Effect.{Effect}
use Rattle.effect.specs.declared.actions.Fetched.{Fetched}
use Rattle.effect.specs.declared.actions.Retirement.{Retirement}
use Rattle.effect.specs.Changes.{halts, registers_after, words_after}
use Rattle.stepper.specs.Machine.{World}
use Rattle.moves.specs.declared.kinds.MoveKind.{MoveKind}
use Rattle.moves.specs.declared.kinds.MoveKind.TheVariants.{Fetch, Raise, Lower, Execute, Insert, Read, Retire, Drop}
use Rattle.moves.specs.Decoding.{kind_of}
use Rattle.packets.specs.declared.packets.Packet.{Packet}
use Rattle.packets.specs.declared.packets.PacketState.{PacketState}
use Rattle.packets.specs.declared.packets.PacketState.TheVariants.{Waiting, Executed}
use Rattle.packets.specs.declared.packets.Standing.{Standing}
use Rattle.packets.specs.declared.packets.Standing.TheVariants.{Live, Killed}
use Rattle.packets.specs.declared.results.PipeResult.{PipeResult}
use Rattle.packets.specs.declared.results.PipeResult.TheVariants as result
use Rattle.packets.specs.declared.stages.Stage.{Stage}
use Rattle.packets.specs.Entering.{guess_of, entering}
use Rattle.packets.specs.Stages.{staged, vacant, result_in, met, executing, inserting}
use Rattle.pipes.specs.declared.answers.MoveRefusal.{MoveRefusal}
use Rattle.pipes.specs.declared.state.Pipes.{Pipes}
use Rattle.pipes.specs.Questions.{stage_at, packet_at, top, refusal_of}

-- empty slots, fetch open at 0, registers 0, not halted
abbrev pub fresh : Pipes
fresh = record { stages = replicate 16 vacant; registers = replicate 16 0; fetch = Some 0; halted = false }

abbrev pub with_stages : Pipes → List Stage → Pipes
with_stages P stages = record { stages = stages; registers = P.registers; fetch = P.fetch; halted = P.halted }

abbrev pub with_stage : Pipes → ℕ → Stage → Pipes
with_stage P s x = with_stages P (slice_set P.stages s x)

abbrev pub with_fetch : Pipes → Option ℕ → Pipes
with_fetch P fetch = record { stages = P.stages; registers = P.registers; fetch = fetch; halted = P.halted }

-- FETCH: behind a halt and a place past the end fetch is closed, else it goes on at the guess
abbrev pub closes : Option Instruction → Bool
closes None = true
closes (Some instruction.Halt) = true
closes (Some (instruction.Jump target)) = false
closes (Some (instruction.Set destination word)) = false
closes (Some (instruction.BranchZero hint tested target)) = false
closes (Some (instruction.JumpRegister target guess)) = false
closes (Some (instruction.Load destination base offset)) = false
closes (Some (instruction.Store base stored offset)) = false
closes (Some (instruction.Compute operation destination first second)) = false

abbrev pub fetch_behind : Fetched → Option ℕ
fetch_behind fetched = cond (closes fetched.instruction) None (Some (guess_of fetched))

abbrev pub fetched_at : World → ℕ → Fetched
fetched_at W place = record { place = place; instruction = slice_get W.program place }

abbrev pub entered : World → List ℕ → Pipes → Fetched → Pipes
entered W words P fetched = with_fetch (with_stage P 0 (met (Some (entering W.table words W.handler fetched)) (result_in (stage_at P 0)))) (fetch_behind fetched)

abbrev pub fetched_from : World → List ℕ → Pipes → Option ℕ → Pipes
fetched_from W words P (Some place) = entered W words P (fetched_at W place)
fetched_from W words P None = P

-- RAISE: the packet goes up and meets the result there
abbrev pub raised : Pipes → ℕ → Pipes
raised P s = with_stage (with_stage P s (staged None (result_in (stage_at P s)))) (s + 1) (met (packet_at P s) (result_in (stage_at P (s + 1))))

-- LOWER: the result goes down and meets the packet there
abbrev pub lowered : Pipes → ℕ → Pipes
lowered P s = with_stage (with_stage P s (staged (packet_at P s) None)) (s - 1) (met (packet_at P (s - 1)) (result_in (stage_at P s)))

abbrev pub executed : World → List ℕ → Pipes → ℕ → Pipes
executed W words P s = with_stage P s (executing W.table words W.handler (stage_at P s))

abbrev pub inserted : Pipes → ℕ → Pipes
inserted P s = with_stage P s (inserting (stage_at P s))

-- READ: the value of a register enters at the top and meets the packet there
abbrev pub read_value : Pipes → ℕ → PipeResult
read_value P r = result.Value (register r) (slice_index P.registers r)

abbrev pub read_into : List ℕ → Pipes → ℕ → Pipes
read_into sets P r = with_stage P (top sets) (met (packet_at P (top sets)) (Some (read_value P r)))

-- DROP: a wrong-branch and a trap open fetch at their target
abbrev pub fetch_on : Option PipeResult → Option ℕ → Option ℕ
fetch_on None fetch = fetch
fetch_on (Some (result.Value register word)) fetch = fetch
fetch_on (Some (result.WrongBranch target)) fetch = Some target
fetch_on (Some (result.Trap handler)) fetch = Some handler

abbrev pub dropped : Pipes → Pipes
dropped P = with_fetch (with_stage P 0 (staged (packet_at P 0) None)) (fetch_on (result_in (stage_at P 0)) P.fetch)

-- RETIRE: the effect of a live packet
abbrev effect_if : Standing → PacketState → Option Effect
effect_if Killed state = None
effect_if Live Waiting = None
effect_if Live (Executed effect owed) = Some effect

abbrev pub leaving_effect : Packet → Option Effect
leaving_effect p = effect_if p.standing p.state

abbrev pub vacated : List ℕ → Pipes → Pipes
vacated sets P = with_stage P (top sets) (staged None (result_in (stage_at P (top sets))))

-- what a move leaves, and the record of a live retirement
pub record Left : Type 0 where
  pub pipes : Pipes
  pub words : List ℕ
  pub retirement : Option Retirement

abbrev pub silently : Pipes → List ℕ → Left
silently P words = record { pipes = P; words = words; retirement = None }

abbrev pub writing : Pipes → List ℕ → ℕ → Effect → Left
writing P words place effect = record {
  pipes = record {
    stages = P.stages;
    registers = registers_after effect.action P.registers;
    fetch = P.fetch;
    halted = halts effect.action || P.halted;
  };
  words = words_after effect.action words;
  retirement = Some (record { place = place; action = effect.action });
}

abbrev pub writing_if : Pipes → List ℕ → ℕ → Option Effect → Left
writing_if P words place None = silently P words
writing_if P words place (Some effect) = writing P words place effect

abbrev pub retired_from : Pipes → List ℕ → Option Packet → Left
retired_from P words None = silently P words
retired_from P words (Some p) = writing_if P words p.fetched.place (leaving_effect p)

-- what an accepted move leaves
module _ (W : World) (sets : List ℕ) (P : Pipes) (words : List ℕ) where
  abbrev pub accepted : MoveKind → ℕ → Left
  accepted Fetch s = silently (fetched_from W words P P.fetch) words
  accepted Raise s = silently (raised P s) words
  accepted Lower s = silently (lowered P s) words
  accepted Execute s = silently (executed W words P s) words
  accepted Insert s = silently (inserted P s) words
  accepted Read r = silently (read_into sets P r) words
  accepted Retire s = retired_from (vacated sets P) words (packet_at P (top sets))
  accepted Drop s = silently (dropped P) words

-- what a move answers and leaves
pub record Moved : Type 0 where
  pub answer : Result (Option Retirement) MoveRefusal
  pub pipes : Pipes
  pub words : List ℕ

abbrev pub went : Left → Moved
went left = record { answer = Ok left.retirement; pipes = left.pipes; words = left.words }

abbrev pub accepted_by : World → List ℕ → Pipes → List ℕ → Option MoveKind → ℕ → Left
accepted_by W sets P words None place = silently P words
accepted_by W sets P words (Some kind) place = accepted W sets P words kind place

abbrev pub moved_by : Option MoveRefusal → Pipes → List ℕ → Left → Moved
moved_by None P words left = went left
moved_by (Some refusal) P words left = record { answer = Err refusal; pipes = P; words = words }

-- The first question whose answer is no decides, and nothing changes; else the move is made.
abbrev pub moved : World → List ℕ → Pipes → List ℕ → ℕ → ℕ → Moved
moved W sets P words kind place = moved_by (refusal_of sets P kind place) P words (accepted_by W sets P words (kind_of kind) place)
