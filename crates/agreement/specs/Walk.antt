-- The walk from the top stage to the bottom: the state that the next live packet below must execute
-- in.
use Rattle.std.specs.Prelude.{◌≡◌, ℕ, ◌≤◌, Bool, true, false, cond, not, ◌&&◌, List, [], ◌∷◌, length, Some, None, Option, slice_index}
use Rattle.instruction.specs.Named.{register_number}
use Rattle.effect.specs.declared.actions.Action.{Action}
use Rattle.effect.specs.declared.actions.Effect.{Effect}
use Rattle.effect.specs.Changes.{halts}
use Rattle.stepper.specs.Machine.{World, State, found_at, sources_of, effect_at, applied}
use Rattle.packets.specs.declared.bindings.Source.{Source}
use Rattle.packets.specs.declared.bindings.Source.TheVariants.{Absent, Literal, Bound}
use Rattle.packets.specs.declared.packets.Packet.{Packet}
use Rattle.packets.specs.declared.packets.PacketState.{PacketState}
use Rattle.packets.specs.declared.packets.PacketState.TheVariants.{Waiting, Executed}
use Rattle.packets.specs.declared.packets.Standing.{Standing}
use Rattle.packets.specs.declared.packets.Standing.TheVariants.{Live, Killed}
use Rattle.packets.specs.declared.results.PipeResult.{PipeResult}
use Rattle.packets.specs.declared.results.PipeResult.TheVariants as result
use Rattle.packets.specs.declared.stages.Stage.{Stage}
use Rattle.packets.specs.Packets.{owed_by}
use Rattle.packets.specs.Entering.{guess_of}
use Rattle.packets.specs.Stages.{vacant, result_in}
use Rattle.pipes.specs.declared.state.Pipes.{Pipes}
use Rattle.pipes.specs.Moving.{fetched_at}
use Rattle.pipes.specs.Questions.{stage_at}

-- where it is lost, anything may stand below
pub data View : Type 0 where
  on : State → View
  lost : View

-- does a result tell that the path fetched is not the one to go on with
abbrev pub turns : Option PipeResult → Bool
turns None = false
turns (Some (result.Value register word)) = false
turns (Some (result.WrongBranch target)) = true
turns (Some (result.Trap handler)) = true

-- does the path go on behind a packet that does this and still owes that
abbrev pub goes_on : Action → Option PipeResult → Bool
goes_on action owed = not (halts action) && not (turns owed)

-- a waiting packet will do what its instruction does, and owe what that owes
abbrev pub flows : ℕ → Effect → PacketState → Bool
flows guess effect Waiting = goes_on effect.action (owed_by guess effect.next effect.action)
flows guess effect (Executed done owed) = goes_on done.action owed

-- the state behind the next instruction
abbrev pub advanced : World → State → State
advanced W S = applied (effect_at W S) S

abbrev pub passing : World → Bool → State → View
passing W true S = on (advanced W S)
passing W false S = lost

-- the view below each thing that is met
abbrev pub after_result : View → Option PipeResult → View
after_result v held = cond (turns held) lost v

module _ (W : World) where
  abbrev pub after_live : View → Packet → View
  after_live lost p = lost
  after_live (on S) p = passing W (flows p.guess (effect_at W S) p.state) S

  abbrev pub after_standing : Standing → View → Packet → View
  after_standing Live v p = after_live v p
  after_standing Killed v p = v

  abbrev pub after_packet : View → Option Packet → View
  after_packet v None = v
  after_packet v (Some p) = after_standing p.standing v p

  abbrev pub after : View → Stage → View
  after v x = after_result (after_packet v x.packet) (result_in x)

  abbrev pub down : View → List Stage → View
  down v [] = v
  down v (x ∷ xs) = after (down v xs) x

-- a source has the word of its operand, or names the register that has it
abbrev pub Sourced : List ℕ → ℕ → Source → Type 0
Sourced registers word Absent = word ≡ 0
Sourced registers word (Literal w) = word ≡ w
Sourced registers word (Bound b) = (word ≡ slice_index registers (register_number b.register)) × (b.valid ≡ true → word ≡ b.word)

-- a value is that of its register, and what turns the path turns it to the place of the state
abbrev pub ResultAt : State → Option PipeResult → Type 0
ResultAt S None = Unit {0}
ResultAt S (Some (result.Value register word)) = word ≡ slice_index S.registers (register_number register)
ResultAt S (Some (result.WrongBranch target)) = target ≡ S.place
ResultAt S (Some (result.Trap handler)) = handler ≡ S.place

abbrev pub ResultOk : View → Option PipeResult → Type 0
ResultOk lost held = Unit {0}
ResultOk (on S) held = ResultAt S held

module _ (W : World) where
  abbrev pub StateAt : State → PacketState → Type 0
  StateAt S Waiting = Unit {0}
  StateAt S (Executed effect owed) = (effect ≡ effect_at W S) × ResultAt (advanced W S) owed

  -- the packet that was fetched for a state
  pub record LiveAt (S : State) (p : Packet) : Type 0 where
    pub fetched : p.fetched ≡ fetched_at W S.place
    pub guess : p.guess ≡ guess_of p.fetched
    pub first : Sourced S.registers (sources_of S.registers (found_at W S)).first p.first
    pub second : Sourced S.registers (sources_of S.registers (found_at W S)).second p.second
    pub state : StateAt S p.state

  abbrev pub LiveOk : View → Packet → Type 0
  LiveOk lost p = Unit {0}
  LiveOk (on S) p = LiveAt S p

  abbrev pub StandingOk : Standing → View → Packet → Type 0
  StandingOk Live v p = LiveOk v p
  StandingOk Killed v p = Unit {0}

  abbrev pub PacketOk : View → Option Packet → Type 0
  PacketOk v None = Unit {0}
  PacketOk v (Some p) = StandingOk p.standing v p

  -- what is demanded of a stage
  abbrev pub Ok : View → Stage → Type 0
  Ok v x = PacketOk v x.packet × ResultOk (after_packet W v x.packet) (result_in x)

  abbrev pub Good : View → List Stage → Type 0
  Good v [] = Unit {0}
  Good v (x ∷ xs) = Good v xs × Ok (down W v xs) x

-- fetch stands where the view at the bottom does
abbrev pub Bottom : View → Option ℕ → Type 0
Bottom lost fetch = Unit {0}
Bottom (on S) fetch = fetch ≡ Some S.place

-- the pipes and words stand for a state of the sequential machine
pub record Agrees (W : World) (sets : List ℕ) (S : State) (P : Pipes) (words : List ℕ) : Type 0 where
  pub sixteen : length P.stages ≡ 16
  pub wide : length S.registers ≡ 16
  pub above : (s : ℕ) → length sets ≤ s → stage_at P s ≡ vacant
  pub same_registers : P.registers ≡ S.registers
  pub same_words : words ≡ S.words
  pub same_mark : P.halted ≡ S.halted
  pub walk : P.halted ≡ false → Good W (on S) P.stages × Bottom (down W (on S) P.stages) P.fetch
