-- What every pipeline has, whatever moves led to it.
use Rattle.std.specs.Prelude.{◌≡◌, ℕ, ◌≤◌, Bool, true, false, not, ◌&&◌, ◌||◌, List, [], ◌∷◌, length, is_some, Some, None, Option}
use Rattle.effect.specs.Changes.{halts}
use Rattle.packets.specs.declared.packets.Packet.{Packet}
use Rattle.packets.specs.declared.packets.PacketState.{PacketState}
use Rattle.packets.specs.declared.packets.PacketState.TheVariants.{Waiting, Executed}
use Rattle.packets.specs.declared.results.PipeResult.{PipeResult}
use Rattle.packets.specs.declared.results.PipeResult.TheVariants.{Value, WrongBranch, Trap}
use Rattle.packets.specs.declared.stages.Stage.{Stage}
use Rattle.packets.specs.Packets.{is_live, may_pass}
use Rattle.packets.specs.Stages.{result_in, free}
use Rattle.pipes.specs.declared.state.Pipes.{Pipes}
use Rattle.pipes.specs.Questions.{stage_at, packet_at, is_open, some_able}

-- a live packet that waits has a stage, from its own on, that can execute it
abbrev pub fits : List ℕ → ℕ → Packet → Bool
fits sets s p = may_pass p || some_able sets s p.fetched.instruction

abbrev pub fits_in : List ℕ → ℕ → Option Packet → Bool
fits_in sets s None = true
fits_in sets s (Some p) = fits sets s p

-- a wrong-branch and a trap open fetch where they leave
abbrev pub is_control : PipeResult → Bool
is_control (Value register word) = false
is_control (WrongBranch target) = true
is_control (Trap handler) = true

abbrev pub controls : Option PipeResult → Bool
controls None = false
controls (Some r) = is_control r

-- a halt on its way, or what will open fetch
abbrev pub promises : PacketState → Bool
promises Waiting = false
promises (Executed effect owed) = halts effect.action || controls owed

abbrev pub promised : Option Packet → Bool
promised None = false
promised (Some p) = is_live p.standing && promises p.state

abbrev pub hopeful : Stage → Bool
hopeful x = promised x.packet || controls (result_in x)

abbrev pub hope : List Stage → Bool
hope [] = false
hope (x ∷ xs) = hopeful x || hope xs

abbrev pub is_vacant : Stage → Bool
is_vacant x = not (is_some x.packet) && free x.result

-- the stages past the top are vacant; every waiting packet can be executed; and where fetch is
-- closed, something in flight halts the pipeline or opens fetch
abbrev pub Sound : List ℕ → Pipes → Type 0
Sound sets P =
    (length P.stages ≡ 16) ×
    (length P.registers ≡ 16) ×
    ((k : ℕ) → length sets ≤ k → is_vacant (stage_at P k) ≡ true) ×
    ((k : ℕ) → fits_in sets k (packet_at P k) ≡ true) ×
    ((P.halted || (is_open P.fetch || hope P.stages)) ≡ true)
