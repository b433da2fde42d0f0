-- What the questions of an accepted move tell.
use Rattle.std.proofs.Common.{◌≡◌, ℕ, ◌+◌, ◌-◌, ◌<◌, Bool, true, ◌&&◌, List, length, Some, None, Option, refl, arith}
use Rattle.std.proofs.lemmas.Bool.Decides.{nat_tests}
use Rattle.moves.specs.declared.kinds.MoveKind.TheVariants.{Fetch, Raise, Lower, Execute, Insert, Read, Retire}
use Rattle.packets.specs.declared.packets.Packet.{Packet}
use Rattle.packets.specs.Packets.{ready, may_execute, may_insert, may_retire}
use Rattle.packets.specs.Stages.{result_in}
use Rattle.pipes.specs.declared.state.Pipes.{Pipes}
use Rattle.pipes.specs.Questions.{stage_at, packet_at, top, holds_of, able_for, asked}

-- a packet of which a test holds
pub record AtPacket (test : Packet → Bool) (packet : Option Packet) : Type 0 where
  pub there : Packet
  pub is : packet ≡ Some there
  pub passed : test there ≡ true

pub at_packet : (test : Packet → Bool) (packet : Option Packet) → holds_of test packet ≡ true → AtPacket test packet
at_packet test None h = absurd (let z : ◌≡◌ {A = ℕ} 0 1 = cc in omega arith)
at_packet test (Some p) h = record { there = p; is = refl; passed = h }

module _ (sets : List ℕ) (P : Pipes) (s : ℕ) where
  pub fetch_asks : asked sets P Fetch s ≡ None → packet_at P 0 ≡ None
  fetch_asks h = grind arith

  pub raise_asks : asked sets P Raise s ≡ None → (s + 1 < length sets) × (packet_at P (s + 1) ≡ None)
  raise_asks h = grind (arith, nat_tests)

  pub lower_asks : asked sets P Lower s ≡ None → (0 < s) × (s < length sets) × (result_in (stage_at P (s - 1)) ≡ None)
  lower_asks h = grind (arith, nat_tests)

  pub read_asks : asked sets P Read s ≡ None → (s < 16) × (result_in (stage_at P (top sets)) ≡ None)
  read_asks h = grind (arith, nat_tests)

  pub execute_asks : asked sets P Execute s ≡ None →
      (s < length sets) × (holds_of (λ p. may_execute p && (ready p && able_for sets s p.fetched.instruction)) (packet_at P s) ≡ true)
  execute_asks h = grind (arith, nat_tests)

  pub insert_asks : asked sets P Insert s ≡ None → (s < length sets) × (result_in (stage_at P s) ≡ None) × (holds_of may_insert (packet_at P s) ≡ true)
  insert_asks h = grind (arith, nat_tests)

  pub retire_asks : asked sets P Retire s ≡ None → holds_of may_retire (packet_at P (top sets)) ≡ true
  retire_asks h = grind (arith, nat_tests)
