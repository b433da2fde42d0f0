-- The moves that a drain chooses bring it nearer to its end.
use Rattle.std.proofs.Common.{◌≡◌, ℕ, zero, suc, ◌+◌, ◌-◌, ◌*◌, ◌<◌, ◌≤◌, true, false, not, List, [], ◌∷◌, length, get_or, set, is_some, Some, None, Option, sym, refl, ap, ◌∙◌, subst, ⊎_elim, suc-mul, add-mul, mul-le-mul_left, one-mul, mul-suc, arith, get_or-set_other, get_or-set_same}
use Rattle.std.proofs.lemmas.Bool.{cases_eq}
use Rattle.std.proofs.lemmas.Bool.Decides.{nat_tests}
use Rattle.instruction.specs.declared.numbers.Register.{Register}
use Rattle.instruction.specs.Named.{register}
use Rattle.effect.specs.Effects.{Table}
use Rattle.stepper.specs.Machine.{World}
use Rattle.packets.specs.declared.bindings.Source.{Source}
use Rattle.packets.specs.declared.packets.Packet.{Packet}
use Rattle.packets.specs.declared.slots.ResultSlot.{ResultSlot}
use Rattle.packets.specs.declared.results.PipeResult.{PipeResult}
use Rattle.packets.specs.declared.results.PipeResult.TheVariants.{Value}
use Rattle.packets.specs.declared.stages.Stage.{Stage}
use Rattle.packets.specs.Packets.{is_live, may_execute, may_insert, owing, paid}
use Rattle.packets.specs.Entering.{entering}
use Rattle.packets.specs.Stages.{staged, vacant, result_in, free, met, worked, executing, inserting}
use Rattle.pipes.specs.declared.state.Pipes.{Pipes}
use Rattle.pipes.specs.Questions.{stage_at, packet_at, slot_at, top}
use Rattle.pipes.specs.Moving.{fetched_at, entered, raised, lowered, executed, inserted, read_value, read_into, dropped, vacated}
use Rattle.pipes.specs.Draining.{bound}
use Rattle.draining.specs.Policy.{awaits, first_of, missing}
use Rattle.draining.specs.Measure.{weight, weights, kills, lacks, work, most, on_top, seen, task, μ}
use Rattle.draining.proofs.Falling.{meet_work, raise_seen, lower_seen, task_above, weights_set, two_sets, swapped, two_fall}

none : {A : Type 0} (o : Option A) → not (is_some o) ≡ true → o ≡ None
none o e = grind arith

raise_weight : (n s : ℕ) (x y : Stage) → s + 1 < n → is_some x.packet ≡ true → not (is_some y.packet) ≡ true →
    weight n s (staged None (result_in x)) + weight n (s + 1) (met x.packet (result_in y)) + 1 ≤ weight n s x + weight n (s + 1) y
raise_weight n s x y l a b = grind arith

lower_weight : (n s : ℕ) (x y : Stage) → 0 < s → not (free y.result) ≡ true → free x.result ≡ true →
    weight n (s - 1) (met x.packet (result_in y)) + weight n s (staged y.packet None) + 1 ≤ weight n (s - 1) x + weight n s y
lower_weight n s x y l a b = grind arith

module _ (sets : List ℕ) (P : Pipes) (long : length sets ≤ length P.stages) where
  pub raise_falls : (s : ℕ) → s + 1 < length sets → is_some (packet_at P s) ≡ true → not (is_some (packet_at P (s + 1))) ≡ true → μ sets (raised P s) < μ sets P
  raise_falls s l a b =
      let n = length sets in
      let x = stage_at P s in
      let y = stage_at P (s + 1) in
      two_fall n P.stages _ s (s + 1) _ _ (two_sets n P.stages s (s + 1) (staged None (result_in x)) (met x.packet (result_in y)) long (omega arith) l (λ z. omega arith)) (omega arith) l
      (raise_weight n s x y l a b)
      (λ low above. rw (none y.packet b) (raise_seen n x.packet (result_in x) (result_in y) low above))

  pub lower_falls : (s : ℕ) → 0 < s → s < length sets → not (free (slot_at P s)) ≡ true → free (slot_at P (s - 1)) ≡ true → μ sets (lowered P s) < μ sets P
  lower_falls s z l a b =
      let n = length sets in
      let x = stage_at P (s - 1) in
      let y = stage_at P s in
      two_fall n P.stages _ (s - 1) s _ _
      (swapped n P.stages _ s (s - 1) _ _ (two_sets n P.stages s (s - 1) (staged y.packet None) (met x.packet (result_in y)) long l (omega arith) (λ u. omega arith))) (omega arith) l
      (lower_weight n s x y z a b)
      (λ low above. rw (none (result_in x) b) (lower_seen n x.packet y.packet (result_in y) low above))

-- where nothing stands above a packet, it is the highest, and meets no result on its way
pub task_found : (n : ℕ) (xs : List Stage) (h m : ℕ) (p : Packet) (above : List PipeResult) → h < m → ((i : ℕ) → h < i → i < m → get_or xs i vacant ≡ vacant) →
    (get_or xs h vacant).packet ≡ Some p → task n xs m above ≡ work n above p
task_found n xs h zero p above l e q = absurd (omega arith)
task_found n xs h (suc m) p above l e q =
    ⊎_elim
    (λ z. let a : (get_or xs m vacant).packet ≡ Some p = ap (λ (k : ℕ). (get_or xs k vacant).packet) (sym z) ∙ q in rw a)
    (λ ne. let a : get_or xs m vacant ≡ vacant = e m (omega arith) (omega arith) in rw a (task_found n xs h m p above (omega arith) (λ i a b. e i a (omega arith)) q))
    (cases_eq h m)

-- its stage replaced, it has come nearer
pub one_fall : (n : ℕ) (xs : List Stage) (h : ℕ) (x : Stage) (p p' : Packet) → h < n → n ≤ length xs → ((i : ℕ) → h < i → i < n → get_or xs i vacant ≡ vacant) →
    (get_or xs h vacant).packet ≡ Some p → x.packet ≡ Some p' → weight n h x + work n [] p' + 1 ≤ weight n h (get_or xs h vacant) + work n [] p →
    weights n (set xs h x) n + task n (set xs h x) n [] < weights n xs n + task n xs n []
one_fall n xs h x p p' l k e q r w =
    let k : h < length xs = omega arith in
    let s = get_or-set_same xs h x vacant k in
    let a = weights_set n xs h n x l k in
    let b = task_found n xs h n p [] l e q in
    let c = task_found n (set xs h x) h n p' [] l (λ i u v. get_or-set_other xs h i x vacant (λ z. omega arith) ∙ e i u v) (ap (λ (y : Stage). y.packet) s ∙ r) in
    omega arith

execute_work : (n : ℕ) (table : Table) (words : List ℕ) (handler : ℕ) (p : Packet) → may_execute p ≡ true → work n [] (worked table words handler p) + 1 ≤ work n [] p
execute_work n table words handler p e = grind arith

insert_work : (n h : ℕ) (p : Packet) (r : ResultSlot) → h < n → free r ≡ true → may_insert p ≡ true →
    weight n h (staged (Some (paid p)) (owing p)) + work n [] (paid p) + 1 ≤ weight n h (record { packet = Some p; result = r }) + work n [] p
insert_work n h p r l e q = grind arith

named : (q : Register) → (register q.number).number ≡ q.number
named q = let l = q.below in omega arith

lacked : (w r : ℕ) (s : Source) → awaits s ≡ Some r → (lacks (Value (register r) w ∷ []) s ≡ 0) × (lacks [] s ≡ 1)
lacked w r s e = (grind (arith, nat_tests, named), grind arith)

lacks_less : (v : PipeResult) (s : Source) → lacks (v ∷ []) s ≤ lacks [] s
lacks_less v s = grind arith

read_lacks : (w r : ℕ) (p : Packet) → missing p ≡ Some r →
    lacks (Value (register r) w ∷ []) p.first + lacks (Value (register r) w ∷ []) p.second + 1 ≤ lacks [] p.first + lacks [] p.second
read_lacks w r p e = by (awaits p.first) refl e
  where
    v : PipeResult
    v = Value (register r) w

    by : (o : Option ℕ) → awaits p.first ≡ o → first_of o (awaits p.second) ≡ Some r → lacks (Value (register r) w ∷ []) p.first + lacks (Value (register r) w ∷ []) p.second + 1 ≤ lacks [] p.first + lacks [] p.second
    by (Some q) a e = let d : q ≡ r = cc in let b = lacked w r p.first (a ∙ ap Some d) in let c = lacks_less v p.second in omega arith
    by None a e = let b = lacked w r p.second e in let c = lacks_less v p.first in omega arith

mul_step : (n a b : ℕ) → a + 1 ≤ b → (n + 1) * a + (n + 1) ≤ (n + 1) * b
mul_step n a b l = let h = mul-le-mul_left (n + 1) l in omega (arith, mul-suc (n + 1) a)

work_waits : (n : ℕ) (above : List PipeResult) (p : Packet) → may_execute p ≡ true → kills above ≡ false →
    work n above p ≡ (n + 1) * (lacks above p.first + lacks above p.second) + (n + 2)
work_waits n above p e k = grind arith

read_work : (n w r : ℕ) (p : Packet) → may_execute p ≡ true → missing p ≡ Some r → work n (Value (register r) w ∷ []) p + (n + 1) ≤ work n [] p
read_work n w r p e q =
    let a = work_waits n (Value (register r) w ∷ []) p e refl in
    let b = work_waits n [] p e refl in
    let c = mul_step n _ _ (read_lacks w r p q) in
    omega arith

work_most : (n : ℕ) (above : List PipeResult) (p : Packet) → work n above p ≤ most n
work_most n above p = grind arith

live_most : (n : ℕ) (p : Packet) → is_live p.standing ≡ true → work n [] p ≤ 3 * n + 4
live_most n p e = grind arith

pub task_most : (n : ℕ) (xs : List Stage) (m : ℕ) (above : List PipeResult) → task n xs m above ≤ most n
task_most n xs zero above = omega arith
task_most n xs (suc m) above = by (get_or xs m vacant).packet (result_in (get_or xs m vacant)) (task_most n xs m)
  where
    by : (o : Option Packet) (r : Option PipeResult) → ((a : List PipeResult) → task n xs m a ≤ most n) → seen n o r (task n xs m) above ≤ most n
    by None r f = f (on_top above r)
    by (Some p) r f = work_most n above p

pub task_none : (n : ℕ) (xs : List Stage) (m : ℕ) → ((i : ℕ) → i < m → get_or xs i vacant ≡ vacant) → task n xs m [] ≡ most n
task_none n xs zero e = refl
task_none n xs (suc m) e = let a : get_or xs m vacant ≡ vacant = e m (omega arith) in rw a (task_none n xs m (λ i l. e i (omega arith)))

read_weight : (n t : ℕ) (o : Option Packet) (r : Option PipeResult) (v : PipeResult) → weight n t (met o (Some v)) ≤ weight n t (staged o r) + (t + 1)
read_weight n t o r v = grind arith

-- a value that enters at the top is above the packet, or has reached it
read_task : (n t h : ℕ) (xs : List Stage) (p : Packet) (v : PipeResult) → h ≤ t → t < length xs → ((i : ℕ) → h < i → i < suc t → get_or xs i vacant ≡ vacant) →
    (get_or xs h vacant).packet ≡ Some p → (o : Option Packet) → (get_or xs t vacant).packet ≡ o → task n (set xs t (met o (Some v))) (suc t) [] ≤ work n (v ∷ []) p
read_task n t h xs p v l k e q None d =
    let ne : h ≡ t → ⊥ = λ z. absent p (sym q ∙ ap (λ (j : ℕ). (get_or xs j vacant).packet) z ∙ d) in
    let x = staged None (Some v) in
    let b = task_found n (set xs t x) h t p (v ∷ []) (apart h t l ne) (λ i c f. get_or-set_other xs t i x vacant (λ z. omega arith) ∙ e i c (omega arith))
    (ap (λ (y : Stage). y.packet) (get_or-set_other xs t h x vacant ne) ∙ q) in
    rw (get_or-set_same xs t x vacant k) (omega arith)
  where
    absent : (p : Packet) → Some p ≡ None → ⊥
    absent p z = let z : ◌≡◌ {A = ℕ} 0 1 = cc in omega arith

    apart : (h t : ℕ) → h ≤ t → (h ≡ t → ⊥) → h < t
    apart h t l ne = omega arith
read_task n t h xs p v l k e q (Some p') d =
    let same : p' ≡ p = ⊎_elim
    (λ z. let a = sym d ∙ ap (λ (j : ℕ). (get_or xs j vacant).packet) (sym z) ∙ q in cc)
    (λ ne. let a = sym d ∙ ap (λ (y : Stage). y.packet) (e t (omega arith) (omega arith)) in cc)
    (cases_eq h t) in
    rw (get_or-set_same xs t (met (Some p') (Some v)) vacant k, same) (meet_work n p v [])

execute_weight : (n h : ℕ) (table : Table) (words : List ℕ) (handler : ℕ) (x : Stage) → weight n h (executing table words handler x) ≡ weight n h x
execute_weight n h table words handler x = grind arith

drop_weight : (n : ℕ) (x : Stage) → is_some (result_in x) ≡ true → weight n 0 (staged x.packet None) + 1 ≡ weight n 0 x
drop_weight n x e = grind arith

packet_weight : (n h : ℕ) (x : Stage) → h < n → is_some x.packet ≡ true → weight n h (staged None (result_in x)) + 1 ≤ weight n h x
packet_weight n h x l e = grind arith

dead_work : (n : ℕ) (above : List PipeResult) (p : Packet) → is_live p.standing ≡ false → work n above p ≡ most n
dead_work n above p e = grind arith

-- a packet is the highest, and no result is in flight above it
module _ (sets : List ℕ) (P : Pipes) (long : length sets ≤ length P.stages) (h : ℕ) (p : Packet) (l : h < length sets) (e : packet_at P h ≡ Some p)
    (bare : (i : ℕ) → h < i → i < length sets → stage_at P i ≡ vacant) where
  pub read_falls : (r : ℕ) → may_execute p ≡ true → missing p ≡ Some r → μ sets (read_into sets P r) < μ sets P
  read_falls r q m =
      let n = length sets in
      let t = top sets in
      let v = read_value P r in
      let o = packet_at P t in
      let end : length sets ≡ suc (top sets) = omega arith in
      let under : top sets < length P.stages = omega arith in
      let a = weights_set n P.stages t n (met o (Some v)) (omega arith) under in
      let b = read_weight n t o (result_in (stage_at P t)) v in
      let c = task_found n P.stages h n p [] l bare e in
      let d = read_work n (get_or P.registers r 0) r p q m in
      let f = read_task n t h P.stages p v (omega arith) under (λ i x y. bare i x (omega arith)) e o refl in
      let g : task (length sets) (read_into sets P r).stages (length sets) [] ≤ work (length sets) (read_value P r ∷ []) p =
      subst (λ m. task (length sets) (read_into sets P r).stages m [] ≤ work (length sets) (read_value P r ∷ []) p) (sym end) f in
      omega arith

  pub execute_falls : (W : World) (words : List ℕ) → may_execute p ≡ true → μ sets (executed W words P h) < μ sets P
  execute_falls W words q =
      let n = length sets in
      let p' = worked W.table words W.handler p in
      let w = execute_weight n h W.table words W.handler (stage_at P h) in
      let v = execute_work n W.table words W.handler p q in
      one_fall n P.stages h (executing W.table words W.handler (stage_at P h)) p p' l long bare e (rw e) (omega arith)

  pub insert_falls : free (slot_at P h) ≡ true → may_insert p ≡ true → μ sets (inserted P h) < μ sets P
  insert_falls f q =
      let n = length sets in
      one_fall n P.stages h (inserting (stage_at P h)) p (paid p) l long bare e (rw e) (rw e (insert_work n h p (slot_at P h) l f q))

  pub dead_falls : h ≡ top sets → is_live p.standing ≡ false → μ sets (vacated sets P) < μ sets P
  dead_falls z q =
      let n = length sets in
      let t = top sets in
      let under : top sets < length P.stages = omega arith in
      let a = weights_set n P.stages t n (staged None (result_in (stage_at P t))) (omega arith) under in
      let b = packet_weight n t (stage_at P t) (omega arith) (ap (λ (j : ℕ). is_some (packet_at P j)) (sym z) ∙ ap is_some e) in
      let c = task_found n P.stages h n p [] l bare e ∙ dead_work n [] p q in
      let d = task_most n (vacated sets P).stages n [] in
      omega arith

  pub packet_left : 0 < μ sets P
  packet_left =
      let n = length sets in
      let a = weights_set n P.stages h n (staged None (result_in (stage_at P h))) l (omega arith) in
      let b = packet_weight n h (stage_at P h) l (ap is_some e) in
      omega arith

module _ (sets : List ℕ) (P : Pipes) (low : 0 < length sets) (long : length sets ≤ length P.stages) where
  pub drop_falls : is_some (result_in (stage_at P 0)) ≡ true → μ sets (dropped P) < μ sets P
  drop_falls e =
      let n = length sets in
      let xs = P.stages in
      let x = stage_at P 0 in
      let y = staged x.packet None in
      let under : 0 < length P.stages = omega arith in
      let a = weights_set n xs 0 n y low under in
      let b = drop_weight n x e in
      let c : task (length sets) (dropped P).stages (length sets) [] ≤ task (length sets) P.stages (length sets) [] =
      task_above n xs (set xs 0 y) 1 n low (λ i k. get_or-set_other xs 0 i y vacant (λ z. omega arith)) (λ above. rw (get_or-set_same xs 0 y vacant under) (alone n x.packet (result_in x) above)) [] in
      omega arith
    where
      alone : (n : ℕ) (o : Option Packet) (r : Option PipeResult) (above : List PipeResult) → seen n o None (λ _. most n) above ≤ seen n o r (λ _. most n) above
      alone n o r above = grind arith

  pub fetch_falls : (W : World) (words : List ℕ) (place : ℕ) → ((i : ℕ) → i < length sets → stage_at P i ≡ vacant) → μ sets (entered W words P (fetched_at W place)) < μ sets P
  fetch_falls W words place e =
      let n = length sets in
      let xs = P.stages in
      let p = entering W.table words W.handler (fetched_at W place) in
      let x = met (Some p) (result_in (stage_at P 0)) in
      let z : result_in (stage_at P 0) ≡ None = ap result_in (e 0 low) in
      let y : x ≡ staged (Some p) None = ap (met (Some p)) z in
      let under : 0 < length P.stages = omega arith in
      let a = weights_set n xs 0 n x low under in
      let b = task_none n xs n e in
      let c = task_found n (set xs 0 x) 0 n p [] low (λ i u v. get_or-set_other xs 0 i x vacant (λ w. omega arith) ∙ e i v)
      (ap (λ (s : Stage). s.packet) (get_or-set_same xs 0 x vacant under ∙ y)) in
      let d = live_most n p refl in
      let f : weight (length sets) 0 (met (Some p) (result_in (stage_at P 0))) ≡ length sets = ap (weight n 0) y ∙ omega arith in
      omega arith

-- the measure is small from the start
weight_most : (n s : ℕ) (x : Stage) → s < n → weight n s x ≤ n + 1
weight_most n s x l = grind arith

weights_most : (n : ℕ) (xs : List Stage) (m : ℕ) → m ≤ n → weights n xs m ≤ (n + 1) * m
weights_most n xs zero l = omega arith
weights_most n xs (suc m) l =
    let a = weight_most n m (get_or xs m vacant) l in
    let b = weights_most n xs m (omega arith) in
    omega (arith, mul-suc (n + 1) m)

square : (n : ℕ) → n ≤ n * n
square zero = omega arith
square (suc m) = omega (arith, suc-mul m (suc m))

pub μ_most : (sets : List ℕ) (P : Pipes) → μ sets P ≤ length sets * length sets + 5 * length sets + 5
μ_most sets P =
    let n = length sets in
    let a = weights_most n P.stages n (omega arith) in
    let b = task_most n P.stages n [] in
    omega (arith, add-mul n 1 n, one-mul n)

pub μ_bound : (sets : List ℕ) (P : Pipes) → μ sets P ≤ bound (length sets)
μ_bound sets P = let a = μ_most sets P in let b = square (length sets) in omega arith
