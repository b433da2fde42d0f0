-- Decoding and encoding are inverse.
use Rattle.std.proofs.Common.{◌≡◌, ℕ, zero, suc, ◌+◌, ◌%◌, ◌<◌, ◌≤◌, Bool, true, false, cond, not, eqb, ltb, ◌⊎◌, Some, None, Ok, Option, sym, refl, ap, ◌∙◌, inl, inr, ⊎_elim, mod-eq_of_lt, arith, lt-ltb}
use Rattle.std.proofs.lemmas.Bool.{ltb-true, eqb-true, cases_lt}
use Rattle.std.proofs.lemmas.Bool.Decides.{nat_tests}
use Rattle.instruction.specs.declared.numbers.Register.{Register}
use Rattle.instruction.specs.declared.numbers.UnitOp.{UnitOp}
use Rattle.instruction.specs.declared.instructions.Instruction.{Instruction}
use Rattle.instruction.specs.declared.instructions.Instruction.TheVariants.{Halt, Jump, Set, BranchZero, JumpRegister, Load, Store, Compute}
use Rattle.instruction.specs.declared.instructions.Operand.TheVariants as operand
use Rattle.instruction.specs.Named.{register, unit_op}
use Rattle.instruction.proofs.Same.{same_register, same_operation}
use Rattle.record.specs.declared.faults.RecordFault.{RecordFault}
use Rattle.record.specs.declared.records.Record.{Record}
use Rattle.record.specs.declared.shapes.FieldUse.TheVariants.{Unused, Word, Hint, RegisterName, RegisterOrLiteral}
use Rattle.record.specs.declared.shapes.Shape.{Shape}
use Rattle.record.specs.Decoding.{uses, shape_of, admits, spared, fault_of, built_of, computing_of, judged, shaped, instruction_of}
use Rattle.record.specs.Encoding.{fields, encoded, DecodesExactly}

-- From an instruction to its record and back.
low : (d : Register) → ltb d.number 16 ≡ true
low d = lt-ltb d.number 16 d.below

back : (d : Register) → register d.number ≡ d
back d = same_register (register d.number) d (mod-eq_of_lt d.below)

operation_back : (o : UnitOp) → unit_op (16 + o.number) ≡ o
operation_back o =
    let l = o.below in
    let e : (16 + o.number) % 16 ≡ o.number = omega arith in
    same_operation (unit_op (16 + o.number)) o e

abbrev computes : ℕ → Shape
computes s = uses RegisterName RegisterName RegisterOrLiteral (cond (eqb s 16) Word Unused)

-- operations 16 to 31
high_shape : (n s : ℕ) → 16 ≤ n → n < 32 → shape_of n s ≡ Some (computes s)
high_shape n s a b = grind (arith, nat_tests)

high_built : (r : Record) → 16 ≤ r.operation → built_of r ≡ computing_of r
high_built r a = grind (arith, nat_tests)

high : (r : Record) → 16 ≤ r.operation → r.operation < 32 → instruction_of r ≡ judged (fault_of (computes r.second) r) (computing_of r)
high r a b = ap (λ (o : Option Shape). shaped o r) (high_shape r.operation r.second a b) ∙ ap (judged (fault_of (computes r.second) r)) (high_built r a)

read_branch : (h : Bool) (r : Register) (t : ℕ) → instruction_of (fields 3 (cond h 1 0) r.number 0 t) ≡ Ok (BranchZero h r t)
read_branch true r t = rw (low r, back r)
read_branch false r t = rw (low r, back r)

read_registers : (o : UnitOp) (d a b : Register) → instruction_of (fields (16 + o.number) d.number a.number b.number 0) ≡ Ok (Compute o d (operand.Register a) (operand.Register b))
read_registers o d a b =
    let l = o.below in
    let m = b.below in
    let p : eqb b.number 16 ≡ false = grind (arith, nat_tests) in
    let q : ltb b.number 17 ≡ true = grind (arith, nat_tests) in
    high (fields (16 + o.number) d.number a.number b.number 0) (omega arith) (omega arith)
    ∙ rw (low d, low a, q, p, operation_back o, back d, back a, back b)

read_literal : (o : UnitOp) (d a : Register) (w : ℕ) → instruction_of (fields (16 + o.number) d.number a.number 16 w) ≡ Ok (Compute o d (operand.Register a) (operand.Literal w))
read_literal o d a w =
    let l = o.below in
    high (fields (16 + o.number) d.number a.number 16 w) (omega arith) (omega arith)
    ∙ rw (low d, low a, operation_back o, back d, back a)

carry : (i : Instruction) (a r : Record) → instruction_of a ≡ Ok i → Some a ≡ Some r → instruction_of r ≡ Ok i
carry i a r h e = let p : a ≡ r = cc in ap instruction_of (sym p) ∙ h

pub read_back : (i : Instruction) (r : Record) → encoded i ≡ Some r → instruction_of r ≡ Ok i
read_back Halt r = carry Halt _ r refl
read_back (Jump t) r = carry (Jump t) (fields 1 0 0 0 t) r refl
read_back (Set d w) r = carry (Set d w) (fields 2 d.number 0 0 w) r (rw (low d, back d))
read_back (BranchZero h a t) r = carry (BranchZero h a t) (fields 3 (cond h 1 0) a.number 0 t) r (read_branch h a t)
read_back (JumpRegister a g) r = carry (JumpRegister a g) (fields 4 0 a.number 0 g) r (rw (low a, back a))
read_back (Load d b o) r = carry (Load d b o) (fields 5 d.number b.number 0 o) r (rw (low d, low b, back d, back b))
read_back (Store b v o) r = carry (Store b v o) (fields 6 0 b.number v.number o) r (rw (low b, low v, back b, back v))
read_back (Compute o d (operand.Literal w) b) r = λ e. absurd (let z : ◌≡◌ {A = ℕ} 0 1 = cc in omega arith)
read_back (Compute o d (operand.Register a) (operand.Register b)) r = carry (Compute o d (operand.Register a) (operand.Register b)) (fields (16 + o.number) d.number a.number b.number 0) r (read_registers o d a b)
read_back (Compute o d (operand.Register a) (operand.Literal w)) r = carry (Compute o d (operand.Register a) (operand.Literal w)) (fields (16 + o.number) d.number a.number 16 w) r (read_literal o d a w)

-- From a record without fault to its instruction and back.
passed : (b : Bool) (x : RecordFault) (o : Option RecordFault) → cond (not b) (Some x) o ≡ None → (b ≡ true) × (o ≡ None)
passed true x o e = (refl, e)
passed false x o e = absurd (let z : ◌≡◌ {A = ℕ} 0 1 = cc in omega arith)

pub record Clean (s : Shape) (r : Record) : Type 0 where
  pub destination_fits : admits s.destination r.destination ≡ true
  pub first_fits : admits s.first r.first ≡ true
  pub second_fits : admits s.second r.second ≡ true
  pub destination_spared : spared s.destination r.destination ≡ true
  pub first_spared : spared s.first r.first ≡ true
  pub second_spared : spared s.second r.second ≡ true
  pub literal_spared : spared s.literal r.literal ≡ true

clean : (s : Shape) (r : Record) → fault_of s r ≡ None → Clean s r
clean s r e =
    let a = passed (admits s.destination r.destination) _ _ e in
    let b = passed (admits s.first r.first) _ _ a.1 in
    let c = passed (admits s.second r.second) _ _ b.1 in
    let d = passed (spared s.destination r.destination) _ _ c.1 in
    let f = passed (spared s.first r.first) _ _ d.1 in
    let g = passed (spared s.second r.second) _ _ f.1 in
    let h = passed (spared s.literal r.literal) _ _ g.1 in
    record {
      destination_fits = a.0;
      first_fits = b.0;
      second_fits = c.0;
      destination_spared = d.0;
      first_spared = f.0;
      second_spared = g.0;
      literal_spared = h.0;
    }

no_fault : (o : Option RecordFault) (x i : Instruction) → judged o x ≡ Ok i → (o ≡ None) × (x ≡ i)
no_fault None x i e = (refl, cc)
no_fault (Some f) x i e = absurd (let z : ◌≡◌ {A = ℕ} 0 1 = cc in omega arith)

-- what is built of a clean record is written as that record
module _ (s : Shape) (r : Record) (x : Instruction) where
  by_shape : (Clean s r → encoded x ≡ Some r) → (i : Instruction) → judged (fault_of s r) x ≡ Ok i → encoded i ≡ Some r
  by_shape f i e =
      let n = no_fault (fault_of s r) x i e in
      ap encoded (sym n.1) ∙ f (clean s r n.0)

same : (n : ℕ) → ltb n 16 ≡ true → n % 16 ≡ n
same n e = mod-eq_of_lt (ltb-true n 16 e)

nought : (n : ℕ) → eqb n 0 ≡ true → n ≡ 0
nought n e = eqb-true n 0 e

-- a hint of 0 or 1 is itself again
hint_back : (d : ℕ) → ltb d 2 ≡ true → cond (eqb d 1) 1 0 ≡ d
hint_back d e = grind (arith, nat_tests)

module _ (d f s l : ℕ) where
  written_halt : (i : Instruction) → instruction_of (fields 0 d f s l) ≡ Ok i → encoded i ≡ Some (fields 0 d f s l)
  written_halt = by_shape (uses Unused Unused Unused Unused) (fields 0 d f s l) Halt
      (λ c. let p = nought d c.destination_spared in let q = nought f c.first_spared in let t = nought s c.second_spared in let u = nought l c.literal_spared in cc)

  written_jump : (i : Instruction) → instruction_of (fields 1 d f s l) ≡ Ok i → encoded i ≡ Some (fields 1 d f s l)
  written_jump = by_shape (uses Unused Unused Unused Word) (fields 1 d f s l) (Jump l)
      (λ c. let p = nought d c.destination_spared in let q = nought f c.first_spared in let t = nought s c.second_spared in cc)

  written_set : (i : Instruction) → instruction_of (fields 2 d f s l) ≡ Ok i → encoded i ≡ Some (fields 2 d f s l)
  written_set = by_shape (uses RegisterName Unused Unused Word) (fields 2 d f s l) (Set (register d) l)
      (λ c. let p = same d c.destination_fits in let q = nought f c.first_spared in let t = nought s c.second_spared in cc)

  written_branch : (i : Instruction) → instruction_of (fields 3 d f s l) ≡ Ok i → encoded i ≡ Some (fields 3 d f s l)
  written_branch = by_shape (uses Hint RegisterName Unused Word) (fields 3 d f s l) (BranchZero (eqb d 1) (register f) l)
      (λ c. let p = hint_back d c.destination_fits in let q = same f c.first_fits in let t = nought s c.second_spared in cc)

  written_jump_register : (i : Instruction) → instruction_of (fields 4 d f s l) ≡ Ok i → encoded i ≡ Some (fields 4 d f s l)
  written_jump_register = by_shape (uses Unused RegisterName Unused Word) (fields 4 d f s l) (JumpRegister (register f) l)
      (λ c. let p = nought d c.destination_spared in let q = same f c.first_fits in let t = nought s c.second_spared in cc)

  written_load : (i : Instruction) → instruction_of (fields 5 d f s l) ≡ Ok i → encoded i ≡ Some (fields 5 d f s l)
  written_load = by_shape (uses RegisterName RegisterName Unused Word) (fields 5 d f s l) (Load (register d) (register f) l)
      (λ c. let p = same d c.destination_fits in let q = same f c.first_fits in let t = nought s c.second_spared in cc)

  written_store : (i : Instruction) → instruction_of (fields 6 d f s l) ≡ Ok i → encoded i ≡ Some (fields 6 d f s l)
  written_store = by_shape (uses Unused RegisterName RegisterName Word) (fields 6 d f s l) (Store (register f) (register s) l)
      (λ c. let p = nought d c.destination_spared in let q = same f c.first_fits in let t = same s c.second_fits in cc)

  -- operations 16 to 31, by whether second means the literal
  module _ (n : ℕ) (a : 16 ≤ n) (b : n < 32) where
    computed : (c : Clean (computes s) (fields n d f s l)) (t : Bool) → eqb s 16 ≡ t → spared (cond t Word Unused) l ≡ true → encoded (Compute (unit_op n) (register d) (operand.Register (register f)) (cond t (operand.Literal l) (operand.Register (register s)))) ≡ Some (fields n d f s l)
    computed c true e z =
        let o : 16 + n % 16 ≡ n = omega arith in
        let p = same d c.destination_fits in
        let q = same f c.first_fits in
        let u : s ≡ 16 = eqb-true s 16 e in
        cc
    computed c false e z =
        let o : 16 + n % 16 ≡ n = omega arith in
        let p = same d c.destination_fits in
        let q = same f c.first_fits in
        let low_second : ltb s 17 ≡ true = c.second_fits in
        let k : s < 16 = grind (arith, nat_tests) in
        let u : s % 16 ≡ s = mod-eq_of_lt k in
        let v = nought l z in
        cc

    written_compute : (i : Instruction) → instruction_of (fields n d f s l) ≡ Ok i → encoded i ≡ Some (fields n d f s l)
    written_compute i e = by_shape (computes s) (fields n d f s l) (computing_of (fields n d f s l)) (λ c. computed c (eqb s 16) refl c.literal_spared) i (sym (high (fields n d f s l) a b) ∙ e)

-- past operation 6 there are 16 to 31 alone
outside : (n s : ℕ) → 7 ≤ n → (n < 16) ⊎ (32 ≤ n) → shape_of n s ≡ None
outside n s a b = grind (arith, nat_tests)

no_shape : (r : Record) (i : Instruction) → shape_of r.operation r.second ≡ None → instruction_of r ≡ Ok i → encoded i ≡ Some r
no_shape r i e h =
    let g : shaped None r ≡ Ok i = ap (λ (o : Option Shape). shaped o r) (sym e) ∙ h in
    absurd (let z : ◌≡◌ {A = ℕ} 0 1 = cc in omega arith)

written_past : (n d f s l : ℕ) → 7 ≤ n → (i : Instruction) → instruction_of (fields n d f s l) ≡ Ok i → encoded i ≡ Some (fields n d f s l)
written_past n d f s l a i e =
    ⊎_elim
    (λ below. no_shape (fields n d f s l) i (outside n s a (inl below)) e)
    (λ from. ⊎_elim (λ below. written_compute d f s l n from below i e) (λ past. no_shape (fields n d f s l) i (outside n s a (inr past)) e) (cases_lt n 32))
    (cases_lt n 16)

written_fields : (n d f s l : ℕ) (i : Instruction) → instruction_of (fields n d f s l) ≡ Ok i → encoded i ≡ Some (fields n d f s l)
written_fields zero d f s l = written_halt d f s l
written_fields (suc zero) d f s l = written_jump d f s l
written_fields (suc (suc zero)) d f s l = written_set d f s l
written_fields (suc (suc (suc zero))) d f s l = written_branch d f s l
written_fields (suc (suc (suc (suc zero)))) d f s l = written_jump_register d f s l
written_fields (suc (suc (suc (suc (suc zero))))) d f s l = written_load d f s l
written_fields (suc (suc (suc (suc (suc (suc zero)))))) d f s l = written_store d f s l
written_fields (suc (suc (suc (suc (suc (suc (suc n))))))) d f s l = written_past (suc (suc (suc (suc (suc (suc (suc n))))))) d f s l (omega arith)

pub decodes_exactly : (r : Record) (i : Instruction) → DecodesExactly r i
decodes_exactly r i = record {
  written = written_fields r.operation r.destination r.first r.second r.literal i;
  read = read_back i r;
}
