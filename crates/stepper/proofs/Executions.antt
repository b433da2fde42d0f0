-- Executions of so many steps and so many more, and how far a run has come.
use Rattle.std.proofs.Common.{◌≡◌, ℕ, zero, suc, ◌+◌, ◌-◌, ◌≤◌, Bool, true, false, cond, [], ◌∷◌, ◌++◌, length, Ok, Err, sym, refl, ap, ◌∙◌, append-nil, zero-add, suc-add, arith, length-append}
use Rattle.effect.specs.declared.actions.Retirement.{Retirement}
use Rattle.bounded_log.specs.declared.places.Log.{Log}
use Rattle.bounded_log.specs.Room.{Logs}
use Rattle.bounded_log.proofs.Logged.{logs_then}
use Rattle.stepper.specs.declared.state.StepFault.{StepFault}
use Rattle.stepper.specs.Machine.{World, State, stepped, retired, answer_of, execution, records}

module _ (W : World) where
  pub halted_stays : (n : ℕ) (S : State) → S.halted ≡ true → execution W n S ≡ S
  halted_stays zero S h = refl
  halted_stays (suc n) S h =
      let e : stepped W S ≡ S = rw h in
      rw e (halted_stays n S h)

  pub halted_records : (n : ℕ) (S : State) → S.halted ≡ true → records W n S ≡ []
  halted_records zero S h = refl
  halted_records (suc n) S h = rw h

  -- so many steps, and so many more
  pub execution_more : (m n : ℕ) (S : State) → execution W (m + n) S ≡ execution W n (execution W m S)
  execution_more zero n S = rw (zero-add n)
  execution_more (suc m) n S = rw (suc-add m n) (execution_more m n (stepped W S))

  pub records_more : (m n : ℕ) (S : State) → records W (m + n) S ≡ records W m S ++ records W n (execution W m S)
  records_more zero n S = rw (zero-add n)
  records_more (suc m) n S = rw (suc-add m n) (by_mark S.halted refl (records_more m n (stepped W S)))
    where
      by_mark : (b : Bool) → S.halted ≡ b → records W (m + n) (stepped W S) ≡ records W m (stepped W S) ++ records W n (execution W (suc m) S) →
          cond b [] (retired W S ∷ records W (m + n) (stepped W S)) ≡
          cond b [] (retired W S ∷ records W m (stepped W S)) ++ records W n (execution W (suc m) S)
      by_mark false e r = ap (λ u. retired W S ∷ u) r
      by_mark true e r = sym (halted_records n (execution W (suc m) S) (rw (halted_stays (suc m) S e) e))

-- what the answer to a step tells of the state before it
module _ (W : World) (T : State) where
  pub answered_ok : (x : Retirement) → Ok x ≡ answer_of W T → (T.halted ≡ false) × (x ≡ retired W T)
  answered_ok x e = grind arith

  pub answered_err : (f : StepFault) → Err f ≡ answer_of W T → T.halted ≡ true
  answered_err f e = grind arith

-- a run made i steps, from S to T, and logged their records: as an execution of n steps makes them
pub record Reached (W : World) (n : ℕ) (S T : State) (i : ℕ) (log log' : Log Retirement) : Type 0 where
  pub steps : i ≡ length (records W n S)
  pub logs : Logs log log' (records W n S)
  pub state : T ≡ execution W n S

module _ (W : World) (S : State) {log now : Log Retirement} where
  -- one step more
  pub reached_more : (i : ℕ) (T T' : State) {new : Log Retirement} → Reached W i S T i log now → T.halted ≡ false → T' ≡ stepped W T → Logs now new (retired W T ∷ []) →
      Reached W (i + 1) S T' (i + 1) log new
  reached_more i T T' {new} r h onward one =
      let rs = records W i S in
      let last : records W 1 (execution W i S) ≡ retired W T ∷ [] = rw (← r.state) (rw h) in
      let more : records W (i + 1) S ≡ rs ++ (retired W T ∷ []) = records_more W i 1 S ∙ ap (λ us. rs ++ us) last in
      record {
        steps = rw (more, length-append rs (retired W T ∷ [])) (omega (arith, r.steps));
        logs = rw more (logs_then r.logs one);
        state = onward ∙ ap (stepped W) r.state ∙ sym (execution_more W i 1 S);
      }

  -- a halted run has come as far as more steps would
  pub reached_halt : (i n : ℕ) (T : State) → i ≤ n → Reached W i S T i log now → T.halted ≡ true → Reached W n S T i log now
  reached_halt i n T l r h =
      let all : n ≡ i + (n - i) = omega arith in
      let stopped : (execution W i S).halted ≡ true = rw (← r.state) h in
      let same : records W n S ≡ records W i S =
      ap (λ m. records W m S) all ∙ records_more W i (n - i) S
      ∙ ap (λ zs. records W i S ++ zs) (halted_records W (n - i) (execution W i S) stopped)
      ∙ append-nil (records W i S) in
      record {
        steps = rw same r.steps;
        logs = rw same r.logs;
        state = r.state ∙ sym (ap (λ m. execution W m S) all ∙ execution_more W i (n - i) S ∙ halted_stays W (n - i) (execution W i S) stopped);
      }
