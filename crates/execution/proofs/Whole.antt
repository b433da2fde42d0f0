-- What was read and what was run, put together as an execution.
use Rattle.std.proofs.Common.{◌≡◌, ℕ, Bool, List, ◌++◌, length, take, drop, Ok, Result, sym, ap, ◌∙◌, subst, take-append-drop}
use Rattle.bounded_log.specs.declared.places.Log.{Log}
use Rattle.bounded_log.specs.Room.{room, Logs}
use Rattle.image.specs.declared.faults.ImageFault.{ImageFault}
use Rattle.image.specs.declared.images.Image.{Image}
use Rattle.image.specs.Meaning.{program, told as told_of}
use Rattle.image.specs.Reading.{image_of}
use Rattle.effect.specs.declared.actions.Retirement.{Retirement}
use Rattle.effect.specs.Effects.{Table}
use Rattle.stepper.specs.declared.state.Stepper.{Stepper}
use Rattle.stepper.specs.Machine.{World, State, start}
use Rattle.stepper.specs.View.{view, world_of, run_records, Ran}
use Rattle.execution.specs.declared.answers.Execution.{Execution}
use Rattle.execution.specs.Executed.{executed, last, told, ExecutesTo}

abbrev answered : ℕ → ℕ → Bool → Result Execution ImageFault
answered count steps halted = Ok (record { records = count; steps = steps; halted = halted })

answered_same : (a a' b b' : ℕ) (h h' : Bool) → a ≡ a' → b ≡ b' → h ≡ h' → answered a b h ≡ answered a' b' h'
answered_same a a' b b' h h' p q r = cc

module _ (table : Table) (words words' : List ℕ) (log log' : Log Retirement) (image : Image) (before after : Stepper) (steps : ℕ)
    (same : before.image ≡ image) (new : view before (take 65536 words) ≡ start (take 65536 words))
    (ran : Ran table before after (take 65536 words) (take 65536 words') log log' steps) where
  abbrev W : World
  W = world_of table image

  recorded : run_records table before (take 65536 words) log ≡ told W (room log) words
  recorded = cc

  state : view after (take 65536 words') ≡ last W (room log) words
  state = cc

  pub promised : (bytes rest : List ℕ) → image_of bytes ≡ Ok (told_of image rest) → drop 65536 words' ≡ drop 65536 words →
      (count : ℕ) (halted : Bool) → count ≡ length (program image) → halted ≡ after.halted →
      ExecutesTo (executed table bytes words (room log)) words' log log' (answered count steps halted)
  promised bytes rest read beyond count halted c h =
      rw read (record {
        value =
            answered_same _ _ _ _ _ _ c (ran.made ∙ ap length recorded) (h ∙ ap (λ (T : State). T.halted) state);
        leaves =
            sym (take-append-drop 65536 words')
            ∙ ap (λ (zs : List ℕ). zs ++ drop 65536 words') (ap (λ (T : State). T.words) state)
            ∙ ap (λ (zs : List ℕ). (last W (room log) words).words ++ zs) beyond;
        logs = subst (Logs log log') recorded ran.logs;
      })
