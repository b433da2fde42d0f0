-- A log after records, and after more of them.
use Rattle.std.proofs.Common.{◌≡◌, ℕ, ◌+◌, ◌<◌, ◌≤◌, List, [], ◌∷◌, ◌++◌, length, take, drop, set, sym, ap, ◌∙◌, subst, append_assoc, arith, length-append, length-drop, length-take}
use Rattle.std.proofs.lemmas.List.{append-nil, drop-drop}
use Rattle.std.proofs.lemmas.Bool.{lt-ltb}
use lib.Seq.{take-append_seam, drop-append_seam}
use Rattle.bounded_log.specs.declared.places.Log.{Log}
use Rattle.bounded_log.specs.Entries.{logged, since}
use Rattle.bounded_log.specs.Room.{places_in, count_in, root_in, room, added_if, Logs}
use Rattle.bounded_log.proofs.Logging.{logged_none, logged_more, since_logged}

module _ {T : Type 0} (xs : List T) (c : ℕ) (rs ss : List T) (within : c ≤ length xs) where
  parts : logged xs c rs ≡ (take c xs ++ rs) ++ drop (length rs) (drop c xs)
  parts = sym (append_assoc (take c xs) rs (drop (length rs) (drop c xs)))

  count : c + length rs ≡ length (take c xs ++ rs)
  count = omega (arith, length-append (take c xs) rs, length-take c xs)

  before : take (c + length rs) (logged xs c rs) ≡ take c xs ++ rs
  before = ap (λ (n : ℕ). take n (logged xs c rs)) count ∙ ap (take (length (take c xs ++ rs))) parts ∙ take-append_seam (take c xs ++ rs) (drop (length rs) (drop c xs))

  behind : drop (c + length rs) (logged xs c rs) ≡ drop (length rs) (drop c xs)
  behind = ap (λ (n : ℕ). drop n (logged xs c rs)) count ∙ ap (drop (length (take c xs ++ rs))) parts ∙ drop-append_seam (take c xs ++ rs) (drop (length rs) (drop c xs))

  logged_then : logged (logged xs c rs) (c + length rs) ss ≡ logged xs c (rs ++ ss)
  logged_then =
      let rest : drop (length ss) (drop (length rs) (drop c xs)) ≡ drop (length (rs ++ ss)) (drop c xs) =
      drop-drop (length ss) (length rs) (drop c xs) ∙ ap (λ (n : ℕ). drop n (drop c xs)) (sym (length-append rs ss)) in
      ap (λ (zs : List T). zs ++ (ss ++ drop (length ss) (drop (c + length rs) (logged xs c rs)))) before
      ∙ ap (λ (zs : List T). (take c xs ++ rs) ++ (ss ++ drop (length ss) zs)) behind
      ∙ ap (λ (zs : List T). (take c xs ++ rs) ++ (ss ++ zs)) rest
      ∙ append_assoc (take c xs) rs (ss ++ drop (length (rs ++ ss)) (drop c xs))
      ∙ ap (λ (zs : List T). take c xs ++ zs) (sym (append_assoc rs ss (drop (length (rs ++ ss)) (drop c xs))))

  length-logged : c + length rs ≤ length xs → length (logged xs c rs) ≡ length xs
  length-logged l =
      omega (
        arith,
        ap length parts,
        length-append (take c xs ++ rs) (drop (length rs) (drop c xs)),
        count,
        length-drop (length rs) (drop c xs),
        length-drop c xs,
      )

module _ {T : Type 0} {old new : Log T} where
  pub logs_none : new ≡ old → Logs old new []
  logs_none same = record {
    places = ap (λ (l : Log T). l.places.now) same ∙ sym (logged_none old.places.now old.count);
    count = ap (λ (l : Log T). l.count) same ∙ omega arith;
    root = ap (λ (l : Log T). l.places.ghost_name) same;
  }

  -- a record in the first free place
  pub logs_set : (x : T) → count_in old < length (places_in old) → places_in new ≡ set (places_in old) (count_in old) x → count_in new ≡ count_in old + 1 → root_in new ≡ root_in old → Logs old new (added_if old x)
  logs_set x free places count root =
      let c = old.count in
      let xs = old.places.now in
      let here : c + 0 ≡ c = omega arith in
      let one : Logs old new (x ∷ []) = record {
        places =
            places
            ∙ ap (λ (zs : List T). set zs c x) (sym (logged_none xs c))
            ∙ ap (λ (k : ℕ). set (logged xs c []) k x) (sym here)
            ∙ logged_more xs c [] x (omega (arith, free));
        count = count;
        root = root;
      } in
      rw (lt-ltb c (length xs) free) one

  -- what adding leaves where a place is free
  pub logs_one : (x : T) → 0 < room old → Logs old new (added_if old x) → Logs old new (x ∷ [])
  logs_one x free logs = rw (lt-ltb old.count (length old.places.now) (omega (arith, free))) at logs

  module _ {rs : List T} (l : Logs old new rs) where
    -- the records are what was logged between
    pub logs_since : since (count_in old) (count_in new) (places_in new) ≡ rs
    logs_since =
        ap (λ (n : ℕ). since old.count n new.places.now) l.count
        ∙ ap (since old.count (old.count + length rs)) l.places
        ∙ since_logged old.places.now old.count rs old.within

    pub logs_room : length rs ≤ room old → room new + length rs ≡ room old
    logs_room few =
        let long = ap length l.places ∙ length-logged old.places.now old.count rs [] old.within (omega (arith, few, old.within)) in
        omega (arith, long, l.count, few, old.within)

-- records, and more behind them
pub logs_then : {T : Type 0} {old now new : Log T} {rs ss : List T} → Logs old now rs → Logs now new ss → Logs old new (rs ++ ss)
logs_then {T} {old} {now} {new} {rs} {ss} l m = record {
  places =
      m.places
      ∙ ap (λ (zs : List T). logged zs now.count ss) l.places
      ∙ ap (λ (k : ℕ). logged (logged old.places.now old.count rs) k ss) l.count
      ∙ logged_then old.places.now old.count rs ss old.within;
  count = omega (arith, m.count, l.count, length-append rs ss);
  root = m.root ∙ l.root;
}

pub logs_nothing : {T : Type 0} {old now new : Log T} {rs : List T} → Logs old now rs → Logs now new [] → Logs old new rs
logs_nothing {T} {old} {now} {new} {rs} l m = subst (λ (xs : List T). Logs old new xs) (append-nil rs) (logs_then l m)
