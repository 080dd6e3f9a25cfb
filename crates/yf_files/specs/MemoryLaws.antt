-- The current state of memory may be found at a stop, and nothing else may be found since this moment.
use Rattle.std.proofs.Common.{inl, ⊎_elim, ℕ, ◌<◌, ◌≤◌, length, sym, ap, arith}
use Rattle.std.proofs.lemmas.Option.{slice_get_within}
use Rattle.std.proofs.Math.Seq.{take-length}
use Rattle.yf_files.specs.Memory.{IsWell, entry_of, node_of, state_of}
use Rattle.yf_files.specs.Tree.{IsSound}
use Rattle.yf_files.specs.declared.logs.Logs.{Logs}

pub sound_of : (l : Logs) → IsWell l → IsSound (state_of l)
sound_of l well = record {
  is_at_now = λ q. (length l.changes.items, (well.changes, omega arith), ap (λ c. entry_of c q) (sym (take-length l.changes.items)));
  holds_now = λ i. (length l.contents.items, (well.contents, omega arith), ap (λ c. node_of c i) (sym (take-length l.contents.items)));
  stood = λ q i h. well.used h.0 q i (sym h.2);
  only_now = λ q x h. ⊎_elim (λ now. now) (λ past. absurd (late past.0 past.2 (slice_get_within l.moments.items past.0 past.1 past.3))) h;
  counts_now = λ t q x le h. inl h;
}
  where
    late : (j : ℕ) → length l.moments.items ≤ j → j < length l.moments.items → ⊥
    late j le less = omega (arith, le, less)
