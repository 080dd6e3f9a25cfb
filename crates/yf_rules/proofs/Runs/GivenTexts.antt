-- A text that a run has read, and why a run fails before it has one.
use Rattle.std.proofs.Common.{◌≡◌, ◌≤◌, ℕ, List, Bool, length, subst, sym}
use Rattle.std.specs.Prelude.{Option}
use Rattle.std.specs.Str.{IsUtf8}
use Rattle.yf_lines.specs.declared.fault.Fault.{Fault}
use Rattle.yf_lines.specs.declared.fault.Fault.TheVariants.{NotUtf8}
use Rattle.yf_rules.specs.declared.run.TheConstants.{INPUT_LIMIT}
use Rattle.yf_rules.specs.Runs.ByteStream.{ByteStream, NothingWritten}
use Rattle.yf_rules.specs.Runs.Input.{IsNoText}
use Rattle.yf_rules.specs.Runs.Run.{Gave, RefusedRun, RefusedText}

-- The reader gave a text within the limit.
pub record GivenText (known : Option (List ℕ)) (t : List ℕ) : Type 0 where
  pub gave : Gave known t
  pub within : length t ≤ INPUT_LIMIT
  pub utf8 : IsUtf8 t

-- It is the text of the bytes that were read.
pub given_text : {known : Option (List ℕ)} {bytes slice t : List ℕ} → Gave known bytes → length bytes ≤ INPUT_LIMIT → slice ≡ bytes → IsUtf8 slice
    → t ≡ slice → GivenText known t
given_text {known} {bytes} {slice} {t} gave within same utf8 is = record {
  gave = subst (λ (u : List ℕ). Gave known u) (sym is) (subst (λ (u : List ℕ). Gave known u) (sym same) gave);
  within = subst (λ (u : List ℕ). length u ≤ INPUT_LIMIT) (sym is) (subst (λ (u : List ℕ). length u ≤ INPUT_LIMIT) (sym same) within);
  utf8 = subst (λ (u : List ℕ). IsUtf8 u) (sym is) utf8;
}

-- a reader after it was read; its remaining bytes don't matter
abbrev pub left_of : ByteStream → Bool → ByteStream
left_of input failed = record { contents = input.contents; failed = failed }

-- Bytes that are not UTF-8 are refused.
module _ (input : ByteStream) {failed : Bool} {bytes slice : List ℕ} (gave : Gave input.contents bytes) (within : length bytes ≤ INPUT_LIMIT)
    (same : slice ≡ bytes) (works : failed ≡ input.failed) where
  pub no_text : (fault : Fault) → IsNoText slice fault → RefusedText input (left_of input failed) fault
  no_text (NotUtf8 offset) w =
      let here : IsNoText bytes (NotUtf8 offset) = subst (λ (u : List ℕ). IsNoText u (NotUtf8 offset)) same w in
      (record { bytes = bytes; gave = gave; within = within; none = here.0; front = here.1 }, works)
  no_text _ w = absurd w

  pub run_no_text : (Broken : Type 0) (before after : ByteStream) (fault : Fault) → IsNoText slice fault → NothingWritten before after
      → RefusedRun Broken input (left_of input failed) before after fault
  run_no_text Broken before after (NotUtf8 offset) w nothing = (no_text (NotUtf8 offset) w, nothing)
  run_no_text Broken before after _ w nothing = absurd w
