-- The lines that explain a fault.
use Rattle.std.proofs.Common.{◌≡◌, ℕ, List, Bool, true, false, inl, inr, refl, subst, sym}
use Rattle.std.specs.Prelude.{Result, Ok, Err, IfOk, IsOkAnd, chars}
use Rattle.yf_explain.specs.Shown.{AreWritten}
use Rattle.yf_lines.specs.declared.fault.Fault.{Fault}
use Rattle.yf_rules.specs.Runs.ByteStream.{ByteStream, WriteEnds, WrittenOrFailed}
use Rattle.yf_program.specs.Answer.{AnyLines, TellsMore}

-- nothing more is written
pub told_nothing : (explained : Bool) (P : List ℕ → Type 0) (stream : ByteStream) → TellsMore explained P stream stream
told_nothing true P stream = inl (record { contents = refl; same = refl })
told_nothing false P stream = record { contents = refl; same = refl }

-- the lines of a page are written if there is a page
module _ (P : List ℕ → Type 0) {before after : ByteStream} where
  told_page : {E : Type 0} (page : Result (List ℕ) E) → IfOk page P → TellsMore true (λ lines. IsOkAnd page (λ told. told ≡ lines)) before after
      → TellsMore true P before after
  told_page page p (inl nothing) = inl nothing
  told_page (Ok lines) p (inr (more, works, written, same, reached)) = inr (more, works, written, subst P same p, reached)
  told_page (Err e) p (inr (more, works, written, same, reached)) = absurd same

  pub told_further : {E : Type 0} (explained : Bool) (page : Result (List ℕ) E) → explained ≡ true → IfOk page P
      → TellsMore true (λ lines. IsOkAnd page (λ told. told ≡ lines)) before after → TellsMore explained P before after
  told_further true page e p told = told_page page p told
  told_further false page e p told = cc

-- the text of a page is written
pub page_written : {E : Type 0} {before after : ByteStream} (page : Result (List ℕ) E) (lines text : List ℕ) → page ≡ Ok lines → chars text ≡ lines → AreWritten lines
    → before.failed ≡ false → WrittenOrFailed before after text → TellsMore true (λ told. IsOkAnd page (λ all. all ≡ told)) before after
page_written page lines text e same written works reached =
    inr (text, works, subst (λ (x : List ℕ). AreWritten x) (sym same) written, rw e (sym same), reached)

-- the explanation may have any lines
any_page : {E : Type 0} (page : Result (List ℕ) E) → IfOk page AnyLines
any_page (Ok lines) = tt
any_page (Err e) = tt

pub told_lines : {E : Type 0} {before after : ByteStream} (explained : Bool) (page : Result (List ℕ) E) → explained ≡ true
    → TellsMore true (λ lines. IsOkAnd page (λ told. told ≡ lines)) before after → TellsMore explained AnyLines before after
told_lines explained page e told = told_further AnyLines explained page e (any_page page) told

pub reached_by : (before after : ByteStream) {text : List ℕ} (outcome : Result Unit Fault) → WriteEnds before after text outcome
    → WrittenOrFailed before after text
reached_by before after (Ok done) w = inl w
reached_by before after (Err e) w = inr w.1
