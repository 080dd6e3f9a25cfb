use Rattle.std.proofs.Common.{ℕ, Vec, refl, subst, sym}
use Rattle.std.specs.declared.alloc.Global.{Global}
use Rattle.std.proofs.lemmas.Str.{IsUtf8-string_bytes}
use Rattle.std.specs.Str.{IsUtf8}
use Rattle.yf_findings.proofs.PieceLemmas.{none_before}
use Rattle.yf_findings.proofs.pieces.text_of.Goals as goal

pub loop-piece-init : goal.loop-piece-init
loop-piece-init c = record { text = none_before _ _ c.new-out.ensures.bytes; written = refl }

pub returns-clause-utf8 : goal.returns-clause-utf8
returns-clause-utf8 c = subst (λ (v : Vec ℕ Global). IsUtf8 v.items) (sym c.into_bytes.ensures.value) (IsUtf8-string_bytes c.loop-piece.out)
