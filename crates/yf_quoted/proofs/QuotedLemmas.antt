-- Whole double-quoted scalars: the reader of the inside finds the scalar.
use Rattle.std.proofs.Common.{◌≡◌, ℕ, ◌+◌, ◌≤◌, ℤ, pos, ◌<ℤ◌, List, [], ◌∷◌, Option, None, sym, ap, ◌∙◌, subst, arith, encode_utf8_all, length, take, drop, ◌-◌}
use Rattle.std.specs.Str.{IsUtf8}
use Rattle.yf_chars.specs.declared.context.Ctx.{Ctx}
use Rattle.yf_chars.specs.Text.{code}
use Rattle.yf_chars.specs.Chain.{Chain, Stuck, Chosen}
use Rattle.yf_chars.specs.Chain.Chain.{done, step}
use Rattle.yf_lines.specs.Basic.{Clear}
use Rattle.yf_lines.proofs.BasicLemmas.{clear_join, clear_nothing}
use Rattle.yf_lines.proofs.ClearLemmas.{clear_char, Spelled, spelled_nothing, spelled_join, spelled_char, spelled_slice}
use Rattle.yf_quoted.specs.Quoted.{DoubleQuoted, DoubleChar, DoubleBreak, Piece, goods, text_of, bad_escapes}
use Rattle.yf_quoted.specs.Quoted.DoubleChar.{unescaped}
use Rattle.yf_quoted.specs.Quoted.DoubleBreak.{folded_break, escaped_break}
use Rattle.yf_quoted.specs.Body.{Body, DoubleBreaks, WidthOf, SimpleChar, DoubleRead, NoDoubleBody}
use Rattle.yf_quoted.specs.Body.SimpleChar.{simply}
use Rattle.yf_lines.specs.declared.fault.Fault.TheVariants.{EscapeValue}
use Rattle.yf_lines.specs.declared.place.Position.{Position}
use Rattle.yf_lines.specs.Lines.{PlaceOf}
use Rattle.yf_quoted.specs.Fault.{DoubleFault}
use Rattle.yf_quoted.specs.Fault.DoubleFault.{for_escape}
use Rattle.yf_quoted.proofs.ScalarLemmas.{Kind, body_map, no_negative_prefix, no_negative_fold, quoted_body, body_quoted}
use Rattle.yf_quoted.proofs.BodyLemmas.{chars_body, body_unique}
use Rattle.yf_quoted.proofs.DoubleLemmas.{double_laws, double_means, no_quote_char, char_functional}
use Rattle.yf_quoted.proofs.GapLemmas.{text_of_goods, no_bad_goods}

no_negative_break : {t : List ℕ} {n : ℤ} {i j : ℕ} {x : List Piece} → n <ℤ pos 0 → DoubleBreak t n i j x → ⊥
no_negative_break l (folded_break f) = no_negative_fold l f
no_negative_break l (escaped_break m q b c p) = no_negative_prefix l p

pub double_kind : (t : List ℕ) → Kind t goods (DoubleChar t) (DoubleBreak t) (DoubleBreaks t) 34
double_kind t = record {
  laws = double_laws t;
  means = double_means t;
  on_line = λ i j x b. b;
  to_width = λ w i j x b. b;
  from_width = λ w i j x b. b;
  negative = λ n i j x l b. no_negative_break l b;
  low = omega arith;
}

pub double_chosen : {t : List ℕ} {n : ℤ} {c : Ctx} {o : Option ℕ} {i j : ℕ} {x : List Piece} → IsUtf8 t → WidthOf n c o → code t i ≡ 34
    → Body t goods (DoubleChar t) (DoubleBreaks t o) 34 (i + 1) j x → Chosen (DoubleQuoted t n c i) (j + 1) x
double_chosen {t} {n} {c} {o} {i} {j} {x} u w q b = record {
  derived = body_quoted (double_kind t) u w q b;
  longest = λ k y d. let s = same d in let e = d.end in omega (arith, s.0);
  only = λ y d. (same d).1;
} where
  same : {k : ℕ} {y : List Piece} (d : DoubleQuoted t n c i k y) → (d.close ≡ j) × (y ≡ x)
  same d = body_unique (double_laws t o) no_quote_char (quoted_body (double_kind t) w d) b

pub no_double : {t : List ℕ} {n : ℤ} {c : Ctx} {o : Option ℕ} {i : ℕ} → WidthOf n c o → NoDoubleBody t o (i + 1) → Stuck (DoubleQuoted t n c i)
no_double {t} {n} {c} {o} {i} w b = record { none = λ j y d. b.none d.close y (quoted_body (double_kind t) w d) }

-- characters that represent themselves in double quotes
simple_chars : {t : List ℕ} {i j : ℕ} {x : List ℕ} → Chain (SimpleChar t) i j x → Chain (DoubleChar t) i j (goods x)
simple_chars done = done
simple_chars {t} {j = j} (step {y = y} (simply {i = i} s) c) =
    step (subst (λ k. DoubleChar t i k (goods (code t i ∷ []))) s.reads.end (unescaped s.json s.no_backslash s.no_quote)) (simple_chars c)

simple_clear : {t : List ℕ} {i j : ℕ} {x : List ℕ} → IsUtf8 t → Chain (SimpleChar t) i j x → Clear t i j
simple_clear {t} {i} u done = clear_nothing t i
simple_clear u (step (simply s) c) = clear_join (clear_char u s.reads s.allowed) (simple_clear u c)

simple_spelled : {t : List ℕ} {i j : ℕ} {x : List ℕ} → Chain (SimpleChar t) i j x → Spelled t i j x
simple_spelled {t} {i} done = spelled_nothing t i
simple_spelled (step (simply s) c) = spelled_join (spelled_char s.reads) (simple_spelled c)

simple_body : {t : List ℕ} {i j : ℕ} {x : List ℕ} (o : Option ℕ) → IsUtf8 t → Chain (SimpleChar t) i j x → code t j ≡ 34
    → Body t goods (DoubleChar t) (DoubleBreaks t o) 34 i j (goods x)
simple_body {t} o u c q =
    body_map (λ i j x b. absurd b) (chars_body {B = DoubleBreaks t None} (char_functional t) (double_means t) (λ i j x b. b) (simple_chars c) q (simple_clear u c))

pub simple_read : {t slice none : List ℕ} {n : ℤ} {c : Ctx} {o : Option ℕ} {i j : ℕ} {x : List ℕ} → IsUtf8 t → WidthOf n c o → code t i ≡ 34 → j ≤ length t
    → Chain (SimpleChar t) (i + 1) j x → code t j ≡ 34 → slice ≡ take (j - (i + 1)) (drop (i + 1) t) → none ≡ []
    → (y : List Piece) × (slice ≡ encode_utf8_all (text_of y)) × (none ≡ bad_escapes y) × Chosen (DoubleQuoted t n c i) (j + 1) y
simple_read {t} {slice} {none} {n} {c} {o} {i} {j} {x} u w q l d e s b =
    (goods x, s ∙ spelled_slice l (simple_spelled d) ∙ ap encode_utf8_all (sym (text_of_goods x)), b ∙ sym (no_bad_goods x), double_chosen u w q (simple_body o u d e))

pub body_read : {t bytes : List ℕ} {n : ℤ} {c : Ctx} {wrong : List ℕ} {o : Option ℕ} {i j : ℕ} → IsUtf8 t → WidthOf n c o → code t i ≡ 34 → DoubleRead t o (i + 1) bytes wrong j
    → (y : List Piece) × (bytes ≡ encode_utf8_all (text_of y)) × (wrong ≡ bad_escapes y) × Chosen (DoubleQuoted t n c i) j y
body_read {t} {n = n} {c = c} {i = i} u w q r =
    (r.text, r.is, r.escapes, subst (λ k. Chosen (DoubleQuoted t n c i) k r.text) r.end (double_chosen u w q r.body))

-- a bad escape in the longest part
pub fault_from : {t s : List ℕ} {n m : ℤ} {c : Ctx} {i b j : ℕ} {place : Position} {bytes wrong more : List ℕ}
    → (x : List Piece) × (bytes ≡ encode_utf8_all (text_of x)) × (wrong ≡ bad_escapes x) × Chosen (DoubleQuoted s m c i) j x
    → s ≡ t → m ≡ n → wrong ≡ b ∷ more → PlaceOf t b place.line place.column → DoubleFault t n c i (EscapeValue place)
fault_from {t} {s} {n} {m} {c} {i} {j = j} r e f w p =
    let one : Chosen (DoubleQuoted t m c i) j r.0 = subst (λ v. Chosen (DoubleQuoted v m c i) j r.0) e r.3 in
    let two : Chosen (DoubleQuoted t n c i) j r.0 = subst (λ v. Chosen (DoubleQuoted t v c i) j r.0) f one in
    for_escape two (sym r.2 ∙ w) p
