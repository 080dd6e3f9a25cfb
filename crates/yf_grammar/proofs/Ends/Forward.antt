-- Parts of scalars and separations end after their start, or at it if they may be empty.
use Rattle.std.proofs.Common.{ℕ, ℤ, ◌<◌, ◌≤◌, List, arith}
use Rattle.yf_chars.specs.declared.context.Ctx.{Ctx}
use Rattle.yf_chars.specs.declared.context.Ctx.TheVariants.{FlowIn}
use Rattle.yf_chars.specs.Chain.{Chain, Many, done, step}
use Rattle.yf_chars.proofs.ChainLemmas.{chain_forward, one_functional}
use Rattle.yf_chars.proofs.TextLemmas.{next_later}
use Rattle.yf_chars.specs.Class.{is_white}
use Rattle.yf_lines.specs.Basic.{SeparateInLine, by_whites, at_start, FlowFolded}
use Rattle.yf_lines.specs.Basic as Basic
use Rattle.yf_lines.proofs.BasicLemmas.{break_forward}
use Rattle.yf_lines.proofs.FoldLemmas.{fold_order, empty_functional}
use Rattle.yf_comments.proofs.SeparateLemmas.{prefix_whites}
use Rattle.yf_plain.specs.Plain.{PlainItem, PlainNext, PlainText, next_line}
use Rattle.yf_plain.specs.Plain as Plain
use Rattle.yf_props.specs.Names.{Anchor, ampersand_name}
use Rattle.yf_quoted.specs.Quoted.{Item, Rest, Inside, SingleQuoted, DoubleQuoted, DoubleBreak, Piece, folded_break, escaped_break}
use Rattle.yf_quoted.specs.Quoted as Quoted
use Rattle.yf_quoted.proofs.SingleLemmas.{single_functional}
use Rattle.yf_quoted.proofs.DoubleLemmas.{char_functional}
use Rattle.yf_props.proofs.NameOrder.{anchor_forward}
use Rattle.yf_plain.proofs.PlainOrder.{item_forward, items_forward, next_forward, nexts_forward}

pub whites_forward : {t : List ℕ} {i j : ℕ} {x : List ℕ} → Many t is_white i j x → i ≤ j
whites_forward {t} m = chain_forward (one_functional t is_white) m

pub in_line_forward : {t : List ℕ} {i j : ℕ} → SeparateInLine t i j → i ≤ j
in_line_forward (by_whites m l) = omega arith
in_line_forward (at_start s) = omega arith

-- quoted scalars, by their characters and their breaks
pub record Onward {A : Type 0} (S : ℕ → ℕ → List A → Type 0) : Type 0 where
  pub order : (i j : ℕ) (x : List A) → S i j x → i ≤ j

module _ {A : Type 0} {t : List ℕ} {put : List ℕ → List A} {C : ℕ → ℕ → List A → Type 0} where
  pub quoted_items_order : {i j : ℕ} {x : List A} → Onward C → Chain (Item t put C) i j x → i ≤ j
  quoted_items_order o done = omega arith
  quoted_items_order o (step s c) = let a = go s in let b = quoted_items_order o c in omega arith where
    go : {i j : ℕ} {x : List A} → Item t put C i j x → i ≤ j
    go (Quoted.set_off {h = h} {j = j} {y = y} w n s) = let a = whites_forward w in let b = o.order h j y s in omega arith

module _ {A : Type 0} {t : List ℕ} {put : List ℕ → List A} {C B : ℕ → ℕ → List A → Type 0} where
  pub quoted_rest_order : {i j : ℕ} {x : List A} → Onward C → Onward B → Rest t put C B i j x → i ≤ j
  quoted_rest_order o q (Quoted.blank w) = whites_forward w
  quoted_rest_order o q (Quoted.last_break {i = i} {j = j} {x = x} b) = q.order i j x b
  quoted_rest_order o q (Quoted.next_line {i = i} {h = h} {k = k} {x = x} {y = y} b n s c r) =
      let a = q.order i h x b in
      let d = o.order h k y s in
      let e = quoted_items_order o c in
      let f = quoted_rest_order o q r in
      omega arith

pub single_onward : (t : List ℕ) → Onward (Quoted.SingleChar t)
single_onward t = record { order = λ i j x s. let f = (single_functional t).forward s in omega arith }

pub double_onward : (t : List ℕ) → Onward (Quoted.DoubleChar t)
double_onward t = record { order = λ i j x s. let f = (char_functional t).forward s in omega arith }

pub fold_onward : (t : List ℕ) (n : ℤ) → Onward (FlowFolded t n)
fold_onward t n = record { order = λ i j x s. fold_order s }

empties_forward : {t : List ℕ} {n : ℤ} {i j : ℕ} {x : List ℕ} → Chain (Basic.Empty t n FlowIn) i j x → i ≤ j
empties_forward {t} {n} c = chain_forward (empty_functional t n) c

double_break_forward : {t : List ℕ} {n : ℤ} {i j : ℕ} {x : List Piece} → DoubleBreak t n i j x → i ≤ j
double_break_forward (folded_break f) = fold_order f
double_break_forward (escaped_break w e b c p) =
    let f = whites_forward w in
    let g = break_forward b in
    let h = empties_forward c in
    let k = whites_forward (prefix_whites p).1 in
    omega arith

pub double_break_onward : (t : List ℕ) (n : ℤ) → Onward (DoubleBreak t n)
double_break_onward t n = record { order = λ i j x s. double_break_forward s }
