-- Plain scalars and their parts end after their start; parts that may be empty may end at it.
use Rattle.std.proofs.Common.{ℕ, ℤ, ◌<◌, ◌≤◌, List, arith}
use Rattle.yf_chars.specs.declared.context.Ctx.{Ctx}
use Rattle.yf_chars.specs.Chain.{Chain, done, step}
use Rattle.yf_chars.specs.Class.{is_white}
use Rattle.yf_chars.proofs.ChainLemmas.{chain_forward, one_functional}
use Rattle.yf_chars.proofs.TextLemmas.{next_later}
use Rattle.yf_lines.proofs.FoldLemmas.{fold_order}
use Rattle.yf_plain.specs.Plain.{PlainItem, PlainNext, next_line, PlainText, as_key, as_lines}
use Rattle.yf_plain.specs.Plain as Plain
use Rattle.yf_plain.proofs.PlainLemmas.{line_forward}

pub item_forward : {t : List ℕ} {c : Ctx} {i j : ℕ} {x : List ℕ} → PlainItem t c i j x → i ≤ j
item_forward {t} (Plain.set_off {h = h} w e) =
    let f = chain_forward (one_functional t is_white) w in let g = next_later t h in omega arith

pub items_forward : {t : List ℕ} {c : Ctx} {i j : ℕ} {x : List ℕ} → Chain (PlainItem t c) i j x → i ≤ j
items_forward done = omega arith
items_forward (step s c) = let f = item_forward s in let g = items_forward c in omega arith

pub next_forward : {t : List ℕ} {n : ℤ} {c : Ctx} {i j : ℕ} {x : List ℕ} → PlainNext t n c i j x → i ≤ j
next_forward {t} (next_line {h = h} f e d) =
    let a = fold_order f in let b = next_later t h in let g = items_forward d in omega arith

pub nexts_forward : {t : List ℕ} {n : ℤ} {c : Ctx} {i j : ℕ} {x : List ℕ} → Chain (PlainNext t n c) i j x → i ≤ j
nexts_forward done = omega arith
nexts_forward (step s c) = let f = next_forward s in let g = nexts_forward c in omega arith

pub plain_forward : {t : List ℕ} {n : ℤ} {c : Ctx} {i j : ℕ} {x : List ℕ} → PlainText t n c i j x → i < j
plain_forward (as_key k l) = line_forward l
plain_forward (as_lines k l d) = let f = line_forward l in let g = nexts_forward d in omega arith
