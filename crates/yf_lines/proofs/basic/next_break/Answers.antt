use Rattle.std.proofs.Common.{◌≡◌, ◌≤◌, ◌+◌, ◌-◌, ◌<◌, inl, length, drop, subst, arith}
use Rattle.std.proofs.lemmas.List.{length-drop}
use Rattle.memchr.specs.Find.{Nowhere, NoneBefore, Passes, is_byte2}
use Rattle.yf_lines.specs.Lines.{NoBreakIn}
use Rattle.yf_lines.proofs.SearchLemmas.{boundary_found, break_found, rest_taken, unbroken_from}
use Rattle.yf_lines.proofs.basic.next_break.Goals as goal

found : (c : goal.In-Some) → NoneBefore (Passes (is_byte2 10 13) (drop c.args.at c.args.s.now)) 0 (length (drop c.args.at c.args.s.now)) c.in-Some.passed
    × Passes (is_byte2 10 13) (drop c.args.at c.args.s.now) c.in-Some.passed
found c = subst (λ v. NoneBefore (Passes (is_byte2 10 13) v) 0 (length v) c.in-Some.passed × Passes (is_byte2 10 13) v c.in-Some.passed)
    (rest_taken c.as_bytes-bytes.result.now c.args.s.now c.args.at c.as_bytes-bytes.ensures.value) c.in-Some.ensures

within : (c : goal.In-Some) → c.args.at + c.in-Some.passed < length c.args.s.now
within c = let f = (found c).0 in let l = length-drop c.args.at c.args.s.now in omega (arith, f.high)

pub returns-in-Some-clause-unbroken : goal.returns-in-Some-clause-unbroken
returns-in-Some-clause-unbroken c =
    let w = within c in
    unbroken_from c.args.s.now c.args.at c.in-Some.passed c.utf8.s (omega arith) (found c).0.before

pub returns-in-Some-clause-stops : goal.returns-in-Some-clause-stops
returns-in-Some-clause-stops c = inl (break_found c.args.s.now c.args.at c.in-Some.passed c.utf8.s (within c) (found c).1)

pub returns-in-Some-clause-boundary : goal.returns-in-Some-clause-boundary
returns-in-Some-clause-boundary c = boundary_found c.args.s.now c.args.at c.in-Some.passed (within c) (found c).1

pub returns-in-None-clause-unbroken : goal.returns-in-None-clause-unbroken
returns-in-None-clause-unbroken c =
    let t = c.args.s.now in
    let n = length (drop c.args.at t) in
    let l : n ≡ length t - c.args.at = length-drop c.args.at t in
    let none : Nowhere (Passes (is_byte2 10 13) (drop c.args.at t)) 0 n =
    subst (λ v. Nowhere (Passes (is_byte2 10 13) v) 0 (length v))
    (rest_taken c.as_bytes-bytes.result.now t c.args.at c.as_bytes-bytes.ensures.value) c.in-None.ensures in
    let end : c.args.at + n ≡ length c.as_bytes-bytes.result.now = omega (arith, c.requires, c.as_bytes-bytes.ensures.len) in
    subst (λ v. NoBreakIn t c.args.at v) end (unbroken_from t c.args.at n c.utf8.s (omega (arith, c.requires)) none)
